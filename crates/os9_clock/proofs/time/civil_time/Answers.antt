-- The calendar has the date, and a clock the time.
use Rattle.std.proofs.Common.{◌+◌, ◌≤◌, arith, pos, FitsSigned, w8, w16}
use Rattle.std.proofs.lemmas.Int.{to_z-of_z}
use Rattle.jiff.proofs.SpanFacts.{signed_arith}
use Rattle.time_rules.specs.CivilTime.{packet_time}
use Rattle.os9_clock.proofs.CalendarTie.{parts-of, is_date, is_clock}
use Rattle.os9_clock.proofs.time.civil_time.Goals as goal

pub signed-month-requires : goal.signed-month-requires
signed-month-requires c =
    let parts = parts-of (packet_time c.args.t) c.requires in omega (arith, parts.month_most)

pub signed-day-requires : goal.signed-day-requires
signed-day-requires c =
    let parts = parts-of (packet_time c.args.t) c.requires in omega (arith, parts.day_short)

pub signed-hour-requires : goal.signed-hour-requires
signed-hour-requires c =
    let parts = parts-of (packet_time c.args.t) c.requires in omega (arith, parts.hour)

pub signed-minute-requires : goal.signed-minute-requires
signed-minute-requires c =
    let parts = parts-of (packet_time c.args.t) c.requires in omega (arith, parts.minute)

pub signed-second-requires : goal.signed-second-requires
signed-second-requires c =
    let parts = parts-of (packet_time c.args.t) c.requires in omega (arith, parts.second)

pub unwrap-requires : goal.unwrap-requires
unwrap-requires c =
    let t = c.args.t in
    let parts = parts-of (packet_time t) c.requires in
    let years : t.year ≤ 255 = omega arith in
    let year_fits : FitsSigned w16 (pos (1900 + t.year)) = omega (arith, signed_arith) in
    let month_fits : FitsSigned w8 (pos t.month) = omega (arith, signed_arith, parts.month_most) in
    let day_fits : FitsSigned w8 (pos t.day) = omega (arith, signed_arith, parts.day_short) in
    let hour_fits : FitsSigned w8 (pos t.hour) = omega (arith, signed_arith, parts.hour) in
    let minute_fits : FitsSigned w8 (pos t.minute) = omega (arith, signed_arith, parts.minute) in
    let second_fits : FitsSigned w8 (pos t.second) = omega (arith, signed_arith, parts.second) in
    c.new.ensures.succeeds.1
    (rw (c.full_year-year.ensures, c.signed-month.ensures, c.signed-day.ensures, c.signed-hour.ensures, c.signed-minute.ensures, c.signed-second.ensures)
    (simp to_z-of_z (is_date (packet_time t) parts years, is_clock (packet_time t) parts)))
