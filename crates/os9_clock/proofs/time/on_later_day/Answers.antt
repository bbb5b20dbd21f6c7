-- The library's sum of a time and seconds is the civil time so much later.
use Rattle.std.proofs.Common.{◌≡◌, ◌<◌, ◌^◌, pos, ◌+ℤ◌, ◌*ℤ◌, ◌≤ℤ◌, FitsSigned, w64, ap, ◌∙◌, arith}
use Rattle.std.proofs.lemmas.Int.{to_z-of_z}
use Rattle.jiff.proofs.SpanFacts.{signed_arith}
use Rattle.jiff.specs.Words.{civil_nanos, signed_nanos}
use Rattle.os9_clock.proofs.CalendarTie.{can_add, after-is, later-year}
use Rattle.os9_clock.proofs.time.on_later_day.Goals as goal

pub unwrap-later-requires : goal.unwrap-later-requires
unwrap-later-requires c =
    let few : c.args.seconds < 2 ^ 32 = omega arith in
    let late : pos 1900 ≤ℤ c.civil_time.result.date.year = omega (arith, signed_arith, c.civil_time.ensures.date.0) in
    let early : c.civil_time.result.date.year ≤ℤ pos 2155 = omega (arith, signed_arith, c.civil_time.ensures.date.0) in
    let fits : FitsSigned w64 (pos c.args.seconds) = omega (arith, signed_arith) in
    let nanos : signed_nanos c.from_secs.result ≡ pos c.args.seconds *ℤ pos 1_000_000_000 = simp to_z-of_z at (rw c.from.ensures at c.from_secs.ensures) in
    c.checked_add.ensures.succeeds.1 (rw nanos (can_add c.civil_time.result c.args.seconds late early few))

pub packet_of-requires : goal.packet_of-requires
packet_of-requires c =
    let late : pos 1900 ≤ℤ c.civil_time.result.date.year = omega (arith, signed_arith, c.civil_time.ensures.date.0) in
    let fits : FitsSigned w64 (pos c.args.seconds) = omega (arith, signed_arith) in
    let nanos : signed_nanos c.from_secs.result ≡ pos c.args.seconds *ℤ pos 1_000_000_000 = simp to_z-of_z at (rw c.from.ensures at c.from_secs.ensures) in
    let sum : civil_nanos c.unwrap-later.result ≡ civil_nanos c.civil_time.result +ℤ signed_nanos c.from_secs.result = rw c.unwrap-later.ensures at c.checked_add.ensures.value in
    let after : civil_nanos c.civil_time.result ≤ℤ civil_nanos c.unwrap-later.result = omega (arith, signed_arith) in
    later-year c.civil_time.result c.unwrap-later.result after late

pub returns : goal.returns
returns c =
    let fits : FitsSigned w64 (pos c.args.seconds) = omega (arith, signed_arith) in
    let nanos : signed_nanos c.from_secs.result ≡ pos c.args.seconds *ℤ pos 1_000_000_000 = simp to_z-of_z at (rw c.from.ensures at c.from_secs.ensures) in
    let sum : civil_nanos c.unwrap-later.result ≡ civil_nanos c.civil_time.result +ℤ signed_nanos c.from_secs.result = rw c.unwrap-later.ensures at c.checked_add.ensures.value in
    after-is c.args.base c.args.seconds c.civil_time.result c.unwrap-later.result c.packet_of.result
    c.civil_time.ensures.date c.civil_time.ensures.time (sum ∙ ap (λ n. civil_nanos c.civil_time.result +ℤ n)
    nanos) c.packet_of.ensures
