-- A time of the same day.
use Rattle.std.proofs.Common.{arith}
use Rattle.time_rules.specs.CivilTime.{packet_time}
use Rattle.os9_clock.proofs.CalendarTie.{same_packet}
use Rattle.os9_clock.proofs.time.time_at.Goals as goal

pub returns-then-second-lt-SECONDS_PER_DAY : goal.returns-then-second-lt-SECONDS_PER_DAY
returns-then-second-lt-SECONDS_PER_DAY c = record {
  time = packet_time c.on_day.result;
  civil = c.on_day.ensures.civil;
  later = omega (arith, c.on_day.ensures.second, c.second_of_day.ensures, c.from.ensures);
  given = same_packet c.on_day.result (omega arith);
}
