-- Attempts of the calls on the time: each call by its code, and the result of an attempt.
use Rattle.std.specs.Prelude.{◌≡◌, ℕ}
use Rattle.os9_base.specs.declared.registers.TimePacket.{TimePacket}
use Rattle.proc_model.specs.MemoryChanges.{stored}
use Rattle.proc_model.specs.CallResult.{CallResult}
use Rattle.proc_model.specs.Processes.{Processes, with_memory}
use Rattle.time_rules.specs.Packet.{packet_bytes}
use Rattle.time_rules.specs.STime.{f_stime}
use Rattle.time_rules.specs.Step.{TimeStep, refused, tells, sets}
use Rattle.time_rules.specs.Time.{f_time}
use Rattle.time_rules.specs.declared.clock.Clock.{Clock}
use Rattle.time_rules.specs.declared.time_call.TimeCall.{TimeCall}
use Rattle.time_rules.specs.declared.time_call.TimeCall.TheVariants as Call

-- what an attempt of a call by a process does, at this time
abbrev pub time_step : TimeCall → Processes → TimePacket → ℕ → TimeStep
time_step Call.Time m now p = f_time m now p
time_step Call.STime m now p = f_stime m p

-- the result of the call
abbrev pub result_of : Processes → ℕ → TimeStep → CallResult
result_of m p (refused number) = CallResult.refused number
result_of m p (tells at packet) = CallResult.done (with_memory m (stored m.memory p at (packet_bytes packet)))
result_of m p (sets clock) = CallResult.done m

-- the clock after it
abbrev pub clock_after : Clock → TimeStep → Clock
clock_after clock (refused number) = clock
clock_after clock (tells at packet) = clock
clock_after clock (sets other) = other

-- an attempt of a call by a process, at this time: its result, and the clock afterwards
pub record TimeAttempts (call : TimeCall) (m : Processes) (clock : Clock) (now : TimePacket) (p : ℕ)
    (result : CallResult) (new : Clock) : Type 0 where
  pub result_is : result ≡ result_of m p (time_step call m now p)
  pub clock_is : new ≡ clock_after clock (time_step call m now p)
