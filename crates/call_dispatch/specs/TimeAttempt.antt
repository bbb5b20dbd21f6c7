-- The result of an attempt of a call on the time, for the kernel's processes and its clock.
use Rattle.std.specs.Prelude.{ℕ}
use Rattle.os9_base.specs.declared.call.CallEnd.{CallEnd}
use Rattle.os9_base.specs.declared.call.CallEnd.TheVariants.{Done, Error}
use Rattle.os9_base.specs.declared.registers.TimePacket.{TimePacket}
use Rattle.proc_model.specs.CallResult.{CallResult}
use Rattle.proc_model.specs.Processes.{Processes}
use Rattle.time_rules.specs.Attempts.{TimeAttempts}
use Rattle.time_rules.specs.Clock.{IsNow}
use Rattle.time_rules.specs.Step.{TimeStep, refused, tells, sets}
use Rattle.time_rules.specs.declared.clock.Clock.{Clock}
use Rattle.time_rules.specs.declared.time_call.TimeCall.{TimeCall}
use Rattle.proc_state.specs.Tie.{ReturnsCallEnd}
use Rattle.proc_state.specs.declared.state.ProcState.{ProcState}

-- an attempt of a call by a process, at this time: how it ends, and the processes and the clock afterwards; its process
-- does not have the result yet
pub record TimeAttempted (call : TimeCall) (m : Processes) (clock : Clock) (now : TimePacket) (p : ℕ) (end : CallEnd)
    (processes : ProcState) (new : Clock) : Type 0 where
  pub result : CallResult
  pub attempt : TimeAttempts call m clock now p result new
  pub comes : ReturnsCallEnd m p result end processes

-- an attempt at the time that the clock shows
pub record AttemptsNow (call : TimeCall) (m : Processes) (clock : Clock) (p : ℕ) (end : CallEnd) (processes : ProcState)
    (new : Clock) : Type 0 where
  pub now : TimePacket
  pub is : IsNow clock m.tick now
  pub attempts : TimeAttempted call m clock now p end processes new

-- how an attempt ends
abbrev pub step_end : TimeStep → CallEnd
step_end (refused number) = Error number
step_end (tells at packet) = Done
step_end (sets clock) = Done
