-- Attempts of calls on the time.
use Rattle.std.proofs.Common.{◌≡◌, ◌∙◌, ℕ, refl, sym, ap}
use Rattle.os9_base.specs.declared.registers.TimePacket.{TimePacket}
use Rattle.proc_model.specs.Attempts.{after_attempt, attempt_end}
use Rattle.proc_model.specs.CallResult.{CallResult}
use Rattle.proc_model.specs.Processes.{Processes}
use Rattle.machine_model.specs.declared.ends.EventEnd.TheVariants.{Waits}
use Rattle.time_rules.specs.Attempts.{TimeAttempts, result_of, time_step}
use Rattle.time_rules.specs.Step.{TimeStep, refused, tells, sets}
use Rattle.time_rules.specs.declared.clock.Clock.{Clock}
use Rattle.time_rules.specs.declared.time_call.TimeCall.{TimeCall}
use Rattle.os9_kernel.specs.Ends.{event_end_of}

module _ (m : Processes) (p : ℕ) where
  step-tick : (step : TimeStep) → (after_attempt m p (result_of m p step)).tick ≡ m.tick
  step-tick (refused number) = refl
  step-tick (tells at packet) = refl
  step-tick (sets clock) = refl

  step-answers : (step : TimeStep) → event_end_of (attempt_end (result_of m p step)) ≡ Waits → ⊥
  step-answers (refused number) is = cc
  step-answers (tells at packet) is = cc
  step-answers (sets clock) is = cc

  module _ (call : TimeCall) (clock : Clock) (now : TimePacket) (result : CallResult) (new : Clock) (it : TimeAttempts call m clock now p result new) where
    -- it leaves the tick
    pub time-tick : (after_attempt m p result).tick ≡ m.tick
    time-tick = ap (λ (result : CallResult). (after_attempt m p result).tick) it.result_is ∙ step-tick (time_step call m now p)

    -- it waits for nothing
    pub time-answers : event_end_of (attempt_end result) ≡ Waits → ⊥
    time-answers is =
        step-answers (time_step call m now p) (sym (ap (λ (result : CallResult). event_end_of (attempt_end result)) it.result_is) ∙ is)
