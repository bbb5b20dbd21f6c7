-- Events that touch no terminal and no drive, as the worked rows count them.
use Rattle.std.proofs.Common.{◌≡◌, ℕ, Some, refl, sym, ap, subst}
use Rattle.std.specs.Option.{option_map_or}
use Rattle.os9_base.specs.declared.registers.TimePacket.{TimePacket}
use Rattle.proc_model.specs.Records.{IsLiving}
use Rattle.proc_model.specs.declared.proc_call.ProcCall.TheVariants as Call
use Rattle.proc_model.specs.Delivery.{delivered}
use Rattle.proc_model.specs.Ready.{Act, attempts, delivers, executes, act_of}
use Rattle.time_rules.specs.Attempts.{clock_after, time_step}
use Rattle.time_rules.specs.Clock.{IsNow}
use Rattle.machine_model.specs.declared.ends.EventEnd.{EventEnd}
use Rattle.machine_model.specs.ProcessEvent.{call_event_end, delivery_end, instruction_end, next_instruction}
use Rattle.machine_model.specs.Event.{Acts, Event, before_delivery}
use Rattle.machine_model.specs.Services.{Service, Serves, loads, no_call, on_paths, on_processes, on_time, service_of}
use Rattle.machine_model.specs.State.{State}
use Rattle.machine_model.specs.SliceRows.{after_act, after_event, rest_after, served}

-- how the event of a process that does this ends
abbrev pub end_of : TimePacket → Act → State → ℕ → EventEnd
end_of now executes s p = instruction_end (next_instruction s.processes p)
end_of now (attempts code) s p = call_event_end (served (service_of code) s now p)
end_of now (delivers signal) s p = delivery_end (delivered (before_delivery s p) p signal)

-- an attempt of it touches no terminal and no drive
abbrev pub TouchesNone : Service → Type 0
TouchesNone loads = ⊥
TouchesNone (on_processes Call.Fork) = ⊥
TouchesNone (on_processes Call.Chain) = ⊥
TouchesNone (on_processes call) = Unit {0}
TouchesNone (on_time call) = Unit {0}
TouchesNone (on_paths call) = ⊥
TouchesNone no_call = Unit {0}

-- it attempts no other call, and the clock shows this time then
abbrev pub IsOnProcesses : TimePacket → State → Act → Type 0
IsOnProcesses now s executes = Unit {0}
IsOnProcesses now s (attempts code) = TouchesNone (service_of code) × IsNow s.clock s.processes.tick now
IsOnProcesses now s (delivers signal) = Unit {0}

module _ (now : TimePacket) (s : State) (p : ℕ) (chosen : s.chosen ≡ Some p) (lives : IsLiving s.processes.records p) where
  serves : (service : Service) → TouchesNone service → Serves service s now p (served service s now p) (rest_after service s now p)
  serves loads processes = absurd processes
  serves (on_processes Call.Fork) processes = absurd processes
  serves (on_processes Call.Chain) processes = absurd processes
  serves (on_processes call) processes = (refl, refl)
  serves (on_time call) processes =
      (clock_after s.clock (time_step call s.processes now p), record { result_is = refl; clock_is = refl }, refl)
  serves (on_paths call) processes = absurd processes
  serves no_call processes = (refl, refl)

  acts : (act : Act) → IsOnProcesses now s act → Acts act s p (end_of now act s p) (after_act now act s p)
  acts executes processes = (refl, refl)
  acts (delivers signal) processes = (refl, refl)
  acts (attempts code) (processes, shows) =
      (served (service_of code) s now p, rest_after (service_of code) s now p, (now, shows, serves (service_of code) processes), refl, refl)

  pub event-is : (act : Act) (end : EventEnd) → act_of s.processes p ≡ act → IsOnProcesses now s act → end_of now act s p ≡ end → Event s end (after_event now s)
  event-is act end next processes ends =
      let here : Acts (act_of s.processes p) s p end (after_act now (act_of s.processes p) s p) = subst
      (λ act. Acts act s p end (after_act now act s p)) (sym next)
      (subst (λ end. Acts act s p end (after_act now act s p)) ends (acts act processes)) in
      let last : after_event now s ≡ after_act now (act_of s.processes p) s p = ap (λ who. option_map_or (λ p. after_act now (act_of s.processes p) s p) who s) chosen in
      (p, chosen, lives, subst (Acts (act_of s.processes p) s p end) (sym last) here)
