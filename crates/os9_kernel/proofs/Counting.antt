-- How often an event calls the drives.
use Rattle.std.proofs.Common.{◌≡◌, ◌∙◌, ℕ, Option, List, length, sym, ap, subst, arith}
use Rattle.std.specs.Option.{option_map_or}
use Rattle.os9_base.specs.declared.registers.Pid.{Pid}
use Rattle.os9_base.specs.declared.registers.TimePacket.{TimePacket}
use Rattle.os9_outer.specs.TerminalState.{TerminalState}
use Rattle.proc_model.specs.Ready.{Act as MachineAct, act_of}
use Rattle.time_rules.proofs.Days.{same-packet}
use Rattle.file_drives.specs.Drives.{DriveView}
use Rattle.file_state.proofs.CountLemmas.{called-more, called-none}
use Rattle.file_state.specs.Counted.{CalledAtMost}
use Rattle.time_rules.specs.Clock.{IsNow, seconds_since}
use Rattle.machine_model.specs.Services.{Service, service_of}
use Rattle.machine_model.specs.State.{State}
use Rattle.os9_kernel.specs.declared.act.Act.TheVariants.{Attempt}
use Rattle.os9_kernel.specs.declared.kernel.Kernel.{Kernel}
use Rattle.os9_kernel.specs.DriverCalls.{CallsWithin, act_calls, event_calls, service_calls}
use Rattle.os9_kernel.specs.Next.{DoesNext}
use Rattle.os9_kernel.specs.Outside.{Outside}
use Rattle.os9_kernel.specs.Tie.{Represents}
use Rattle.os9_kernel.proofs.Acting.{acts-so, chosen-is, terms-are}

left-alone : (most : ℕ) (views : List DriveView) → CalledAtMost most views views
left-alone most views = called-more 0 most views views (omega arith) (called-none views)

-- drives that are left are not called
pub leaves-drives : (old : Kernel) (before after : Outside) → after.drives ≡ before.drives → CallsWithin old before after
leaves-drives old before after same s now tied is =
    subst (λ (views : List DriveView). CalledAtMost (event_calls s now) before.drives views) (sym same) (left-alone (event_calls s now) before.drives)

-- an attempt by its call, at a time
module _ (old : Kernel) (p : Pid) (code : ℕ) (next : DoesNext old p (Attempt code)) (before : Outside) (s : State)
    (tied : Represents old before s) (service : Service) (serves : service_of code ≡ service) where
  attempt-calls : (now : TimePacket) → event_calls s now ≡ service_calls service s.processes p.0 now s.files (length before.terms)
  attempt-calls now =
      ap (λ (chosen : Option ℕ). option_map_or (λ (q : ℕ). act_calls (act_of s.processes q) s q now) chosen 0) (chosen-is old p (Attempt code) next before s tied)
      ∙ ap (λ (act : MachineAct). act_calls act s p.0 now) (acts-so old p (Attempt code) next before s tied)
      ∙ ap (λ (service : Service). service_calls service s.processes p.0 now s.files (length s.terms)) serves
      ∙ ap (λ (terms : List TerminalState). service_calls service s.processes p.0 now s.files (length terms)) (terms-are old p (Attempt code) next before s tied)

  pub attempt-within : (now : TimePacket) (after : Outside) → CalledAtMost (service_calls service s.processes p.0 now
      s.files (length before.terms)) before.drives after.drives → CalledAtMost (event_calls s now) before.drives
      after.drives
  attempt-within now after calls =
      subst (λ (most : ℕ). CalledAtMost most before.drives after.drives) (sym (attempt-calls now)) calls

  -- at the time that it is
  pub attempt-within-at : (time now : TimePacket) (after : Outside) → IsNow s.clock s.processes.tick time
      → IsNow s.clock s.processes.tick now → CalledAtMost (service_calls service s.processes p.0 time s.files
      (length before.terms)) before.drives after.drives → CalledAtMost (event_calls s now) before.drives after.drives
  attempt-within-at time now after is_time is_now calls =
      let same : time ≡ now = same-packet s.clock.from (seconds_since s.clock s.processes.tick) time now is_time is_now in
      attempt-within now after (subst (λ (now : TimePacket). CalledAtMost (service_calls service s.processes p.0 now s.files (length before.terms)) before.drives after.drives) same calls)
