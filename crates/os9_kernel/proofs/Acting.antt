-- What the chosen process does is an event of the machine.
use Rattle.std.proofs.Common.{◌≡◌, ℕ, Some, option_map, List, refl, sym, ap, ◌∙◌, subst}
use Rattle.os9_base.specs.declared.registers.Pid.{Pid}
use Rattle.os9_outer.specs.TerminalState.{TerminalState}
use Rattle.proc_model.specs.Records.{IsLiving, IsProcessNumber}
use Rattle.proc_model.specs.Processes.{Processes}
use Rattle.proc_model.specs.Ready.{Act as MachineAct, act_of}
use Rattle.file_rules.specs.Files.{Files}
use Rattle.file_state.specs.Tie.{RepresentsFiles}
use Rattle.proc_state.specs.Tie.{RepresentsProcesses}
use Rattle.time_rules.specs.declared.clock.Clock.{Clock}
use Rattle.machine_model.specs.declared.ends.EventEnd.{EventEnd}
use Rattle.machine_model.specs.ProcessEvent.{cost_of}
use Rattle.machine_model.specs.Event.{Acts, Event, cost}
use Rattle.machine_model.specs.State.{State}
use Rattle.lock_laws.specs.Living.{IsRunOpen}
use Rattle.os9_kernel.specs.declared.act.Act.{Act}
use Rattle.os9_kernel.specs.declared.kernel.Kernel.{Kernel}
use Rattle.os9_kernel.specs.Next.{DoesNext, act_in_machine, next_of}
use Rattle.os9_kernel.specs.Outside.{Outside}
use Rattle.os9_kernel.specs.Slice.{Instructions, last, more}
use Rattle.os9_kernel.specs.Tie.{Represents, IsGoing, IsKnown, IsLooked}
use Rattle.lock_laws.proofs.OpenRuns.{event-open}
use Rattle.os9_kernel.proofs.Looking.{looks_again, never-looked}
use Rattle.os9_kernel.proofs.Represented.{act-tied}

-- the process that was chosen does this next
pub does-next : (kernel : Kernel) (p : Pid) (act : Act) → kernel.chosen ≡ Some p → IsProcessNumber p.0
    → IsGoing kernel → next_of kernel.machine.processes p.0 ≡ act_in_machine act → DoesNext kernel p act
does-next kernel p act chosen process (q, is, lives) next =
    let same : q ≡ p = cc in
    record { chosen = chosen; process = process; lives = subst (λ (r : Pid). IsLiving kernel.machine.processes.table r.0) same lives; next = next }

-- instructions lead from a state of a run to one
pub instructions-open : {count : ℕ} {s t : State} {end : EventEnd} → Instructions s count end t → IsRunOpen s → IsRunOpen t
instructions-open (last {s = s} {t = t} {end = end} one event) it = event-open s t end event it
instructions-open (more {s = s} {m = m} one event rest) it =
    instructions-open rest (event-open s m EventEnd.Ran event it)

module _ (old : Kernel) (p : Pid) (act : Act) (next : DoesNext old p act) (before : Outside) (s : State) (tied : Represents old before s) where
  pub chosen-is : s.chosen ≡ Some p.0
  chosen-is = ap (λ (s : State). s.chosen) tied.is ∙ ap (option_map (λ (p : Pid). p.0)) next.chosen

  pub terms-are : s.terms ≡ before.terms
  terms-are = ap (λ (s : State). s.terms) tied.is

  pub clock-is : s.clock ≡ old.clock
  clock-is = ap (λ (s : State). s.clock) tied.is

  pub lives-there : IsLiving s.processes.records p.0
  lives-there = subst (λ (m : Processes). IsLiving m.records p.0) (sym tied.processes.is) next.lives

  pub acts-so : act_of s.processes p.0 ≡ act_in_machine act
  acts-so = act-tied old.machine.processes s.processes tied.processes p.0 ∙ next.next

  -- what it costs
  pub cost-is : cost s ≡ cost_of (act_in_machine act)
  cost-is = rw (chosen-is, acts-so) refl

  -- the kernel then, with this clock and these terminals
  pub represents-then : (new : Kernel) → IsLooked new → IsKnown new → (after : Outside) (processes : Processes) (files : Files) (clock : Clock)
      (terms : List TerminalState) → new.chosen ≡ old.chosen → RepresentsProcesses new.machine.processes processes
      → RepresentsFiles new.machine.files after.drives files → clock ≡ new.clock → terms ≡ after.terms
      → IsRunOpen (record s { processes = processes; files = files; clock = clock; terms = terms }) → Represents new after
      (record s { processes = processes; files = files; clock = clock; terms = terms })
  represents-then new looked known after processes files clock terms same there stands clock_is terms_are open_then = record {
    processes = there;
    files = stands;
    is =
        λ i. record {
          processes = processes;
          files = files;
          clock = clock_is i;
          chosen = (chosen-is ∙ sym (ap (option_map (λ (p : Pid). p.0)) (same ∙ next.chosen))) i;
          terms = terms_are i;
        };
    run = open_then;
    looked = looked;
    known = known;
  }

  pub event-then : (new : Kernel) (after : Outside) (end : EventEnd) (processes : Processes) (files : Files) (clock : Clock)
      (terms : List TerminalState) → new.chosen ≡ old.chosen → RepresentsProcesses new.machine.processes processes
      → RepresentsFiles new.machine.files after.drives files → clock ≡ new.clock → terms ≡ after.terms
      → (Event s end (record s { processes = processes; files = files; clock = clock; terms = terms }) → IsKnown new)
      → Acts (act_in_machine act) s p.0 end (record s { processes = processes; files = files; clock = clock; terms = terms })
      → (t : State) × Event s end t
      × Represents (looks_again new) after t
  event-then new after end processes files clock terms same there stands clock_is terms_are known acts =
      let t : State = record s { processes = processes; files = files; clock = clock; terms = terms } in
      let event : Event s end t = (p.0, chosen-is, lives-there, subst (λ (a : MachineAct). Acts a s p.0 end t) (sym acts-so) acts) in
      (t, event, represents-then (looks_again new) (never-looked new) (known event) after processes files clock terms same there stands clock_is terms_are (event-open s t end event tied.run))

  -- where the clock and the devices are as they were
  pub represents-here : (new : Kernel) → IsLooked new → IsKnown new → (processes : Processes) (files : Files) → new.chosen ≡ old.chosen
      → new.clock ≡ old.clock → RepresentsProcesses new.machine.processes processes → RepresentsFiles new.machine.files before.drives files
      → IsRunOpen (record s { processes = processes; files = files }) → Represents new before
      (record s { processes = processes; files = files })
  represents-here new looked known processes files same clock there stands open_then =
      represents-then new looked known before processes files s.clock s.terms same there stands (clock-is ∙ sym clock) terms-are open_then

  pub event-here : (new : Kernel) (end : EventEnd) (processes : Processes) (files : Files) → new.chosen ≡ old.chosen
      → new.clock ≡ old.clock → RepresentsProcesses new.machine.processes processes → RepresentsFiles new.machine.files before.drives files
      → IsKnown new → Acts (act_in_machine act) s p.0 end (record s { processes = processes; files = files }) → (t : State) × Event s end t
      × Represents (looks_again new) before t
  event-here new end processes files same clock there stands known acts =
      event-then new before end processes files s.clock s.terms same there stands (clock-is ∙ sym clock) terms-are (λ event. known) acts
