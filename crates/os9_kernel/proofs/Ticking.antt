-- A tick of the kernel is one of the machine.
use Rattle.std.proofs.Common.{◌≡◌, ℕ, ◌+◌, Bool, List, refl, sym, ap, subst, arith}
use Rattle.os9_outer.specs.TerminalState.{TerminalState}
use Rattle.proc_model.specs.Processes.{Processes}
use Rattle.io_model.specs.Arrivals.{Arrivals, ArrivesFrom, Desk}
use Rattle.io_model.specs.Io.{Io}
use Rattle.device_io.specs.Keys.{PollBreaks, desk}
use Rattle.proc_state.specs.Tie.{RepresentsProcesses, processes_of}
use Rattle.proc_state.specs.declared.state.ProcState.{ProcState}
use Rattle.file_drives.specs.Drives.{DriveView}
use Rattle.file_rules.specs.Files.{with_io}
use Rattle.file_state.proofs.StateLemmas.{stands-with_io}
use Rattle.file_state.specs.Tie.{RepresentsFiles}
use Rattle.file_state.specs.declared.state.FileState.{FileState}
use Rattle.proc_state.specs.Active.{AreActiveAt}
use Rattle.machine_model.specs.Run.{BreaksTick, Tick, desk_of}
use Rattle.machine_model.specs.State.{State}
use Rattle.os9_kernel.specs.declared.kernel.Kernel.{Kernel}
use Rattle.os9_kernel.specs.Outside.{Outside}
use Rattle.os9_kernel.specs.Tie.{IsKnown, IsLooked, Represents, ticks}
use Rattle.os9_kernel.specs.declared.marks.Known.{Known}
use Rattle.os9_kernel.proofs.Looking.{looked-next}
use Rattle.os9_kernel.proofs.Marking.{known-later}
use Rattle.lock_laws.proofs.OpenRuns.{tick-open}

-- the kernel's files with this input and output
abbrev pub with_keys : FileState → Io → FileState
with_keys files io = record files { io = io }

module _ (old : Kernel) (before : Outside) (s : State) (tied : Represents old before s) where
  -- the processes at the next tick
  abbrev pub raised : Processes
  raised = record s.processes { tick = s.processes.tick + 1 }

  pub raised-is : raised ≡ record (processes_of old.machine.processes s.processes.memory) { tick = ticks old + 1 }
  raised-is = λ i. record (tied.processes.is i) { tick = (tied.processes.is i).tick + 1 }

  tick-is : ticks old + 1 ≡ s.processes.tick + 1
  tick-is = ap (λ (m : Processes). m.tick + 1) (sym tied.processes.is)

  terms-are : before.terms ≡ s.terms
  terms-are = sym (ap (λ (s : State). s.terms) tied.is)

  desk-is : desk raised old.machine.files.io before.terms ≡ desk_of s
  desk-is = λ i. record { processes = raised; io = sym tied.files.io i; terms = terms-are i }

  -- the kernel then, with these processes and this input and output
  abbrev pub then : ProcState → Io → ℕ → Known → Kernel
  then processes io until known = record {
    machine = record { processes = processes; files = with_keys old.machine.files io };
    clock = old.clock;
    chosen = old.chosen;
    executed = old.executed;
    looked_until = until;
    known = known;
  }

  pub tick-then : (processes : ProcState) (io : Io) (until : ℕ) (known : Known) → IsLooked (then processes io until known)
      → IsKnown (then processes io until known) → (after : Outside) (next : Processes) → after.drives ≡ before.drives
      → Arrivals (ticks old + 1) (desk raised old.machine.files.io before.terms) (desk next io after.terms)
      → RepresentsProcesses processes next → (t : State) × Tick s t × Represents (then processes io until known) after t
  tick-then processes io until known looked is_known after next drives arrives there =
      let here : Desk = desk next io after.terms in
      let arrivals : Arrivals (s.processes.tick + 1) (desk_of s) here =
      subst (λ n. Arrivals n (desk_of s) here) tick-is (subst (λ (from : Desk). Arrivals (ticks old + 1) from here) desk-is arrives) in
      let t : State = record s { processes = next; files = with_io s.files io; terms = after.terms } in
      let ticked : Tick s t = (here, arrivals, refl) in
      let stands : RepresentsFiles (with_keys old.machine.files io) before.drives (with_io s.files io) = stands-with_io old.machine.files before.drives s.files io io refl tied.files in (
        t,
        ticked,
        record {
          processes = there;
          files = subst (λ (views : List DriveView). RepresentsFiles (with_keys old.machine.files io) views (with_io s.files io)) (sym drives) stands;
          is = λ i. record {
            processes = next;
            files = with_io s.files io;
            clock = (tied.is i).clock;
            chosen = (tied.is i).chosen;
            terms = after.terms;
          };
          run = tick-open s t ticked tied.run;
          looked = looked;
          known = is_known;
        },
      )

  -- without keys what is known is known at the next tick
  module _ (processes : ProcState) (io : Io) (one : processes.tick ≡ ticks old + 1) (same_io : io ≡ old.machine.files.io) where
    pub looked-after : (between : ProcState) → processes ≡ between
        → ((may : ℕ → Bool) (tick : ℕ) → AreActiveAt may tick old.machine.processes → AreActiveAt may tick between)
        → IsLooked (then processes io old.looked_until old.known)
    looked-after between is same =
        looked-next old (then processes io old.looked_until old.known) refl (ap (with_keys old.machine.files) same_io) one
        (λ may tick active. subst (λ (state : ProcState). AreActiveAt may tick state) (sym is) (same may tick active)) tied.looked

    pub known-after-tick : IsKnown (then processes io old.looked_until old.known)
    known-after-tick = known-later old (then processes io old.looked_until old.known) refl same_io refl (omega (arith, one)) tied.known

  pub tick-breaks : (polled : ℕ) (between : Desk) (now : Io) (after : List TerminalState)
      → ArrivesFrom (ticks old + 1) 0 polled (desk raised old.machine.files.io before.terms) between
      → PollBreaks (ticks old + 1) polled between now after → BreaksTick s after
  tick-breaks polled between now after arrives breaks =
      let here : PollBreaks (s.processes.tick + 1) polled between now after =
      subst (λ n. PollBreaks n polled between now after) tick-is breaks in record {
        count = polled;
        desk = between;
        arrivals =
            subst (λ n. ArrivesFrom n 0 polled (desk_of s) between) tick-is (subst (λ (from : Desk). ArrivesFrom (ticks old + 1) 0 polled from between) desk-is arrives);
        answer = here.answer;
        terminal = here.terminal;
        memory = here.memory;
        device = here.device;
      }
