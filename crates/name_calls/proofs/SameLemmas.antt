-- Processes and their memory, as the calls on names of files need them.
use Rattle.std.proofs.Common.{◌≡◌, ◌∙◌, ℕ, ◌<◌, Option, ap, sym, subst}
use Rattle.proc_model.specs.Processes.{Processes, cells_at, user_at}
use Rattle.guest_memory.proofs.Seen.{cells_of-seen}
use Rattle.guest_memory.specs.Tie.{cells_of}
use Rattle.os9_base.specs.Cells.{Cells}
use Rattle.proc_model.specs.Records.{record_at}
use Rattle.proc_state.proofs.UserBytes.{same-then}
use Rattle.proc_state.specs.Tie.{AreProcessesSame, RepresentsProcesses}
use Rattle.proc_state.specs.declared.state.ProcState.{ProcState}
use Rattle.file_routes.specs.Walks.{SomeFrom}

-- the same, and the same again
pub is-same-then : (first middle last : ProcState) → AreProcessesSame first middle → AreProcessesSame middle last → AreProcessesSame first last
is-same-then first middle last was is = record {
  memory = same-then first.memory middle.memory last.memory was.memory is.memory;
  table = is.table ∙ was.table;
  sched = is.sched ∙ was.sched;
  own = is.own ∙ was.own;
  tick = is.tick ∙ was.tick;
  represents = λ m tied. is.represents m (was.represents m tied);
}

-- the user of a process
pub user-is : (s : ProcState) (m : Processes) (p user : ℕ) → RepresentsProcesses s m → user ≡ (record_at s.table p).user → user_at m p ≡ user
user-is s m p user tied is = ap (λ (m : Processes). user_at m p) tied.is ∙ sym is

-- a machine sees some names of a list, if the kernel does
pub some-names : (s : ProcState) (p : ℕ) (first : Option ℕ) → p < 33 → (m : Processes) (tied : RepresentsProcesses s m) → SomeFrom (cells_of s.memory p) first → SomeFrom (cells_at m p) first
some-names s p first inside m tied some =
    subst (λ (cells : Cells). SomeFrom cells first) (cells_of-seen s.memory p inside m.memory tied.memory) some
