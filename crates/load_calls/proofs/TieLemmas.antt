-- The kernel's processes, and those of the machine that they are.
use Rattle.std.proofs.Common.{◌≡◌, ◌∙◌, ◌<◌, ℕ, Option, List, ap, subst}
use Rattle.os9_base.specs.Cells.{Cells}
use Rattle.proc_model.specs.Processes.{Processes, cells_at, user_at}
use Rattle.guest_memory.specs.Tie.{cells_of}
use Rattle.guest_memory.proofs.Seen.{cells_of-seen}
use Rattle.device_paths.specs.Standing.{NamesFrom}
use Rattle.proc_model.specs.Records.{record_at}
use Rattle.proc_state.specs.Tie.{AreProcessesSame, RepresentsProcesses}
use Rattle.proc_state.specs.declared.state.ProcState.{ProcState}
use Rattle.proc_state.proofs.UserBytes.{same-then}

-- they are the same still
pub same-processes : (before mid after : ProcState) → AreProcessesSame before mid → AreProcessesSame mid after → AreProcessesSame before after
same-processes before mid after one other = record {
  memory = same-then before.memory mid.memory after.memory one.memory other.memory;
  table = other.table ∙ one.table;
  sched = other.sched ∙ one.sched;
  own = other.own ∙ one.own;
  tick = other.tick ∙ one.tick;
  represents = λ m tied. other.represents m (one.represents m tied);
}

-- the user of a process
pub same-user : (s : ProcState) (m : Processes) (p : ℕ) → RepresentsProcesses s m → user_at m p ≡ (record_at s.table p).user
same-user s m p tied = ap (λ (i : Processes). user_at i p) tied.is

-- names that stand in its memory
pub names-seen : (s : ProcState) (m : Processes) (p : ℕ) (first : Option ℕ) (names : List (List ℕ)) → p < 33
    → RepresentsProcesses s m → NamesFrom (cells_of s.memory p) first names → NamesFrom (cells_at m p) first names
names-seen s m p first names process tied stand =
    subst (λ (cells : Cells). NamesFrom cells first names) (cells_of-seen s.memory p process m.memory tied.memory) stand
