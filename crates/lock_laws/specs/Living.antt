-- Path numbers of processes (Level Two manual, "Path descriptors").
use Rattle.std.specs.Prelude.{◌≡◌, ℕ, ◌≤◌, false, None, List, length}
use Rattle.std.specs.List.{AllByRecursion}
use Rattle.proc_model.specs.Records.{is_living}
use Rattle.io_model.specs.Path.{numbers_of, slot_of}
use Rattle.io_model.specs.declared.path.TheConstants.{PROCESS_PATHS}
use Rattle.machine_model.specs.State.{State}
use Rattle.lock_laws.specs.Locked.{IsRunLocked}

-- a process has at most sixteen numbers, and one that does not live has no path
pub record AreOfLiving (s : State) : Type 0 where
  pub few : (q : ℕ) → length (numbers_of s.files.io.paths q) ≤ PROCESS_PATHS
  pub none : (q : ℕ) → is_living s.processes.records q ≡ false → (n : ℕ) → slot_of s.files.io.paths q n ≡ None

-- a state of a run, with its paths
pub record IsRunOpen (s : State) : Type 0 where
  pub locked : IsRunLocked s
  pub paths : AreOfLiving s

pub record AllRunOpen (states : List State) (t : State) : Type 0 where
  pub through : AllByRecursion IsRunOpen states
  pub last : IsRunOpen t
