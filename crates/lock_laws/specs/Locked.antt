-- What holds of record locks in every state of a run (Level Two manual, RBF record locking).
use Rattle.std.specs.Prelude.{◌≡◌, ◌≢◌, ◌⊎◌, ℕ, true, Some, List, length}
use Rattle.std.specs.List.{AllByRecursion}
use Rattle.proc_model.specs.Records.{IsLiving}
use Rattle.proc_model.specs.Processes.{regs_at}
use Rattle.io_model.specs.Path.{holds_path}
use Rattle.lock_model.specs.Locks.{lock_of, request_of}
use Rattle.lock_model.specs.Records.{AreLockRecords}
use Rattle.lock_model.specs.declared.lock.Held.{Held}
use Rattle.lock_model.specs.declared.lock.Request.{Request}
use Rattle.lock_model.specs.declared.lock.TheConstants.{PATH_PLACES}
use Rattle.file_rules.specs.Codes.{path_call_of}
use Rattle.file_rules.specs.Files.{Files}
use Rattle.file_rules.specs.declared.path_call.PathCall.{PathCall}
use Rattle.call_laws.specs.Running.{IsRunning}
use Rattle.machine_model.specs.State.{State}
use Rattle.file_laws.specs.Claims.{CoversCall}
use Rattle.lock_laws.specs.Contents.{IsPathOn}

-- a request in which a process waits is for bytes of the file that its path was opened on, and covers what its call
-- changes
pub record IsAskedFor (s : State) (p : ℕ) (request : Request) : Type 0 where
  pub on : IsPathOn s.files.io.paths request.path request.lock.file
  pub call : PathCall
  pub code : path_call_of request.code ≡ Some call
  pub covers : CoversCall call (regs_at s.processes p) request

-- locks of different processes have no byte in common, waits form no cycle, and the history agrees with the locks;
-- there is a place for each system path
pub record AreAgreed (files : Files) : Type 0 where
  pub records : AreLockRecords files.records
  pub places : length files.io.paths.descs ≡ PATH_PLACES

-- the owner of each lock lives
abbrev pub AreOwned : State → Type 0
AreOwned s =
    (path : ℕ) (lock : Held) → lock_of s.files.records.locks path ≡ Some lock
    → IsLiving s.processes.records lock.owner.0

-- each lock is of a path that was opened on its file, and its owner lives; each request is for bytes of such a file
pub record AreOnFiles (s : State) : Type 0 where
  pub owned : AreOwned s
  pub held : (path : ℕ) (lock : Held) → lock_of s.files.records.locks path ≡ Some lock
      → IsPathOn s.files.io.paths path lock.file
  pub asked : (p : ℕ) (request : Request) → request_of s.files.records.locks p ≡ Some request
      → IsAskedFor s p request

-- a state of a run, with its locks
pub record IsAgreed (s : State) : Type 0 where
  pub running : IsRunning s
  pub agreed : AreAgreed s.files

-- they agree in these states, and in the last one
pub record AllAgreed (states : List State) (t : State) : Type 0 where
  pub through : AllByRecursion IsAgreed states
  pub last : IsAgreed t

-- and are on their files
pub record IsRunLocked (s : State) : Type 0 where
  pub state : IsAgreed s
  pub on : AreOnFiles s

-- all this holds in these states, and in the last one
pub record AllRunLocked (states : List State) (t : State) : Type 0 where
  pub through : AllByRecursion IsRunLocked states
  pub last : IsRunLocked t

-- an event of a process leaves the record locks of the others
pub record LeavesLocks (s : State) (p : ℕ) (t : State) : Type 0 where
  -- another process waits in the request in which it waited, and in no other one
  pub requests : (q : ℕ) → q ≢ p → request_of t.files.records.locks q ≡ request_of s.files.records.locks q
  -- a lock ends only if the process owns it or has a number of its path
  pub held : (path : ℕ) (lock : Held) → lock_of s.files.records.locks path ≡ Some lock
      → (lock_of t.files.records.locks path ≡ Some lock)
      ⊎ ((lock.owner.0 ≡ p) ⊎ (holds_path s.files.io.paths p path ≡ true))
  -- a new lock is one of the process
  pub gained : (path : ℕ) (lock : Held) → lock_of t.files.records.locks path ≡ Some lock
      → (lock_of s.files.records.locks path ≡ Some lock) ⊎ (lock.owner.0 ≡ p)
