-- Facts of every state of a run.
use Rattle.std.specs.Prelude.{◌≡◌, ◌⊎◌, ℕ, ◌<◌, ◌≤◌, Some, IsSome, List, length}
use Rattle.std.specs.List.{AllByRecursion}
use Rattle.io_model.specs.Path.{desc_of}
use Rattle.io_model.specs.declared.pending.PendingCall.{PendingCall}
use Rattle.io_model.specs.declared.path.Desc.{Desc}
use Rattle.lock_model.specs.Laws.{Covers}
use Rattle.lock_model.specs.Locks.{request_of}
use Rattle.lock_model.specs.declared.lock.Request.{Request}
use Rattle.io_model.specs.Io.{pending_at}
use Rattle.file_rules.specs.Files.{Files}
use Rattle.file_rules.specs.Locking.{call_of}
use Rattle.file_laws.specs.Kinds.{AreKinds}
use Rattle.call_laws.specs.Pending.{AreInCalls, ArePending}
use Rattle.call_laws.specs.Terminals.{AreOnTerminals}
use Rattle.time_rules.specs.Clock.{IsClock}
use Rattle.file_laws.specs.Devices.{IsDevice}
use Rattle.machine_model.specs.State.{State}

-- a process that waits in this request keeps its call, and owns the lock that it asks for, which has all bytes that the
-- call moves
pub record IsRequested (files : Files) (p : ℕ) (request : Request) : Type 0 where
  pub kept : pending_at files.io p ≡ Some (call_of request)
  pub owner : request.lock.owner.0 ≡ p
  pub covers : Covers request.lock.range request.count

-- each request for a record is of a call that waits
abbrev pub AreRequested : Files → Type 0
AreRequested files =
    (p : ℕ) (request : Request) → request_of files.records.locks p ≡ Some request → IsRequested files p request

-- a call that waits is on an open path: on a terminal or a pipe, or its process waits in a request
pub record WaitsOnPath (files : Files) (p : ℕ) (pending : PendingCall) : Type 0 where
  pub desc : Desc
  pub there : desc_of files.io.paths pending.path.0 ≡ Some desc
  pub on : IsDevice desc.target ⊎ IsSome (request_of files.records.locks p)

-- each call that waits is so
abbrev pub AreOnPaths : Files → Type 0
AreOnPaths files = (p : ℕ) (pending : PendingCall) → pending_at files.io p ≡ Some pending → WaitsOnPath files p pending

-- the facts of a state of a run
pub record IsRunning (s : State) : Type 0 where
  pub kept : ArePending s.processes s.files.io
  pub in_calls : AreInCalls s.processes s.files.io
  -- each process has a place for its pending call, and for its request
  pub places : length s.processes.records ≤ length s.files.io.calls
  pub rooms : length s.processes.records ≤ length s.files.records.locks.requests
  pub on : AreOnTerminals (length s.terms) s.files.io.paths
  pub some : 0 < length s.terms
  pub few : length s.terms ≤ 4
  pub requested : AreRequested s.files
  pub waits : AreOnPaths s.files
  pub kinds : AreKinds s.files  -- paths and directories of processes are on what is there
  pub clock : IsClock s.clock s.processes.tick

-- they hold in these states, and in the last one
pub record AllRunning (states : List State) (t : State) : Type 0 where
  pub through : AllByRecursion IsRunning states
  pub last : IsRunning t
