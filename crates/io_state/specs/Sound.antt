-- The invariant of the state of input and output.
use Rattle.std.specs.Prelude.{◌≡◌, ◌⊎◌, ℕ, ◌<◌, min, true, ⊤, Option, Some, None, IfSome, IsSome, List, option_map, option_and_then, length}
use Rattle.std.specs.Option.{option_map_or}
use Rattle.io_model.specs.Pending.{pending_of}
use Rattle.io_model.specs.Path.{PathTable, ArePaths, desc_of, holds_path, new_number, paths_after_begin}
use Rattle.io_model.specs.Pipe.{IsPipe, free_pipe, pipes_after_begin}
use Rattle.io_model.specs.declared.pending.PendingCall.{PendingCall}
use Rattle.io_model.specs.declared.path.Target.{Target}
use Rattle.io_model.specs.declared.path.Target.TheVariants.{File, Folder, Term, Pipe}
use Rattle.io_model.specs.declared.terminal.ReadKind.{ReadKind}
use Rattle.io_model.specs.declared.terminal.ReadKind.TheVariants.{Bytes, WholeLine}
use Rattle.io_model.specs.declared.terminal.Reading.{Reading}
use Rattle.io_model.specs.declared.terminal.TheConstants.{TYPE_AHEAD}
use Rattle.io_model.specs.Codes.{io_call_of, direction_of}
use Rattle.io_model.specs.Io.{Io, pending_at, terminal_at, new_desc, with_paths, with_pipes}
use Rattle.io_model.specs.declared.io_call.Direction.TheVariants as Way
use Rattle.io_model.specs.declared.io_call.IoCall.{IoCall}
use Rattle.io_model.specs.declared.io_call.IoCall.TheVariants as Call
use Rattle.io_state.specs.Files.{IsOnDisk}

-- the target of a system path, if the path exists
abbrev pub target_at : PathTable → ℕ → Option Target
target_at paths s = option_map (λ desc. desc.target) (desc_of paths s)

-- each pipe with a path exists, and no other path is open on it; each terminal is one of four
pub record AreTargets (io : Io) : Type 0 where
  pub pipes : (s n : ℕ) → target_at io.paths s ≡ Some (Pipe n) → IsPipe io.pipes n
  pub one_path : (s t n : ℕ) → target_at io.paths s ≡ Some (Pipe n) → target_at io.paths t ≡ Some (Pipe n) → s ≡ t
  pub terminals : (s n : ℕ) → target_at io.paths s ≡ Some (Term n) → n < 4

-- ---- pending calls, and unfinished reads

-- how a call reads a terminal, if it reads
abbrev pub read_kind_of : IoCall → Option ReadKind
read_kind_of Call.Dup = None
read_kind_of Call.Create = None
read_kind_of Call.Open = None
read_kind_of Call.Close = None
read_kind_of Call.Read = Some Bytes
read_kind_of Call.ReadLn = Some WholeLine
read_kind_of Call.Write = None
read_kind_of Call.WritLn = None
read_kind_of Call.GetStt = None
read_kind_of Call.SetStt = None
read_kind_of Call.PErr = None

-- how the call of a code reads a terminal, if it reads
abbrev pub read_kind : ℕ → Option ReadKind
read_kind code = option_and_then read_kind_of (io_call_of code)

-- the number of bytes that a call asks a terminal for
abbrev pub most_of : PendingCall → ℕ
most_of call = min call.count TYPE_AHEAD

-- a call sets a status, and its path is on a file or a directory
pub record SetsStatus (paths : PathTable) (call : PendingCall) : Type 0 where
  pub sets : io_call_of call.code ≡ Some Call.SetStt
  pub target : Target
  pub on : target_at paths call.path.0 ≡ Some target
  pub on_disk : IsOnDisk target

-- a process may wait in this call: it moves bytes or sets the status of a file, not all of it was done, the process
-- holds its path, and on a terminal it reads
pub record MayWait (paths : PathTable) (p : ℕ) (call : PendingCall) : Type 0 where
  pub moves : IsSome (direction_of call.code) ⊎ SetsStatus paths call
  pub left : call.moved < call.count
  pub held : holds_path paths p call.path.0 ≡ true
  pub reads : (n : ℕ) → target_at paths call.path.0 ≡ Some (Term n) → direction_of call.code ≡ Some Way.Reading

-- this call makes this read of a terminal
pub record MakesTerminalRead (paths : PathTable) (n : ℕ) (reading : Reading) (call : PendingCall) : Type 0 where
  pub on : target_at paths call.path.0 ≡ Some (Term n)
  pub kind : read_kind call.code ≡ Some reading.kind
  pub most : most_of call ≡ reading.most

-- the process of an unfinished read of a terminal waits in the call that makes it
pub record IsWaitedFor (paths : PathTable) (calls : List (Option PendingCall)) (n : ℕ) (reading : Reading)
    : Type 0 where
  pub call : PendingCall
  pub kept : pending_of calls reading.process.0 ≡ Some call
  pub read : MakesTerminalRead paths n reading call

-- the invariant of the pending calls and of the unfinished reads
pub record AreWaits (io : Io) : Type 0 where
  pub calls : (p : ℕ) (call : PendingCall) → pending_at io p ≡ Some call → MayWait io.paths p call
  pub reads : (n : ℕ) (reading : Reading) → (terminal_at io n).reading ≡ Some reading
      → IsWaitedFor io.paths io.calls n reading

-- a call is not an unfinished read: it writes, or its path is on no terminal
abbrev pub IsNoRead : Io → PendingCall → Type 0
IsNoRead io call =
    (n : ℕ) → target_at io.paths call.path.0 ≡ Some (Term n) → direction_of call.code ≡ Some Way.Reading → ⊥

-- no call of a process is pending, or the pending call is not a read of a terminal
abbrev pub ReadsNoTerminal : Io → ℕ → Type 0
ReadsNoTerminal io p = IfSome (pending_at io p) (IsNoRead io)

-- ---- the state

-- the invariant of the state
pub record IsIo (io : Io) : Type 0 where
  pub paths : ArePaths io.paths
  pub terminals : length io.terminals ≡ 4
  pub calls : length io.calls ≡ 33
  pub targets : AreTargets io
  pub waits : AreWaits io

-- the target of a path exists: an open pipe, or one of the four terminals
abbrev pub IsThere : Io → Target → Type 0
IsThere io (File drive sector) = ⊤
IsThere io (Folder drive sector) = ⊤
IsThere io (Term terminal) = terminal < 4
IsThere io (Pipe pipe) = IsPipe io.pipes pipe

-- the number of a new path of a process on a new pipe, if there is one
abbrev pub pipe_number : Io → ℕ → Option ℕ
pipe_number io p = option_and_then (λ pipe. new_number io.paths p) (free_pipe io.pipes)

-- the state after a process opened a path on a new pipe of this number
abbrev pub opened_on : Io → ℕ → ℕ → ℕ → Io
opened_on io p mode pipe =
    with_paths (with_pipes io (pipes_after_begin io.pipes)) (paths_after_begin io.paths p (new_desc (Pipe pipe) mode))

-- the state after a process opened a path on a new pipe, if it could
abbrev pub pipe_opened : Io → ℕ → ℕ → Io
pipe_opened io p mode = option_map_or (opened_on io p mode) (free_pipe io.pipes) io
