-- Attempts of calls on paths, files and directories that are attempts on a terminal or a pipe (Level Two manual, "I/O
-- system"; System Programmer's Manual, "I/O service requests").
use Rattle.std.specs.Prelude.{◌≡◌, ◌≢◌, ℕ, ⊤, Bool, true, false, Option, Some, None, Ok, List, length}
use Rattle.os9_outer.specs.TerminalState.{TerminalState}
use Rattle.proc_model.specs.CallResult.{CallResult}
use Rattle.proc_model.specs.Processes.{Processes, regs_at}
use Rattle.io_model.specs.declared.path.Target.{Target}
use Rattle.lock_model.specs.Locks.{request_of}
use Rattle.lock_model.specs.Records.{Records, with_waiting, without_lock}
use Rattle.io_model.specs.Again.{path_number}
use Rattle.io_model.specs.Attempts.{IoAttempts}
use Rattle.io_model.specs.Io.{Io, OpenPath, open_path}
use Rattle.io_model.specs.Lead.{Lead, to_terminal, to_pipe, nowhere}
use Rattle.io_model.specs.PathList.{PathList}
use Rattle.io_model.specs.declared.io_call.IoCall.{IoCall}
use Rattle.io_model.specs.declared.io_call.IoCall.TheVariants as Device
use Rattle.io_model.specs.declared.modes.TheConstants.{STANDARD_ERROR}
use Rattle.file_rules.specs.Files.{Asker, Files, KeepsDriveFaults, directory_of, open_file, place_of_target, volume_at}
use Rattle.file_rules.specs.Open.{is_for_execution}
use Rattle.file_rules.specs.Route.{list_of, to_device, route_of, route_to_new}
use Rattle.file_rules.specs.declared.path_call.PathCall.{PathCall}
use Rattle.file_rules.specs.declared.path_call.PathCall.TheVariants as Call

-- the same call on a terminal or a pipe. I$MakDir, I$ChgDir, I$Delete and I$DeletX are for files only, and I$Seek does
-- nothing there
abbrev pub device_call : PathCall → Option IoCall
device_call Call.Dup = Some Device.Dup
device_call Call.Create = Some Device.Create
device_call Call.Open = Some Device.Open
device_call Call.MakDir = None
device_call Call.ChgDir = None
device_call Call.Delete = None
device_call Call.DeletX = None
device_call Call.Seek = None
device_call Call.Read = Some Device.Read
device_call Call.Write = Some Device.Write
device_call Call.ReadLn = Some Device.ReadLn
device_call Call.WritLn = Some Device.WritLn
device_call Call.GetStt = Some Device.GetStt
device_call Call.SetStt = Some Device.SetStt
device_call Call.Close = Some Device.Close
device_call Call.PErr = Some Device.PErr

-- a call is on the number of a path; I$Open and I$Create take a path list
abbrev pub takes_number : IoCall → Bool
takes_number Device.Open = false
takes_number Device.Create = false
takes_number call = true

-- the number of a path that a call takes
abbrev pub number_in : PathCall → Asker → ℕ
number_in Call.PErr asker = STANDARD_ERROR
number_in call asker = asker.caller.regs.a

-- the target is a terminal or a pipe, and not a file or directory
abbrev pub IsDevice : Target → Type 0
IsDevice target = place_of_target target ≡ None

-- A call is on no file: its number names none, or its list names a terminal or a pipe. I$Dup and I$Close do the same
-- with all paths; I$MakDir, I$ChgDir, I$Delete and I$DeletX are on files only.
abbrev pub IsOnNoFile : PathCall → Asker → Files → ℕ → Type 0
IsOnNoFile Call.Dup asker files terms = ⊤
IsOnNoFile Call.Close asker files terms = ⊤
IsOnNoFile Call.Open asker files terms =
    (list : PathList) × (list_of asker ≡ Ok list)
    × (route_of asker files terms (is_for_execution asker.caller.regs.a) list ≡ to_device)
IsOnNoFile Call.Create asker files terms =
    (list : PathList) × (list_of asker ≡ Ok list)
    × (route_to_new asker files terms (is_for_execution asker.caller.regs.a) list ≡ to_device)
IsOnNoFile Call.MakDir asker files terms = ⊥
IsOnNoFile Call.ChgDir asker files terms = ⊥
IsOnNoFile Call.Delete asker files terms = ⊥
IsOnNoFile Call.DeletX asker files terms = ⊥
IsOnNoFile call asker files terms = open_file files asker.caller.process.0 (number_in call asker) ≡ None

-- no request of the process waits for a record, and those of the others are as they were
pub record NoneRequested (p : ℕ) (old new : Files) : Type 0 where
  pub none : request_of new.records.locks p ≡ None
  pub others : (q : ℕ) → q ≢ p → request_of new.records.locks q ≡ request_of old.records.locks q

-- Of record locks only that of the path ends which I$Close closes by this number, if it ends. No request of the process
-- waits then.
pub data LocksStay (call : PathCall) (files : Files) (p n : ℕ) (now : Records) : Type 0 where
  stay : now ≡ with_waiting files.records p None → LocksStay call files p n now
  ends : (opened : OpenPath) → call ≡ Call.Close → open_path files.io p n ≡ Some opened
      → now ≡ without_lock (with_waiting files.records p None) opened.path.0 → LocksStay call files p n now

-- An attempt has the result of an attempt of the call on terminals and pipes; the directories of processes and the
-- volumes are unchanged, and no drive fails. This does not say that the call is on no file, since a file may give that
-- result too.
pub record DeviceAttempted (call : PathCall) (processes : Processes) (files : Files) (p : ℕ) (result : CallResult)
    (new : Files)
    (before after : List TerminalState) : Type 0 where
  pub device : IoCall
  pub device_is : device_call call ≡ Some device
  pub attempted : IoAttempts device processes files.io (length files.drives) p result new.io before after
  pub directories : new.directories ≡ files.directories
  pub volumes : new.volumes ≡ files.volumes
  pub none_failed : KeepsDriveFaults files.drives new.drives
  pub requests : NoneRequested p files new
  pub locks : LocksStay call files p (regs_at processes p).a new.records

-- a call of a process waits: it is a call on terminals and pipes, on the number of a path on a terminal or a pipe, and
-- the paths are unchanged
pub record WaitsOnDevice (call : PathCall) (processes : Processes) (io : Io) (p : ℕ) (new : Io) : Type 0 where
  pub device : IoCall
  pub device_is : device_call call ≡ Some device
  pub takes : takes_number device ≡ true
  pub opened : OpenPath
  pub is : open_path io p (path_number device (regs_at processes p)) ≡ Some opened
  pub on : IsDevice opened.desc.target
  pub paths : new.paths ≡ io.paths

-- a path list names a terminal or a pipe
abbrev pub LeadsToDevice : Lead → Type 0
LeadsToDevice (to_terminal terminal) = Unit {0}
LeadsToDevice to_pipe = Unit {0}
LeadsToDevice (nowhere number) = ⊥

-- no volume is mounted, and the process has no directory and no request for a record
pub record HasNoFiles (files : Files) (p : ℕ) : Type 0 where
  pub volumes : (drive : ℕ) → volume_at files drive ≡ None
  pub directories : (execute : Bool) → directory_of files p execute ≡ None
  pub requests : request_of files.records.locks p ≡ None
