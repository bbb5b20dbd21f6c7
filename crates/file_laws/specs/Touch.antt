-- What an attempt of a call on paths, files and directories touches of terminals, pipes, paths and pending calls, if it
-- is not a call on a terminal or a pipe (Level Two manual, "I/O system"; System Programmer's Manual, "I/O service
-- requests").
use Rattle.std.specs.Prelude.{◌≡◌, ◌≢◌, ◌⊎◌, ℕ, Bool, true, false, Option, Some, None, List, length, slice_set}
use Rattle.os9_base.specs.declared.registers.Regs.{Regs}
use Rattle.os9_base.specs.declared.registers.TimePacket.{TimePacket}
use Rattle.os9_outer.specs.TerminalState.{TerminalState}
use Rattle.proc_model.specs.MemoryChanges.{stored}
use Rattle.proc_model.specs.CallResult.{CallResult, done, refused, waits}
use Rattle.proc_model.specs.Processes.{Processes, with_memory, with_regs_of}
use Rattle.lock_model.specs.declared.lock.Grant.TheVariants.{Wait}
use Rattle.lock_model.specs.declared.lock.Request.{Request}
use Rattle.lock_model.specs.Records.{with_waiting}
use Rattle.rbf_model.specs.Volume.{DiskVolume}
use Rattle.io_model.specs.Path.{ArePaths, PathTable, desc_of, is_held, new_number, numbers_of, paths_after_begin, with_desc}
use Rattle.io_model.specs.declared.path.Desc.{Desc}
use Rattle.io_model.specs.declared.path.Target.{Target}
use Rattle.io_model.specs.Io.{Io, OpenPath, pending_at, new_desc, open_path, with_call, with_paths}
use Rattle.file_rules.specs.Attempts.{asker_of, file_step}
use Rattle.file_rules.specs.Files.{Asker, Files, KeepsDriveFaults, OneFailed, OpenFile, directories_at, open_file, place_of_target, volume_at}
use Rattle.file_rules.specs.Locking.{answer_to, call_of, waiting_in}
use Rattle.file_rules.specs.Step.{drive_of}
use Rattle.file_rules.specs.declared.path_call.PathCall.{PathCall}
use Rattle.file_rules.specs.declared.path_call.PathCall.TheVariants as Call
use Rattle.file_rules.specs.declared.status.TheConstants.{SS_TICKS}
use Rattle.lock_model.specs.declared.place.FilePlace.{FilePlace}
use Rattle.file_laws.specs.Claims.{MadePathCall, Requests}
use Rattle.file_laws.specs.Devices.{IsDevice, NoneRequested, number_in}
use Rattle.file_laws.specs.Recorded.{RecordsCome}

-- ---- what a call may touch

-- it moves the position of the path that its number names
abbrev pub moves_position : PathCall → Bool
moves_position Call.Seek = true
moves_position Call.Read = true
moves_position Call.Write = true
moves_position Call.ReadLn = true
moves_position Call.WritLn = true
moves_position Call.PErr = true
moves_position call = false

-- it is I$SetStt of SS.Ticks
abbrev pub IsTicks : PathCall → Asker → Type 0
IsTicks call asker = (call ≡ Call.SetStt) × (asker.caller.regs.b ≡ SS_TICKS)

-- it changes the path that its number names: its position, or its ticks
abbrev pub ChangesPath : PathCall → Asker → Type 0
ChangesPath call asker = (moves_position call ≡ true) ⊎ IsTicks call asker

-- it opens a path
abbrev pub begins_path : PathCall → Bool
begins_path Call.Create = true
begins_path Call.Open = true
begins_path call = false

-- it changes the volume of a drive
abbrev pub may_change_volume : PathCall → Bool
may_change_volume Call.Create = true
may_change_volume Call.MakDir = true
may_change_volume Call.Delete = true
may_change_volume Call.DeletX = true
may_change_volume Call.Write = true
may_change_volume Call.WritLn = true
may_change_volume Call.SetStt = true
may_change_volume Call.PErr = true
may_change_volume call = false

-- the drive that an attempt of it reaches, if any, on a machine with `terms` terminals
abbrev pub drive_reached : PathCall → Asker → Files → ℕ → Option ℕ
drive_reached call asker files terms = drive_of (file_step call asker files terms)

-- the call that a process makes at a time
abbrev pub made_by : PathCall → Processes → Files → TimePacket → ℕ → ℕ → MadePathCall
made_by call processes files now p terms =
    record { call = call; asker = asker_of processes p now; files = files; terms = terms }

-- ---- its end

-- the call is done: the process has these registers, and these bytes were stored at its addresses
pub record IsDoneResult (processes : Processes) (p : ℕ) (result : CallResult) : Type 0 where
  pub regs : Regs
  pub at : ℕ
  pub bytes : List ℕ
  pub is : result ≡ done (with_regs_of (with_memory processes (stored processes.memory p at bytes)) p regs)

-- the call is done or refused: it does not wait, and the process goes on
abbrev pub IsFinalResult : Processes → ℕ → CallResult → Type 0
IsFinalResult processes p result = IsDoneResult processes p result ⊎ ((number : ℕ) × (result ≡ refused number))

-- ---- its effect on the paths

-- the path on a file or a directory that the number of the call names has another position
pub record MovesPosition (call : PathCall) (asker : Asker) (files : Files) (paths : PathTable) : Type 0 where
  pub moves : moves_position call ≡ true
  pub found : OpenFile
  pub named : open_file files asker.caller.process.0 (number_in call asker) ≡ Some found
  pub at : ℕ
  pub is : paths ≡ with_desc files.io.paths found.opened.path.0 (Some (record found.opened.desc { at = at }))

-- or it has other ticks, those in X
pub record SetsTicks (call : PathCall) (asker : Asker) (files : Files) (paths : PathTable) : Type 0 where
  pub sets : IsTicks call asker
  pub found : OpenFile
  pub named : open_file files asker.caller.process.0 (number_in call asker) ≡ Some found
  pub is : paths
      ≡ with_desc files.io.paths found.opened.path.0 (Some (record found.opened.desc { ticks = asker.caller.regs.x }))

-- the process has a new path, on a file or a directory, with the mode in A
pub record BeginsPath (call : PathCall) (asker : Asker) (files : Files) (paths : PathTable) : Type 0 where
  pub begins : begins_path call ≡ true
  pub number : ℕ
  pub free : new_number files.io.paths asker.caller.process.0 ≡ Some number
  pub target : Target
  pub place : FilePlace
  pub on : place_of_target target ≡ Some place
  pub is : paths ≡ paths_after_begin files.io.paths asker.caller.process.0 (new_desc target asker.caller.regs.a)

-- the paths are unchanged, or changed in one of these ways
abbrev pub PathsMove : PathCall → Asker → Files → PathTable → Type 0
PathsMove call asker files paths =
    (paths ≡ files.io.paths) ⊎ MovesPosition call asker files paths ⊎ SetsTicks call asker files paths
    ⊎ BeginsPath call asker files paths

-- ---- its effect on the rest

-- no volume has changed, and no drive has failed
pub record NoVolumeChanges (files new : Files) : Type 0 where
  pub volumes : new.volumes ≡ files.volumes
  pub none_failed : KeepsDriveFaults files.drives new.drives

-- only the volume of the reached drive has changed, and no drive has failed
pub record OneVolumeChanges (reached : Option ℕ) (files new : Files) : Type 0 where
  pub drive : ℕ
  pub reaches : reached ≡ Some drive
  pub old : DiskVolume
  pub was : volume_at files drive ≡ Some old
  pub changed : DiskVolume
  pub is : new.volumes ≡ slice_set files.volumes drive (Some changed)
  pub none_failed : KeepsDriveFaults files.drives new.drives

-- the reached drive has failed: the call is refused with the number of its fault, and only the volume of that drive may
-- have changed
pub record OneDriveFails (reached : Option ℕ) (files : Files) (result : CallResult) (new : Files) : Type 0 where
  pub drive : ℕ
  pub reaches : reached ≡ Some drive
  pub number : ℕ
  pub failed : OneFailed drive number files.drives new.drives
  pub answer : result ≡ refused number
  pub old : DiskVolume
  pub was : volume_at files drive ≡ Some old
  pub left : DiskVolume
  pub is : new.volumes ≡ slice_set files.volumes drive (Some left)

-- what a refusal leaves, if this drive was reached or none: paths, pipes, terminals, directories and locks as they
-- were, and the volumes too if no drive has failed. The process has no pending call then
pub record RefusalLeaves (reached : Option ℕ) (files : Files) (p : ℕ) (result : CallResult) (new : Files)
    : Type 0 where
  pub io : new.io ≡ with_call files.io p None
  pub directories : new.directories ≡ files.directories
  pub records : new.records ≡ with_waiting files.records p None
  pub volumes : NoVolumeChanges files new ⊎ OneDriveFails reached files result new

-- an attempt touches no terminal and no pipe: only the paths of input and output change, and the process has no pending
-- call then. The other processes keep their directories, and the process keeps its own except in I$ChgDir. The volumes
-- are unchanged, or that of the reached drive changes, in a call that changes one
pub record TouchesNoDevice (call : PathCall) (processes : Processes) (files : Files) (now : TimePacket) (p : ℕ)
    (result : CallResult) (new : Files) (before after : List TerminalState) : Type 0 where
  pub over : IsFinalResult processes p result
  pub paths : PathsMove call (asker_of processes p now) files new.io.paths
  pub rest : new.io ≡ with_call (with_paths files.io new.io.paths) p None
  pub terminals : after ≡ before
  pub requests : NoneRequested p files new
  pub records : RecordsCome (made_by call processes files now p (length before)) new.records
  pub directories : (q : ℕ) → q ≢ p → directories_at new q ≡ directories_at files q
  pub own : call ≢ Call.ChgDir → new.directories ≡ files.directories
  pub still : may_change_volume call ≡ false → new.volumes ≡ files.volumes
  pub volumes : NoVolumeChanges files new
      ⊎ OneVolumeChanges (drive_reached call (asker_of processes p now) files (length before)) files new
      ⊎ OneDriveFails (drive_reached call (asker_of processes p now) files (length before)) files result new
  pub refusal : (number : ℕ) → result ≡ refused number
      → RefusalLeaves (drive_reached call (asker_of processes p now) files (length before)) files p result new

-- ---- what a call leaves that waits for a record

-- an attempt waits for a record of the file that the number of its call names: its request and the call are kept, and
-- all else stays
pub record WaitsForRecord (call : PathCall) (processes : Processes) (files : Files) (now : TimePacket) (p : ℕ)
    (result : CallResult) (new : Files) (before after : List TerminalState) : Type 0 where
  pub request : Request
  pub requests : Requests (made_by call processes files now p (length before)) request
  pub answer : answer_to (asker_of processes p now) files request ≡ Wait
  pub result_is : result ≡ waits processes
  pub io : new.io ≡ with_call files.io p (Some (call_of request))
  pub records : new.records ≡ (waiting_in files request).records
  pub directories : new.directories ≡ files.directories
  pub volumes : new.volumes ≡ files.volumes
  pub none_failed : KeepsDriveFaults files.drives new.drives
  pub terminals : after ≡ before

-- the reached drive has failed, and the call returns the number of its fault
pub record FaultAnswers (reached : Option ℕ) (old : Files) (result : CallResult) (new : Files) : Type 0 where
  pub drive : ℕ
  pub reaches : reached ≡ Some drive
  pub number : ℕ
  pub failed : OneFailed drive number old.drives new.drives
  pub answer : result ≡ refused number

-- what F$Load, F$Fork and F$Chain leave of the state that calls on files change, if this drive was reached or none:
-- only the counts of the drives may differ. The paths and directories of a child are given to it separately
pub record LeavesFiles (reached : Option ℕ) (old : Files) (result : CallResult) (new : Files) : Type 0 where
  pub io : new.io ≡ old.io
  pub directories : new.directories ≡ old.directories
  pub volumes : new.volumes ≡ old.volumes
  pub records : new.records ≡ old.records
  pub drives : KeepsDriveFaults old.drives new.drives ⊎ FaultAnswers reached old result new

-- ---- the same by each path and each process

-- a path that a number names is the same path, opened on the same with the same mode; its position and its ticks may
-- have changed
pub record IsSamePath (old new : OpenPath) : Type 0 where
  pub path : new.path ≡ old.path
  pub desc : new.desc ≡ record old.desc { at = new.desc.at; ticks = new.desc.ticks }

-- each path is still there by its numbers, and one on a terminal or a pipe is unchanged. No path on a terminal or a
-- pipe is new, and no other process has other numbers
pub record KeepsPaths (p : ℕ) (old new : Io) : Type 0 where
  pub numbers : (q : ℕ) → q ≢ p → numbers_of new.paths q ≡ numbers_of old.paths q
  pub paths : (q n : ℕ) (opened : OpenPath) → open_path old q n ≡ Some opened
      → (now : OpenPath) × (open_path new q n ≡ Some now) × IsSamePath opened now
  pub devices : (s : ℕ) (desc : Desc) → desc_of old.paths s ≡ Some desc → IsDevice desc.target
      → desc_of new.paths s ≡ Some desc
  pub no_device_new : (s : ℕ) (desc : Desc) → desc_of new.paths s ≡ Some desc → IsDevice desc.target
      → desc_of old.paths s ≡ Some desc

-- the process has no pending call; those of the others are unchanged, and the number of places for calls is the same
pub record KeepsCalls (p : ℕ) (old new : Io) : Type 0 where
  pub none : pending_at new p ≡ None
  pub others : (q : ℕ) → q ≢ p → pending_at new q ≡ pending_at old q
  pub places : length new.calls ≡ length old.calls

-- the same, and the terminals and pipes are unchanged
pub record KeepsIo (p : ℕ) (old new : Io) : Type 0 where
  pub paths : KeepsPaths p old new
  pub calls : KeepsCalls p old new
  pub terminals : new.terminals ≡ old.terminals
  pub pipes : new.pipes ≡ old.pipes

-- every path in the table is held by some process
abbrev pub PathsAreHeld : PathTable → Type 0
PathsAreHeld paths = (s : ℕ) (desc : Desc) → desc_of paths s ≡ Some desc → is_held paths s ≡ true

-- the table of paths stays in order, and each path in it stays held
pub record KeepsTable (old new : PathTable) : Type 0 where
  pub paths : ArePaths old → ArePaths new
  pub held : PathsAreHeld old → PathsAreHeld new
