-- The results of reading a file of modules, for the kernel's processes and its files.
use Rattle.std.specs.Prelude.{◌≡◌, ◌≢◌, ℕ, Option, Some, None, List, Result, Ok, Err, length, slice_get, take}
use Rattle.os9_base.specs.declared.registers.TimePacket.{TimePacket}
use Rattle.proc_model.specs.Processes.{Processes, cells_at}
use Rattle.io_model.specs.PathList.{PathList}
use Rattle.device_paths.specs.Standing.{NamesFrom}
use Rattle.proc_state.specs.Tie.{RepresentsProcesses}
use Rattle.file_rules.specs.Attempts.{asker_of}
use Rattle.file_rules.specs.Files.{Asker, Files}
use Rattle.file_rules.specs.ProgramFile.{ProgramFile, ReadsProgram, program_on_route}
use Rattle.file_rules.specs.Step.{Step, drive_of}
use Rattle.file_rules.specs.Route.{Found, along, IsFoundAt}
use Rattle.lock_model.specs.declared.place.FilePlace.{FilePlace}
use Rattle.file_drives.specs.Drives.{DriveView, media_of}
use Rattle.file_state.specs.Attempt.{MachineOnDrives}
use Rattle.file_state.specs.Counted.{CalledAtMost}
use Rattle.file_state.specs.Reached.{HasReadDrive}
use Rattle.file_state.specs.Tie.{RepresentsFiles}
use Rattle.file_state.specs.declared.state.FileState.{FileState}
use Rattle.rbf_access.specs.Faults.{file_error}
use Rattle.rbf_access.specs.declared.faults.FileFault.{FileFault}
use Rattle.load_calls.specs.Calls.{program_route_calls}
use Rattle.load_calls.specs.declared.reading.ProgramRead.{ProgramRead}

-- the file is at the front of a buffer
pub record IsInBuffer (buffer : List ℕ) (file : ProgramFile) (read : ProgramRead) : Type 0 where
  pub size_is : read.size ≡ length file.bytes
  pub bytes_are : take read.size buffer ≡ file.bytes
  pub next_is : read.next ≡ file.next

-- the kernel returns the result of a reading: the file, or the number with which it is refused
abbrev pub AnswersReading : List ℕ → Result ProgramFile ℕ → Result ProgramRead ℕ → Type 0
AnswersReading buffer (Ok file) (Ok read) = IsInBuffer buffer file read
AnswersReading buffer (Ok file) (Err answer) = ⊥
AnswersReading buffer (Err number) (Ok read) = ⊥
AnswersReading buffer (Err number) (Err answer) = answer ≡ number

-- this step of a reading has this result, and leaves this buffer and these files of the kernel; its drive was called at
-- most `most` times
pub record ReadsTo (step : Step ProgramFile) (most : ℕ) (was : Files) (result : Result ProgramRead ℕ) (buffer : List ℕ)
    (new : FileState) (before after : List DriveView) : Type 0 where
  pub reading : Result ProgramFile ℕ
  pub left : Files
  pub reads : ReadsProgram step reading was left
  pub answers : AnswersReading buffer reading result
  pub stands : RepresentsFiles new after left
  pub calls : CalledAtMost most before after
  -- the media are unchanged, and so are the drives that the step does not reach
  pub media_kept : media_of after ≡ media_of before
  pub others : (n : ℕ) → drive_of step ≢ Some n → slice_get after n ≡ slice_get before n

-- the result, by how the file of `size` bytes was loaded
abbrev pub read_by : Result (Unit {0}) FileFault → ℕ → ℕ → Result ProgramRead ℕ
read_by (Ok done) size next = Ok (record { size = size; next = next })
read_by (Err fault) size next = Err (file_error fault)

-- ---- between two states of the kernel's processes, its files and the drives

-- this step of a reading has this result
abbrev pub ReadsBetween : Step ProgramFile → ℕ → Files → Result ProgramRead ℕ → MachineOnDrives → MachineOnDrives
    → Type 0
ReadsBetween step most was result before after =
    ReadsTo step most was result after.processes.buffer.items after.files before.views after.views

-- this step of a calling process, at any time, from each state that the kernel's state represents
abbrev pub ReadsProgramFrom : ℕ → (Asker → Files → Step ProgramFile) → (Asker → Files → ℕ) → Result ProgramRead ℕ
    → MachineOnDrives
    → MachineOnDrives → Type 0
ReadsProgramFrom p step most result before after =
    (m : Processes) (was : Files) (now : TimePacket) → RepresentsProcesses before.processes m
    → RepresentsFiles before.files before.views was
    → ReadsBetween (step (asker_of m p now) was) (most (asker_of m p now) was) was result before after

-- the file reached from a directory along names: those of a process's path list from `first` on, before `next`
abbrev pub ReadsAlong : ℕ → FilePlace → Option ℕ → ℕ → Result ProgramRead ℕ → MachineOnDrives → MachineOnDrives → Type 0
ReadsAlong p from first next result before after =
    (m : Processes) (was : Files) (now : TimePacket) (list : PathList) → RepresentsProcesses before.processes m
    → RepresentsFiles before.files before.views was → NamesFrom (cells_at m p) first list.names → next ≡ list.next
    → ReadsBetween (program_on_route (asker_of m p now) was list (along from list.names))
    (program_route_calls (asker_of m p now) was (along from list.names)) was result before after

-- a file was found at a place, and its drive has only been read
pub record HasFoundFile (place : FilePlace) (was : Files) (found : Found) (now : MachineOnDrives) : Type 0 where
  pub before : List DriveView
  pub read : HasReadDrive None place.drive was now.files before now.views
  pub there : IsFoundAt was place found
