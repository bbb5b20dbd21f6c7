-- An attempt of a call on paths, files and directories by a process, as the laws use it (System Programmer's Manual,
-- "I/O service requests").
use Rattle.std.specs.Prelude.{◌≡◌, ℕ, true, Some, Ok, List, length}
use Rattle.os9_base.specs.declared.registers.Regs.{Regs}
use Rattle.os9_base.specs.declared.registers.TimePacket.{TimePacket}
use Rattle.os9_outer.specs.TerminalState.{TerminalState}
use Rattle.proc_model.specs.CallResult.{CallResult}
use Rattle.proc_model.specs.Processes.{Processes, regs_at}
use Rattle.io_model.specs.Again.{path_number}
use Rattle.io_model.specs.PathList.{PathList}
use Rattle.io_model.specs.declared.io_call.IoCall.{IoCall}
use Rattle.file_rules.specs.Attempts.{FileAttempts, asker_of}
use Rattle.file_rules.specs.Files.{Files, Asker}
use Rattle.file_rules.specs.Open.{is_for_execution}
use Rattle.file_rules.specs.Route.{Route, list_of, route_of, route_to_new}
use Rattle.file_rules.specs.declared.path_call.PathCall.{PathCall}
use Rattle.file_laws.specs.Claims.{MadePathCall}
use Rattle.file_laws.specs.Devices.{device_call, takes_number, HasNoFiles, DeviceAttempted, IsOnNoFile, WaitsOnDevice}
use Rattle.file_laws.specs.Touch.{KeepsIo, KeepsTable, TouchesNoDevice, OneDriveFails, WaitsForRecord, drive_reached}

pub record Attempt : Type 0 where
  pub call : PathCall
  pub processes : Processes
  pub files : Files
  pub now : TimePacket
  pub process : ℕ
  pub result : CallResult
  pub new : Files  -- the state after it
  pub before : List TerminalState
  pub after : List TerminalState
  pub attempted : FileAttempts call processes files now process result new before after

-- the calling process, and its registers
abbrev pub asker_in : Attempt → Asker
asker_in it = asker_of it.processes it.process it.now

abbrev pub regs_in : Attempt → Regs
regs_in it = regs_at it.processes it.process

-- it has the result of an attempt of the device call
abbrev pub IsAsOnDevice : Attempt → Type 0
IsAsOnDevice it = DeviceAttempted it.call it.processes it.files it.process it.result it.new it.before it.after

-- it is an attempt on a device: it is on no file
abbrev pub OnDevice : Attempt → Type 0
OnDevice it = IsAsOnDevice it × IsOnNoFile it.call (asker_in it) it.files (length it.before)

-- it touches no terminal and no pipe
abbrev pub TouchesNone : Attempt → Type 0
TouchesNone it = TouchesNoDevice it.call it.processes it.files it.now it.process it.result it.new it.before it.after

-- it waits for a record of a file
abbrev pub WaitsOnRecord : Attempt → Type 0
WaitsOnRecord it = WaitsForRecord it.call it.processes it.files it.now it.process it.result it.new it.before it.after

-- it leaves input and output unchanged, except for the position of a path and a new path of the process
abbrev pub KeepsDevices : Attempt → Type 0
KeepsDevices it = KeepsIo it.process it.files.io it.new.io

-- the table of its paths stays in order
abbrev pub KeepsPathTable : Attempt → Type 0
KeepsPathTable it = KeepsTable it.files.io.paths it.new.io.paths

-- it is an attempt of a call on the number of a path, and this is the number
pub record IsOnNumber (it : Attempt) (number : ℕ) : Type 0 where
  pub device : IoCall
  pub device_is : device_call it.call ≡ Some device
  pub takes : takes_number device ≡ true
  pub named : path_number device (regs_in it) ≡ number

-- it waits, on a terminal or a pipe
abbrev pub AttemptWaits : Attempt → Type 0
AttemptWaits it = WaitsOnDevice it.call it.processes it.files.io it.process it.new.io

-- it has a path list, from which I$Open and I$Create find this route
abbrev pub HasList : Attempt → PathList → Type 0
HasList it list = list_of (asker_in it) ≡ Ok list

abbrev pub route_to_open : Attempt → PathList → Route
route_to_open it list = route_of (asker_in it) it.files (length it.before) (is_for_execution (regs_in it).a) list

abbrev pub route_to_create : Attempt → PathList → Route
route_to_create it list = route_to_new (asker_in it) it.files (length it.before) (is_for_execution (regs_in it).a) list

-- no volume is mounted, and its process has no directory
abbrev pub IsWithoutFiles : Attempt → Type 0
IsWithoutFiles it = HasNoFiles it.files it.process

-- the drive that it reached failed in it, and it returns the number of that fault
abbrev pub ReportsDriveFault : Attempt → Type 0
ReportsDriveFault it =
    OneDriveFails (drive_reached it.call (asker_in it) it.files (length it.before)) it.files it.result it.new

-- the call of this attempt
abbrev pub made_in : Attempt → MadePathCall
made_in it = record { call = it.call; asker = asker_in it; files = it.files; terms = length it.before }
