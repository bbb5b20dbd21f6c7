-- Why a call on paths is refused (System Programmer's Manual, "I/O service requests"), except the end of a file and a
-- write error.
use Rattle.std.specs.Prelude.{◌≡◌, ◌≢◌, ◌⊎◌, ℕ, ◌+◌, ◌-◌, ◌<◌, ◌≤◌, ⊤, false, true, Option, Some, None, IsSome, option_and_then, Err, Ok, length}
use Rattle.std.specs.Option.{option_map_or}
use Rattle.file_laws.specs.Causes.{IsNoDrive}
use Rattle.os9_base.specs.Cells.{Cells}
use Rattle.os9_base.specs.declared.errors.TheConstants.{E_BMODE, E_BPADDR, E_BPNAM, E_BPNUM, E_MNF, E_NOTRDY, E_PNNF, E_PTHFUL, E_UNKSVC}
use Rattle.device_table.specs.Names.{device_of}
use Rattle.device_table.specs.declared.devices.Dev.{Dev}
use Rattle.device_table.specs.declared.devices.Dev.TheVariants as Device
use Rattle.os9_base.specs.UserNames.{goes_on, name_at, user_cell}
use Rattle.os9_base.specs.declared.name_fault.NameFault.TheVariants.{Unreadable, NoName}
use Rattle.proc_model.specs.Program.{slash}
use Rattle.io_model.specs.Path.{free_number, free_path}
use Rattle.io_model.specs.Pipe.{free_pipe}
use Rattle.io_model.specs.declared.path.Target.{Target}
use Rattle.io_model.specs.declared.path.Target.TheVariants.{File, Folder}
use Rattle.io_model.specs.Again.{path_number}
use Rattle.io_model.specs.Codes.{direction_of_call}
use Rattle.io_model.specs.Io.{Io, OpenPath, pending_at, open_path}
use Rattle.io_model.specs.Lead.{Search, what_is_there, a_new_place, makes_dots}
use Rattle.io_model.specs.Modes.{can_read, can_write, is_mode}
use Rattle.io_model.specs.PathList.{PathList, has_slash_behind_device, path_list}
use Rattle.io_model.specs.Status.{ready_count}
use Rattle.io_model.specs.Step.{Caller}
use Rattle.io_model.specs.Write.{line_bytes}
use Rattle.io_model.specs.declared.io_call.Direction.{Direction}
use Rattle.io_model.specs.declared.io_call.Direction.TheVariants.{Reading, Writing}
use Rattle.io_model.specs.declared.io_call.IoCall.{IoCall}
use Rattle.io_model.specs.declared.io_call.IoCall.TheVariants as Call
use Rattle.io_model.specs.declared.status.TheConstants.{SS_OPT, SS_READY, SS_EOF, OPTION_BYTES}

-- ---- the path that a call names, and the list that it reads

-- the path of the call was opened on this
pub record IsOn (call : IoCall) (caller : Caller) (io : Io) (target : Target) : Type 0 where
  pub opened : OpenPath
  pub names : open_path io caller.process.0 (path_number call caller.regs) ≡ Some opened
  pub target_is : opened.desc.target ≡ target

-- the search of a call that reads a path list; any other names a path by its number
abbrev pub search_of : IoCall → Option Search
search_of Call.Open = Some what_is_there
search_of Call.Create = Some a_new_place
search_of call = None

-- the call reads this path list, for this search
pub record SearchesPathList (call : IoCall) (caller : Caller) (search : Search) (list : PathList) : Type 0 where
  pub search_is : search_of call ≡ Some search
  pub list_is : path_list caller.cells caller.regs.x ≡ Ok list

-- the device at which a list starts, if it names an existing one
abbrev pub device_at : ℕ → ℕ → PathList → Option Dev
device_at drives terms list = option_and_then (device_of drives terms) list.device

-- the byte belongs to a list and is not its last: a character of a name without bit 7, or a slash
abbrev pub IsOfList : Option ℕ → Type 0
IsOfList None = ⊥
IsOfList (Some byte) = (goes_on byte ≡ true) ⊎ (byte ≡ slash)

-- the list at X continues up to this address
pub record GoesOnTo (caller : Caller) (at : ℕ) : Type 0 where
  pub behind : caller.regs.x ≤ at
  pub bytes : (k : ℕ) → caller.regs.x ≤ k → k < at → IsOfList (user_cell caller.cells k)

-- the number of bytes that a read or a write asks for, or the longest line: that of the pending call, or Y at its
-- first attempt
abbrev pub asked_by : Caller → Io → ℕ
asked_by caller io = option_map_or (λ pending. pending.count) (pending_at io caller.process.0) caller.regs.y

-- ---- the cause of each number

-- the call gives a path a number
abbrev pub GivesNumber : IoCall → Type 0
GivesNumber call = (call ≡ Call.Dup) ⊎ IsSome (search_of call)

-- 200: the sixteen numbers of the process are in use; for a call that opens a path also the 64 paths, or the sixteen
-- pipes
pub data IsFull (call : IoCall) (caller : Caller) (io : Io) (drives terms : ℕ) : Type 0 where
  numbers : GivesNumber call → free_number io.paths caller.process.0 ≡ None → IsFull call caller io drives terms
  paths : IsSome (search_of call) → free_path io.paths ≡ None → IsFull call caller io drives terms
  pipes : (search : Search) (list : PathList) → SearchesPathList call caller search list
      → device_at drives terms list ≡ Some Device.Pipe → free_pipe io.pipes ≡ None → IsFull call caller io drives terms

-- 201: the number does not name a path of the process
pub record NamesNoPath (call : IoCall) (caller : Caller) (io : Io) : Type 0 where
  pub names_one : search_of call ≡ None
  pub none : open_path io caller.process.0 (path_number call caller.regs) ≡ None

-- a mode allows bytes to move this way
abbrev pub Allows : Direction → ℕ → Type 0
Allows Reading mode = can_read mode ≡ true
Allows Writing mode = can_write mode ≡ true

-- 203: the mode of the path to be opened has no bit of those that it needs, or the path of a read or a write was opened
-- without them
abbrev pub IoCallLacksMode : IoCall → Caller → Io → Type 0
IoCallLacksMode Call.Open caller io = is_mode caller.regs.a ≡ false
IoCallLacksMode Call.Create caller io = can_write caller.regs.a ≡ false
IoCallLacksMode call caller io =
    (way : Direction) × (opened : OpenPath) × (direction_of_call call ≡ Some way)
    × (open_path io caller.process.0 (path_number call caller.regs) ≡ Some opened)
    × (Allows way opened.desc.mode → ⊥)

-- 208: the status of this code cannot be asked for, and none can be set
abbrev pub HasNoIoStatus : IoCall → ℕ → Type 0
HasNoIoStatus Call.GetStt code = ((code ≡ SS_OPT) ⊎ (code ≡ SS_READY) ⊎ (code ≡ SS_EOF)) → ⊥
HasNoIoStatus Call.SetStt code = ⊤
HasNoIoStatus call code = ⊥

-- a read or a write of a path that was opened on a file or a directory, as no call opens one
pub record IsMoveOnDiskPath (call : IoCall) (caller : Caller) (io : Io) : Type 0 where
  pub moves : IsSome (direction_of_call call)
  pub drive : ℕ
  pub sector : ℕ
  pub on : IsOn call caller io (File drive sector) ⊎ IsOn call caller io (Folder drive sector)

-- one of `count` bytes from an address on is in no named slot or past FFFF
pub record HasGap (cells : Cells) (from count : ℕ) : Type 0 where
  pub at : ℕ
  pub behind : from ≤ at
  pub within : at < from + count
  pub missing : user_cell cells at ≡ None

-- the list at X continues up to a byte that is in no named slot or past FFFF
pub record ListBreaksOff (caller : Caller) : Type 0 where
  pub at : ℕ
  pub front : GoesOnTo caller at
  pub missing : user_cell caller.cells at ≡ None
  pub list : path_list caller.cells caller.regs.x ≡ Err Unreadable

-- 210: a byte that has to be read or written is in no named slot or past FFFF
abbrev pub IoBytesUnreadable : IoCall → Caller → Io → Type 0
IoBytesUnreadable Call.Open caller io = ListBreaksOff caller
IoBytesUnreadable Call.Create caller io = ListBreaksOff caller
IoBytesUnreadable Call.Read caller io = HasGap caller.cells caller.regs.x caller.regs.y
IoBytesUnreadable Call.ReadLn caller io = HasGap caller.cells caller.regs.x caller.regs.y
IoBytesUnreadable Call.Write caller io = HasGap caller.cells caller.regs.x caller.regs.y
IoBytesUnreadable Call.WritLn caller io =
    HasGap caller.cells caller.regs.x (asked_by caller io) × (line_bytes caller (pending_at io caller.process.0) ≡ None)
IoBytesUnreadable Call.GetStt caller io =
    (caller.regs.b ≡ SS_OPT) × HasGap caller.cells caller.regs.x OPTION_BYTES
IoBytesUnreadable call caller io = ⊥

-- the list at X continues up to an address at which a name is required and missing: it is X, or after a slash
pub record NamesNothing (caller : Caller) : Type 0 where
  pub at : ℕ
  pub front : GoesOnTo caller at
  pub place : (at ≡ caller.regs.x) × (user_cell caller.cells at ≢ Some slash)
      ⊎ (caller.regs.x < at) × (user_cell caller.cells (at - 1) ≡ Some slash)
  pub no_name : name_at caller.cells at ≡ Err NoName
  pub list : path_list caller.cells caller.regs.x ≡ Err NoName

-- 215: a required name in the list is missing or invalid; or the names of the list lead nowhere: the last one of what
-- is to be made is that of a directory itself or of the one above it, a slash is after a terminal or a pipe, or the
-- root of a drive is to be made
pub data IsBadName (call : IoCall) (caller : Caller) (drives terms : ℕ) : Type 0 where
  no_name : IsSome (search_of call) → NamesNothing caller → IsBadName call caller drives terms
  dots : (search : Search) (list : PathList) → SearchesPathList call caller search list → makes_dots search list ≡ true
      → IsBadName call caller drives terms
  behind : (search : Search) (list : PathList) (device : Dev) → SearchesPathList call caller search list
      → device_at drives terms list ≡ Some device → IsNoDrive device → has_slash_behind_device list ≡ true
      → IsBadName call caller drives terms
  root : (list : PathList) (drive : ℕ) → SearchesPathList call caller a_new_place list
      → device_at drives terms list ≡ Some (Device.Drive drive) → length list.names ≡ 0
      → IsBadName call caller drives terms

-- 216: the list does not begin with a slash, and no process has a directory
pub record HasNoDirectory (call : IoCall) (caller : Caller) : Type 0 where
  pub search : Search
  pub list : PathList
  pub looks : SearchesPathList call caller search list
  pub relative : list.device ≡ None

-- 221: the list starts at a device that does not exist, or at a drive while none is mounted
pub record HasNoDevice (call : IoCall) (caller : Caller) (drives terms : ℕ) : Type 0 where
  pub search : Search
  pub list : PathList
  pub looks : SearchesPathList call caller search list
  pub starts : IsSome list.device
  pub none : (device_at drives terms list ≡ None)
      ⊎ ((drive : ℕ) × (device_at drives terms list ≡ Some (Device.Drive drive)))

-- 246: the terminal or the pipe has no byte
pub record HasNoByte (call : IoCall) (caller : Caller) (io : Io) : Type 0 where
  pub asks : call ≡ Call.GetStt
  pub code : caller.regs.b ≡ SS_READY
  pub target : Target
  pub on : IsOn call caller io target
  pub none : ready_count io target ≡ 0

-- the cause of a refusal that changes nothing, on a machine with this number of drives and terminals, by its number
pub data StatedCause (call : IoCall) (caller : Caller) (io : Io) (drives terms number : ℕ) : Type 0 where
  path_table_full : number ≡ E_PTHFUL → IsFull call caller io drives terms
      → StatedCause call caller io drives terms number
  bad_path_number : number ≡ E_BPNUM → NamesNoPath call caller io → StatedCause call caller io drives terms number
  bad_mode : number ≡ E_BMODE → IoCallLacksMode call caller io → StatedCause call caller io drives terms number
  unknown_service : number ≡ E_UNKSVC → HasNoIoStatus call caller.regs.b ⊎ IsMoveOnDiskPath call caller io
      → StatedCause call caller io drives terms number
  bad_address : number ≡ E_BPADDR → IoBytesUnreadable call caller io → StatedCause call caller io drives terms number
  bad_path_name : number ≡ E_BPNAM → IsBadName call caller drives terms
      → StatedCause call caller io drives terms number
  not_found : number ≡ E_PNNF → HasNoDirectory call caller → StatedCause call caller io drives terms number
  no_module : number ≡ E_MNF → HasNoDevice call caller drives terms → StatedCause call caller io drives terms number
  not_ready : number ≡ E_NOTRDY → HasNoByte call caller io → StatedCause call caller io drives terms number
