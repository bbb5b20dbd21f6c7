-- Why calls other than those on files and directories are refused (System Programmer's Manual, "System calls", each
-- call).
use Rattle.std.specs.Prelude.{◌≡◌, ◌≢◌, ◌⊎◌, ℕ, ◌+◌, ◌-◌, ◌<◌, Bool, true, false, IsSome, Option, Some, None, Result, Ok, Err, List, [], length}
use Rattle.os9_base.specs.declared.errors.TheConstants.{E_BADTIME, E_BMODE, E_BNAM, E_BPADDR, E_BPNUM, E_IPRCID, E_MEMFUL, E_MNF, E_NOCHLD, E_NORAM, E_NOTRDY, E_PTHFUL, E_UNKSVC, E_USIGP}
use Rattle.proc_model.specs.Memory.{free_blocks, map_at}
use Rattle.proc_model.specs.MemoryChanges.{has_most_links}
use Rattle.proc_model.specs.Slots.{is_free_run}
use Rattle.proc_model.specs.Ends.{ended_child, has_child}
use Rattle.proc_model.specs.Records.{free_process, record_at}
use Rattle.proc_model.specs.Signals.{is_reached, wake_signal}
use Rattle.os9_base.specs.UserNames.{name_at, user_cell}
use Rattle.os9_base.specs.declared.name_fault.NameFault.{NameFault}
use Rattle.os9_base.specs.declared.name_fault.NameFault.TheVariants.{NoName, Unreadable}
use Rattle.proc_model.specs.CmpNam.{same_names}
use Rattle.proc_model.specs.Processes.{Processes, cells_at, regs_at, user_at}
use Rattle.proc_model.specs.ModuleLinks.{Entered, found_entry, module_at}
use Rattle.proc_model.specs.Program.{blocks_of_pages, most_pages, page_count}
use Rattle.proc_model.specs.PrsNam.{past_slash}
use Rattle.proc_model.specs.UserBytes.{d_of, user_bytes}
use Rattle.proc_model.specs.declared.proc_call.ProcCall.{ProcCall}
use Rattle.proc_model.specs.declared.proc_call.ProcCall.TheVariants as Call
use Rattle.time_rules.specs.CivilTime.{is_time_packet}
use Rattle.io_model.specs.Again.{path_number}
use Rattle.io_model.specs.Codes.{direction_of_call}
use Rattle.io_model.specs.Io.{OpenPath, open_path}
use Rattle.io_model.specs.Step.{Caller}
use Rattle.io_model.specs.declared.io_call.IoCall.{IoCall}
use Rattle.file_rules.specs.Files.{Files, file_in, place_of_target}
use Rattle.file_rules.specs.Load.{Loaded}
use Rattle.file_rules.specs.Program.{named_program}
use Rattle.file_rules.specs.ProgramFile.{ProgramFile}
use Rattle.lock_model.specs.declared.place.FilePlace.{FilePlace}
use Rattle.time_rules.specs.Packet.{packet_of}
use Rattle.time_rules.specs.declared.clock.TheConstants.{PACKET_BYTES}
use Rattle.time_rules.specs.declared.time_call.TimeCall.{TimeCall}
use Rattle.time_rules.specs.declared.time_call.TimeCall.TheVariants as Time
use Rattle.call_laws.specs.Causes.{HasNoByte, HasNoIoStatus, IsFull, IoBytesUnreadable, IoCallLacksMode, NamesNoPath, search_of}
use Rattle.file_laws.specs.LoadCauses.{LinkCause, StartCause, TestCause}

-- ---- a call on a terminal or a pipe

-- a read or a write of a path that was opened on a file or a directory that does not exist, as on no path of a run
pub record IsOnLostFile (call : IoCall) (caller : Caller) (files : Files) : Type 0 where
  pub moves : IsSome (direction_of_call call)
  pub opened : OpenPath
  pub names : open_path files.io caller.process.0 (path_number call caller.regs) ≡ Some opened
  pub place : FilePlace
  pub on : place_of_target opened.desc.target ≡ Some place
  pub lost : file_in files place ≡ None

-- why a call that is not on a file is refused, and changes nothing, by its number. A path list that it reads leads to a
-- terminal or a pipe, so the cause is not a name of it, a device or a directory
pub data DeviceCause (call : IoCall) (caller : Caller) (files : Files) (terms number : ℕ) : Type 0 where
  path_table_full : number ≡ E_PTHFUL → IsFull call caller files.io (length files.drives) terms
      → DeviceCause call caller files terms number
  bad_path_number : number ≡ E_BPNUM → NamesNoPath call caller files.io → DeviceCause call caller files terms number
  bad_mode : number ≡ E_BMODE → IoCallLacksMode call caller files.io → DeviceCause call caller files terms number
  bad_address : number ≡ E_BPADDR → search_of call ≡ None → IoBytesUnreadable call caller files.io
      → DeviceCause call caller files terms number
  no_status : number ≡ E_UNKSVC → HasNoIoStatus call caller.regs.b → DeviceCause call caller files terms number
  lost_file : number ≡ E_UNKSVC → IsOnLostFile call caller files → DeviceCause call caller files terms number
  not_ready : number ≡ E_NOTRDY → HasNoByte call caller files.io → DeviceCause call caller files terms number

-- ---- a call on processes and modules

-- the name that F$Link and F$UnLoad read at X, and F$PrsNam after one slash, or why there is none
abbrev pub name_read : ProcCall → Processes → ℕ → Option (Result (List ℕ) NameFault)
name_read Call.Link m p = Some (name_at (cells_at m p) (regs_at m p).x)
name_read Call.UnLoad m p = Some (name_at (cells_at m p) (regs_at m p).x)
name_read Call.PrsNam m p = Some (name_at (cells_at m p) (past_slash (cells_at m p) (regs_at m p).x))
name_read call m p = None

-- F$PrsNam reads a name, and there is no byte after it
pub record EndsAtGap (m : Processes) (p : ℕ) : Type 0 where
  pub name : List ℕ
  pub read : name_at (cells_at m p) (past_slash (cells_at m p) (regs_at m p).x) ≡ Ok name
  pub missing : user_cell (cells_at m p) (past_slash (cells_at m p) (regs_at m p).x + length name) ≡ None

-- 210: a byte that the call reads is in no named slot or past FFFF
abbrev pub MissesByte : ProcCall → Processes → ℕ → Type 0
MissesByte Call.PrsNam m p = (name_read Call.PrsNam m p ≡ Some (Err Unreadable)) ⊎ EndsAtGap m p
MissesByte Call.CmpNam m p = same_names (cells_at m p) (regs_at m p).x (regs_at m p).y (regs_at m p).b ≡ None
MissesByte Call.Crc m p =
    (user_bytes (cells_at m p) (regs_at m p).x (regs_at m p).y ≡ None)
    ⊎ (user_bytes (cells_at m p) (regs_at m p).u 3 ≡ None)
MissesByte call m p = name_read call m p ≡ Some (Err Unreadable)

-- 235: the bytes at the address are not a name, or the names that F$CmpNam compares differ
abbrev pub HasBadName : ProcCall → Processes → ℕ → Type 0
HasBadName Call.CmpNam m p = same_names (cells_at m p) (regs_at m p).x (regs_at m p).y (regs_at m p).b ≡ Some false
HasBadName call m p = name_read call m p ≡ Some (Err NoName)

-- the call finds this module, or none, by the name that it reads and the type and language in A
pub record FindsModule (call : ProcCall) (m : Processes) (p : ℕ) (found : Option Entered) : Type 0 where
  pub by_name : (call ≡ Call.Link) ⊎ (call ≡ Call.UnLoad)
  pub name : List ℕ
  pub read : name_read call m p ≡ Some (Ok name)
  pub is : found_entry m.memory.modules name (regs_at m p).a ≡ found

-- 221: no module has the name, or none is at the address in U
abbrev pub FindsNoModule : ProcCall → Processes → ℕ → Type 0
FindsNoModule Call.UnLink m p = module_at m.memory.modules (map_at m.memory p) (regs_at m p).u ≡ None
FindsNoModule call m p = FindsModule call m p None

-- the number of blocks that F$Mem asks for, and the number beyond those of the data area
abbrev pub blocks_asked : Processes → ℕ → ℕ
blocks_asked m p = blocks_of_pages (page_count (d_of (regs_at m p)))

abbrev pub blocks_more : Processes → ℕ → ℕ
blocks_more m p = blocks_asked m p - (map_at m.memory p).low

-- 207 of F$Mem: a data area has no more pages, or a slot after it is named or there are too few
abbrev pub HasNoSlots : Processes → ℕ → Type 0
HasNoSlots m p =
    (most_pages < page_count (d_of (regs_at m p)))
    ⊎ (is_free_run (map_at m.memory p) (map_at m.memory p).low (blocks_more m p) ≡ false)

-- an entered module is linked and started like the first one of a file that is in memory
abbrev pub in_memory : Processes → Entered → Loaded
in_memory m found = record { first = found; memory = m.memory }

abbrev pub no_file : ProgramFile
no_file = record { bytes = []; next = 0 }

-- the process that begins: a new one of F$Fork, if there is a number for it, or the caller of F$Chain
abbrev pub begins : ProcCall → Processes → ℕ → Option ℕ
begins Call.Fork m p = free_process m.records
begins Call.Chain m p = Some p
begins call m p = None

-- F$Fork and F$Chain
abbrev pub starts_program : ProcCall → Bool
starts_program Call.Fork = true
starts_program Call.Chain = true
starts_program call = false

-- why a call is refused, by the number; F$Fork and F$Chain if their registers name an entered module
pub data ProcCause (m : Processes) (p : ℕ) (call : ProcCall) (number : ℕ) : Type 0 where
  bad_address : number ≡ E_BPADDR → MissesByte call m p → ProcCause m p call number
  bad_name : number ≡ E_BNAM → HasBadName call m p → ProcCause m p call number
  no_module : number ≡ E_MNF → FindsNoModule call m p → ProcCause m p call number
  -- F$Link
  most_links : (found : Entered) → number ≡ E_MEMFUL → call ≡ Call.Link → FindsModule call m p (Some found)
      → has_most_links found.entry ≡ true → ProcCause m p call number
  not_linked : (found : Entered) → call ≡ Call.Link → FindsModule call m p (Some found)
      → LinkCause m p (in_memory m found) number → ProcCause m p call number
  -- F$Mem
  no_slots : number ≡ E_MEMFUL → call ≡ Call.Mem → HasNoSlots m p → ProcCause m p call number
  no_blocks : number ≡ E_NORAM → call ≡ Call.Mem → free_blocks m.memory < blocks_more m p → ProcCause m p call number
  -- F$Send and F$SPrior: the process in A does not live, or the user may not act on it
  not_reached : number ≡ E_IPRCID → (call ≡ Call.Send) ⊎ (call ≡ Call.SPrior)
      → is_reached m.records (user_at m p) (regs_at m p).a ≡ false → ProcCause m p call number
  -- F$Send
  pending : number ≡ E_USIGP → call ≡ Call.Send → (regs_at m p).b ≢ wake_signal
      → IsSome (record_at m.records (regs_at m p).a).signal → ProcCause m p call number
  -- F$Wait: no child lives, and none has ended
  no_child : number ≡ E_NOCHLD → call ≡ Call.Wait → has_child m.records p ≡ false
      → ended_child m.records p ≡ None → ProcCause m p call number
  -- F$Fork and F$Chain
  not_tested : starts_program call ≡ true → TestCause m p number → ProcCause m p call number
  not_started : (found : Entered) → starts_program call ≡ true → named_program m p ≡ Some found
      → StartCause m p (begins call m p) no_file (in_memory m found) number → ProcCause m p call number

-- ---- a call on the time

pub data TimeCause (m : Processes) (p : ℕ) (call : TimeCall) (number : ℕ) : Type 0 where
  no_packet : number ≡ E_BPADDR → user_bytes (cells_at m p) (regs_at m p).x PACKET_BYTES ≡ None
      → TimeCause m p call number
  no_time : (bytes : List ℕ) → number ≡ E_BADTIME → call ≡ Time.STime
      → user_bytes (cells_at m p) (regs_at m p).x PACKET_BYTES ≡ Some bytes
      → is_time_packet (packet_of bytes) ≡ false → TimeCause m p call number
