-- Why a call on files that is not a call on a terminal or a pipe is refused (System Programmer's Manual, "I/O service
-- requests"; OS-9 Technical Reference, Random Block File Manager), except for the fault of a drive.
use Rattle.std.specs.Prelude.{◌≡◌, ◌≢◌, ◌⊎◌, ℕ, ◌<◌, ◌≤◌, ◌||◌, ⊤, Bool, true, false, IsSome, Option, Some, None, Ok, Err, List, length, option_and_then, if◌then◌else◌}
use Rattle.os9_base.specs.declared.errors.TheConstants.{E_BPADDR, E_BPNAM, E_BPNUM, E_BMODE, E_CEF, E_DEADLK, E_EOF, E_FNA, E_FULL, E_LOCK, E_MNF, E_PNNF, E_PTHFUL, E_SHARE, E_SLF, E_UNKSVC}
use Rattle.os9_base.specs.declared.registers.Regs.{Regs}
use Rattle.device_table.specs.Names.{device_of}
use Rattle.device_table.specs.declared.devices.Dev.{Dev}
use Rattle.device_table.specs.declared.devices.Dev.TheVariants as Device
use Rattle.os9_base.specs.declared.name_fault.NameFault.TheVariants.{Unreadable, NoName}
use Rattle.proc_model.specs.UserBytes.{user_bytes}
use Rattle.io_model.specs.Path.{new_number}
use Rattle.rbf_model.specs.Volume.{DiskVolume}
use Rattle.rbf_model.specs.Walk.{WalkEnd, arrives, look_up, walk}
use Rattle.rbf_change.specs.Calls.{cluster_size, free_total}
use Rattle.rbf_change.specs.Contents.{written}
use Rattle.rbf_change.specs.Growth.{clusters_needed}
use Rattle.rbf_change.specs.Names.{may_change, may_delete}
use Rattle.rbf_change.specs.NewFiles.{entry_clusters, owns_file}
use Rattle.io_model.specs.Io.{open_path}
use Rattle.io_model.specs.Modes.{can_read, can_write, is_mode}
use Rattle.io_model.specs.PathList.{PathList, ends_in_dots, has_slash_behind_device}
use Rattle.io_model.specs.Write.{error_line}
use Rattle.io_model.specs.declared.status.TheConstants.{SS_EOF, SS_OPT, SS_READY, OPTION_BYTES}
use Rattle.file_rules.specs.Attempts.{file_step}
use Rattle.file_rules.specs.Change.{MayBeTooLong}
use Rattle.file_rules.specs.ChgDir.{may_go_to}
use Rattle.file_rules.specs.Create.{clusters_for}
use Rattle.file_rules.specs.Files.{Asker, Files, OpenFile, directory_of, volume_at}
use Rattle.file_rules.specs.Locking.{is_for_update, position_of, pending_request}
use Rattle.file_rules.specs.MakDir.{new_directory_size}
use Rattle.file_rules.specs.Open.{is_for_execution, may_open, says_directory}
use Rattle.file_rules.specs.Read.{read_start}
use Rattle.file_rules.specs.Seek.{long_of}
use Rattle.file_rules.specs.Sharing.{is_not_shared, is_open}
use Rattle.file_rules.specs.Status.{asked_bytes}
use Rattle.file_rules.specs.Step.{VolumeChange, changes, deed_of}
use Rattle.file_rules.specs.Route.{Found, Route, along, before_last, is_root, last_of, list_of, to_device, route_of, route_to_new}
use Rattle.file_rules.specs.Write.{line_moved}
use Rattle.file_rules.specs.declared.path_call.PathCall.{PathCall}
use Rattle.file_rules.specs.declared.path_call.PathCall.TheVariants as Call
use Rattle.lock_model.specs.declared.place.FilePlace.{FilePlace}
use Rattle.file_rules.specs.declared.status.TheConstants.{SS_ATTR, SS_FD, SS_LOCK, SS_POS, SS_SIZE, SS_TICKS}
use Rattle.file_laws.specs.Claims.{ClosesCycle, IsLockedOut, MadePathCall, NamesOpenFile}

-- ---- the list that it reads, and the route of the list

-- a call reads a path list
abbrev pub reads_list : PathCall → Bool
reads_list Call.Create = true
reads_list Call.Open = true
reads_list Call.MakDir = true
reads_list Call.ChgDir = true
reads_list Call.Delete = true
reads_list Call.DeletX = true
reads_list call = false

-- it makes what its list names; any other call names what exists
abbrev pub makes_new : PathCall → Bool
makes_new Call.Create = true
makes_new Call.MakDir = true
makes_new call = false

-- it deletes what its list names
abbrev pub deletes_name : PathCall → Bool
deletes_name Call.Delete = true
deletes_name Call.DeletX = true
deletes_name call = false

-- it walks for execution, by its mode
abbrev pub executes : PathCall → ℕ → Bool
executes Call.MakDir mode = false
executes Call.Delete mode = false
executes call mode = is_for_execution mode

-- the names that it walks along; a call that makes or deletes does so in the directory that it finds so
abbrev pub walked : PathCall → List (List ℕ) → List (List ℕ)
walked Call.Open names = names
walked Call.ChgDir names = names
walked call names = before_last names

abbrev pub route_in : MadePathCall → PathList → Route
route_in m list =
    if makes_new m.call then route_to_new m.asker m.files m.terms (executes m.call m.asker.caller.regs.a) list
    else route_of m.asker m.files m.terms (executes m.call m.asker.caller.regs.a) list

-- its list has this route
pub record ListHasRoute (m : MadePathCall) (route : Route) : Type 0 where
  pub reads : reads_list m.call ≡ true
  pub list : PathList
  pub read : list_of m.asker ≡ Ok list
  pub is : route_in m list ≡ route

-- the device at which a list starts, if the list names an existing one
abbrev pub device_in : MadePathCall → PathList → Option Dev
device_in m list = option_and_then (device_of (length m.files.drives) m.terms) list.device

-- a device that is not a drive
abbrev pub IsNoDrive : Dev → Type 0
IsNoDrive (Device.Drive drive) = ⊥
IsNoDrive (Device.Term terminal) = ⊤
IsNoDrive Device.Pipe = ⊤

-- why a list has no way, by the number
pub data LeadsNowhere (m : MadePathCall) (list : PathList) (number : ℕ) : Type 0 where
  -- the last name of a new file or directory is that of a directory itself or of the one above it
  dots : number ≡ E_BPNAM → makes_new m.call ≡ true → ends_in_dots list ≡ true → LeadsNowhere m list number
  -- the root of a drive is to be made
  root : number ≡ E_BPNAM → makes_new m.call ≡ true → is_root m.files m.terms list ≡ true → LeadsNowhere m list number
  slash : (device : Dev) → number ≡ E_BPNAM → device_in m list ≡ Some device → IsNoDrive device
      → has_slash_behind_device list ≡ true → LeadsNowhere m list number
  no_device : number ≡ E_MNF → IsSome list.device → device_in m list ≡ None → LeadsNowhere m list number
  not_mounted : (drive : ℕ) → number ≡ E_MNF → device_in m list ≡ Some (Device.Drive drive)
      → volume_at m.files drive ≡ None → LeadsNowhere m list number
  no_directory : number ≡ E_PNNF → list.device ≡ None
      → directory_of m.files m.asker.caller.process.0 (executes m.call m.asker.caller.regs.a) ≡ None
      → LeadsNowhere m list number

-- it walks along these names on a volume, with this end
pub record WalksOnVolume (m : MadePathCall) (names : List (List ℕ)) (place : FilePlace) (v : DiskVolume) (end : WalkEnd)
    : Type 0 where
  pub leads : ListHasRoute m (along place names)
  pub mounted : volume_at m.files place.drive ≡ Some v
  pub is : walk v.files m.asker.user (executes m.call m.asker.caller.regs.a) place.number (walked m.call names) ≡ end

-- it finds a file
pub record FindsNamedFile (m : MadePathCall) (names : List (List ℕ)) (found : Found) : Type 0 where
  pub start : ℕ
  pub walks : WalksOnVolume m names (record { drive = found.place.drive; number = start }) found.volume
      (arrives found.place.number)
  pub there : found.volume.files found.place.number ≡ Some found.file

-- it makes or deletes something, finds a directory for it, and this is the name in that directory
pub record FindsIn (m : MadePathCall) (found : Found) (name : List ℕ) : Type 0 where
  pub enters : (makes_new m.call || deletes_name m.call) ≡ true
  pub names : List (List ℕ)
  pub finds : FindsNamedFile m names found
  pub last : last_of names ≡ Some name

-- ---- the cause of each number

-- the list breaks off at a byte in no named slot, or the bytes that the call moves are not in named slots
abbrev pub FileBytesUnreadable : PathCall → Asker → Files → Type 0
FileBytesUnreadable Call.Read asker files = user_bytes asker.caller.cells asker.caller.regs.x asker.caller.regs.y ≡ None
FileBytesUnreadable Call.ReadLn asker files = user_bytes asker.caller.cells asker.caller.regs.x asker.caller.regs.y
    ≡ None
FileBytesUnreadable Call.Write asker files = user_bytes asker.caller.cells asker.caller.regs.x asker.caller.regs.y
    ≡ None
FileBytesUnreadable Call.WritLn asker files = line_moved asker (pending_request asker files) ≡ None
FileBytesUnreadable Call.GetStt asker files =
    (asker.caller.regs.b ≡ SS_OPT) × (user_bytes asker.caller.cells asker.caller.regs.x OPTION_BYTES ≡ None)
    ⊎ (asker.caller.regs.b ≡ SS_FD) × (user_bytes asker.caller.cells asker.caller.regs.x (asked_bytes asker) ≡ None)
FileBytesUnreadable call asker files = (reads_list call ≡ true) × (list_of asker ≡ Err Unreadable)

-- the mode of the call, or of its path, lacks the bits that the call needs
abbrev pub FileCallLacksMode : PathCall → Asker → OpenFile → Type 0
FileCallLacksMode Call.Read asker found = can_read found.opened.desc.mode ≡ false
FileCallLacksMode Call.ReadLn asker found = can_read found.opened.desc.mode ≡ false
FileCallLacksMode Call.Write asker found = can_write found.opened.desc.mode ≡ false
FileCallLacksMode Call.WritLn asker found = can_write found.opened.desc.mode ≡ false
FileCallLacksMode Call.PErr asker found = can_write found.opened.desc.mode ≡ false
FileCallLacksMode Call.SetStt asker found =
    (asker.caller.regs.b ≡ SS_SIZE) × (can_write found.opened.desc.mode ≡ false)
    ⊎ (asker.caller.regs.b ≡ SS_LOCK) × (is_for_update found.opened.desc.mode ≡ false)
FileCallLacksMode call asker found = ⊥

abbrev pub HasBadMode : PathCall → ℕ → Type 0
HasBadMode Call.Open mode = is_mode mode ≡ false
HasBadMode Call.ChgDir mode = is_mode mode ≡ false
HasBadMode Call.DeletX mode = is_mode mode ≡ false
HasBadMode Call.Create mode = can_write mode ≡ false
HasBadMode call mode = ⊥

-- the found file may not be used so: the file to open, or the new directory of a process
abbrev pub IsForbidden : PathCall → Asker → Found → Type 0
IsForbidden Call.Open asker found = may_open found.file asker.user asker.caller.regs.a ≡ false
IsForbidden Call.ChgDir asker found = may_go_to found.file asker.user asker.caller.regs.a ≡ false
IsForbidden call asker found = ⊥

-- the directory may not be changed; or a file with bit 7 in its attributes is to be made there; or the file with this
-- name there is to be deleted and may not be
abbrev pub IsForbiddenIn : MadePathCall → Found → List ℕ → Type 0
IsForbiddenIn m found name =
    (may_change found.file m.asker.user (executes m.call m.asker.caller.regs.a) ≡ false)
    ⊎ (m.call ≡ Call.Create) × (says_directory m.asker.caller.regs.b ≡ true)
    ⊎ (n : ℕ) × (deletes_name m.call ≡ true) × (look_up found.file.contents name ≡ Some n)
    × (may_delete (found.volume.files n) m.asker.user ≡ false)

-- the number of bytes of a new file
abbrev pub first_size : PathCall → ℕ
first_size Call.MakDir = new_directory_size
first_size call = 0

-- a new file and its entry have no room on the volume, or the entry has none in the segments of its directory
pub record HasNoRoom (m : MadePathCall) : Type 0 where
  pub makes : makes_new m.call ≡ true
  pub found : Found
  pub name : List ℕ
  pub finds : FindsIn m found name
  pub full : free_total found.volume < clusters_for found (first_size m.call)

pub record CallHasNoSegment (m : MadePathCall) : Type 0 where
  pub makes : makes_new m.call ≡ true
  pub found : Found
  pub name : List ℕ
  pub finds : FindsIn m found name
  pub needs : 0 < entry_clusters (cluster_size found.volume) found.file
  pub full : length found.file.segments ≡ 48

-- the size of a file after these bytes are written at the position of a call
abbrev pub size_written : Asker → Files → OpenFile → List ℕ → ℕ
size_written asker files found bytes =
    length (written found.file.contents (position_of asker files found) bytes)

-- the size that a call gives a file; a call that writes nothing gives none
abbrev pub Sizes : PathCall → Asker → Files → OpenFile → ℕ → Type 0
Sizes Call.Write asker files found size =
    (bytes : List ℕ) × (user_bytes asker.caller.cells asker.caller.regs.x asker.caller.regs.y ≡ Some bytes)
    × (0 < asker.caller.regs.y) × (size ≡ size_written asker files found bytes)
Sizes Call.WritLn asker files found size =
    (bytes : List ℕ) × (line_moved asker (pending_request asker files) ≡ Some bytes) × (0 < asker.caller.regs.y)
    × (size ≡ size_written asker files found bytes)
Sizes Call.PErr asker files found size = size ≡ size_written asker files found (error_line asker.caller.regs.b)
Sizes Call.SetStt asker files found size = (asker.caller.regs.b ≡ SS_SIZE) × (size ≡ long_of asker.caller.regs)
Sizes call asker files found size = ⊥

-- too few clusters are free for the size that a call gives a file
pub record CannotGrow (m : MadePathCall) : Type 0 where
  pub found : OpenFile
  pub names : NamesOpenFile m found
  pub size : ℕ
  pub asks : Sizes m.call m.asker m.files found size
  pub full : free_total found.volume < clusters_needed (cluster_size found.volume) found.file.segments size

-- the call changes a volume, and a list of segments has no place for a chosen cluster
pub record FindsNoSegment (m : MadePathCall) : Type 0 where
  pub it : VolumeChange
  pub is : deed_of (file_step m.call m.asker m.files m.terms) m.files ≡ changes it
  pub v : DiskVolume
  pub mounted : volume_at m.files it.drive ≡ Some v
  pub full : MayBeTooLong it.change v

-- the call takes at least one byte from the position on, or asks whether there is one
abbrev pub NeedsByte : PathCall → Regs → Type 0
NeedsByte Call.Read regs = 0 < regs.y
NeedsByte Call.ReadLn regs = 0 < regs.y
NeedsByte Call.GetStt regs = regs.b ≡ SS_EOF
NeedsByte call regs = ⊥

-- the position from which the call takes bytes of a file; a further attempt of a read begins at that of the first one
abbrev pub first_byte : PathCall → Asker → Files → OpenFile → ℕ
first_byte Call.Read asker files found = read_start asker files found
first_byte Call.ReadLn asker files found = read_start asker files found
first_byte call asker files found = found.opened.desc.at

-- the call has no status with this code
abbrev pub HasNoFileStatus : PathCall → ℕ → Type 0
HasNoFileStatus Call.GetStt code =
    (code ≢ SS_OPT) × (code ≢ SS_READY) × (code ≢ SS_SIZE) × (code ≢ SS_POS) × (code ≢ SS_EOF) × (code ≢ SS_FD)
HasNoFileStatus Call.SetStt code = (code ≢ SS_SIZE) × (code ≢ SS_TICKS) × (code ≢ SS_LOCK) × (code ≢ SS_ATTR)
HasNoFileStatus call code = ⊥

-- the cause of a refusal, by its number
pub data FileCause (m : MadePathCall) (number : ℕ) : Type 0 where
  bad_address : number ≡ E_BPADDR → FileBytesUnreadable m.call m.asker m.files → FileCause m number
  bad_mode : number ≡ E_BMODE → HasBadMode m.call m.asker.caller.regs.a → FileCause m number
  path_mode : (found : OpenFile) → number ≡ E_BMODE → NamesOpenFile m found → FileCallLacksMode m.call m.asker found
      → FileCause m number
  bad_number : number ≡ E_BPNUM → m.call ≡ Call.Seek
      → open_path m.files.io m.asker.caller.process.0 m.asker.caller.regs.a ≡ None → FileCause m number
  no_name : number ≡ E_BPNAM → reads_list m.call ≡ true → list_of m.asker ≡ Err NoName → FileCause m number
  no_last : (names : List (List ℕ)) (place : FilePlace) → number ≡ E_BPNAM → makes_new m.call ≡ true
      → ListHasRoute m (along place names) → last_of names ≡ None → FileCause m number
  leads_nowhere : (list : PathList) → reads_list m.call ≡ true → list_of m.asker ≡ Ok list
      → LeadsNowhere m list number → FileCause m number
  no_volume : (names : List (List ℕ)) (place : FilePlace) → number ≡ E_MNF → ListHasRoute m (along place names)
      → volume_at m.files place.drive ≡ None → FileCause m number
  a_device : number ≡ E_FNA → m.call ≢ Call.Open → m.call ≢ Call.Create → ListHasRoute m to_device → FileCause m number
  finds_nothing : (names : List (List ℕ)) (place : FilePlace) (v : DiskVolume) → number ≡ E_PNNF
      → WalksOnVolume m names place v WalkEnd.not_found → FileCause m number
  not_there : (names : List (List ℕ)) (place : FilePlace) (v : DiskVolume) (n : ℕ) → number ≡ E_PNNF
      → WalksOnVolume m names place v (arrives n) → v.files n ≡ None → FileCause m number
  not_in : (found : Found) (name : List ℕ) → number ≡ E_PNNF → deletes_name m.call ≡ true → FindsIn m found name
      → look_up found.file.contents name ≡ None → FileCause m number
  may_not_pass : (names : List (List ℕ)) (place : FilePlace) (v : DiskVolume) → number ≡ E_FNA
      → WalksOnVolume m names place v WalkEnd.not_allowed → FileCause m number
  forbidden : (names : List (List ℕ)) (found : Found) → number ≡ E_FNA → FindsNamedFile m names found
      → IsForbidden m.call m.asker found → FileCause m number
  forbidden_in : (found : Found) (name : List ℕ) → number ≡ E_FNA → FindsIn m found name
      → IsForbiddenIn m found name → FileCause m number
  a_root : (names : List (List ℕ)) (place : FilePlace) → number ≡ E_FNA → deletes_name m.call ≡ true
      → ListHasRoute m (along place names) → last_of names ≡ None → FileCause m number
  not_owned : (found : OpenFile) → number ≡ E_FNA → m.call ≡ Call.SetStt → m.asker.caller.regs.b ≡ SS_ATTR
      → NamesOpenFile m found → owns_file found.file m.asker.user ≡ false → FileCause m number
  there_already : (found : Found) (name : List ℕ) → number ≡ E_CEF → makes_new m.call ≡ true → FindsIn m found name
      → IsSome (look_up found.file.contents name) → FileCause m number
  not_shared : (names : List (List ℕ)) (found : Found) → number ≡ E_SHARE → m.call ≡ Call.Open
      → FindsNamedFile m names found
      → is_not_shared m.files found m.asker.caller.regs.a ≡ true → FileCause m number
  is_used : (found : Found) (name : List ℕ) (n : ℕ) → number ≡ E_SHARE → deletes_name m.call ≡ true
      → FindsIn m found name → look_up found.file.contents name ≡ Some n
      → is_open m.files (record { drive = found.place.drive; number = n }) ≡ true → FileCause m number
  no_number : number ≡ E_PTHFUL → (m.call ≡ Call.Open) ⊎ (m.call ≡ Call.Create)
      → new_number m.files.io.paths m.asker.caller.process.0 ≡ None → FileCause m number
  no_room : number ≡ E_FULL → HasNoRoom m → FileCause m number
  cannot_grow : number ≡ E_FULL → CannotGrow m → FileCause m number
  no_segment : number ≡ E_SLF → CallHasNoSegment m → FileCause m number
  finds_no_segment : number ≡ E_SLF → FindsNoSegment m → FileCause m number
  end_of_file : (found : OpenFile) → number ≡ E_EOF → NeedsByte m.call m.asker.caller.regs → NamesOpenFile m found
      → length found.file.contents ≤ first_byte m.call m.asker m.files found → FileCause m number
  -- a lock of another process conflicts with its request, which does not wait, or waits no longer
  locked : number ≡ E_LOCK → IsLockedOut m → FileCause m number
  -- its request would wait, and that would close a cycle of waits
  deadlock : number ≡ E_DEADLK → ClosesCycle m → FileCause m number
  no_status : (found : OpenFile) → number ≡ E_UNKSVC → NamesOpenFile m found
      → HasNoFileStatus m.call m.asker.caller.regs.b
      → FileCause m number
