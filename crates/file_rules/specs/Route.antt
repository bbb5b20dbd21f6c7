-- The route of a path list to a file: where it starts, and the walk from there (System Programmer's Manual, "Path
-- lists"; Level Two manual, device descriptors). It starts at the root of the drive that the list names. Without a
-- device it starts at the execution directory of the process if the mode is for execution, else at its data directory.
-- Errors, in this order: E$BPAddr, E$BMode (of the call's mode), E$BPNam, E$MNF; then on the drive E$FNA and E$PNNF at
-- the first name that fails.
use Rattle.std.specs.Prelude.{◌≡◌, ℕ, ◌-◌, ◌==◌, ◌&&◌, ◌||◌, Bool, true, false, Option, Some, None, Result, Ok, Err, List, length, take, slice_get, if◌then◌else◌}
use Rattle.std.specs.Option.{option_map_or}
use Rattle.os9_base.specs.declared.errors.TheConstants.{E_BPADDR, E_BPNAM, E_MNF, E_FNA, E_PNNF}
use Rattle.device_table.specs.Names.{device_of}
use Rattle.device_table.specs.declared.devices.Dev.{Dev}
use Rattle.device_table.specs.declared.devices.Dev.TheVariants.{Drive, Term, Pipe}
use Rattle.os9_base.specs.declared.name_fault.NameFault.{NameFault}
use Rattle.os9_base.specs.declared.name_fault.NameFault.TheVariants.{Unreadable, NoName}
use Rattle.rbf_model.specs.File.{DiskFile}
use Rattle.rbf_model.specs.Volume.{DiskVolume}
use Rattle.rbf_model.specs.Walk.{WalkEnd, arrives, not_allowed, not_found, walk}
use Rattle.rbf_change.specs.Calls.{shape}
use Rattle.io_model.specs.PathList.{PathList, path_list, has_slash_behind_device, ends_in_dots}
use Rattle.file_rules.specs.Files.{Files, Asker, directory_of, volume_at}
use Rattle.file_rules.specs.Step.{Step, refused, reaches, needs}
use Rattle.lock_model.specs.declared.place.FilePlace.{FilePlace}

-- ---- where it starts

pub data Route : Type 0 where
  -- along these names from a directory
  along : FilePlace → List (List ℕ) → Route
  -- to a terminal or a pipe
  to_device : Route
  -- nowhere: the call is refused with this number
  nowhere : ℕ → Route

-- a list that starts at a process's directory; without a directory nothing is found
abbrev pub route_from : Option FilePlace → List (List ℕ) → Route
route_from None names = nowhere E_PNNF
route_from (Some place) names = along place names

-- the root of a drive's volume
abbrev pub root_of : ℕ → DiskVolume → FilePlace
root_of drive v = record { drive = drive; number = (shape v).root }

-- a list that starts at a drive, with a volume or without
abbrev pub route_on_drive : ℕ → List (List ℕ) → Option DiskVolume → Route
route_on_drive drive names None = nowhere E_MNF
route_on_drive drive names (Some v) = along (root_of drive v) names

-- no slash may follow a terminal or a pipe
abbrev pub to_device_of : PathList → Route
to_device_of list = if has_slash_behind_device list then nowhere E_BPNAM else to_device

-- a list that starts at a device
abbrev pub route_of_device : Files → PathList → Option Dev → Route
route_of_device files list None = nowhere E_MNF
route_of_device files list (Some (Drive drive)) = route_on_drive drive list.names (volume_at files drive)
route_of_device files list (Some (Term terminal)) = to_device_of list
route_of_device files list (Some Pipe) = to_device_of list

-- a list on a machine with `terms` terminals, by the name of its device
abbrev pub route_by : Asker → Files → ℕ → Bool → PathList → Option (List ℕ) → Route
route_by asker files terms execute list None =
    route_from (directory_of files asker.caller.process.0 execute) list.names
route_by asker files terms execute list (Some device) =
    route_of_device files list (device_of (length files.drives) terms device)

abbrev pub route_of : Asker → Files → ℕ → Bool → PathList → Route
route_of asker files terms execute list = route_by asker files terms execute list list.device

-- the device is a drive, with a volume or without
abbrev pub is_drive : Option Dev → Bool
is_drive None = false
is_drive (Some (Drive drive)) = true
is_drive (Some (Term terminal)) = false
is_drive (Some Pipe) = false

-- the list is the root of a drive
abbrev pub is_root : Files → ℕ → PathList → Bool
is_root files terms list =
    (length list.names == 0)
    && option_map_or (λ device. is_drive (device_of (length files.drives) terms device)) list.device false

-- the route to a place for a new file: nothing is made at a root, or with the name of a directory itself or of the one
-- above it
abbrev pub route_to_new : Asker → Files → ℕ → Bool → PathList → Route
route_to_new asker files terms execute list =
    if ends_in_dots list || is_root files terms list then nowhere E_BPNAM
    else route_of asker files terms execute list

-- ---- the list

-- it goes on with the path list that was read; a list that breaks off is refused before `test`, a list without a
-- required name after it
abbrev pub reads_list : {E : Type 0} → Result PathList NameFault → (Step E → Step E) → (PathList → Step E) → Step E
reads_list (Ok list) test next = test (next list)
reads_list (Err Unreadable) test next = refused E_BPADDR
reads_list (Err NoName) test next = test (refused E_BPNAM)

-- the list at X of the calling process
abbrev pub list_of : Asker → Result PathList NameFault
list_of asker = path_list asker.caller.cells asker.caller.regs.x

-- ---- the walk

-- a found file, on the volume of its drive
pub record Found : Type 0 where
  pub place : FilePlace
  pub volume : DiskVolume
  pub file : DiskFile

-- a found file is the one at this place
pub record IsFoundAt (files : Files) (place : FilePlace) (found : Found) : Type 0 where
  pub place_is : found.place ≡ place
  pub volume_is : volume_at files place.drive ≡ Some found.volume
  pub file_is : found.volume.files place.number ≡ Some found.file

-- it goes on with the file of a number; a walk ends at files only
abbrev pub finds : {E : Type 0} → ℕ → DiskVolume → ℕ → (Found → Step E) → Step E
finds drive v n next =
    needs (v.files n) E_PNNF
    (λ file. next (record { place = record { drive = drive; number = n }; volume = v; file = file }))

-- it goes on from the end of a walk on a volume
abbrev pub walk_ends : {E : Type 0} → ℕ → DiskVolume → WalkEnd → (Found → Step E) → Step E
walk_ends drive v (arrives n) next = finds drive v n next
walk_ends drive v not_allowed next = refused E_FNA
walk_ends drive v not_found next = refused E_PNNF

-- it walks along names on the volume of a drive, for a user and for execution or not, and goes on with the file
abbrev pub walks : {E : Type 0} → Asker → Files → Bool → FilePlace → List (List ℕ) → (Found → Step E) → Step E
walks asker files execute from names next =
    needs (volume_at files from.drive) E_MNF
    (λ v. reaches from.drive
    (walk_ends from.drive v (walk v.files asker.user execute from.number names) next))

-- the last of some names, if any, and those before it
abbrev pub last_of : List (List ℕ) → Option (List ℕ)
last_of names = slice_get names (length names - 1)

abbrev pub before_last : List (List ℕ) → List (List ℕ)
before_last names = take (length names - 1) names
