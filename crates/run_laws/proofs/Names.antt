-- The names of a path list have 29 characters at most.
use Rattle.std.proofs.Common.{◌≡◌, ℕ, zero, suc, ◌+◌, ◌-◌, ◌≤◌, ◌==◌, Bool, true, false, Option, Some, None, Result, Ok, Err, List, [], ◌∷◌, length, slice_get, refl, subst, leb-true}
use Rattle.std.specs.Prelude.{◌&&◌, ◌||◌, if◌then◌else◌, nat_le}
use Rattle.std.specs.Option.{option_map_or}
use Rattle.std.proofs.lemmas.Bool.{and_parts}
use Rattle.std.proofs.lemmas.Option.{none-some, same_Some}
use Rattle.os9_base.specs.Cells.{Cells}
use Rattle.os9_base.specs.Name.{name_run}
use Rattle.os9_base.specs.declared.errors.TheConstants.{E_BPNAM}
use Rattle.proc_model.specs.Program.{slash}
use Rattle.device_table.specs.Names.{device_of}
use Rattle.device_table.specs.declared.devices.Dev.{Dev}
use Rattle.device_table.specs.declared.devices.Dev.TheVariants.{Drive, Pipe, Term}
use Rattle.os9_base.specs.UserNames.{name_at, name_in, run_bytes, user_cell}
use Rattle.os9_base.specs.declared.name_fault.NameFault.{NameFault}
use Rattle.os9_base.specs.declared.name_fault.NameFault.TheVariants.{NoName, Unreadable}
use Rattle.rbf_model.specs.Volume.{DiskVolume}
use Rattle.io_model.specs.PathList.{Behind, Names, PathList, a_slash, another, behind, device_list, ends_in_dots, from_device, has_slash_behind_device, list_with, name_before, names_at, names_behind, names_from, names_with, nothing, path_list, relative_list, unreadable}
use Rattle.file_rules.specs.Files.{Asker, Files, directory_of, volume_at}
use Rattle.file_rules.specs.Route.{Route, along, is_root, last_of, list_of, nowhere, to_device, route_by, route_from, route_of, route_of_device, route_on_drive, route_to_new}
use Rattle.lock_model.specs.declared.place.FilePlace.{FilePlace}

-- ---- one name

abbrev ShortName : Result (List ℕ) NameFault → Type 0
ShortName (Ok name) = length name ≤ 29
ShortName (Err fault) = Unit {0}

short-in : (bytes : List ℕ) → ShortName (name_in bytes)
short-in bytes = by_test (nat_le 1 (length (name_run bytes)) && nat_le (length (name_run bytes)) 29) refl
  where
    by_test : (t : Bool) → (nat_le 1 (length (name_run bytes)) && nat_le (length (name_run bytes)) 29) ≡ t → ShortName (option_map_or Ok (if t then Some (name_run bytes) else None) (Err NoName))
    by_test true is =
        leb-true (length (name_run bytes)) 29 (and_parts (nat_le 1 (length (name_run bytes))) (nat_le (length (name_run bytes)) 29) is).1
    by_test false is = tt

short-name : (cells : Cells) (at : ℕ) → ShortName (name_at cells at)
short-name cells at = by_run (run_bytes cells at 30)
  where
    by_run : (run : Option (List ℕ)) → ShortName (option_map_or name_in run (Err Unreadable))
    by_run None = tt
    by_run (Some bytes) = short-in bytes

-- ---- names one after another

abbrev pub AreShort : List (List ℕ) → Type 0
AreShort [] = Unit {0}
AreShort (name ∷ names) = (length name ≤ 29) × AreShort names

abbrev ShortNames : Result Names NameFault → Type 0
ShortNames (Ok found) = AreShort found.names
ShortNames (Err fault) = Unit {0}

short-before : (name : List ℕ) (rest : Result Names NameFault) → length name ≤ 29 → ShortNames rest → ShortNames (name_before name rest)
short-before name (Ok rest) short shorts = (short, shorts)
short-before name (Err fault) short shorts = tt

short-with : (rest : ℕ → Result Names NameFault) (name : List ℕ) (next : ℕ) (b : Behind) → length name ≤ 29 → ((at : ℕ) → ShortNames (rest at)) → ShortNames (names_with rest name next b)
short-with rest name next another short shorts = short-before name (rest (next + 1)) short (shorts (next + 1))
short-with rest name next a_slash short shorts = (short, tt)
short-with rest name next nothing short shorts = (short, tt)
short-with rest name next unreadable short shorts = tt

short-behind : (rest : ℕ → Result Names NameFault) (cells : Cells) (at : ℕ) (name : Result (List ℕ) NameFault) → ShortName name → ((at : ℕ) → ShortNames (rest at))
    → ShortNames (names_behind rest cells at name)
short-behind rest cells at (Ok name) short shorts =
    short-with rest name (at + length name) (behind cells (at + length name)) short shorts
short-behind rest cells at (Err fault) short shorts = tt

short-names : (cells : Cells) (at left : ℕ) → ShortNames (names_at cells at left)
short-names cells at zero = tt
short-names cells at (suc left) =
    short-behind (λ next. names_at cells next left) cells at (name_at cells at) (short-name cells at) (λ next. short-names cells next left)

-- ---- a path list

abbrev ShortList : Result PathList NameFault → Type 0
ShortList (Ok list) = AreShort list.names
ShortList (Err fault) = Unit {0}

short-device : (found : Result Names NameFault) → ShortNames found → ShortList (device_list found)
short-device (Ok found) short = by_names found.names short
  where
    by_names : (names : List (List ℕ)) → AreShort names → ShortList (from_device names found)
    by_names [] short = tt
    by_names (device ∷ names) short = short.1
short-device (Err fault) short = tt

short-relative : (found : Result Names NameFault) → ShortNames found → ShortList (relative_list found)
short-relative (Ok found) short = short
short-relative (Err fault) short = tt

short-list : (cells : Cells) (at : ℕ) → ShortList (path_list cells at)
short-list cells at = by_byte (user_cell cells at)
  where
    by_slash : (behind_slash : Bool) → ShortList (if behind_slash then device_list (names_from cells (at + 1)) else relative_list (names_from cells at))
    by_slash true = short-device (names_from cells (at + 1)) (short-names cells (at + 1) 65536)
    by_slash false = short-relative (names_from cells at) (short-names cells at 65536)

    by_byte : (byte : Option ℕ) → ShortList (list_with cells at byte)
    by_byte None = tt
    by_byte (Some byte) = by_slash (byte == slash)

pub read-short : (asker : Asker) (list : PathList) → list_of asker ≡ Ok list → AreShort list.names
read-short asker list is = subst ShortList is (short-list asker.caller.cells asker.caller.regs.x)

short-at : (names : List (List ℕ)) (i : ℕ) (name : List ℕ) → AreShort names → slice_get names i ≡ Some name → length name ≤ 29
short-at [] i name short at = absurd (none-some name at)
short-at (x ∷ names) zero name short at = subst (λ (name : List ℕ). length name ≤ 29) (same_Some x name at) short.0
short-at (x ∷ names) (suc i) name short at = short-at names i name short.1 at

pub last-short : (names : List (List ℕ)) (name : List ℕ) → AreShort names → last_of names ≡ Some name → length name ≤ 29
last-short names name short is = short-at names (length names - 1) name short is

-- ---- the way along it

abbrev pub WayShort : Route → Type 0
WayShort (along from names) = AreShort names
WayShort to_device = Unit {0}
WayShort (nowhere number) = Unit {0}

module _ (asker : Asker) (files : Files) (terms : ℕ) (execute : Bool) (list : PathList) (short : AreShort list.names) where
  from-short : (place : Option FilePlace) → WayShort (route_from place list.names)
  from-short None = tt
  from-short (Some place) = short

  drive-short : (drive : ℕ) (volume : Option DiskVolume) → WayShort (route_on_drive drive list.names volume)
  drive-short drive None = tt
  drive-short drive (Some v) = short

  none-short : (behind_device : Bool) → WayShort (if behind_device then nowhere E_BPNAM else to_device)
  none-short true = tt
  none-short false = tt

  device-short : (device : Option Dev) → WayShort (route_of_device files list device)
  device-short None = tt
  device-short (Some (Drive drive)) = drive-short drive (volume_at files drive)
  device-short (Some (Term terminal)) = none-short (has_slash_behind_device list)
  device-short (Some Pipe) = none-short (has_slash_behind_device list)

  by-short : (device : Option (List ℕ)) → WayShort (route_by asker files terms execute list device)
  by-short None = from-short (directory_of files asker.caller.process.0 execute)
  by-short (Some device) = device-short (device_of (length files.drives) terms device)

  pub way-short : WayShort (route_to_new asker files terms execute list)
  way-short = by_root (ends_in_dots list || is_root files terms list)
    where
      by_root : (root : Bool) → WayShort (if root then nowhere E_BPNAM else route_of asker files terms execute list)
      by_root true = tt
      by_root false = by-short list.device
