-- Why a call that is on no file is refused: what a path list that leads to a terminal or a pipe, and a number that names
-- no file, leave of the causes that terminals and pipes have.
use Rattle.std.proofs.Common.{◌≡◌, ◌⊎◌, ℕ, Bool, true, false, Option, Some, None, Result, Ok, Err, List, length, refl, sym, ap, ◌∙◌, subst, inl, inr}
use Rattle.std.specs.Prelude.{IsSome, is_some, option_and_then, option_map, if◌then◌else◌}
use Rattle.std.proofs.lemmas.Bool.{false≢true}
use Rattle.std.proofs.lemmas.Option.{none-some, same_Some}
use Rattle.file_laws.specs.Causes.{IsNoDrive}
use Rattle.os9_base.specs.declared.errors.TheConstants.{E_BPADDR, E_BPNAM}
use Rattle.device_table.specs.Names.{device_of}
use Rattle.device_table.specs.declared.devices.Dev.{Dev}
use Rattle.device_table.specs.declared.devices.Dev.TheVariants.{Drive, Term, Pipe}
use Rattle.os9_base.specs.declared.name_fault.NameFault.{NameFault}
use Rattle.io_model.specs.declared.path.Target.{Target}
use Rattle.rbf_model.specs.File.{DiskFile}
use Rattle.rbf_model.specs.Volume.{DiskVolume}
use Rattle.io_model.specs.Again.{path_number}
use Rattle.io_model.specs.Codes.{direction_of_call}
use Rattle.io_model.specs.Io.{OpenPath}
use Rattle.io_model.specs.Lead.{Search, a_new_place, lead_by_device, lead_of, makes_dots, nowhere, on_device, on_drive, to_terminal, to_pipe, what_is_there}
use Rattle.io_model.specs.PathList.{PathList, has_slash_behind_device}
use Rattle.io_model.specs.Step.{Caller}
use Rattle.io_model.specs.declared.io_call.IoCall.{IoCall}
use Rattle.io_model.specs.declared.io_call.IoCall.TheVariants as Device
use Rattle.file_rules.specs.Files.{Asker, Files, OpenFile, file_in, open_file, open_file_at, place_of_target, volume_at}
use Rattle.file_rules.specs.Open.{is_for_execution}
use Rattle.file_rules.specs.Route.{list_of}
use Rattle.file_rules.specs.declared.path_call.PathCall.{PathCall}
use Rattle.file_rules.specs.declared.path_call.PathCall.TheVariants as Call
use Rattle.lock_model.specs.declared.place.FilePlace.{FilePlace}
use Rattle.file_laws.specs.Kinds.{AreKinds, IsOnTarget}
use Rattle.file_laws.proofs.Named.{path-desc}
use Rattle.call_laws.specs.Causes.{HasNoDevice, IsBadName, IsOn, IsMoveOnDiskPath, IoBytesUnreadable, ListBreaksOff, SearchesPathList, StatedCause, device_at, search_of}
use Rattle.call_laws.specs.Causes as Stated
use Rattle.file_laws.specs.Devices.{IsOnNoFile, LeadsToDevice, device_call}
use Rattle.file_laws.proofs.TouchNamed.{create-leads, open-leads}
use Rattle.call_laws.specs.CallCauses.{DeviceCause, IsOnLostFile, bad_address, bad_mode, bad_path_number, lost_file, no_status, not_ready, path_table_full}

-- ---- a list that leads to a terminal or a pipe

-- a list that was read, and why one is not
abbrev a_list : PathList → Result PathList NameFault
a_list list = Ok list

same-list : (one other : PathList) → a_list one ≡ a_list other → one ≡ other
same-list one other is = cc

no-fault : (list : PathList) (fault : NameFault) → a_list list ≡ Err fault → ⊥
no-fault list fault is = cc

module _ (search : Search) (drives terms : ℕ) (list : PathList) (leads : LeadsToDevice (lead_of search drives terms list)) where
  no-dots : makes_dots search list ≡ true → ⊥
  no-dots dots =
      subst (λ (dots : Bool). LeadsToDevice (if dots then nowhere E_BPNAM else lead_by_device search drives terms list list.device)) dots leads

  device-leads : LeadsToDevice (on_device search list (device_at drives terms list))
  device-leads = by_name list.device (by_dots (makes_dots search list) leads)
    where
      by_dots : (dots : Bool) → LeadsToDevice (if dots then nowhere E_BPNAM else lead_by_device search drives terms
          list list.device) → LeadsToDevice (lead_by_device search drives terms list list.device)
      by_dots true never = absurd never
      by_dots false leads = leads

      by_name : (name : Option (List ℕ)) → LeadsToDevice (lead_by_device search drives terms list name) → LeadsToDevice (on_device search list (option_and_then (device_of drives terms) name))
      by_name None never = absurd never
      by_name (Some name) leads = leads

  leads-at : (device : Option Dev) → device_at drives terms list ≡ device → LeadsToDevice (on_device search list device)
  leads-at device is = subst (λ (device : Option Dev). LeadsToDevice (on_device search list device)) is device-leads

  is-there : device_at drives terms list ≡ None → ⊥
  is-there none = leads-at None none

  is-no-drive : (drive : ℕ) → device_at drives terms list ≡ Some (Drive drive) → ⊥
  is-no-drive drive is = by_search search (leads-at (Some (Drive drive)) is)
    where
      by_search : (search : Search) → LeadsToDevice (on_drive search list) → ⊥
      by_search what_is_there never = never
      by_search a_new_place never = never

  no-slash : (device : Dev) → device_at drives terms list ≡ Some device → IsNoDrive device → has_slash_behind_device list ≡ true → ⊥
  no-slash (Drive drive) is other slash = other
  no-slash (Term terminal) is other slash =
      subst (λ (slash : Bool). LeadsToDevice (if slash then nowhere E_BPNAM else to_terminal terminal)) slash (leads-at (Some (Term terminal)) is)
  no-slash Pipe is other slash =
      subst (λ (slash : Bool). LeadsToDevice (if slash then nowhere E_BPNAM else to_pipe)) slash (leads-at (Some Pipe) is)

-- ---- what the call reads

module _ (asker : Asker) (files : Files) (terms : ℕ) where
  -- the call reads a list, which leads to a terminal or a pipe
  record Listed (search : Search) : Type 0 where
    pub list : PathList
    pub read : list_of asker ≡ Ok list
    pub leads : LeadsToDevice (lead_of search (length files.drives) terms list)

  -- a call by a number reads none
  unlisted : (other device : IoCall) → Some other ≡ Some device → search_of other ≡ None → (search : Search) → search_of device ≡ Some search → Listed search
  unlisted other device is none search searches =
      absurd (none-some search (sym none ∙ ap search_of (same_Some other device is) ∙ searches))

  listed-as : (other device : IoCall) (looks search : Search) → Some other ≡ Some device → search_of other ≡ Some looks → search_of device ≡ Some search → Listed looks → Listed search
  listed-as other device looks search is looks_is searches it =
      subst Listed (same_Some looks search (sym looks_is ∙ ap search_of (same_Some other device is) ∙ searches)) it

  listed : (call : PathCall) (device : IoCall) → device_call call ≡ Some device → IsOnNoFile call asker files terms → (search : Search) → search_of device ≡ Some search → Listed search
  listed Call.Open device is (list, read, way) search searches =
      listed-as Device.Open device what_is_there search is refl searches (record { list = list; read = read; leads = open-leads asker files terms (is_for_execution asker.caller.regs.a) list way })
  listed Call.Create device is (list, read, way) search searches =
      listed-as Device.Create device a_new_place search is refl searches (record { list = list; read = read; leads = create-leads asker files terms (is_for_execution asker.caller.regs.a) list way })
  listed Call.Dup device is none search searches = unlisted Device.Dup device is refl search searches
  listed Call.Close device is none search searches = unlisted Device.Close device is refl search searches
  listed Call.Read device is none search searches = unlisted Device.Read device is refl search searches
  listed Call.Write device is none search searches = unlisted Device.Write device is refl search searches
  listed Call.ReadLn device is none search searches = unlisted Device.ReadLn device is refl search searches
  listed Call.WritLn device is none search searches = unlisted Device.WritLn device is refl search searches
  listed Call.GetStt device is none search searches = unlisted Device.GetStt device is refl search searches
  listed Call.SetStt device is none search searches = unlisted Device.SetStt device is refl search searches
  listed Call.PErr device is none search searches = unlisted Device.PErr device is refl search searches
  listed Call.MakDir device is none search searches = absurd none
  listed Call.ChgDir device is none search searches = absurd none
  listed Call.Delete device is none search searches = absurd none
  listed Call.DeletX device is none search searches = absurd none
  listed Call.Seek device is none search searches = absurd (none-some device is)

  -- the number of a path that bytes move on names no file
  abbrev NoFile : IoCall → Type 0
  NoFile device = open_file files asker.caller.process.0 (path_number device asker.caller.regs) ≡ None

  unmoving : (other device : IoCall) → Some other ≡ Some device → direction_of_call other ≡ None → IsSome (direction_of_call device) → NoFile device
  unmoving other device is none moves =
      absurd (false≢true (sym (ap is_some none) ∙ ap (λ (call : IoCall). is_some (direction_of_call call)) (same_Some other device is) ∙ moves))

  moves-on-none : (call : PathCall) (device : IoCall) → device_call call ≡ Some device → IsOnNoFile call asker files terms → IsSome (direction_of_call device) → NoFile device
  moves-on-none Call.Read device is none moves = subst NoFile (same_Some Device.Read device is) none
  moves-on-none Call.Write device is none moves = subst NoFile (same_Some Device.Write device is) none
  moves-on-none Call.ReadLn device is none moves = subst NoFile (same_Some Device.ReadLn device is) none
  moves-on-none Call.WritLn device is none moves = subst NoFile (same_Some Device.WritLn device is) none
  moves-on-none Call.PErr device is none moves = subst NoFile (same_Some Device.PErr device is) none
  moves-on-none Call.Dup device is none moves = unmoving Device.Dup device is refl moves
  moves-on-none Call.Close device is none moves = unmoving Device.Close device is refl moves
  moves-on-none Call.Open device is none moves = unmoving Device.Open device is refl moves
  moves-on-none Call.Create device is none moves = unmoving Device.Create device is refl moves
  moves-on-none Call.GetStt device is none moves = unmoving Device.GetStt device is refl moves
  moves-on-none Call.SetStt device is none moves = unmoving Device.SetStt device is refl moves
  moves-on-none Call.MakDir device is none moves = absurd none
  moves-on-none Call.ChgDir device is none moves = absurd none
  moves-on-none Call.Delete device is none moves = absurd none
  moves-on-none Call.DeletX device is none moves = absurd none
  moves-on-none Call.Seek device is none moves = absurd (none-some device is)

-- ---- a path on a file that is not there

abbrev file_with : OpenPath → FilePlace → DiskVolume → DiskFile → OpenFile
file_with path place v file = record { opened = path; place = place; volume = v; file = file }

not-there : (files : Files) (path : OpenPath) (place : FilePlace) → open_file_at files path place ≡ None → file_in files place ≡ None
not-there files path place = by_volume (volume_at files place.drive)
  where
    by_file : (v : DiskVolume) (file : Option DiskFile) → option_map (file_with path place v) file ≡ None → file ≡ None
    by_file v None none = refl
    by_file v (Some file) none = absurd (none-some (file_with path place v file) (sym none))

    by_volume : (v : Option DiskVolume) → option_and_then (λ (v : DiskVolume). option_map (file_with path place v)
        (v.files place.number)) v ≡ None → option_and_then (λ (v : DiskVolume). v.files place.number) v ≡ None
    by_volume None none = refl
    by_volume (Some v) none = by_file v (v.files place.number) none

module _ (device : IoCall) (caller : Caller) (files : Files) where
  lost-at : IsSome (direction_of_call device) → (target : Target) (place : FilePlace) → place_of_target target ≡ Some
      place → IsOn device caller files.io target → open_file files caller.process.0 (path_number device caller.regs) ≡
      None → IsOnLostFile device caller files
  lost-at moves target place at on none =
      let placed : place_of_target on.opened.desc.target ≡ Some place = ap place_of_target on.target_is ∙ at in
      record {
        moves = moves;
        opened = on.opened;
        names = on.names;
        place = place;
        on = placed;
        lost =
            not-there files on.opened place (sym (ap (option_and_then (open_file_at files on.opened)) placed) ∙ sym
            (ap (option_and_then (λ (opened : OpenPath). option_and_then (open_file_at files opened)
            (place_of_target opened.desc.target))) on.names) ∙ none);
      }

  is-lost : (disk : IsMoveOnDiskPath device caller files.io) → open_file files caller.process.0 (path_number device caller.regs) ≡ None → IsOnLostFile device caller files
  is-lost disk none = by_target disk.on
    where
      by_target : IsOn device caller files.io (Target.File disk.drive disk.sector) ⊎ IsOn device caller files.io (Target.Folder disk.drive disk.sector) → IsOnLostFile device caller files
      by_target (inl on) =
          lost-at disk.moves (Target.File disk.drive disk.sector) (record { drive = disk.drive; number = disk.sector }) refl on none
      by_target (inr on) =
          lost-at disk.moves (Target.Folder disk.drive disk.sector) (record { drive = disk.drive; number = disk.sector }) refl on none

  -- what paths are on is there in each state of a run
  pub none-lost : AreKinds files → IsOnLostFile device caller files → ⊥
  none-lost kinds it =
      by_target it.opened.desc.target it.on (kinds.paths it.opened.path.0 it.opened.desc (path-desc files.io caller.process.0 (path_number device caller.regs) it.opened it.names))
    where
      by_place : (place : FilePlace) → place ≡ it.place → (file : DiskFile) → file_in files place ≡ Some file → ⊥
      by_place place same file there = none-some file (sym it.lost ∙ sym (ap (file_in files) same) ∙ there)

      by_target : (target : Target) → place_of_target target ≡ Some it.place → IsOnTarget files it.opened.desc.mode target → ⊥
      by_target (Target.File drive number) at on =
          by_place (record { drive = drive; number = number }) (same_Some (record { drive = drive; number = number }) it.place at) on.file on.there
      by_target (Target.Folder drive number) at (on, mode) =
          by_place (record { drive = drive; number = number }) (same_Some (record { drive = drive; number = number }) it.place at) on.file on.there
      by_target (Target.Term terminal) at on = none-some it.place at
      by_target (Target.Pipe pipe) at on = none-some it.place at

-- ---- the cause

-- only a call that reads a list finds it broken off
breaks-off : (device : IoCall) (caller : Caller) (files : Files) → IoBytesUnreadable device caller files.io → (search : Search) → search_of device ≡ Some search → ListBreaksOff caller
breaks-off Device.Open caller files why search is = why
breaks-off Device.Create caller files why search is = why
breaks-off Device.Dup caller files why search is = absurd why
breaks-off Device.Close caller files why search is = absurd why
breaks-off Device.Read caller files why search is = absurd (none-some search is)
breaks-off Device.ReadLn caller files why search is = absurd (none-some search is)
breaks-off Device.Write caller files why search is = absurd (none-some search is)
breaks-off Device.WritLn caller files why search is = absurd (none-some search is)
breaks-off Device.GetStt caller files why search is = absurd (none-some search is)
breaks-off Device.SetStt caller files why search is = absurd why
breaks-off Device.PErr caller files why search is = absurd why

module _ (call : PathCall) (device : IoCall) (device_is : device_call call ≡ Some device) (asker : Asker) (files : Files) (terms number : ℕ) (none : IsOnNoFile call asker files terms) where
  abbrev Why : Type 0
  Why = DeviceCause device asker.caller files terms number

  it-lists : (search : Search) → search_of device ≡ Some search → Listed asker files terms search
  it-lists search is = listed asker files terms call device device_is none search is

  -- the list that a cause is of is the one that was read
  abbrev Read : Search → PathList → Type 0
  Read search list = LeadsToDevice (lead_of search (length files.drives) terms list)

  reads : (search : Search) (list : PathList) → SearchesPathList device asker.caller search list → Read search list
  reads search list looks =
      let it : Listed asker files terms search = it-lists search looks.search_is in
      subst (Read search) (same-list it.list list (sym it.read ∙ looks.list_is)) it.leads

  no-other-fault : (search : Option Search) → search_of device ≡ search → IsSome search → (fault : NameFault) → list_of asker ≡ Err fault → ⊥
  no-other-fault None is some fault broken = false≢true some
  no-other-fault (Some search) is some fault broken =
      let it : Listed asker files terms search = it-lists search is in
      no-fault it.list fault (sym it.read ∙ broken)

  no-bad-name : IsBadName device asker.caller (length files.drives) terms → ⊥
  no-bad-name (Stated.no_name some names) = no-other-fault (search_of device) refl some _ names.list
  no-bad-name (Stated.dots sought list looks dots) =
      no-dots sought (length files.drives) terms list (reads sought list looks) dots
  no-bad-name (Stated.behind sought list at looks is other slash) =
      no-slash sought (length files.drives) terms list (reads sought list looks) at is other slash
  no-bad-name (Stated.root list drive looks is names) =
      is-no-drive a_new_place (length files.drives) terms list (reads a_new_place list looks) drive is

  no-device : HasNoDevice device asker.caller (length files.drives) terms → ⊥
  no-device it = by_device it.none
    where
      by_device : (device_at (length files.drives) terms it.list ≡ None) ⊎ ((drive : ℕ) × (device_at (length files.drives) terms it.list ≡ Some (Drive drive))) → ⊥
      by_device (inl none) =
          is-there it.search (length files.drives) terms it.list (reads it.search it.list it.looks) none
      by_device (inr (drive, is)) =
          is-no-drive it.search (length files.drives) terms it.list (reads it.search it.list it.looks) drive is

  by-address : number ≡ E_BPADDR → IoBytesUnreadable device asker.caller files.io → (search : Option Search) → search_of device ≡ search → Why
  by-address is why None none = bad_address is none why
  by-address is why (Some search) searches =
      let off : ListBreaksOff asker.caller = breaks-off device asker.caller files why search searches in
      absurd (no-other-fault (Some search) searches refl _ off.list)

  pub device-caused : StatedCause device asker.caller files.io (length files.drives) terms number → Why
  device-caused (Stated.path_table_full is full) = path_table_full is full
  device-caused (Stated.bad_path_number is names) = bad_path_number is names
  device-caused (Stated.bad_mode is lacks) = bad_mode is lacks
  device-caused (Stated.unknown_service is (inl status)) = no_status is status
  device-caused (Stated.unknown_service is (inr disk)) =
      lost_file is (is-lost device asker.caller files disk (moves-on-none asker files terms call device device_is none disk.moves))
  device-caused (Stated.bad_address is why) = by-address is why (search_of device) refl
  device-caused (Stated.bad_path_name is why) = absurd (no-bad-name why)
  device-caused (Stated.not_found is why) =
      absurd (is-there why.search (length files.drives) terms why.list (reads why.search why.list why.looks) (ap (option_and_then (device_of (length files.drives) terms)) why.relative))
  device-caused (Stated.no_module is why) = absurd (no-device why)
  device-caused (Stated.not_ready is why) = not_ready is why
