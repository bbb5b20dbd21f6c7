-- Calls on a path list make nothing of locks, and change no contents of a file that a path is on.
use Rattle.std.proofs.Common.{◌≡◌, ℕ, ◌==◌, ◌&&◌, ◌||◌, not, Bool, true, false, Option, Some, None, List, [], length, refl, sym, inl}
use Rattle.std.specs.Prelude.{is_some, nat_lt, if◌then◌else◌}
use Rattle.std.proofs.lemmas.Bool.{and_parts, false≢true}
use Rattle.os9_base.specs.declared.errors.TheConstants.{E_BMODE, E_BPADDR, E_BPNAM, E_CEF, E_FNA, E_FULL, E_PNNF, E_PTHFUL, E_SHARE, E_SLF}
use Rattle.device_table.specs.Names.{device_of}
use Rattle.device_table.specs.declared.devices.Dev.{Dev}
use Rattle.device_table.specs.declared.devices.Dev.TheVariants as Device
use Rattle.lock_model.specs.declared.place.FilePlace.{FilePlace}
use Rattle.rbf_model.specs.File.{DiskFile, is_directory}
use Rattle.rbf_model.specs.Volume.{DiskVolume}
use Rattle.rbf_model.specs.Walk.{file_permits, look_up, may_search}
use Rattle.rbf_change.specs.Calls.{cluster_size, free_total}
use Rattle.file_laws.proofs.Steps.{IsFound}
use Rattle.rbf_change.specs.Names.{may_change, may_delete}
use Rattle.rbf_change.specs.NewFiles.{entry_clusters}
use Rattle.io_model.specs.Path.{new_number, paths_after_begin}
use Rattle.io_model.specs.Io.{new_desc}
use Rattle.io_model.specs.Modes.{can_write, is_mode}
use Rattle.io_model.specs.Open.{opened_regs}
use Rattle.io_model.specs.PathList.{PathList, ends_in_dots, has_slash_behind_device}
use Rattle.io_model.specs.Step.{answers}
use Rattle.io_model.specs.declared.io_call.IoCall.TheVariants as Served
use Rattle.file_rules.specs.Change.{creates, deletes, makes_directory}
use Rattle.file_rules.specs.ChgDir.{goes_on_route, goes_to, i_chgdir, may_go_to}
use Rattle.file_rules.specs.Create.{clusters_for, creates_in, creates_on_route, creates_with_path, has_room_for, i_create, opens_new}
use Rattle.file_rules.specs.Delete.{deletes_by, deletes_file, deletes_in, deletes_named, i_delete, i_deletx}
use Rattle.file_rules.specs.Files.{Asker, Files, directories_at, directory_of, target_on, volume_at, with_directories_of, with_directory, with_path_table}
use Rattle.file_rules.specs.MakDir.{i_makdir, makes_in, makes_on_route, new_directory_size, past_list}
use Rattle.file_rules.specs.Open.{begins_on, i_open, is_for_execution, may_open, opens_found, opens_on_route, says_directory, tests_mode}
use Rattle.file_rules.specs.Sharing.{is_not_shared, is_open}
use Rattle.file_rules.specs.Step.{FileStep, changes, comes, done, leaves, needs, refused, refuses}
use Rattle.file_rules.specs.Route.{Found, Route, along, before_last, is_root, last_of, list_of, nowhere, to_device, walks, route_by, route_from, route_of, route_of_device, route_on_drive, route_to_new}
use Rattle.file_rules.specs.declared.path_call.PathCall.{PathCall}
use Rattle.file_rules.specs.declared.path_call.PathCall.TheVariants as Call
use Rattle.file_laws.proofs.ClaimSteps.{ClaimedOn, IsClaimedChange, IsFolderIn, StepClaimed, is_of_lock, list-by, needs-by, none-on, none-so, refuses-by, still-answered, walks-so}

-- ---- ways that lead nowhere

-- no lock is why a list leads nowhere
abbrev IsOtherWay : Route → Type 0
IsOtherWay (along from names) = Unit {0}
IsOtherWay to_device = Unit {0}
IsOtherWay (nowhere number) = is_of_lock number ≡ false

way-on-drive : (drive : ℕ) (names : List (List ℕ)) (volume : Option DiskVolume) → IsOtherWay (route_on_drive drive names volume)
way-on-drive drive names None = refl
way-on-drive drive names (Some v) = tt

way-to-device : (behind : Bool) → IsOtherWay (if behind then nowhere E_BPNAM else to_device)
way-to-device true = refl
way-to-device false = tt

way-of-device : (files : Files) (list : PathList) (device : Option Dev) → IsOtherWay (route_of_device files list device)
way-of-device files list None = refl
way-of-device files list (Some (Device.Drive drive)) = way-on-drive drive list.names (volume_at files drive)
way-of-device files list (Some (Device.Term terminal)) = way-to-device (has_slash_behind_device list)
way-of-device files list (Some Device.Pipe) = way-to-device (has_slash_behind_device list)

way-from : (place : Option FilePlace) (names : List (List ℕ)) → IsOtherWay (route_from place names)
way-from None names = refl
way-from (Some place) names = tt

module _ (asker : Asker) (files : Files) (terms : ℕ) (execute : Bool) (list : PathList) where
  way-by : (device : Option (List ℕ)) → IsOtherWay (route_by asker files terms execute list device)
  way-by None = way-from (directory_of files asker.caller.process.0 execute) list.names
  way-by (Some device) = way-of-device files list (device_of (length files.drives) terms device)

  way-is : IsOtherWay (route_of asker files terms execute list)
  way-is = way-by list.device

  new-way-is : IsOtherWay (route_to_new asker files terms execute list)
  new-way-is = by_dots (ends_in_dots list || is_root files terms list)
    where
      by_dots : (dots : Bool) → IsOtherWay (if dots then nowhere E_BPNAM else route_of asker files terms execute list)
      by_dots true = refl
      by_dots false = way-is

-- ---- what is done at the end of a walk

is-so : (b : Bool) → not b ≡ false → b ≡ true
is-so true is = refl
is-so false is = absurd (false≢true (sym is))

-- what a user may change is a directory
changed-folder : (file : DiskFile) (user : ℕ) (execute : Bool) → may_change file user execute ≡ true → is_directory file ≡ true
changed-folder file user execute may =
    (and_parts (is_directory file) _ (and_parts (may_search file user execute) (file_permits file user 2) may).0).0

module _ (call : PathCall) (asker : Asker) (files : Files) (terms : ℕ) where
  abbrev Step : FileStep → Type 0
  Step step = StepClaimed call asker files terms step

  no : (number : ℕ) → is_of_lock number ≡ false → Step (refused number)
  no number other = none-so call asker files terms number other

  mode-so : (allowed : Bool) (step : FileStep) → Step step → Step (tests_mode allowed step)
  mode-so allowed step holds = refuses-by Step (not allowed) E_BMODE step (no E_BMODE refl) (λ is. holds)

  module _ (list : PathList) (found : Found) where
    abbrev On : FileStep → Type 0
    On step = ClaimedOn call asker files terms found.place.drive step

    not-on : (number : ℕ) → is_of_lock number ≡ false → On (refused number)
    not-on number other = none-on call asker files terms found.place.drive number other

    opens-so : On (opens_found asker files list found)
    opens-so =
        refuses-by On (not (may_open found.file asker.user asker.caller.regs.a)) E_FNA
        (refuses (is_not_shared files found asker.caller.regs.a) E_SHARE (begins_on asker files list found))
        (not-on E_FNA refl)
        (λ may. refuses-by On (is_not_shared files found asker.caller.regs.a) E_SHARE (begins_on asker files list found) (not-on E_SHARE refl)
        (λ shared. needs-by On (new_number files.io.paths asker.caller.process.0) E_PTHFUL
        (λ number. done (opened_regs asker.caller.regs list number)
        (with_path_table files (paths_after_begin files.io.paths asker.caller.process.0
        (new_desc (target_on found.file found.place) asker.caller.regs.a)))) (not-on E_PTHFUL refl)
        (λ number free. still-answered call asker files terms (with_path_table files (paths_after_begin files.io.paths
        asker.caller.process.0 (new_desc (target_on found.file found.place) asker.caller.regs.a))) 0 []
        (opened_regs asker.caller.regs list number) refl refl)))

    room-so : (size : ℕ) (next : FileStep) → On next → On (has_room_for found size next)
    room-so size next holds =
        refuses-by On (nat_lt (free_total found.volume) (clusters_for found size)) E_FULL
        (refuses (nat_lt 0 (entry_clusters (cluster_size found.volume) found.file) && (length found.file.segments
        == 48)) E_SLF next) (not-on E_FULL refl)
        (λ room. refuses-by On (nat_lt 0 (entry_clusters (cluster_size found.volume) found.file) && (length found.file.segments == 48)) E_SLF next (not-on E_SLF refl) (λ place. holds))

    module _ (name : List ℕ) (at : IsFound files found) where
      -- what may be changed is a directory
      folder : (execute : Bool) → not (may_change found.file asker.user execute) ≡ false → IsFolderIn files found.place.drive found.place.number
      folder execute may = record {
        volume = found.volume;
        mounted = at.mounted;
        file = found.file;
        there = at.there;
        is = changed-folder found.file asker.user execute (is-so (may_change found.file asker.user execute) may);
      }

      creates-so : On (creates_in asker files list name found)
      creates-so =
          refuses-by On (not (may_change found.file asker.user (is_for_execution asker.caller.regs.a))) E_FNA
          (refuses (says_directory asker.caller.regs.b) E_FNA
          (refuses (is_some (look_up found.file.contents name)) E_CEF (creates_with_path asker files list name
          found))) (not-on E_FNA refl)
          (λ may. refuses-by On (says_directory asker.caller.regs.b) E_FNA
          (refuses (is_some (look_up found.file.contents name)) E_CEF (creates_with_path asker files list name
          found)) (not-on E_FNA refl)
          (λ none. refuses-by On (is_some (look_up found.file.contents name)) E_CEF (creates_with_path asker files list name found) (not-on E_CEF refl)
          (λ new. needs-by On (new_number files.io.paths asker.caller.process.0) E_PTHFUL
          (λ number. has_room_for found 0
          (comes (changes (record {
            drive = found.place.drive;
            change = creates found.place.number name
                asker.caller.regs.b;
            effect = opens_new asker files list found.place.drive number;
          }))))
          (not-on E_PTHFUL refl)
          (λ number free. room-so 0
          (comes (changes (record {
            drive = found.place.drive;
            change = creates found.place.number name
                asker.caller.regs.b;
            effect = opens_new asker files list found.place.drive number;
          })))
          (record {
            reaches = refl;
            answered = λ n. record { regs = opened_regs asker.caller.regs list number; end = refl; volumes = refl };
            claimed = λ n. IsClaimedChange.by_file found.place.number name asker.caller.regs.b refl (folder (is_for_execution asker.caller.regs.a) may) refl;
          })))))

      makes-so : On (makes_in asker files list name found)
      makes-so =
          refuses-by On (not (may_change found.file asker.user false)) E_FNA
          (refuses (is_some (look_up found.file.contents name)) E_CEF (has_room_for found new_directory_size
          (comes (changes (record {
            drive = found.place.drive;
            change = makes_directory found.place.number name
                asker.caller.regs.b;
            effect = λ n. leaves (answers (past_list asker.caller.regs list)) files;
          })))))
          (not-on E_FNA refl)
          (λ may. refuses-by On (is_some (look_up found.file.contents name)) E_CEF
          (has_room_for found new_directory_size
          (comes (changes (record {
            drive = found.place.drive;
            change = makes_directory found.place.number name
                asker.caller.regs.b;
            effect = λ n. leaves (answers (past_list asker.caller.regs list)) files;
          }))))
          (not-on E_CEF refl)
          (λ new. room-so new_directory_size
          (comes (changes (record {
            drive = found.place.drive;
            change = makes_directory found.place.number name
                asker.caller.regs.b;
            effect = λ n. leaves (answers (past_list asker.caller.regs list)) files;
          })))
          (record {
            reaches = refl;
            answered = λ n. record { regs = past_list asker.caller.regs list; end = refl; volumes = refl };
            claimed = λ n. IsClaimedChange.by_directory found.place.number name asker.caller.regs.b refl (folder false may) refl;
          })))

      deletes-so : (execute : Bool) → On (deletes_in asker files execute list name found)
      deletes-so execute =
          refuses-by On (not (may_change found.file asker.user execute)) E_FNA (needs (look_up found.file.contents name) E_PNNF (deletes_file asker files list name found)) (not-on E_FNA refl)
          (λ change. needs-by On (look_up found.file.contents name) E_PNNF (deletes_file asker files list name found) (not-on E_PNNF refl) (λ n is. goes change n))
        where
          goes : not (may_change found.file asker.user execute) ≡ false → (n : ℕ) → On (deletes_file asker files list name found n)
          goes change n =
              refuses-by On (not (may_delete (found.volume.files n) asker.user)) E_FNA
              (refuses (is_open files (record { drive = found.place.drive; number = n })) E_SHARE
              (comes (changes (record {
                drive = found.place.drive;
                change = deletes found.place.number n name;
                effect = λ new. leaves (answers (past_list asker.caller.regs list)) files;
              })))) (not-on E_FNA refl)
              (λ may. refuses-by On (is_open files (record { drive = found.place.drive; number = n })) E_SHARE
              (comes (changes (record {
                drive = found.place.drive;
                change = deletes found.place.number n name;
                effect = λ new. leaves (answers (past_list asker.caller.regs list)) files;
              }))) (not-on E_SHARE refl)
              (λ closed. record {
                reaches = refl;
                answered = λ new. record { regs = past_list asker.caller.regs list; end = refl; volumes = refl };
                claimed = λ new. IsClaimedChange.by_deletion found.place.number n name refl (folder execute change) closed refl;
              }))

    goes-so : On (goes_to asker files list found)
    goes-so =
        refuses-by On (not (may_go_to found.file asker.user asker.caller.regs.a)) E_FNA (done (past_list asker.caller.regs list) there) (not-on E_FNA refl)
        (λ may. still-answered call asker files terms there 0 [] (past_list asker.caller.regs list) refl refl)
      where
        there : Files
        there =
            with_directories_of files asker.caller.process.0 (with_directory (directories_at files asker.caller.process.0) (is_for_execution asker.caller.regs.a) found.place)

-- ---- the calls

module _ (asker : Asker) (files : Files) (terms : ℕ) where
  abbrev execute : Bool
  execute = is_for_execution asker.caller.regs.a

  open-way : (list : PathList) (route : Route) → IsOtherWay route → StepClaimed Call.Open asker files terms (opens_on_route asker files terms list route)
  open-way list (along from names) other =
      walks-so Call.Open asker files terms execute from names (opens_found asker files list) (λ found at. opens-so Call.Open asker files terms list found)
  open-way list to_device other = inl (record { device = Served.Open; device_is = refl; is = refl })
  open-way list (nowhere number) other = none-so Call.Open asker files terms number other

  pub open-claimed : StepClaimed Call.Open asker files terms (i_open asker files terms)
  open-claimed =
      list-by (StepClaimed Call.Open asker files terms) (list_of asker) (tests_mode (is_mode asker.caller.regs.a))
      (λ list. opens_on_route asker files terms list (route_of asker files terms execute list))
      (none-so Call.Open asker files terms E_BPADDR refl) (none-so Call.Open asker files terms E_BPNAM refl)
      (mode-so Call.Open asker files terms (is_mode asker.caller.regs.a))
      (λ list read. open-way list (route_of asker files terms execute list) (way-is asker files terms execute list))

  create-way : (list : PathList) (route : Route) → IsOtherWay route → StepClaimed Call.Create asker files terms (creates_on_route asker files terms list route)
  create-way list (along from names) other =
      needs-by (StepClaimed Call.Create asker files terms) (last_of names) E_BPNAM (λ name. walks asker files execute
      from (before_last names) (creates_in asker files list name)) (none-so Call.Create asker files terms E_BPNAM
      refl)
      (λ name last. walks-so Call.Create asker files terms execute from (before_last names)
      (creates_in asker files list name) (λ found at. creates-so Call.Create asker files terms list found name
      at))
  create-way list to_device other = inl (record { device = Served.Create; device_is = refl; is = refl })
  create-way list (nowhere number) other = none-so Call.Create asker files terms number other

  pub create-claimed : StepClaimed Call.Create asker files terms (i_create asker files terms)
  create-claimed =
      list-by (StepClaimed Call.Create asker files terms) (list_of asker) (tests_mode (can_write asker.caller.regs.a))
      (λ list. creates_on_route asker files terms list (route_to_new asker files terms execute list))
      (none-so Call.Create asker files terms E_BPADDR refl) (none-so Call.Create asker files terms E_BPNAM refl)
      (mode-so Call.Create asker files terms (can_write asker.caller.regs.a))
      (λ list read. create-way list (route_to_new asker files terms execute list) (new-way-is asker files terms execute list))

  make-way : (list : PathList) (route : Route) → IsOtherWay route → StepClaimed Call.MakDir asker files terms (makes_on_route asker files list route)
  make-way list (along from names) other =
      needs-by (StepClaimed Call.MakDir asker files terms) (last_of names) E_BPNAM (λ name. walks asker files false
      from (before_last names) (makes_in asker files list name)) (none-so Call.MakDir asker files terms E_BPNAM
      refl)
      (λ name last. walks-so Call.MakDir asker files terms false from (before_last names) (makes_in asker files list name) (λ found at. makes-so Call.MakDir asker files terms list found name at))
  make-way list to_device other = none-so Call.MakDir asker files terms E_FNA refl
  make-way list (nowhere number) other = none-so Call.MakDir asker files terms number other

  pub makdir-claimed : StepClaimed Call.MakDir asker files terms (i_makdir asker files terms)
  makdir-claimed =
      list-by (StepClaimed Call.MakDir asker files terms) (list_of asker) (λ step. step) (λ list. makes_on_route asker
      files list (route_to_new asker files terms false list)) (none-so Call.MakDir asker files terms E_BPADDR refl)
      (none-so Call.MakDir asker files terms E_BPNAM refl)
      (λ step holds. holds)
      (λ list read. make-way list (route_to_new asker files terms false list) (new-way-is asker files terms false list))

  go-way : (list : PathList) (route : Route) → IsOtherWay route → StepClaimed Call.ChgDir asker files terms (goes_on_route asker files list route)
  go-way list (along from names) other =
      walks-so Call.ChgDir asker files terms execute from names (goes_to asker files list) (λ found at. goes-so Call.ChgDir asker files terms list found)
  go-way list to_device other = none-so Call.ChgDir asker files terms E_FNA refl
  go-way list (nowhere number) other = none-so Call.ChgDir asker files terms number other

  pub chgdir-claimed : StepClaimed Call.ChgDir asker files terms (i_chgdir asker files terms)
  chgdir-claimed =
      list-by (StepClaimed Call.ChgDir asker files terms) (list_of asker) (tests_mode (is_mode asker.caller.regs.a))
      (λ list. goes_on_route asker files list (route_of asker files terms execute list))
      (none-so Call.ChgDir asker files terms E_BPADDR refl) (none-so Call.ChgDir asker files terms E_BPNAM refl)
      (mode-so Call.ChgDir asker files terms (is_mode asker.caller.regs.a))
      (λ list read. go-way list (route_of asker files terms execute list) (way-is asker files terms execute list))

  module _ (call : PathCall) (for_execution : Bool) where
    delete-named : (list : PathList) (route : Route) → IsOtherWay route → (name : Option (List ℕ)) → StepClaimed call asker files terms (deletes_named asker files for_execution list route name)
    delete-named list (along from names) other None =
        walks-so call asker files terms for_execution from names (λ root. refused E_FNA) (λ found at. none-on call asker files terms found.place.drive E_FNA refl)
    delete-named list (along from names) other (Some name) =
        walks-so call asker files terms for_execution from (before_last names) (deletes_in asker files for_execution
        list name) (λ found at. deletes-so call asker files terms list found name at for_execution)
    delete-named list to_device other name = none-so call asker files terms E_FNA refl
    delete-named list (nowhere number) other name = none-so call asker files terms number other

    delete-so : (test : FileStep → FileStep) → ((step : FileStep) → StepClaimed call asker files terms step
        → StepClaimed call asker files terms (test step)) → StepClaimed call asker files terms
        (deletes_by asker files terms for_execution test)
    delete-so test tests =
        list-by (StepClaimed call asker files terms) (list_of asker) test (λ list. deletes_named asker files
        for_execution list (route_of asker files terms for_execution list) (last_of list.names))
        (none-so call asker files terms E_BPADDR refl) (none-so call asker files terms E_BPNAM refl) tests
        (λ list read. delete-named list (route_of asker files terms for_execution list) (way-is asker files terms for_execution list) (last_of list.names))

  pub delete-claimed : StepClaimed Call.Delete asker files terms (i_delete asker files terms)
  delete-claimed = delete-so Call.Delete false (λ step. step) (λ step holds. holds)

  pub deletx-claimed : StepClaimed Call.DeletX asker files terms (i_deletx asker files terms)
  deletx-claimed =
      delete-so Call.DeletX execute (tests_mode (is_mode asker.caller.regs.a)) (mode-so Call.DeletX asker files terms (is_mode asker.caller.regs.a))
