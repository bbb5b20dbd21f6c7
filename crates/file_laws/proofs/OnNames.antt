-- Calls on path lists: where the list leads to a terminal or a pipe they are those of terminals and pipes, and else they
-- begin a path on a file or a directory at most.
use Rattle.std.proofs.Common.{◌≡◌, ℕ, ◌==◌, ◌&&◌, not, Bool, true, false, Option, Some, None, Ok, List, [], length, refl, inl, inr}
use Rattle.std.specs.Prelude.{is_some, nat_lt, if◌then◌else◌}
use Rattle.std.proofs.lemmas.List.{get_or-set_other}
use Rattle.os9_base.specs.declared.errors.TheConstants.{E_BPNAM, E_BMODE, E_CEF, E_FNA, E_FULL, E_PNNF, E_PTHFUL, E_SHARE, E_SLF}
use Rattle.io_model.specs.Path.{new_number, paths_after_begin}
use Rattle.io_model.specs.declared.path.Target.{Target}
use Rattle.io_model.specs.declared.path.Target.TheVariants.{File, Folder}
use Rattle.rbf_model.specs.File.{DiskFile, is_directory}
use Rattle.rbf_model.specs.Walk.{look_up}
use Rattle.rbf_change.specs.Calls.{cluster_size, free_total}
use Rattle.rbf_change.specs.Names.{may_change, may_delete}
use Rattle.rbf_change.specs.NewFiles.{entry_clusters}
use Rattle.io_model.specs.Io.{new_desc}
use Rattle.io_model.specs.Modes.{can_write, is_mode}
use Rattle.io_model.specs.Open.{opened_regs}
use Rattle.io_model.specs.PathList.{PathList}
use Rattle.io_model.specs.Step.{answers}
use Rattle.io_model.specs.declared.io_call.IoCall.TheVariants as Device
use Rattle.file_rules.specs.Change.{creates, deletes, makes_directory}
use Rattle.file_rules.specs.ChgDir.{goes_on_route, goes_to, i_chgdir, may_go_to}
use Rattle.file_rules.specs.Create.{clusters_for, creates_in, creates_on_route, creates_with_path, has_room_for, i_create, opens_new}
use Rattle.file_rules.specs.Delete.{deletes_by, deletes_file, deletes_in, deletes_named, i_delete, i_deletx}
use Rattle.file_rules.specs.Files.{Files, Asker, directories_at, no_directories, place_of_target, target_on, with_directories_of, with_directory, with_path_table}
use Rattle.file_rules.specs.MakDir.{i_makdir, makes_in, makes_on_route, new_directory_size, past_list}
use Rattle.file_rules.specs.Open.{begins_on, i_open, is_for_execution, may_open, opens_found, opens_on_route, says_directory, tests_mode}
use Rattle.file_rules.specs.Sharing.{is_not_shared, is_open}
use Rattle.file_rules.specs.Step.{FileStep, refused, comes, changes, done, leaves, needs, refuses}
use Rattle.file_rules.specs.Route.{Found, Route, along, before_last, last_of, list_of, nowhere, to_device, walks, route_of, route_to_new}
use Rattle.file_rules.specs.declared.path_call.PathCall.{PathCall}
use Rattle.file_rules.specs.declared.path_call.PathCall.TheVariants as Call
use Rattle.lock_model.specs.declared.place.FilePlace.{FilePlace}
use Rattle.file_laws.specs.Touch.{begins_path, may_change_volume}
use Rattle.file_laws.proofs.Splits.{Leaves, SplitsOn, StepSplits, answered, answered-same, device-splits, list-by, needs-by, none-on, none-splits, not-refused, refuses-by, walks-split}

-- what is opened on a file is on it
target-place : (file : DiskFile) (place : FilePlace) → place_of_target (target_on file place) ≡ Some place
target-place file place = by_kind (is_directory file)
  where
    by_kind : (kind : Bool) → place_of_target (if kind then Folder place.drive place.number else File place.drive place.number) ≡ Some place
    by_kind true = refl
    by_kind false = refl

module _ (call : PathCall) (asker : Asker) (files : Files) (terms : ℕ) where
  mode-splits : (allowed : Bool) (step : FileStep) → StepSplits call asker files terms step → StepSplits call asker files terms (tests_mode allowed step)
  mode-splits allowed step holds =
      refuses-by (StepSplits call asker files terms) (none-splits call asker files terms) (not allowed) E_BMODE step holds

  -- a path begins
  begun : begins_path call ≡ true → (number : ℕ) → new_number files.io.paths asker.caller.process.0 ≡ Some number
      → (target : Target) (place : FilePlace) → place_of_target target ≡ Some place → (list : PathList)
      → Leaves call asker files (leaves (answers (opened_regs asker.caller.regs list number))
      (with_path_table files (paths_after_begin files.io.paths asker.caller.process.0
      (new_desc target asker.caller.regs.a))))
  begun begins number free target place on list =
      answered call asker files (with_path_table files (paths_after_begin files.io.paths asker.caller.process.0 (new_desc target asker.caller.regs.a))) 0 [] (opened_regs asker.caller.regs list number)
      (inr (inr (inr (record { begins = begins; number = number; free = free; target = target; place = place; on = on; is = refl })))) refl refl refl refl

  module _ (list : PathList) (found : Found) where
    -- what is done with a file on the drive that was reached
    abbrev S : FileStep → Type 0
    S step = SplitsOn call asker files terms found.place.drive step

    no : (number : ℕ) → S (refused number)
    no number = none-on call asker files terms found.place.drive number

    -- ---- I$Open

    opens-split : begins_path call ≡ true → S (opens_found asker files list found)
    opens-split begins =
        refuses-by S no (not (may_open found.file asker.user asker.caller.regs.a)) E_FNA (refuses (is_not_shared files found asker.caller.regs.a) E_SHARE (begins_on asker files list found))
        (refuses-by S no (is_not_shared files found asker.caller.regs.a) E_SHARE (begins_on asker files list found)
        (needs-by S no (new_number files.io.paths asker.caller.process.0) E_PTHFUL
        (λ number. done (opened_regs asker.caller.regs list number)
        (with_path_table files (paths_after_begin files.io.paths asker.caller.process.0
        (new_desc (target_on found.file found.place) asker.caller.regs.a))))
        (λ number free. inl (begun begins number free (target_on found.file found.place) found.place (target-place found.file found.place) list))))

    -- ---- I$Create, I$MakDir and I$Delete

    room-splits : (size : ℕ) (next : FileStep) → S next → S (has_room_for found size next)
    room-splits size next holds =
        refuses-by S no (nat_lt (free_total found.volume) (clusters_for found size)) E_FULL
        (refuses (nat_lt 0 (entry_clusters (cluster_size found.volume) found.file) && (length found.file.segments
        == 48)) E_SLF next)
        (refuses-by S no (nat_lt 0 (entry_clusters (cluster_size found.volume) found.file) && (length found.file.segments == 48)) E_SLF next holds)

    module _ (may : may_change_volume call ≡ true) (name : List ℕ) where
      creates-split : begins_path call ≡ true → S (creates_in asker files list name found)
      creates-split begins =
          refuses-by S no (not (may_change found.file asker.user (is_for_execution asker.caller.regs.a))) E_FNA
          (refuses (says_directory asker.caller.regs.b) E_FNA
          (refuses (is_some (look_up found.file.contents name)) E_CEF (creates_with_path asker files list name
          found)))
          (refuses-by S no (says_directory asker.caller.regs.b) E_FNA (refuses (is_some (look_up found.file.contents name)) E_CEF (creates_with_path asker files list name found))
          (refuses-by S no (is_some (look_up found.file.contents name)) E_CEF (creates_with_path asker files list name found)
          (needs-by S no (new_number files.io.paths asker.caller.process.0) E_PTHFUL (λ number. has_room_for found 0
          (comes (changes (record {
            drive = found.place.drive;
            change = creates found.place.number name
                asker.caller.regs.b;
            effect = opens_new asker files list found.place.drive number;
          }))))
          (λ number free. room-splits 0
          (comes (changes (record {
            drive = found.place.drive;
            change = creates found.place.number name
                asker.caller.regs.b;
            effect = opens_new asker files list found.place.drive number;
          })))
          (record {
            reaches = refl;
            may = may;
            left =
                λ n. begun begins number free (File found.place.drive n) (record { drive = found.place.drive; number = n }) refl list;
            answer = λ n. (opened_regs asker.caller.regs list number, refl);
            fixed = inl tt;
          })))))

      makes-split : S (makes_in asker files list name found)
      makes-split =
          refuses-by S no (not (may_change found.file asker.user false)) E_FNA
          (refuses (is_some (look_up found.file.contents name)) E_CEF (has_room_for found new_directory_size
          (comes (changes (record {
            drive = found.place.drive;
            change = makes_directory found.place.number name
                asker.caller.regs.b;
            effect = λ n. leaves (answers (past_list asker.caller.regs list)) files;
          })))))
          (refuses-by S no (is_some (look_up found.file.contents name)) E_CEF (has_room_for found new_directory_size
          (comes (changes (record {
            drive = found.place.drive;
            change = makes_directory found.place.number name
                asker.caller.regs.b;
            effect = λ n. leaves (answers (past_list asker.caller.regs list)) files;
          }))))
          (room-splits new_directory_size
          (comes (changes (record {
            drive = found.place.drive;
            change = makes_directory found.place.number name
                asker.caller.regs.b;
            effect = λ n. leaves (answers (past_list asker.caller.regs list)) files;
          })))
          (record {
            reaches = refl;
            may = may;
            left = λ n. answered-same call asker files 0 [] (past_list asker.caller.regs list);
            answer = λ n. (past_list asker.caller.regs list, refl);
            fixed = inr (λ m n. refl);
          })))

      deletes-split : (execute : Bool) → S (deletes_in asker files execute list name found)
      deletes-split execute =
          refuses-by S no (not (may_change found.file asker.user execute)) E_FNA (needs (look_up found.file.contents name) E_PNNF (deletes_file asker files list name found))
          (needs-by S no (look_up found.file.contents name) E_PNNF (deletes_file asker files list name found) (λ n is. goes n))
        where
          goes : (n : ℕ) → S (deletes_file asker files list name found n)
          goes n =
              refuses-by S no (not (may_delete (found.volume.files n) asker.user)) E_FNA
              (refuses (is_open files (record { drive = found.place.drive; number = n })) E_SHARE
              (comes (changes (record {
                drive = found.place.drive;
                change = deletes found.place.number n name;
                effect = λ new. leaves (answers (past_list asker.caller.regs list)) files;
              }))))
              (refuses-by S no (is_open files (record { drive = found.place.drive; number = n })) E_SHARE
              (comes (changes (record {
                drive = found.place.drive;
                change = deletes found.place.number n name;
                effect = λ new. leaves (answers (past_list asker.caller.regs list)) files;
              })))
              (record {
                reaches = refl;
                may = may;
                left = λ new. answered-same call asker files 0 [] (past_list asker.caller.regs list);
                answer = λ new. (past_list asker.caller.regs list, refl);
                fixed = inr (λ m n. refl);
              }))

-- ---- the calls

module _ (asker : Asker) (files : Files) (terms : ℕ) where
  open-way : (list : PathList) → list_of asker ≡ Ok list → (route : Route) → route_of asker files terms
      (is_for_execution asker.caller.regs.a) list ≡ route → StepSplits Call.Open asker files terms
      (opens_on_route asker files terms list route)
  open-way list read (along from names) is =
      walks-split Call.Open asker files terms (is_for_execution asker.caller.regs.a) from names (opens_found asker files list) (λ found. opens-split Call.Open asker files terms list found refl)
  open-way list read to_device is = device-splits Call.Open asker files terms Device.Open refl (list, read, is)
  open-way list read (nowhere number) is = none-splits Call.Open asker files terms number

  pub open-split : StepSplits Call.Open asker files terms (i_open asker files terms)
  open-split =
      list-by (StepSplits Call.Open asker files terms) (none-splits Call.Open asker files terms) (list_of asker)
      (tests_mode (is_mode asker.caller.regs.a)) (λ list. opens_on_route asker files terms list
      (route_of asker files terms (is_for_execution asker.caller.regs.a) list))
      (mode-splits Call.Open asker files terms (is_mode asker.caller.regs.a))
      (λ list read. open-way list read (route_of asker files terms (is_for_execution asker.caller.regs.a) list) refl)

  create-way : (list : PathList) → list_of asker ≡ Ok list → (route : Route) → route_to_new asker files terms
      (is_for_execution asker.caller.regs.a) list ≡ route → StepSplits Call.Create asker files terms
      (creates_on_route asker files terms list route)
  create-way list read (along from names) is =
      needs-by (StepSplits Call.Create asker files terms) (none-splits Call.Create asker files terms) (last_of names)
      E_BPNAM (λ name. walks asker files (is_for_execution asker.caller.regs.a) from (before_last names)
      (creates_in asker files list name))
      (λ name last. walks-split Call.Create asker files terms (is_for_execution asker.caller.regs.a) from
      (before_last names) (creates_in asker files list name) (λ found. creates-split Call.Create asker files terms
      list found refl name refl))
  create-way list read to_device is = device-splits Call.Create asker files terms Device.Create refl (list, read, is)
  create-way list read (nowhere number) is = none-splits Call.Create asker files terms number

  pub create-split : StepSplits Call.Create asker files terms (i_create asker files terms)
  create-split =
      list-by (StepSplits Call.Create asker files terms) (none-splits Call.Create asker files terms) (list_of asker)
      (tests_mode (can_write asker.caller.regs.a)) (λ list. creates_on_route asker files terms list
      (route_to_new asker files terms (is_for_execution asker.caller.regs.a) list))
      (mode-splits Call.Create asker files terms (can_write asker.caller.regs.a))
      (λ list read. create-way list read (route_to_new asker files terms (is_for_execution asker.caller.regs.a) list) refl)

  make-way : (list : PathList) (route : Route) → StepSplits Call.MakDir asker files terms (makes_on_route asker files list route)
  make-way list (along from names) =
      needs-by (StepSplits Call.MakDir asker files terms) (none-splits Call.MakDir asker files terms) (last_of names)
      E_BPNAM (λ name. walks asker files false from (before_last names) (makes_in asker files list name))
      (λ name is. walks-split Call.MakDir asker files terms false from (before_last names) (makes_in asker files list name) (λ found. makes-split Call.MakDir asker files terms list found refl name))
  make-way list to_device = none-splits Call.MakDir asker files terms E_FNA
  make-way list (nowhere number) = none-splits Call.MakDir asker files terms number

  pub makdir-split : StepSplits Call.MakDir asker files terms (i_makdir asker files terms)
  makdir-split =
      list-by (StepSplits Call.MakDir asker files terms) (none-splits Call.MakDir asker files terms) (list_of asker)
      (λ step. step) (λ list. makes_on_route asker files list (route_to_new asker files terms false list))
      (λ step holds. holds)
      (λ list read. make-way list (route_to_new asker files terms false list))

  -- ---- I$ChgDir, which alone changes a directory of the process

  abbrev goes_there : Found → Files
  goes_there found =
      with_directories_of files asker.caller.process.0 (with_directory (directories_at files asker.caller.process.0) (is_for_execution asker.caller.regs.a) found.place)

  gone : (list : PathList) (found : Found) → Leaves Call.ChgDir asker files (leaves (answers (past_list asker.caller.regs list)) (goes_there found))
  gone list found = record {
    over = refl;
    paths = inl refl;
    rest = refl;
    directories =
        λ q differ. get_or-set_other files.directories asker.caller.process.0 q
        (with_directory (directories_at files asker.caller.process.0) (is_for_execution asker.caller.regs.a)
        found.place) no_directories differ;
    own = λ differ. absurd (differ refl);
    volumes = refl;
    requests = refl;
    refusal = λ number is. absurd (not-refused (past_list asker.caller.regs list) number is);
  }

  goes-split : (list : PathList) (found : Found) → SplitsOn Call.ChgDir asker files terms found.place.drive (goes_to asker files list found)
  goes-split list found =
      refuses-by (SplitsOn Call.ChgDir asker files terms found.place.drive) (none-on Call.ChgDir asker files terms
      found.place.drive) (not (may_go_to found.file asker.user asker.caller.regs.a)) E_FNA
      (done (past_list asker.caller.regs list) (goes_there found))
      (inl (gone list found))

  go-way : (list : PathList) (route : Route) → StepSplits Call.ChgDir asker files terms (goes_on_route asker files list route)
  go-way list (along from names) =
      walks-split Call.ChgDir asker files terms (is_for_execution asker.caller.regs.a) from names (goes_to asker files list) (goes-split list)
  go-way list to_device = none-splits Call.ChgDir asker files terms E_FNA
  go-way list (nowhere number) = none-splits Call.ChgDir asker files terms number

  pub chgdir-split : StepSplits Call.ChgDir asker files terms (i_chgdir asker files terms)
  chgdir-split =
      list-by (StepSplits Call.ChgDir asker files terms) (none-splits Call.ChgDir asker files terms) (list_of asker)
      (tests_mode (is_mode asker.caller.regs.a)) (λ list. goes_on_route asker files list
      (route_of asker files terms (is_for_execution asker.caller.regs.a) list))
      (mode-splits Call.ChgDir asker files terms (is_mode asker.caller.regs.a))
      (λ list read. go-way list (route_of asker files terms (is_for_execution asker.caller.regs.a) list))

  module _ (call : PathCall) (may : may_change_volume call ≡ true) where
    delete-way : (execute : Bool) (list : PathList) (route : Route) (last : Option (List ℕ)) → StepSplits call asker files terms (deletes_named asker files execute list route last)
    delete-way execute list (along from names) None =
        walks-split call asker files terms execute from names (λ root. refused E_FNA) (λ root. none-on call asker files terms root.place.drive E_FNA)
    delete-way execute list (along from names) (Some name) =
        walks-split call asker files terms execute from (before_last names) (deletes_in asker files execute list name) (λ found. deletes-split call asker files terms list found may name execute)
    delete-way execute list to_device last = none-splits call asker files terms E_FNA
    delete-way execute list (nowhere number) last = none-splits call asker files terms number

    delete-by : (execute : Bool) (test : FileStep → FileStep) → ((step : FileStep) → StepSplits call asker files terms
        step → StepSplits call asker files terms (test step)) → StepSplits call asker files terms
        (deletes_by asker files terms execute test)
    delete-by execute test tests =
        list-by (StepSplits call asker files terms) (none-splits call asker files terms) (list_of asker) test
        (λ list. deletes_named asker files execute list (route_of asker files terms execute list)
        (last_of list.names))
        tests (λ list read. delete-way execute list (route_of asker files terms execute list) (last_of list.names))

  pub delete-split : StepSplits Call.Delete asker files terms (i_delete asker files terms)
  delete-split = delete-by Call.Delete refl false (λ step. step) (λ step holds. holds)

  pub deletx-split : StepSplits Call.DeletX asker files terms (i_deletx asker files terms)
  deletx-split =
      delete-by Call.DeletX refl (is_for_execution asker.caller.regs.a) (tests_mode (is_mode asker.caller.regs.a)) (mode-splits Call.DeletX asker files terms (is_mode asker.caller.regs.a))
