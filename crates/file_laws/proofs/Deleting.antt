-- I$Delete and I$DeletX: a file that goes is no directory, and no path is on it.
use Rattle.std.proofs.Common.{◌≡◌, ◌≢◌, ℕ, ◌<◌, ◌≤◌, ◌==◌, Bool, true, false, not, Option, Some, None, List, length, refl, sym, ap, ◌∙◌, inl, inr, ◌⊎◌}
use Rattle.std.specs.Option.{option_map_or}
use Rattle.std.proofs.lemmas.Bool.{and_from, and_parts, both_ways, cases_lt, eq-eqb, not-true}
use Rattle.std.proofs.lemmas.List.{get_or_past}
use Rattle.std.proofs.lemmas.List.Folds.{list_any_at}
use Rattle.std.proofs.lemmas.Option.{none-some}
use Rattle.os9_base.specs.declared.errors.TheConstants.{E_FNA, E_PNNF, E_SHARE}
use Rattle.io_model.specs.Path.{desc_of}
use Rattle.io_model.specs.declared.path.Desc.{Desc}
use Rattle.rbf_model.specs.File.{DiskFile, is_directory}
use Rattle.rbf_model.specs.Volume.{DiskVolume}
use Rattle.rbf_model.specs.Walk.{file_permits, look_up}
use Rattle.rbf_change.specs.Names.{may_change, may_delete}
use Rattle.io_model.specs.Modes.{is_mode}
use Rattle.io_model.specs.PathList.{PathList}
use Rattle.io_model.specs.Step.{answers}
use Rattle.file_rules.specs.Change.{deletes}
use Rattle.file_rules.specs.Delete.{deletes_by, deletes_file, deletes_in, deletes_named, i_delete, i_deletx}
use Rattle.file_rules.specs.Files.{Files, Asker, directory_of, place_of_target, volume_at, with_volume}
use Rattle.file_rules.specs.MakDir.{past_list}
use Rattle.file_rules.specs.Open.{is_for_execution, tests_mode}
use Rattle.file_rules.specs.Sharing.{is_open, is_path_on, is_same_place}
use Rattle.file_rules.specs.Step.{FileStep, refused, comes, changes, leaves, needs, refuses}
use Rattle.file_rules.specs.Route.{Found, Route, along, to_device, nowhere, before_last, last_of, list_of, route_of}
use Rattle.lock_model.specs.declared.place.FilePlace.{FilePlace}
use Rattle.file_laws.specs.Kinds.{AreKinds}
use Rattle.file_laws.proofs.Counts.{many-same}
use Rattle.file_laws.proofs.Kept.{file_of, kinds-volume}
use Rattle.file_laws.proofs.Opening.{mode-kept, of-not}
use Rattle.file_laws.proofs.Steps.{IsFound, Kept, KeptOn, list-by, needs-by, on-changes, on-refused, refused-kept, refuses-by, walks-kept}
use Rattle.file_laws.proofs.Volumes.{OthersStill, deleted-still, deletion-still}

-- a path on a file makes it open
path-opens : (files : Files) (place : FilePlace) (s : ℕ) (desc : Desc) → desc_of files.io.paths s ≡ Some desc → place_of_target desc.target ≡ Some place → is_open files place ≡ true
path-opens files place s desc there at = by_place (cases_lt s (length files.io.paths.descs))
  where
    same : is_same_place place place ≡ true
    same =
        and_from (place.drive == place.drive) (place.number == place.number) (eq-eqb place.drive place.drive refl) (eq-eqb place.number place.number refl)

    on : is_path_on place (λ desc. true) (Some desc) ≡ true
    on =
        and_from (option_map_or (is_same_place place) (place_of_target desc.target) false) true (ap (λ (o : Option FilePlace). option_map_or (is_same_place place) o false) at ∙ same) refl

    by_place : (s < length files.io.paths.descs) ⊎ (length files.io.paths.descs ≤ s) → is_open files place ≡ true
    by_place (inl within) =
        list_any_at (is_path_on place (λ desc. true)) files.io.paths.descs s None within (ap (is_path_on place (λ desc. true)) there ∙ on)
    by_place (inr past) = absurd (none-some desc (sym (get_or_past files.io.paths.descs s None past) ∙ there))

-- a file that may be deleted is no directory
not-deleted : (o : Option DiskFile) (user : ℕ) (file : DiskFile) → o ≡ Some file → may_delete o user ≡ true → is_directory file ≡ true → ⊥
not-deleted o user file is may kind =
    let parts = and_parts (not (is_directory file)) (file_permits file user 2) (sym (ap (λ (o : Option DiskFile). may_delete o user) is) ∙ may) in
    both_ways (is_directory file) (not-true (is_directory file) parts.0) kind

module _ (asker : Asker) (files : Files) (kinds : AreKinds files) where
  none-kept : (number : ℕ) → Kept asker files (refused number)
  none-kept number = refused-kept asker files kinds number

  module _ (list : PathList) (name : List ℕ) (dir : Found) (found : IsFound files dir) where
    none-on : (number : ℕ) → KeptOn asker files dir.place.drive (refused number)
    none-on number = on-refused asker files kinds dir.place.drive number

    -- the file of this number goes
    gone-kinds : (n : ℕ) → may_delete (dir.volume.files n) asker.user ≡ true → is_open files (record { drive = dir.place.drive; number = n }) ≡ false
        → (was now : DiskVolume) → volume_at files dir.place.drive ≡ Some was → OthersStill was now n → AreKinds (with_volume files dir.place.drive now)
    gone-kinds n may closed was now is still =
        kinds-volume files dir.place.drive was now is kinds still.ident
        (λ s desc place there at same. still.files place.number (no_path s desc place there at same))
        (λ p execute place at same. still.files place.number (no_directory p execute place at same))
      where
        no_path : (s : ℕ) (desc : Desc) (place : FilePlace) → desc_of files.io.paths s ≡ Some desc → place_of_target desc.target ≡ Some place → place.drive ≡ dir.place.drive → place.number ≢ n
        no_path s desc place there at same number =
            let place_is : place ≡ (let it : FilePlace = record { drive = dir.place.drive; number = n } in it) = place_same place dir.place.drive n same number in
            both_ways (is_open files (record { drive = dir.place.drive; number = n })) closed
            (ap (is_open files) (sym place_is) ∙ path-opens files place s desc there at)
          where
            place_same : (place : FilePlace) (drive n : ℕ) → place.drive ≡ drive → place.number ≡ n → place ≡ record { drive = drive; number = n }
            place_same place drive n same number = ap (λ (d : ℕ). record { drive = d; number = place.number }) same ∙ ap (λ (k : ℕ). record { drive = drive; number = k }) number

        no_directory : (p : ℕ) (execute : Bool) (place : FilePlace) → directory_of files p execute ≡ Some place → place.drive ≡ dir.place.drive → place.number ≢ n
        no_directory p execute place at same number =
            let it = kinds.directories p execute place at in
            let there : dir.volume.files n ≡ Some it.file = sym (ap (file_of n) found.mounted) ∙ sym
            (ap (λ (k : ℕ). file_of k (volume_at files dir.place.drive)) number) ∙ sym
            (ap (λ (d : ℕ). file_of place.number (volume_at files d)) same) ∙ it.there in
            not-deleted (dir.volume.files n) asker.user it.file there may it.kind

    delete-file : (n : ℕ) → KeptOn asker files dir.place.drive (deletes_file asker files list name dir n)
    delete-file n =
        refuses-by (KeptOn asker files dir.place.drive) none-on (not (may_delete (dir.volume.files n) asker.user))
        E_FNA (refuses (is_open files (record { drive = dir.place.drive; number = n })) E_SHARE
        (comes (changes (record {
          drive = dir.place.drive;
          change = deletes dir.place.number n name;
          effect = λ
              new. leaves (answers (past_list asker.caller.regs list)) files;
        }))))
        (λ may. refuses-by (KeptOn asker files dir.place.drive) none-on
        (is_open files (record { drive = dir.place.drive; number = n })) E_SHARE
        (comes (changes (record {
          drive = dir.place.drive;
          change = deletes dir.place.number n name;
          effect = λ
              new. leaves (answers (past_list asker.caller.regs list)) files;
        })))
        (λ closed. on-changes asker files kinds (record {
          drive = dir.place.drive;
          change = deletes dir.place.number n
              name;
          effect = λ new. leaves (answers (past_list asker.caller.regs list)) files;
        })
        (λ number. many-same files)
        (λ was now number is it. gone-kinds n (of-not (may_delete (dir.volume.files n) asker.user) may) closed was now is (deleted-still was now dir.place.number n name it))
        (λ was left is it. gone-kinds n (of-not (may_delete (dir.volume.files n) asker.user) may) closed was left is (deletion-still it.0 was left dir.place.number n name it.2))))

    delete-in : (execute : Bool) → KeptOn asker files dir.place.drive (deletes_in asker files execute list name dir)
    delete-in execute =
        refuses-by (KeptOn asker files dir.place.drive) none-on (not (may_change dir.file asker.user execute)) E_FNA
        (needs (look_up dir.file.contents name) E_PNNF (deletes_file asker files list name dir))
        (λ may. needs-by (KeptOn asker files dir.place.drive) none-on (look_up dir.file.contents name) E_PNNF (deletes_file asker files list name dir) (λ n is. delete-file n))

  delete-way : (execute : Bool) (list : PathList) (route : Route) (name : Option (List ℕ)) → Kept asker files (deletes_named asker files execute list route name)
  delete-way execute list (along place names) None =
      walks-kept asker files kinds execute place names (λ root. refused E_FNA) (λ root found. on-refused asker files kinds root.place.drive E_FNA)
  delete-way execute list (along place names) (Some name) =
      walks-kept asker files kinds execute place (before_last names) (deletes_in asker files execute list name) (λ dir found. delete-in list name dir found execute)
  delete-way execute list to_device name = none-kept E_FNA
  delete-way execute list (nowhere number) name = none-kept number

  delete-by : (terms : ℕ) (execute : Bool) (test : FileStep → FileStep) → ((step : FileStep) → Kept asker files step
      → Kept asker files (test step)) → Kept asker files (deletes_by asker files terms execute test)
  delete-by terms execute test tests =
      list-by (Kept asker files) none-kept (list_of asker) test (λ list. deletes_named asker files execute list (route_of asker files terms execute list) (last_of list.names))
      tests (λ list. delete-way execute list (route_of asker files terms execute list) (last_of list.names))

  pub delete-kept : (terms : ℕ) → Kept asker files (i_delete asker files terms)
  delete-kept terms = delete-by terms false (λ step. step) (λ step kept. kept)

  pub deletx-kept : (terms : ℕ) → Kept asker files (i_deletx asker files terms)
  deletx-kept terms =
      delete-by terms (is_for_execution asker.caller.regs.a) (tests_mode (is_mode asker.caller.regs.a)) (mode-kept asker files kinds (is_mode asker.caller.regs.a))
