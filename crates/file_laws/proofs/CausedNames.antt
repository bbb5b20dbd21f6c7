-- Why calls on path lists are refused that lead to no terminal and no pipe.
use Rattle.std.proofs.Common.{◌≡◌, ◌⊎◌, ℕ, ◌==◌, ◌&&◌, not, Bool, true, false, List, length, refl, inl, inr}
use Rattle.std.specs.Prelude.{is_some, nat_lt}
use Rattle.std.proofs.lemmas.Bool.{and_parts, eqb-true, ltb-true}
use Rattle.os9_base.specs.declared.errors.TheConstants.{E_BPNAM, E_BMODE, E_CEF, E_FNA, E_FULL, E_PTHFUL, E_SHARE, E_SLF}
use Rattle.io_model.specs.Path.{new_number, paths_after_begin}
use Rattle.rbf_model.specs.Walk.{look_up}
use Rattle.rbf_change.specs.Calls.{cluster_size, free_total}
use Rattle.rbf_change.specs.Names.{may_change}
use Rattle.rbf_change.specs.NewFiles.{entry_clusters}
use Rattle.io_model.specs.Io.{new_desc}
use Rattle.io_model.specs.Modes.{can_write, is_mode}
use Rattle.io_model.specs.Open.{opened_regs}
use Rattle.io_model.specs.PathList.{PathList}
use Rattle.io_model.specs.Step.{answers}
use Rattle.io_model.specs.declared.io_call.IoCall.TheVariants as Device
use Rattle.file_rules.specs.Change.{creates, makes_directory}
use Rattle.file_rules.specs.ChgDir.{goes_on_route, goes_to, i_chgdir, may_go_to}
use Rattle.file_rules.specs.Create.{clusters_for, creates_in, creates_on_route, creates_with_path, has_room_for, i_create, opens_new}
use Rattle.file_rules.specs.Files.{Files, Asker, directories_at, target_on, with_directories_of, with_directory, with_path_table}
use Rattle.file_rules.specs.MakDir.{i_makdir, makes_in, makes_on_route, new_directory_size, past_list}
use Rattle.file_rules.specs.Open.{begins_on, i_open, is_for_execution, may_open, opens_found, opens_on_route, says_directory, tests_mode}
use Rattle.file_rules.specs.Sharing.{is_not_shared}
use Rattle.file_rules.specs.Step.{FileStep, comes, changes, done, leaves, needs, refuses}
use Rattle.file_rules.specs.Route.{Found, Route, along, before_last, last_of, list_of, nowhere, to_device, walks, route_of, route_to_new}
use Rattle.file_rules.specs.declared.path_call.PathCall.TheVariants as Call
use Rattle.file_laws.specs.Causes.{FindsIn, HasBadMode, ListHasRoute, a_device, bad_mode, executes, first_size, forbidden, forbidden_in, makes_new, no_last, no_number, no_room, no_segment, not_shared, reads_list, there_already}
use Rattle.file_laws.specs.Claims.{MadePathCall}
use Rattle.file_laws.proofs.Nowhere.{nowhere-caused}
use Rattle.file_laws.proofs.Caused.{StepCaused, caused-done, caused-list, caused-needs, caused-refused, caused-refuses, caused-walks, not-is}
use Rattle.file_laws.proofs.CausedNumbers.{made}

-- ---- what they have in common

module _ (m : MadePathCall) where
  abbrev C : FileStep → Type 0
  C step = StepCaused m step

  pub tests : (allowed : Bool) → (allowed ≡ false → HasBadMode m.call m.asker.caller.regs.a) → (step : FileStep) → C step → C (tests_mode allowed step)
  tests allowed bad step holds =
      caused-refuses m (not allowed) E_BMODE step (λ test. bad_mode refl (bad (not-is allowed test))) holds

  -- ---- I$Create and I$MakDir

  module _ (makes : makes_new m.call ≡ true) (reads : reads_list m.call ≡ true) (found : Found) (name : List ℕ) (finds : FindsIn m found name) where
    room : (next : FileStep) → C next → C (has_room_for found (first_size m.call) next)
    room next holds =
        caused-refuses m (nat_lt (free_total found.volume) (clusters_for found (first_size m.call))) E_FULL
        (refuses (nat_lt 0 (entry_clusters (cluster_size found.volume) found.file) && (length found.file.segments
        == 48)) E_SLF next)
        (λ test. no_room refl (record { makes = makes; found = found; name = name; finds = finds; full = ltb-true (free_total found.volume) (clusters_for found (first_size m.call)) test }))
        (caused-refuses m (nat_lt 0 (entry_clusters (cluster_size found.volume) found.file) && (length found.file.segments == 48)) E_SLF next
        (λ test.
        let both = and_parts (nat_lt 0 (entry_clusters (cluster_size found.volume) found.file)) (length found.file.segments == 48) test in
        no_segment refl (record {
          makes = makes;
          found = found;
          name = name;
          finds = finds;
          needs = ltb-true 0
              (entry_clusters (cluster_size found.volume) found.file) both.0;
          full = eqb-true
              (length found.file.segments) 48 both.1;
        }))
        holds)

    is-new : (next : FileStep) → C next → C (refuses (is_some (look_up found.file.contents name)) E_CEF next)
    is-new next holds =
        caused-refuses m (is_some (look_up found.file.contents name)) E_CEF next (λ test. there_already found name refl makes finds test) holds

    may : (next : FileStep) → C next → C (refuses (not (may_change found.file m.asker.user (executes m.call m.asker.caller.regs.a))) E_FNA next)
    may next holds =
        caused-refuses m (not (may_change found.file m.asker.user (executes m.call m.asker.caller.regs.a))) E_FNA next
        (λ test. forbidden_in found name refl finds (inl (not-is (may_change found.file m.asker.user (executes m.call m.asker.caller.regs.a)) test))) holds

  number-free : (m.call ≡ Call.Open) ⊎ (m.call ≡ Call.Create) → (next : ℕ → FileStep) → ((n : ℕ) → C (next n)) → C (needs (new_number m.files.io.paths m.asker.caller.process.0) E_PTHFUL next)
  number-free begins next holds =
      caused-needs m (new_number m.files.io.paths m.asker.caller.process.0) E_PTHFUL next (λ none. no_number refl begins none) (λ n is. holds n)

module _ (asker : Asker) (files : Files) (terms : ℕ) where
  -- ---- I$Open

  abbrev opening : MadePathCall
  opening = made Call.Open asker files terms

  open-way : (list : PathList) (route : Route) → ListHasRoute opening route → StepCaused opening (opens_on_route asker files terms list route)
  open-way list (along place names) leads =
      caused-walks opening (is_for_execution asker.caller.regs.a) names names (λ place v end leads mounted is. record
      { leads = leads; mounted = mounted; is = is }) place (opens_found asker files list) leads (λ found finds.
      caused-refuses opening (not (may_open found.file asker.user asker.caller.regs.a)) E_FNA (refuses (is_not_shared files found asker.caller.regs.a) E_SHARE (begins_on asker files list found))
      (λ test. forbidden names found refl finds (not-is (may_open found.file asker.user asker.caller.regs.a) test))
      (caused-refuses opening (is_not_shared files found asker.caller.regs.a) E_SHARE (begins_on asker files list found)
      (λ test. not_shared names found refl refl finds test)
      (number-free opening (inl refl) (λ number. done (opened_regs asker.caller.regs list number)
      (with_path_table files (paths_after_begin files.io.paths asker.caller.process.0
      (new_desc (target_on found.file found.place) asker.caller.regs.a))))
      (λ number. caused-done opening (opened_regs asker.caller.regs list number)
      (with_path_table files (paths_after_begin files.io.paths asker.caller.process.0
      (new_desc (target_on found.file found.place) asker.caller.regs.a)))))))
  open-way list to_device leads =
      inl (record { device = Device.Open; device_is = refl; is = refl }, (leads.list, leads.read, leads.is))
  open-way list (nowhere number) leads = caused-refused opening number (nowhere-caused opening number leads)

  pub open-caused : StepCaused (made Call.Open asker files terms) (i_open asker files terms)
  open-caused =
      caused-list opening refl (λ is. (refl, is)) (list_of asker) refl (tests_mode (is_mode asker.caller.regs.a))
      (λ list. opens_on_route asker files terms list
      (route_of asker files terms (is_for_execution asker.caller.regs.a) list))
      (tests opening (is_mode asker.caller.regs.a) (λ bad. bad))
      (λ list read. open-way list (route_of asker files terms (is_for_execution asker.caller.regs.a) list) (record { reads = refl; list = list; read = read; is = refl }))

  -- ---- I$Create

  abbrev creating : MadePathCall
  creating = made Call.Create asker files terms

  create-way : (list : PathList) (route : Route) → ListHasRoute creating route → StepCaused creating (creates_on_route asker files terms list route)
  create-way list (along place names) leads =
      caused-needs creating (last_of names) E_BPNAM (λ name. walks asker files (is_for_execution asker.caller.regs.a) place (before_last names) (creates_in asker files list name))
      (λ none. no_last names place refl refl leads none)
      (λ name last. caused-walks creating (is_for_execution asker.caller.regs.a) names (before_last names)
      (λ place v end leads mounted is. record { leads = leads; mounted = mounted; is = is }) place
      (creates_in asker files list name) leads (λ found finds. in_it found name
      (record { enters = refl; names = names; finds = finds; last = last })))
    where
      in_it : (found : Found) (name : List ℕ) → FindsIn creating found name → StepCaused creating (creates_in asker files list name found)
      in_it found name finds =
          may creating refl refl found name finds (refuses (says_directory asker.caller.regs.b) E_FNA
          (refuses (is_some (look_up found.file.contents name)) E_CEF (creates_with_path asker files list name
          found)))
          (caused-refuses creating (says_directory asker.caller.regs.b) E_FNA (refuses (is_some (look_up found.file.contents name)) E_CEF (creates_with_path asker files list name found))
          (λ test. forbidden_in found name refl finds (inr (inl (refl, test))))
          (is-new creating refl refl found name finds (creates_with_path asker files list name found)
          (number-free creating (inr refl) (λ number. has_room_for found 0
          (comes (changes (record {
            drive = found.place.drive;
            change = creates found.place.number name
                asker.caller.regs.b;
            effect = opens_new asker files list found.place.drive number;
          }))))
          (λ number. room creating refl refl found name finds
          (comes (changes (record {
            drive = found.place.drive;
            change = creates found.place.number name
                asker.caller.regs.b;
            effect = opens_new asker files list found.place.drive number;
          })))
          (λ n. (opened_regs asker.caller.regs list number, refl))))))
  create-way list to_device leads =
      inl (record { device = Device.Create; device_is = refl; is = refl }, (leads.list, leads.read, leads.is))
  create-way list (nowhere number) leads = caused-refused creating number (nowhere-caused creating number leads)

  pub create-caused : StepCaused (made Call.Create asker files terms) (i_create asker files terms)
  create-caused =
      caused-list creating refl (λ is. (refl, is)) (list_of asker) refl (tests_mode (can_write asker.caller.regs.a))
      (λ list. creates_on_route asker files terms list (route_to_new asker files terms
      (is_for_execution asker.caller.regs.a) list))
      (tests creating (can_write asker.caller.regs.a) (λ bad. bad))
      (λ list read. create-way list (route_to_new asker files terms (is_for_execution asker.caller.regs.a) list) (record { reads = refl; list = list; read = read; is = refl }))

  -- ---- I$MakDir

  abbrev making : MadePathCall
  making = made Call.MakDir asker files terms

  make-way : (list : PathList) (route : Route) → ListHasRoute making route → StepCaused making (makes_on_route asker files list route)
  make-way list (along place names) leads =
      caused-needs making (last_of names) E_BPNAM (λ name. walks asker files false place (before_last names) (makes_in asker files list name))
      (λ none. no_last names place refl refl leads none)
      (λ name last. caused-walks making false names (before_last names) (λ place v end leads mounted is. record
      { leads = leads; mounted = mounted; is = is }) place (makes_in asker files list name) leads
      (λ found finds. in_it found name (record { enters = refl; names = names; finds = finds; last = last })))
    where
      in_it : (found : Found) (name : List ℕ) → FindsIn making found name → StepCaused making (makes_in asker files list name found)
      in_it found name finds =
          may making refl refl found name finds (refuses (is_some (look_up found.file.contents name)) E_CEF
          (has_room_for found new_directory_size
          (comes (changes (record {
            drive = found.place.drive;
            change = makes_directory found.place.number name
                asker.caller.regs.b;
            effect = λ n. leaves (answers (past_list asker.caller.regs list)) files;
          })))))
          (is-new making refl refl found name finds (has_room_for found new_directory_size
          (comes (changes (record {
            drive = found.place.drive;
            change = makes_directory found.place.number name
                asker.caller.regs.b;
            effect = λ n. leaves (answers (past_list asker.caller.regs list)) files;
          }))))
          (room making refl refl found name finds
          (comes (changes (record {
            drive = found.place.drive;
            change = makes_directory found.place.number name
                asker.caller.regs.b;
            effect = λ n. leaves (answers (past_list asker.caller.regs list)) files;
          })))
          (λ n. (past_list asker.caller.regs list, refl))))
  make-way list to_device leads = caused-refused making E_FNA (a_device refl (λ same. cc) (λ same. cc) leads)
  make-way list (nowhere number) leads = caused-refused making number (nowhere-caused making number leads)

  pub makdir-caused : StepCaused (made Call.MakDir asker files terms) (i_makdir asker files terms)
  makdir-caused =
      caused-list making refl (λ is. (refl, is)) (list_of asker) refl (λ step. step) (λ list. makes_on_route asker files list (route_to_new asker files terms false list))
      (λ step holds. holds)
      (λ list read. make-way list (route_to_new asker files terms false list) (record { reads = refl; list = list; read = read; is = refl }))

  -- ---- I$ChgDir

  abbrev going : MadePathCall
  going = made Call.ChgDir asker files terms

  go-way : (list : PathList) (route : Route) → ListHasRoute going route → StepCaused going (goes_on_route asker files list route)
  go-way list (along place names) leads =
      caused-walks going (is_for_execution asker.caller.regs.a) names names (λ place v end leads mounted is. record
      { leads = leads; mounted = mounted; is = is }) place (goes_to asker files list) leads (λ found finds.
      caused-refuses going (not (may_go_to found.file asker.user asker.caller.regs.a)) E_FNA
      (done (past_list asker.caller.regs list) (with_directories_of files asker.caller.process.0
      (with_directory (directories_at files asker.caller.process.0) (is_for_execution asker.caller.regs.a)
      found.place)))
      (λ test. forbidden names found refl finds (not-is (may_go_to found.file asker.user asker.caller.regs.a) test))
      (caused-done going (past_list asker.caller.regs list) (with_directories_of files asker.caller.process.0
      (with_directory (directories_at files asker.caller.process.0) (is_for_execution asker.caller.regs.a)
      found.place))))
  go-way list to_device leads = caused-refused going E_FNA (a_device refl (λ same. cc) (λ same. cc) leads)
  go-way list (nowhere number) leads = caused-refused going number (nowhere-caused going number leads)

  pub chgdir-caused : StepCaused (made Call.ChgDir asker files terms) (i_chgdir asker files terms)
  chgdir-caused =
      caused-list going refl (λ is. (refl, is)) (list_of asker) refl (tests_mode (is_mode asker.caller.regs.a))
      (λ list. goes_on_route asker files list (route_of asker files terms (is_for_execution asker.caller.regs.a)
      list))
      (tests going (is_mode asker.caller.regs.a) (λ bad. bad))
      (λ list read. go-way list (route_of asker files terms (is_for_execution asker.caller.regs.a) list) (record { reads = refl; list = list; read = read; is = refl }))
