-- Why I$Delete and I$DeletX are refused.
use Rattle.std.proofs.Common.{◌≡◌, ◌≢◌, ℕ, not, Bool, true, false, Option, Some, None, List, [], ◌∷◌, length, refl, sym, ap, ◌∙◌, inl, inr, arith}
use Rattle.std.specs.Prelude.{slice_get, if◌then◌else◌}
use Rattle.std.proofs.lemmas.Bool.{or_right}
use Rattle.std.proofs.lemmas.Option.{none-some}
use Rattle.os9_base.specs.declared.errors.TheConstants.{E_BPNAM, E_FNA, E_PNNF, E_SHARE}
use Rattle.device_table.specs.Names.{device_of}
use Rattle.device_table.specs.declared.devices.Dev.{Dev}
use Rattle.device_table.specs.declared.devices.Dev.TheVariants.{Drive, Term, Pipe}
use Rattle.rbf_model.specs.Volume.{DiskVolume}
use Rattle.rbf_model.specs.Walk.{WalkEnd, look_up, walk}
use Rattle.rbf_change.specs.Names.{may_change, may_delete}
use Rattle.io_model.specs.Modes.{is_mode}
use Rattle.io_model.specs.PathList.{PathList, has_slash_behind_device}
use Rattle.io_model.specs.Step.{answers}
use Rattle.file_rules.specs.Change.{deletes}
use Rattle.file_rules.specs.Delete.{deletes_file, deletes_in, deletes_named, i_delete, i_deletx}
use Rattle.file_rules.specs.Files.{Files, Asker, directory_of, volume_at}
use Rattle.file_rules.specs.MakDir.{past_list}
use Rattle.file_rules.specs.Open.{is_for_execution, tests_mode}
use Rattle.file_rules.specs.Sharing.{is_open}
use Rattle.file_rules.specs.Step.{FileStep, refused, comes, changes, leaves, needs, refuses}
use Rattle.file_rules.specs.Route.{Found, Route, along, before_last, last_of, list_of, nowhere, to_device, route_by, route_from, route_of, route_of_device, route_on_drive}
use Rattle.file_rules.specs.declared.path_call.PathCall.TheVariants as Call
use Rattle.lock_model.specs.declared.place.FilePlace.{FilePlace}
use Rattle.file_laws.specs.Causes.{FindsIn, ListHasRoute, WalksOnVolume, a_device, a_root, deletes_name, executes, forbidden_in, is_used, makes_new, not_in, reads_list}
use Rattle.file_laws.specs.Claims.{MadePathCall}
use Rattle.file_laws.proofs.Nowhere.{nowhere-caused}
use Rattle.file_laws.proofs.Caused.{StepCaused, caused-list, caused-needs, caused-refused, caused-refuses, caused-walks, not-is}
use Rattle.file_laws.proofs.CausedNames.{tests}
use Rattle.file_laws.proofs.CausedNumbers.{made}

-- a list without a last name has none
got : {X : Type 0} (x : X) (xs : List X) → slice_get (x ∷ xs) (length xs) ≡ None → ⊥
got x [] none = none-some x (sym none)
got x (y ∷ xs) none = got y xs none

no-names : (names : List (List ℕ)) → last_of names ≡ None → before_last names ≡ names
no-names [] none = refl
no-names (name ∷ names) none = absurd (got name names (ap (slice_get (name ∷ names)) (omega arith) ∙ none))

module _ (m : MadePathCall) (reads : reads_list m.call ≡ true) (deletes_it : deletes_name m.call ≡ true) (execute : Bool)
    (execute_is : execute ≡ executes m.call m.asker.caller.regs.a) (other_open : m.call ≢ Call.Open)
    (other_create : m.call ≢ Call.Create) (walks_so : (names : List (List ℕ)) (place : FilePlace) (v : DiskVolume)
    (end : WalkEnd) → ListHasRoute m (along place names) → volume_at m.files place.drive ≡ Some v → walk v.files m.asker.user
    execute place.number (before_last names) ≡ end → WalksOnVolume m names place v end) where
  abbrev D : FileStep → Type 0
  D step = StepCaused m step

  goes : (list : PathList) (name : List ℕ) (found : Found) (n : ℕ) → FindsIn m found name → look_up found.file.contents name ≡ Some n → D (deletes_file m.asker m.files list name found n)
  goes list name found n finds there =
      caused-refuses m (not (may_delete (found.volume.files n) m.asker.user)) E_FNA
      (refuses (is_open m.files (record { drive = found.place.drive; number = n })) E_SHARE
      (comes (changes (record {
        drive = found.place.drive;
        change = deletes found.place.number n name;
        effect = λ
            new. leaves (answers (past_list m.asker.caller.regs list)) m.files;
      }))))
      (λ test. forbidden_in found name refl finds (inr (inr (n, deletes_it, there, not-is (may_delete (found.volume.files n) m.asker.user) test))))
      (caused-refuses m (is_open m.files (record { drive = found.place.drive; number = n })) E_SHARE
      (comes (changes (record {
        drive = found.place.drive;
        change = deletes found.place.number n name;
        effect = λ
            new. leaves (answers (past_list m.asker.caller.regs list)) m.files;
      })))
      (λ test. is_used found name n refl deletes_it finds there test)
      (λ new. (past_list m.asker.caller.regs list, refl)))

  in-it : (list : PathList) (name : List ℕ) (found : Found) → FindsIn m found name → D (deletes_in m.asker m.files execute list name found)
  in-it list name found finds =
      caused-refuses m (not (may_change found.file m.asker.user execute)) E_FNA (needs (look_up found.file.contents name) E_PNNF (deletes_file m.asker m.files list name found))
      (λ test. forbidden_in found name refl finds (inl (ap (may_change found.file m.asker.user) (sym execute_is) ∙ not-is (may_change found.file m.asker.user execute) test)))
      (caused-needs m (look_up found.file.contents name) E_PNNF (deletes_file m.asker m.files list name found)
      (λ none. not_in found name refl deletes_it finds none)
      (λ n there. goes list name found n finds there))

  delete-way : (list : PathList) (route : Route) → ListHasRoute m route → (last : Option (List ℕ))
      → ((place : FilePlace) (names : List (List ℕ)) → route ≡ along place names → last_of names ≡ last)
      → D (deletes_named m.asker m.files execute list route last)
  delete-way list (along place names) leads None last_is =
      let last = last_is place names refl in
      caused-walks m execute names names (λ place v end leads mounted is. walks_so names place v end leads mounted
      (ap (walk v.files m.asker.user execute place.number) (no-names names last) ∙ is)) place
      (λ root. refused E_FNA) leads
      (λ found finds. caused-refused m E_FNA (a_root names place refl deletes_it leads last))
  delete-way list (along place names) leads (Some name) last_is =
      caused-walks m execute names (before_last names) (λ place v end leads mounted is. walks_so names place v end leads mounted is) place (deletes_in m.asker m.files execute list name) leads
      (λ found finds. in-it list name found (record { enters = or_right (makes_new m.call) (deletes_name m.call) deletes_it; names = names; finds = finds; last = last_is place names refl }))
  delete-way list to_device leads last last_is = caused-refused m E_FNA (a_device refl other_open other_create leads)
  delete-way list (nowhere number) leads last last_is = caused-refused m number (nowhere-caused m number leads)

-- ---- the names behind the start of a route are those of the list

names-along : (from place : FilePlace) (names others : List (List ℕ)) → along from names ≡ along place others → others ≡ names
names-along from place names others is = cc

nowhere-along : (number : ℕ) (place : FilePlace) (names : List (List ℕ)) → nowhere number ≡ along place names → ⊥
nowhere-along number place names is = cc

device-along : (place : FilePlace) (names : List (List ℕ)) → to_device ≡ along place names → ⊥
device-along place names is = cc

module _ (asker : Asker) (files : Files) (terms : ℕ) (execute : Bool) (list : PathList) (place : FilePlace) (names : List (List ℕ)) where
  from-names : (start : Option FilePlace) → route_from start list.names ≡ along place names → names ≡ list.names
  from-names None is = absurd (nowhere-along E_PNNF place names is)
  from-names (Some start) is = names-along start place list.names names is

  drive-names : (drive : ℕ) (v : Option DiskVolume) → route_on_drive drive list.names v ≡ along place names → names ≡ list.names
  drive-names drive None is = absurd (nowhere-along _ place names is)
  drive-names drive (Some v) is = names-along _ place list.names names is

  slash-names : (slash : Bool) → (if slash then nowhere E_BPNAM else to_device) ≡ along place names → names ≡ list.names
  slash-names true is = absurd (nowhere-along E_BPNAM place names is)
  slash-names false is = absurd (device-along place names is)

  device-names : (device : Option Dev) → route_of_device files list device ≡ along place names → names ≡ list.names
  device-names None is = absurd (nowhere-along _ place names is)
  device-names (Some (Drive drive)) is = drive-names drive (volume_at files drive) is
  device-names (Some (Term terminal)) is = slash-names (has_slash_behind_device list) is
  device-names (Some Pipe) is = slash-names (has_slash_behind_device list) is

  way-names : (device : Option (List ℕ)) → route_by asker files terms execute list device ≡ along place names → names ≡ list.names
  way-names None is = from-names (directory_of files asker.caller.process.0 execute) is
  way-names (Some device) is = device-names (device_of (length files.drives) terms device) is

-- ---- the calls

last-of : (asker : Asker) (files : Files) (terms : ℕ) (execute : Bool) (list : PathList) (place : FilePlace)
    (names : List (List ℕ)) → route_of asker files terms execute list ≡ along place names → last_of names ≡ last_of
    list.names
last-of asker files terms execute list place names is =
    ap last_of (way-names asker files terms execute list place names list.device is)

module _ (asker : Asker) (files : Files) (terms : ℕ) where
  pub delete-caused : StepCaused (made Call.Delete asker files terms) (i_delete asker files terms)
  delete-caused =
      caused-list (made Call.Delete asker files terms) refl (λ is. (refl, is)) (list_of asker) refl (λ step. step)
      (λ list. deletes_named asker files false list (route_of asker files terms false list) (last_of list.names))
      (λ step holds. holds)
      (λ list read. delete-way (made Call.Delete asker files terms) refl refl false refl (λ same. cc) (λ same. cc)
      (λ names place v end leads mounted is. record { leads = leads; mounted = mounted; is = is }) list
      (route_of asker files terms false list) (record { reads = refl; list = list; read = read; is = refl })
      (last_of list.names) (last-of asker files terms false list))

  pub deletx-caused : StepCaused (made Call.DeletX asker files terms) (i_deletx asker files terms)
  deletx-caused =
      caused-list (made Call.DeletX asker files terms) refl (λ is. (refl, is)) (list_of asker) refl
      (tests_mode (is_mode asker.caller.regs.a)) (λ list. deletes_named asker files
      (is_for_execution asker.caller.regs.a) list (route_of asker files terms (is_for_execution asker.caller.regs.a)
      list) (last_of list.names))
      (tests (made Call.DeletX asker files terms) (is_mode asker.caller.regs.a) (λ bad. bad))
      (λ list read. delete-way (made Call.DeletX asker files terms) refl refl (is_for_execution asker.caller.regs.a)
      refl (λ same. cc) (λ same. cc) (λ names place v end leads mounted is. record
      { leads = leads; mounted = mounted; is = is }) list
      (route_of asker files terms (is_for_execution asker.caller.regs.a) list)
      (record { reads = refl; list = list; read = read; is = refl }) (last_of list.names)
      (last-of asker files terms (is_for_execution asker.caller.regs.a) list))
