-- I$MakDir in two parts.
use Rattle.std.proofs.Common.{◌≡◌, ◌∙◌, ℕ, ◌||◌, length, Bool, true, false, Option, Some, None, List, Result, Ok, Err, refl, ap, if◌then◌else◌}
use Rattle.os9_base.specs.declared.errors.TheConstants.{E_BPNAM}
use Rattle.device_table.specs.Names.{device_of}
use Rattle.device_table.specs.declared.devices.Dev.{Dev}
use Rattle.device_table.specs.declared.devices.Dev.TheVariants.{Drive, Term, Pipe}
use Rattle.os9_base.specs.declared.name_fault.NameFault.{NameFault}
use Rattle.os9_base.specs.declared.name_fault.NameFault.TheVariants.{Unreadable, NoName}
use Rattle.io_model.specs.PathList.{PathList, ends_in_dots, has_slash_behind_device}
use Rattle.rbf_model.specs.Volume.{DiskVolume}
use Rattle.file_rules.specs.Files.{Asker, Files, directory_of, volume_at}
use Rattle.file_rules.specs.MakDir.{i_makdir, makes_in, makes_on_route}
use Rattle.file_rules.specs.Step.{comes, needs}
use Rattle.file_rules.specs.Route.{Route, along, to_device, nowhere, before_last, is_root, last_of, list_of, reads_list, walks, route_by, route_from, route_of, route_of_device, route_on_drive, route_to_new}
use Rattle.lock_model.specs.declared.place.FilePlace.{FilePlace}
use Rattle.file_routes.specs.Routes.{next_step, refuses_by}
use Rattle.file_routes.specs.declared.route.Purpose.TheVariants.{New}
use Rattle.name_calls.proofs.LookLemmas.{walks-on}
use Rattle.name_calls.specs.MakDir.{makes_it}
use Rattle.name_calls.specs.Naming.{named_by, names_last, names_on}

-- ---- a route has the names of its list

abbrev HasNamesOf : List (List ℕ) → Route → Type 0
HasNamesOf all (along from names) = names ≡ all
HasNamesOf all to_device = Unit {0}
HasNamesOf all (nowhere number) = Unit {0}

device-names : (slash : Bool) (all : List (List ℕ)) → HasNamesOf all (if slash then nowhere E_BPNAM else to_device)
device-names true all = tt
device-names false all = tt

drive-names : (drive : ℕ) (all : List (List ℕ)) (volume : Option DiskVolume) → HasNamesOf all (route_on_drive drive all volume)
drive-names drive all None = tt
drive-names drive all (Some v) = refl

start-names : (all : List (List ℕ)) (start : Option FilePlace) → HasNamesOf all (route_from start all)
start-names all None = tt
start-names all (Some from) = refl

module _ (asker : Asker) (files : Files) (terms : ℕ) (execute : Bool) (list : PathList) where
  of-device : (device : Option Dev) → HasNamesOf list.names (route_of_device files list device)
  of-device None = tt
  of-device (Some (Drive drive)) = drive-names drive list.names (volume_at files drive)
  of-device (Some (Term terminal)) = device-names (has_slash_behind_device list) list.names
  of-device (Some Pipe) = device-names (has_slash_behind_device list) list.names

  by-device : (device : Option (List ℕ)) → HasNamesOf list.names (route_by asker files terms execute list device)
  by-device None = start-names list.names (directory_of files asker.caller.process.0 execute)
  by-device (Some device) = of-device (device_of (length files.drives) terms device)

  new-names : (none : Bool) → HasNamesOf list.names (if none then nowhere E_BPNAM else route_of asker files terms execute list)
  new-names true = tt
  new-names false = by-device list.device

-- ---- the parts

module _ (asker : Asker) (files : Files) where
  by-last : (list : PathList) (from : FilePlace) (names : List (List ℕ)) (last : Option (List ℕ)) → needs last E_BPNAM
      (λ name. walks asker files false from (before_last names) (makes_in asker files list name)) ≡ next_step
      (names_on New asker files false list (along from names) last) (makes_it asker files)
  by-last list from names None = refl
  by-last list from names (Some name) = walks-on asker files false (makes_in asker files list name)
      (λ directory. comes (named_by list name directory)) (makes_it asker files) (λ found. refl) from
      (before_last names)

  with-route : (list : PathList) (route : Route) → HasNamesOf list.names route → makes_on_route asker files list route ≡ next_step
      (names_on New asker files false list route (last_of list.names)) (makes_it asker files)
  with-route list (along from names) same =
      by-last list from names (last_of names)
      ∙ ap (λ (all : List (List ℕ)). next_step (names_on New asker files false list (along from names) (last_of all)) (makes_it asker files)) same
  with-route list to_device same = refl
  with-route list (nowhere number) same = refl

  pub makdir-parts : (terms : ℕ) → i_makdir asker files terms ≡ next_step (names_last New false None asker files terms) (makes_it asker files)
  makdir-parts terms = by (list_of asker)
    where
      by : (read : Result PathList NameFault) → reads_list read (λ step. step) (λ list. makes_on_route asker files list
          (route_to_new asker files terms false list)) ≡ next_step (reads_list read (refuses_by None)
          (λ list. names_on New asker files false list (route_to_new asker files terms false list)
          (last_of list.names))) (makes_it asker files)
      by (Ok list) = with-route list (route_to_new asker files terms false list) (new-names asker files terms false list (ends_in_dots list || is_root files terms list))
      by (Err Unreadable) = refl
      by (Err NoName) = refl
