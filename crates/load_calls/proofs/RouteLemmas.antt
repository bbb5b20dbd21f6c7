-- The route of the path list of a file of modules, and the walk along it.
use Rattle.std.proofs.Common.{◌≡◌, ◌∙◌, ℕ, ◌+◌, Option, Some, None, option_and_then, Result, Ok, Err, List, length, inl, refl, ap, sym, subst, arith, true}
use Rattle.std.proofs.lemmas.List.{length-map}
use Rattle.os9_base.specs.declared.errors.TheConstants.{E_FNA, E_MNF, E_PNNF}
use Rattle.os9_base.specs.declared.registers.Pid.{Pid}
use Rattle.os9_base.specs.declared.name_fault.NameFault.{NameFault}
use Rattle.io_model.specs.PathList.{PathList}
use Rattle.rbf_model.specs.File.{DiskFile}
use Rattle.rbf_model.specs.Volume.{DiskVolume}
use Rattle.rbf_model.specs.Walk.{WalkEnd, walk}
use Rattle.rbf_access.specs.declared.faults.FileFault.TheVariants.{NoCluster, TooManyRuns}
use Rattle.rbf_access.specs.declared.faults.FileFault.TheVariants as fault
use Rattle.rbf_walk.specs.Walk.{calls_on, directory_error, directory_fault, walk_calls}
use Rattle.rbf_walk.specs.declared.error.DirError.{DirError}
use Rattle.rbf_walk.specs.declared.error.DirError.TheVariants.{NotAllowed, BadPath, NotFound, Exists, File}
use Rattle.file_rules.specs.Files.{Asker, DriveState, Files, file_in, volume_at}
use Rattle.file_rules.specs.ProgramFile.{ProgramFile, program_file, program_found, program_on_route, reading_of}
use Rattle.file_rules.specs.Step.{Step, refused, comes, reaches, drive_of, needs}
use Rattle.file_rules.specs.Route.{along, to_device, nowhere, Found, list_of, reads_list, walk_ends, route_of, IsFoundAt}
use Rattle.file_rules.specs.Route as Rule
use Rattle.lock_model.specs.declared.place.FilePlace.{FilePlace}
use Rattle.file_drives.specs.Drives.{DriveView, drive_state}
use Rattle.file_drives.specs.Mounted.{HasFileAt}
use Rattle.file_state.proofs.CountLemmas.{called-more, called-read}
use Rattle.file_state.proofs.ReachedLemmas.{has-read, read-none}
use Rattle.file_state.specs.Counted.{CalledAtMost, calls_of}
use Rattle.file_state.specs.Reached.{HasReadDrive}
use Rattle.file_state.specs.Tie.{RepresentsFiles}
use Rattle.file_state.specs.declared.state.FileState.{FileState}
use Rattle.file_routes.proofs.ReachLemmas.{volume-there, walk-comes, walks-forbidden, walks-found, walks-reaches, walks-unfound, WalkComes}
use Rattle.file_routes.proofs.VolumeLemmas.{file-there}
use Rattle.file_routes.proofs.RouteLemmas.{leads-on}
use Rattle.file_routes.specs.Reached.{FindsFilePlace}
use Rattle.file_routes.specs.Walks.{SomeFrom, WalksAlongNames}
use Rattle.file_routes.specs.Routes.{HasCourseNames, IsRoute, Led, NamesOn, leads, led_by, next_step, refuses_by, route_on}
use Rattle.file_routes.specs.declared.walk.WalkStart.{WalkStart}
use Rattle.file_routes.specs.declared.walk.Walker.{Walker}
use Rattle.file_routes.specs.declared.route.Route.{Route}
use Rattle.file_routes.specs.declared.route.Course.{Course}
use Rattle.file_routes.specs.declared.route.Course.TheVariants.{Along, Device}
use Rattle.os9_base.specs.Cells.{Cells}
use Rattle.device_paths.specs.Standing.{NamesFrom}
use Rattle.load_calls.proofs.FoundLemmas.{found-step}
use Rattle.load_calls.proofs.ReadingLemmas.{OnlyReads, only-none, only-read, reads-behind, reads-broken, reads-well}
use Rattle.load_calls.specs.Calls.{calls_at_end, calls_on_volume, found_calls, list_calls, program_calls, program_route_calls}
use Rattle.load_calls.specs.Found.{program_by, program_size, program_there}
use Rattle.load_calls.specs.Reading.{ReadsTo}
use Rattle.load_calls.specs.declared.reading.ProgramRead.{ProgramRead}

-- ---- the list

module _ (asker : Asker) (files : Files) (terms : ℕ) (refusal : Option ℕ) where
  by-leads : program_file asker files terms (refuses_by refusal) ≡ next_step (leads asker refusal (route_of asker files terms true)) (λ led. program_on_route asker files led.list led.route)
  by-leads = leads-on asker refusal (route_of asker files terms true) (program_on_route asker files) (λ list number. refl)

  -- along the route that was found
  pub program-route : (list : PathList) (meant : Rule.Route) → leads asker refusal (route_of asker files terms true) ≡ comes
      (record { list = list; route = meant }) → program_file asker files terms (refuses_by refusal) ≡ program_on_route asker
      files list meant
  program-route list meant is =
      by-leads ∙ ap (λ (step : Step Led). next_step step (λ led. program_on_route asker files led.list led.route)) is

  -- or it is refused
  pub program-refused : (number : ℕ) → leads asker refusal (route_of asker files terms true) ≡ refused number → program_file asker files terms (refuses_by refusal) ≡ refused number
  program-refused number is =
      by-leads ∙ ap (λ (step : Step Led). next_step step (λ led. program_on_route asker files led.list led.route)) is

  -- the route is that of the list
  abbrev route-led : Step Led → Rule.Route → Rule.Route
  route-led (refused number) other = other
  route-led (comes led) other = led.route
  route-led (reaches drive step) other = other

  led-route : (list : PathList) (meant other : Rule.Route) → led_by list other ≡ comes (record { list = list; route = meant }) → other ≡ meant
  led-route list meant (along from names) is = ap (λ (step : Step Led). route-led step meant) is
  led-route list meant to_device is = ap (λ (step : Step Led). route-led step meant) is
  led-route list meant (nowhere number) is = ap (λ (step : Step Led). route-led step (nowhere number)) is

  refused-route : (list : PathList) (meant other : Rule.Route) (refusal : Option ℕ) → refuses_by refusal (led_by list other) ≡ comes (record { list = list; route = meant }) → other ≡ meant
  refused-route list meant other None is = led-route list meant other is
  refused-route list meant other (Some number) is = ap (λ (step : Step Led). route-led step other) is

  pub listed-route : (list : PathList) (meant : Rule.Route) → list_of asker ≡ Ok list → leads asker refusal
      (route_of asker files terms true) ≡ comes (record { list = list; route = meant }) → route_of asker files terms true list
      ≡ meant
  listed-route list meant read is =
      refused-route list meant (route_of asker files terms true list) refusal
      (sym (ap (λ (read : Result PathList NameFault). reads_list read (refuses_by refusal) (λ list. led_by list (route_of asker files terms true list))) read) ∙ is)

  -- a walk reaches its drive, if there is a volume
  calls-reached : (from : FilePlace) (names : List (List ℕ)) (volume : Option DiskVolume) (step : DiskVolume
      → Step ProgramFile) → calls_of (needs volume E_MNF (λ v. reaches from.drive (step v)))
      (calls_on_volume asker.user files from names volume) ≡ calls_on_volume asker.user files from names volume
  calls-reached from names None step = refl
  calls-reached from names (Some v) step = refl

  calls-along : (list : PathList) (from : FilePlace) (names : List (List ℕ)) → list_of asker ≡ Ok list
      → leads asker refusal (route_of asker files terms true) ≡ comes (record { list = list; route = along from names })
      → program_calls asker files terms refusal ≡ program_route_calls asker files (along from names)
  calls-along list from names read is =
      ap (λ (step : Step ProgramFile). calls_of step (list_calls asker files terms (list_of asker))) (program-route list (along from names) is)
      ∙ ap (λ (read : Result PathList NameFault). calls_of (program_on_route asker files list (along from names)) (list_calls asker files terms read)) read
      ∙ ap (λ (meant : Rule.Route). calls_of (program_on_route asker files list (along from names)) (program_route_calls asker files meant)) (listed-route list (along from names) read is)
      ∙ calls-reached from names (volume_at files from.drive) (λ v. walk_ends from.drive v (walk v.files asker.user true from.number names) (program_found asker files list))

  -- what comes of a call whose list leads to no file
  pub program-nowhere : (state : FileState) (views : List DriveView) (number : ℕ) (buffer : List ℕ)
      → RepresentsFiles state views files → program_file asker files terms (refuses_by refusal) ≡ refused number
      → ReadsTo (program_file asker files terms (refuses_by refusal)) (program_calls asker files terms refusal) files
      (Err number) buffer state views views
  program-nowhere state views number buffer stands is =
      reads-well (program_file asker files terms (refuses_by refusal)) (program_calls asker files terms refusal) files (Err number) (Err number) buffer state views views views 0
      (ap reading_of is) (read-none 0 state views files stands) refl
      (only-none (program_file asker files terms (refuses_by refusal)) (program_calls asker files terms refusal) views)

  -- or along names
  pub program-along : (list : PathList) (from : FilePlace) (result : Result ProgramRead ℕ) (buffer : List ℕ)
      (new : FileState) (before after : List DriveView) → list_of asker ≡ Ok list → leads asker refusal
      (route_of asker files terms true) ≡ comes (record { list = list; route = along from list.names })
      → ReadsTo (program_on_route asker files list (along from list.names))
      (program_route_calls asker files (along from list.names)) files result buffer new before after
      → ReadsTo (program_file asker files terms (refuses_by refusal)) (program_calls asker files terms refusal) files
      result buffer new before after
  program-along list from result buffer new before after read is it =
      subst (λ (step : Step ProgramFile). ReadsTo step (program_calls asker files terms refusal) files result buffer new before after) (sym (program-route list (along from list.names) is))
      (subst (λ (most : ℕ). ReadsTo (program_on_route asker files list (along from list.names)) most files result buffer new before after) (sym (calls-along list from list.names read is)) it)

-- ---- the walk

-- it has arrived at a file
pub record Arrives (asker : Asker) (files : Files) (list : PathList) (from place : FilePlace) (new : FileState) (views now : List DriveView) : Type 0 where
  pub found : Found
  pub there : IsFoundAt files place found
  pub read : HasReadDrive None place.drive files new views now
  pub step_is : program_on_route asker files list (along from list.names) ≡ program_there asker.user files list.next found
  pub walk_most : ℕ
  pub called : CalledAtMost walk_most views now
  pub most_is : program_route_calls asker files (along from list.names) ≡ walk_most + found_calls asker.user files found

module _ (asker : Asker) (process : Pid) (user : ℕ) (files : Files) (list : PathList) (from : FilePlace)
    (state new : FileState) (views now : List DriveView) (same : asker.user ≡ user) (stands : RepresentsFiles state views
    files) (has : HasFileAt state.disks views from) (io : new.io ≡ state.io) (directories : new.directories ≡
    state.directories) (records : new.records ≡ state.records) where
  abbrev walker : Walker
  walker = record { process = process; by = record { user = user; execute = true } }

  abbrev step : Step ProgramFile
  step = program_on_route asker files list (along from list.names)

  abbrev most : ℕ
  most = program_route_calls asker files (along from list.names)

  abbrev walked : DiskVolume → ℕ
  walked v = walk_calls v.files user true from.number list.names

  abbrev ending : DiskVolume → ℕ
  ending v = calls_on (walk v.files user true from.number list.names) (λ n. calls_at_end user files (record { drive = from.drive; number = n }) v (v.files n))

  volume : (v : DiskVolume) × (volume_at files from.drive ≡ Some v)
  volume = volume-there state.disks views from files.volumes has stands.mounted

  on-volume : volume.0.files from.number ≡ Some has.file
  on-volume = file-there state.disks views from has files.volumes volume.0 stands.mounted volume.1

  there : file_in files from ≡ Some has.file
  there = ap (option_and_then (λ (v : DiskVolume). v.files from.number)) volume.1 ∙ on-volume

  most-is : (v : DiskVolume) → volume_at files from.drive ≡ Some v → most ≡ walked v + ending v
  most-is v is =
      ap (λ (volume : Option DiskVolume). calls_on_volume asker.user files from list.names volume) is
      ∙ ap (λ (u : ℕ). calls_on_volume u files from list.names (Some v)) same

  module _ (arrived : Result FilePlace DirError) (it : WalksAlongNames walker from list.names arrived state.disks views new.disks now) where
    read : HasReadDrive (directory_fault arrived) from.drive files new views now
    read = has-read state new views now files from has.file (directory_fault arrived) (λ v file. walk_calls v.files user true from.number list.names) stands there io directories records it.drive

    comes-to : WalkComes walker files from list.names arrived
    comes-to = walk-comes walker files from list.names state.disks views new.disks now has stands.mounted arrived it

    called : (v : DiskVolume) → volume_at files from.drive ≡ Some v → v.files from.number ≡ Some has.file → CalledAtMost (walked v) views now
    called v is at = called-read state new views now files from v has.file (directory_fault arrived) (λ v file. walk_calls v.files user true from.number list.names) stands is at it.drive

    called-all : CalledAtMost most views now
    called-all = called-more (walked volume.0) most views now (let e = most-is volume.0 volume.1 in omega (arith, e)) (called volume.0 volume.1 on-volume)

    only : drive_of step ≡ Some from.drive → OnlyReads step most views now
    only reached =
        only-read step most (directory_fault arrived) from.drive files new views now (inl reached) read called-all

  ended : (number : ℕ) (buffer : List ℕ) → step ≡ reaches from.drive (refused number) → HasReadDrive None from.drive files
      new views now → (drive_of step ≡ Some from.drive → OnlyReads step most views now) → ReadsTo step most files
      (Err number) buffer new views now
  ended number buffer is it only =
      reads-well step most files (Err number) (Err number) buffer new views views now from.drive (ap reading_of is) it refl (only (ap drive_of is))

  -- no file was found
  walk-refused : (error : DirError) (buffer : List ℕ) → WalksAlongNames walker from list.names (Err error) state.disks views
      new.disks now → ReadsTo step most files (Err (directory_error error)) buffer new views now
  walk-refused NotAllowed buffer it =
      ended E_FNA buffer (walks-forbidden asker walker files from list.names same (program_found asker files list) (comes-to (Err NotAllowed) it)) (read (Err NotAllowed) it)
      (only (Err NotAllowed) it)
  walk-refused BadPath buffer it = absurd (comes-to (Err BadPath) it)
  walk-refused NotFound buffer it =
      ended E_PNNF buffer (walks-unfound asker walker files from list.names same (program_found asker files list) (comes-to (Err NotFound) it)) (read (Err NotFound) it) (only (Err NotFound) it)
  walk-refused Exists buffer it = absurd (comes-to (Err Exists) it)
  walk-refused (File (fault.Device number)) buffer it =
      let reached : drive_of step ≡ Some from.drive = walks-reaches asker walker files from list.names same (program_found asker files list) volume.0 volume.1 in
      reads-broken step most files number buffer new views views now from.drive reached
      (read (Err (File (fault.Device number))) it) (only (Err (File (fault.Device number))) it reached)
  walk-refused (File NoCluster) buffer it = absurd (comes-to (Err (File NoCluster)) it)
  walk-refused (File TooManyRuns) buffer it = absurd (comes-to (Err (File TooManyRuns)) it)

  pub walk-ends : (error : DirError) (number : ℕ) (buffer : List ℕ) → number ≡ directory_error error
      → WalksAlongNames walker from list.names (Err error) state.disks views new.disks now → ReadsTo step most files
      (Err number) buffer new views now
  walk-ends error number buffer is it =
      subst (λ (n : ℕ). ReadsTo step most files (Err n) buffer new views now) (sym is) (walk-refused error buffer it)

  -- or one was
  found-here : (place : FilePlace) (at : FindsFilePlace walker files from list.names place)
      → record {
        place = record { drive = from.drive; number = place.number };
        volume = at.found.volume;
        file =
            at.found.file;
      } ≡ at.found
  found-here place at =
      ap (λ (drive : ℕ). record { place = record { drive = drive; number = place.number }; volume = at.found.volume; file = at.found.file }) (sym at.drive_is)
      ∙ ap (λ (p : FilePlace). record { place = p; volume = at.found.volume; file = at.found.file }) (sym at.place_is)

  pub walk-arrives : (place : FilePlace) → WalksAlongNames walker from list.names (Ok place) state.disks views new.disks now → Arrives asker files list from place new views now
  walk-arrives place it =
      let at : FindsFilePlace walker files from list.names place = comes-to (Ok place) it in
      record {
        found = at.found;
        there = record {
          place_is = at.place_is;
          volume_is = ap (volume_at files) at.drive_is ∙ at.volume_is;
          file_is = at.file_is;
        };
        read = subst (λ (drive : ℕ). HasReadDrive None drive files new views now) (sym at.drive_is) (read (Ok place) it);
        step_is =
            walks-found asker walker files from list.names same (program_found asker files list) place at
            ∙ ap (reaches from.drive) (found-step asker files list at.found)
            ∙ ap (λ (drive : ℕ). reaches drive (program_by at.found list.next (program_size asker.user files at.found))) (sym at.drive_is ∙ ap (λ (p : FilePlace). p.drive) (sym at.place_is));
        walk_most = walked at.found.volume;
        called = called (Ok place) it at.found.volume at.volume_is (file-there state.disks views from has files.volumes at.found.volume stands.mounted at.volume_is);
        most_is =
            most-is at.found.volume at.volume_is
            ∙ ap (λ (end : WalkEnd). walked at.found.volume + calls_on end (λ n. calls_at_end user files
            (record { drive = from.drive; number = n }) at.found.volume (at.found.volume.files n))) at.end_is
            ∙ ap (λ (file : Option DiskFile). walked at.found.volume + calls_at_end user files (record { drive = from.drive; number = place.number }) at.found.volume file) at.file_is
            ∙ ap (λ (found : Found). walked at.found.volume + found_calls user files found) (found-here place at)
            ∙ ap (λ (u : ℕ). walked at.found.volume + found_calls u files at.found) (sym same);
      }

-- what was read there
module _ (asker : Asker) (files : Files) (list : PathList) (from place : FilePlace) (mid new : FileState)
    (before views after : List DriveView) (at : Arrives asker files list from place mid before views) where
  abbrev whole : Step ProgramFile
  whole = program_on_route asker files list (along from list.names)

  only-walked : OnlyReads whole at.walk_most before views
  only-walked =
      only-read whole at.walk_most None place.drive files mid before views
      (inl (ap drive_of at.step_is ∙ ap (λ (at : FilePlace). Some at.drive) at.there.place_is)) at.read at.called

  pub arrived-reads : (next user : ℕ) (result : Result ProgramRead ℕ) (buffer : List ℕ) → asker.user ≡ user
      → next ≡ list.next → ReadsTo (program_there user files next at.found) (found_calls user files at.found) files
      result buffer new views after → ReadsTo whole (program_route_calls asker files (along from list.names)) files result
      buffer new before after
  arrived-reads next user result buffer same is it =
      let there : program_there asker.user files next at.found ≡ whole = ap (λ (next : ℕ). program_there asker.user files next at.found) is ∙ sym at.step_is in
      subst (λ (most : ℕ). ReadsTo whole most files result buffer new before after) (sym at.most_is)
      (reads-behind whole at.walk_most (found_calls asker.user files at.found) files result buffer new before views after only-walked
      (subst (λ (step : Step ProgramFile). ReadsTo step (found_calls asker.user files at.found) files result buffer new views after) there
      (subst (λ (user : ℕ). ReadsTo (program_there user files next at.found) (found_calls user files at.found) files result buffer new views after) (sym same) it)))

-- ---- the route

-- the names of a course
pub route-names : (cells : Cells) (course : Course) (start : WalkStart) → course ≡ Along start → HasCourseNames cells course → SomeFrom cells start.first
route-names cells course start is has = subst (λ (course : Course). HasCourseNames cells course) is has

-- where a route leads along names, so does the list
pub route-along : (cells : Cells) (asker : Asker) (led : Step Led) (route : Route) (start : WalkStart)
    (it : IsRoute cells asker led route) → route.course ≡ Along start
    → (led ≡ comes (record { list = it.list; route = along start.directory it.list.names })) × NamesFrom cells start.first it.list.names
route-along cells asker led route start it is = (
  it.comes_to ∙ ap (λ (meant : Rule.Route). comes (record { list = it.list; route = meant })) (it.route_is.course_is ∙ ap (λ (course : Course). route_on (Ok course) it.list.names) is),
  subst (λ (course : Course). NamesOn cells course it.list.names) is it.route_is.names,
)

-- where it leads to a terminal or a pipe the call is refused
pub route-device : (cells : Cells) (asker : Asker) (files : Files) (terms : ℕ) (refusal : Option ℕ) (route : Route)
    → IsRoute cells asker (leads asker refusal (route_of asker files terms true)) route → route.course ≡ Device
    → program_file asker files terms (refuses_by refusal) ≡ refused E_FNA
route-device cells asker files terms refusal route it is =
    program-route asker files terms refusal it.list to_device
    (it.comes_to ∙ ap (λ (meant : Rule.Route). comes (record { list = it.list; route = meant })) (it.route_is.course_is ∙ ap (λ (course : Course). route_on (Ok course) it.list.names) is))

-- ---- the query

-- the kernel has as many drives as the machine
pub as-many : (state : FileState) (views : List DriveView) (files : Files) → RepresentsFiles state views files → length files.drives ≡ length views
as-many state views files stands = ap (λ (drives : List DriveState). length drives) stands.drives ∙ length-map views drive_state
