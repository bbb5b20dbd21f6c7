-- The file to which the path list of a call leads.
use Rattle.std.proofs.Common.{◌≡◌, ◌∙◌, ℕ, ◌≤◌, Bool, IfOk, Option, Some, None, List, Result, Ok, Err, refl, ap, sym, subst}
use Rattle.os9_base.specs.Cells.{Cells}
use Rattle.os9_base.specs.declared.errors.TheConstants.{E_FNA}
use Rattle.os9_base.specs.declared.name_fault.NameFault.{NameFault}
use Rattle.io_model.specs.PathList.{PathList}
use Rattle.rbf_model.specs.Volume.{DiskVolume}
use Rattle.rbf_walk.specs.Walk.{walk_calls}
use Rattle.rbf_walk.specs.declared.error.DirError.{DirError}
use Rattle.file_rules.specs.Files.{Asker, Files, volume_at}
use Rattle.file_rules.specs.Step.{Step, refused, comes, reaches}
use Rattle.file_rules.specs.Route.{along, to_device, nowhere, list_of, reads_list, walks, route_of}
use Rattle.file_rules.specs.Route as Rule
use Rattle.lock_model.specs.declared.place.FilePlace.{FilePlace}
use Rattle.file_drives.specs.Drives.{DriveView}
use Rattle.file_drives.specs.Mounted.{ArrivesOn, HasFileAt}
use Rattle.device_paths.specs.Standing.{NamesFrom}
use Rattle.rbf_access.specs.declared.volume.Volume.{Volume}
use Rattle.file_state.specs.Tie.{RepresentsFiles}
use Rattle.file_state.specs.declared.state.FileState.{FileState}
use Rattle.file_routes.proofs.RouteLemmas.{leads-on}
use Rattle.file_routes.specs.Walks.{SomeFrom, WalksAlongNames}
use Rattle.file_routes.specs.Routes.{HasCourseNames, IsRoute, Led, NamesOn, StartsAtFile, led_by, leads, next_step, refuses_by, route_on}
use Rattle.file_routes.specs.declared.route.Route.{Route}
use Rattle.file_routes.specs.declared.route.Course.{Course}
use Rattle.file_routes.specs.declared.route.Course.TheVariants.{Along, Device}
use Rattle.file_routes.specs.declared.walk.WalkStart.{WalkStart}
use Rattle.file_routes.specs.declared.walk.Walker.{Walker}
use Rattle.name_calls.proofs.ListCallLemmas.{walk-part}
use Rattle.name_calls.proofs.WalkedLemmas.{found-in, reached-there, walk-found, walk-lost}
use Rattle.file_routes.specs.Calls.{listed_calls, walk_and}
use Rattle.name_calls.specs.ListCalls.{located_calls, route_calls}
use Rattle.name_calls.specs.Locating.{FoundBy, IsLocated, Locates, found_by, located_by, locates, locates_on}
use Rattle.file_routes.specs.declared.route.Located.{Located}

-- ---- the list

-- where a step comes to a route
abbrev route-in : Step Led → Rule.Route
route-in (refused number) = to_device
route-in (comes led) = led.route
route-in (reaches drive step) = route-in step

-- the route that was found is that of the list
pub route-is : (asker : Asker) (refusal : Option ℕ) (meant : PathList → Rule.Route) (list : PathList) (to : Rule.Route)
    → list_of asker ≡ Ok list → leads asker refusal meant ≡ comes (record { list = list; route = to }) → meant list ≡ to
route-is asker refusal meant list to read is =
    by refusal (meant list) (ap (λ (read : Result PathList NameFault). reads_list read (refuses_by refusal) (λ list. led_by list (meant list))) (sym read) ∙ is)
  where
    by : (refusal : Option ℕ) (led : Rule.Route) → refuses_by refusal (led_by list led) ≡ comes (record { list = list; route = to }) → led ≡ to
    by None (along from names) is = ap route-in is
    by None to_device is = ap route-in is
    by None (nowhere number) is = absurd (let no : refused number ≡ comes (record { list = list; route = to }) = is in cc)
    by (Some number) led is = absurd (let no : refused number ≡ comes (record { list = list; route = to }) = is in cc)

module _ (asker : Asker) (files : Files) (terms : ℕ) (execute : Bool) (refusal : Option ℕ) where
  by-leads : locates execute refusal asker files terms ≡ next_step (leads asker refusal (route_of asker files terms execute)) (λ led. locates_on asker files execute led.list led.route)
  by-leads = leads-on asker refusal (route_of asker files terms execute) (locates_on asker files execute) (λ list number. refl)

  -- along the route that was found
  pub locates-route : (list : PathList) (meant : Rule.Route) → leads asker refusal (route_of asker files terms execute) ≡ comes
      (record { list = list; route = meant }) → locates execute refusal asker files terms ≡ locates_on asker files execute
      list meant
  locates-route list meant is = by-leads ∙ ap (λ (step : Step Led). next_step step (λ led. locates_on asker files execute led.list led.route)) is

  -- or it is refused
  pub locates-refused : (number : ℕ) → leads asker refusal (route_of asker files terms execute) ≡ refused number → locates execute refusal asker files terms ≡ refused number
  locates-refused number is = by-leads ∙ ap (λ (step : Step Led). next_step step (λ led. locates_on asker files execute led.list led.route)) is

-- ---- the walk

module _ (asker : Asker) (walker : Walker) (files : Files) (list : PathList) (from : FilePlace)
    (state new : FileState) (views now : List DriveView) (user : asker.user ≡ walker.by.user)
    (stands : RepresentsFiles state views files) (has : HasFileAt state.disks views from) (io : new.io ≡ state.io)
    (directories : new.directories ≡ state.directories) (records : new.records ≡ state.records) (most : ℕ)
    (enough : (v : DiskVolume) → volume_at files from.drive ≡ Some v → walk_calls v.files walker.by.user walker.by.execute
    from.number list.names ≤ most) where
  abbrev step : Step FoundBy
  step = walks asker files walker.by.execute from list.names (λ found. comes (found_by list found))

  pub walk-located : (arrived : Result FilePlace DirError) (next : ℕ) → next ≡ list.next → WalksAlongNames walker from
      list.names arrived state.disks views new.disks now → Locates step most (located_by arrived next) files new views
      now
  walk-located (Ok place) next next_is it =
      walk-found (IsLocated step files) (found_by list) asker walker files from list.names state new views now user
      stands has io directories records most enough place (record { place = place; next = next }) it
      (λ found. record {
        place_is = found.place_is;
        next_is = next_is;
        there = found-in walker files from list.names place found;
        reached = reached-there asker walker files from list.names user (λ found. comes (found_by list found)) place found;
      })
  walk-located (Err error) next next_is it =
      walk-lost (IsLocated step files) (found_by list) asker walker files from list.names state new views now user stands has io directories records most enough error it

-- ---- by the route

-- a file is there where a course along names starts, and it has some names or none
pub starts-along : (disks : List (Option Volume)) (views : List DriveView) (course : Course) (start : WalkStart)
    → course ≡ Along start → StartsAtFile disks views course → HasFileAt disks views start.directory
starts-along disks views course start is starts = subst (λ (course : Course). StartsAtFile disks views course) is starts

pub has-along : (cells : Cells) (course : Course) (start : WalkStart) → course ≡ Along start → HasCourseNames cells course → SomeFrom cells start.first
has-along cells course start is has = subst (λ (course : Course). HasCourseNames cells course) is has

module _ (asker : Asker) (files : Files) (terms : ℕ) (execute : Bool) (refusal : Option ℕ) (cells : Cells)
    (route : Route) (it : IsRoute cells asker (leads asker refusal (route_of asker files terms execute)) route) where
  -- it leads to a terminal or a pipe
  pub locates-device : route.course ≡ Device → locates execute refusal asker files terms ≡ refused E_FNA
  locates-device is =
      locates-route asker files terms execute refusal it.list it.meant it.comes_to
      ∙ ap (locates_on asker files execute it.list) (it.route_is.course_is ∙ ap (λ (course : Course). route_on (Ok course) it.list.names) is)

  module _ (start : WalkStart) (is : route.course ≡ Along start) where
    -- it leads along names
    locates-along : locates execute refusal asker files terms ≡ walks asker files execute start.directory it.list.names (λ found. comes (found_by it.list found))
    locates-along =
        locates-route asker files terms execute refusal it.list it.meant it.comes_to
        ∙ ap (locates_on asker files execute it.list) (it.route_is.course_is ∙ ap (λ (course : Course). route_on (Ok course) it.list.names) is)

    -- the calls of the walk
    calls-along : located_calls execute (λ v file. 0) asker files terms ≡ walk_and asker.user execute start.directory.number it.list.names (λ v file. 0) (volume_at files start.directory.drive)
    calls-along =
        ap (λ (read : Result PathList NameFault). listed_calls read (λ list. route_calls asker files execute (λ v file. 0) (route_of asker files terms execute list))) it.read
        ∙ ap (route_calls asker files execute (λ v file. 0))
        (route-is asker refusal (route_of asker files terms execute) it.list it.meant it.read it.comes_to
        ∙ it.route_is.course_is ∙ ap (λ (course : Course). route_on (Ok course) it.list.names) is)

    calls-enough : (walker : Walker) → walker.by.execute ≡ execute → asker.user ≡ walker.by.user → (v : DiskVolume)
        → volume_at files start.directory.drive ≡ Some v → walk_calls v.files walker.by.user walker.by.execute start.directory.number
        it.list.names ≤ located_calls execute (λ v file. 0) asker files terms
    calls-enough walker searches user v there =
        subst (λ (n : ℕ). walk_calls v.files walker.by.user walker.by.execute start.directory.number it.list.names ≤ n)
        (ap (λ (e : Bool). walk_and walker.by.user e start.directory.number it.list.names (λ v file. 0) (volume_at files start.directory.drive)) searches
        ∙ ap (λ (u : ℕ). walk_and u execute start.directory.number it.list.names (λ v file. 0) (volume_at files start.directory.drive)) (sym user)
        ∙ sym calls-along)
        (walk-part walker.by.user walker.by.execute start.directory.number it.list.names (λ v file. 0) (volume_at files start.directory.drive) v there)

    pub names-along : NamesFrom cells start.first it.list.names
    names-along = subst (λ (course : Course). NamesOn cells course it.list.names) is it.route_is.names

    pub along-located : (walker : Walker) (state new : FileState) (views now : List DriveView)
        → walker.by.execute ≡ execute → asker.user ≡ walker.by.user → RepresentsFiles state views files → HasFileAt state.disks
        views start.directory → new.io ≡ state.io → new.directories ≡ state.directories → new.records ≡ state.records
        → (arrived : Result FilePlace DirError) (result : Result Located ℕ) → result ≡ located_by arrived route.next
        → WalksAlongNames walker start.directory it.list.names arrived state.disks views new.disks now
        → Locates (locates execute refusal asker files terms) (located_calls execute (λ v file. 0) asker files terms)
        result files new views now
    along-located walker state new views now searches user stands has io directories records arrived result result_is walk =
        subst (λ (step : Step FoundBy). Locates step (located_calls execute (λ v file. 0) asker files terms) result files new views now)
        (ap (λ (e : Bool). walks asker files e start.directory it.list.names (λ found. comes (found_by it.list found))) searches ∙ sym locates-along)
        (subst (λ (r : Result Located ℕ). Locates (walks asker files walker.by.execute start.directory it.list.names
        (λ found. comes (found_by it.list found))) (located_calls execute (λ v file. 0) asker files terms) r files
        new views now) (sym result_is)
        (walk-located asker walker files it.list start.directory state new views now user stands has io directories records
        (located_calls execute (λ v file. 0) asker files terms) (calls-enough walker searches user) arrived
        route.next it.route_is.next_is walk))

-- the file that was reached is there
pub reached-file : (drive next : ℕ) (disks : List (Option Volume)) (views : List DriveView)
    (arrived : Result FilePlace DirError) (result : Result Located ℕ) → result ≡ located_by arrived next
    → IfOk arrived (ArrivesOn drive disks views) → IfOk result (λ located. HasFileAt disks views located.place)
reached-file drive next disks views arrived result is holds =
    subst (λ (r : Result Located ℕ). IfOk r (λ located. HasFileAt disks views located.place)) (sym is) (by arrived holds)
  where
    by : (arrived : Result FilePlace DirError) → IfOk arrived (ArrivesOn drive disks views) → IfOk (located_by arrived next) (λ located. HasFileAt disks views located.place)
    by (Ok place) it = it.file
    by (Err error) it = tt
