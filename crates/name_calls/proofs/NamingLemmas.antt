-- The last name of the path list of a call, and the directory in which it is to be looked up.
use Rattle.std.proofs.Common.{◌≡◌, ◌∙◌, ℕ, zero, suc, ◌+◌, ◌-◌, ◌≤◌, arith, length, ◌∷◌, ◌||◌, Bool, true, false, IfOk, Option, Some, None, List, [], Result, Ok, Err, refl, ap, sym, subst, if◌then◌else◌}
use Rattle.std.proofs.lemmas.Option.{slice_get-get_or}
use Rattle.std.specs.Option.{option_map_or}
use Rattle.os9_base.specs.declared.errors.TheConstants.{E_BPNAM, E_FNA}
use Rattle.os9_base.specs.Cells.{Cells}
use Rattle.os9_base.specs.UserNames.{name_at}
use Rattle.os9_base.specs.declared.name_fault.NameFault.{NameFault}
use Rattle.io_model.specs.PathList.{Behind, Names, PathList, a_slash, another, behind, ends_in_dots, name_before, names_at, names_behind, names_with, nothing, unreadable}
use Rattle.rbf_change.specs.Names.{is_dots}
use Rattle.rbf_model.specs.Volume.{DiskVolume}
use Rattle.rbf_walk.specs.Walk.{walk_calls}
use Rattle.rbf_walk.specs.declared.error.DirError.{DirError}
use Rattle.file_rules.specs.Files.{Asker, Files, volume_at}
use Rattle.file_rules.specs.Step.{Step, refused, comes}
use Rattle.file_rules.specs.Route.{along, nowhere, before_last, is_root, last_of, walks, route_of}
use Rattle.file_rules.specs.Route as Rule
use Rattle.lock_model.specs.declared.place.FilePlace.{FilePlace}
use Rattle.file_drives.specs.Drives.{DriveView}
use Rattle.file_drives.specs.Mounted.{ArrivesOn, HasFileAt}
use Rattle.device_paths.specs.Standing.{NamesFrom, NamesStand, name_list}
use Rattle.rbf_access.specs.declared.volume.Volume.{Volume}
use Rattle.file_state.specs.Tie.{RepresentsFiles}
use Rattle.file_state.specs.declared.state.FileState.{FileState}
use Rattle.file_routes.proofs.ReachLemmas.{volume-there, walks-found}
use Rattle.file_routes.proofs.VolumeLemmas.{file-there}
use Rattle.file_routes.proofs.RouteLemmas.{leads-on}
use Rattle.file_routes.specs.Reached.{FindsFilePlace}
use Rattle.file_routes.specs.Walks.{WalksToLast, directory_reached}
use Rattle.file_routes.specs.Routes.{IsRoute, Led, NamesOn, leads, next_step, route_for, route_on}
use Rattle.file_routes.specs.declared.route.Route.{Route}
use Rattle.file_routes.specs.declared.route.Course.{Course}
use Rattle.file_routes.specs.declared.route.Course.TheVariants.{Along, Device}
use Rattle.file_routes.specs.declared.walk.LastName.{LastName}
use Rattle.file_routes.specs.declared.walk.WalkStart.{WalkStart}
use Rattle.file_routes.specs.declared.walk.Walker.{Walker}
use Rattle.file_routes.specs.declared.route.Purpose.{Purpose}
use Rattle.file_routes.specs.declared.route.Purpose.TheVariants.{Existing, New}
use Rattle.name_calls.proofs.ListCallLemmas.{called-nothing, walk-part}
use Rattle.name_calls.proofs.LocatingLemmas.{route-is}
use Rattle.name_calls.proofs.LookLemmas.{looks-none}
use Rattle.name_calls.proofs.WalkedLemmas.{found-in, reached-there, walk-found, walk-lost}
use Rattle.file_routes.specs.Calls.{listed_calls, walk_and}
use Rattle.name_calls.specs.ListCalls.{last_calls, named_calls}
use Rattle.name_calls.specs.Looks.{answer_of}
use Rattle.name_calls.specs.Naming.{IsNameLocated, LocatesLast, NamedBy, last_by, named_by, names_last, names_on, unnamed_number}
use Rattle.name_calls.specs.declared.naming.LastLocated.{LastLocated}

-- ---- the list

module _ (purpose : Purpose) (asker : Asker) (files : Files) (terms : ℕ) (execute : Bool) (refusal : Option ℕ) where
  abbrev meant : PathList → Rule.Route
  meant = route_for purpose asker files terms execute

  by-leads : names_last purpose execute refusal asker files terms ≡ next_step (leads asker refusal meant) (λ led. names_on purpose asker files execute led.list led.route (last_of led.list.names))
  by-leads = leads-on asker refusal meant (λ list led. names_on purpose asker files execute list led (last_of list.names)) (λ list number. refl)

  -- along the route that was found
  pub names-route : (list : PathList) (to : Rule.Route) → leads asker refusal meant ≡ comes (record { list = list; route = to })
      → names_last purpose execute refusal asker files terms ≡ names_on purpose asker files execute list to
      (last_of list.names)
  names-route list to is = by-leads ∙ ap (λ (step : Step Led). next_step step (λ led. names_on purpose asker files execute led.list led.route (last_of led.list.names))) is

  -- or it is refused
  pub names-refused : (number : ℕ) → leads asker refusal meant ≡ refused number → names_last purpose execute refusal asker files terms ≡ refused number
  names-refused number is = by-leads ∙ ap (λ (step : Step Led). next_step step (λ led. names_on purpose asker files execute led.list led.route (last_of led.list.names))) is

-- ---- a name of what is made

no-dots : (dots root : Bool) (meant : Rule.Route) (from : FilePlace) (names : List (List ℕ)) → (if dots || root then nowhere E_BPNAM else meant) ≡ along from names → dots ≡ false
no-dots true root meant from names is = absurd (let no : nowhere E_BPNAM ≡ along from names = is in cc)
no-dots false root meant from names is = refl

pub proper-name : (purpose : Purpose) (asker : Asker) (files : Files) (terms : ℕ) (execute : Bool) (list : PathList)
    (from : FilePlace) (names : List (List ℕ)) (name : List ℕ) → route_for purpose asker files terms execute list ≡
    along from names → last_of list.names ≡ Some name → purpose ≡ New → is_dots name ≡ false
proper-name Existing asker files terms execute list from names name is last made = cc
proper-name New asker files terms execute list from names name is last made =
    sym (ap (λ (o : Option (List ℕ)). option_map_or is_dots o false) last)
    ∙ no-dots (ends_in_dots list) (is_root files terms list) (route_of asker files terms execute list) from names is

-- ---- the walk

module _ (purpose : Purpose) (asker : Asker) (walker : Walker) (files : Files) (list : PathList) (from : FilePlace)
    (state new : FileState) (views now : List DriveView) (user : asker.user ≡ walker.by.user)
    (stands : RepresentsFiles state views files) (has : HasFileAt state.disks views from) (io : new.io ≡ state.io)
    (directories : new.directories ≡ state.directories) (records : new.records ≡ state.records) (most : ℕ)
    (enough : (v : DiskVolume) → volume_at files from.drive ≡ Some v → walk_calls v.files walker.by.user walker.by.execute
    from.number (before_last list.names) ≤ most) where
  abbrev step : Step NamedBy
  step = names_on purpose asker files walker.by.execute list (along from list.names) (last_of list.names)

  abbrev step-of : List ℕ → Step NamedBy
  step-of name = walks asker files walker.by.execute from (before_last list.names) (λ directory. comes (named_by list name directory))

  module _ (proper : (name : List ℕ) → last_of list.names ≡ Some name → purpose ≡ New → is_dots name ≡ false) (next : ℕ) (next_is : next ≡ list.next) where
    pub last-located : (name : List ℕ) → last_of list.names ≡ Some name → (reached : Result LastName DirError)
        → WalksToLast walker from list.names reached state.disks views new.disks now → LocatesLast purpose
        (step-of name) most (last_by reached next) files new views now
    last-located name last (Ok at) it =
        walk-found (IsNameLocated purpose (step-of name) files) (named_by list name) asker walker files from
        (before_last list.names) state new views now user stands has io directories records most enough
        at.directory (record { last = at; next = next }) it.walks
        (λ found. record {
          place_is = found.place_is;
          name_is = let same : Some name ≡ Some at.name = sym last ∙ it.name in cc;
          next_is = next_is;
          there = found-in walker files from (before_last list.names) at.directory found;
          reached = reached-there asker walker files from (before_last list.names) user (λ directory. comes (named_by list name directory)) at.directory found;
          proper = proper name last;
        })
    last-located name last (Err error) it =
        walk-lost (IsNameLocated purpose (step-of name) files) (named_by list name) asker walker files from
        (before_last list.names) state new views now user stands has io directories records most enough error
        it.walks

-- of a list without names no drive is called
pub unnamed-there : (purpose : Purpose) (asker : Asker) (files : Files) (execute : Bool) (whole : Step NamedBy)
    (most : ℕ) (list : PathList) (from : FilePlace) (state : FileState) (views : List DriveView)
    → RepresentsFiles state views files → HasFileAt state.disks views from → whole ≡ names_on purpose asker files execute
    list (along from []) None → LocatesLast purpose whole most (Err (unnamed_number purpose)) files state views views
unnamed-there New asker files execute whole most list from state views stands has is = record {
  answer = Err E_BPNAM;
  is = refl;
  looks = looks-none whole (Err E_BPNAM) files state views stands (sym (ap answer_of is));
  drives_are = stands.drives;
  calls = called-nothing whole most views;
}
unnamed-there Existing asker files execute whole most list from state views stands has is =
    let walker : Walker = record { process = asker.caller.process; by = record { user = asker.user; execute = execute } } in
    let volume : (v : DiskVolume) × _ = volume-there state.disks views from files.volumes has stands.mounted in
    let it : FindsFilePlace walker files from [] from = record {
      found = record { place = from; volume = volume.0; file = has.file };
      place_is = refl;
      drive_is = refl;
      volume_is = volume.1;
      end_is = refl;
      file_is = file-there state.disks views from has files.volumes volume.0 stands.mounted volume.1;
    } in
    record {
      answer = Err E_FNA;
      is = refl;
      looks = looks-none whole (Err E_FNA) files state views stands (sym (ap answer_of (is ∙ walks-found asker walker files from [] refl (λ root. refused E_FNA) from it)));
      drives_are = stands.drives;
      calls = called-nothing whole most views;
    }

-- ---- by the route

module _ (purpose : Purpose) (asker : Asker) (files : Files) (terms : ℕ) (execute : Bool) (refusal : Option ℕ)
    (cells : Cells) (route : Route)
    (it : IsRoute cells asker (leads asker refusal (route_for purpose asker files terms execute)) route) where
  abbrev whole : Step NamedBy
  whole = names_last purpose execute refusal asker files terms

  abbrev most : ℕ
  most = named_calls purpose execute (λ name v dir. 0) asker files terms

  -- it leads to a terminal or a pipe
  pub names-device : route.course ≡ Device → whole ≡ refused E_FNA
  names-device is =
      names-route purpose asker files terms execute refusal it.list it.meant it.comes_to
      ∙ ap (λ (meant : Rule.Route). names_on purpose asker files execute it.list meant (last_of it.list.names)) (it.route_is.course_is ∙ ap (λ (course : Course). route_on (Ok course) it.list.names)
      is)

  module _ (start : WalkStart) (is : route.course ≡ Along start) where
    is-along : it.meant ≡ along start.directory it.list.names
    is-along = it.route_is.course_is ∙ ap (λ (course : Course). route_on (Ok course) it.list.names) is

    names-along-route : whole ≡ names_on purpose asker files execute it.list (along start.directory it.list.names) (last_of it.list.names)
    names-along-route =
        names-route purpose asker files terms execute refusal it.list it.meant it.comes_to
        ∙ ap (λ (meant : Rule.Route). names_on purpose asker files execute it.list meant (last_of it.list.names)) is-along

    pub names-along : NamesFrom cells start.first it.list.names
    names-along = subst (λ (course : Course). NamesOn cells course it.list.names) is it.route_is.names

    proper : (name : List ℕ) → last_of it.list.names ≡ Some name → purpose ≡ New → is_dots name ≡ false
    proper name last =
        proper-name purpose asker files terms execute it.list start.directory it.list.names name
        (route-is asker refusal (route_for purpose asker files terms execute) it.list it.meant it.read it.comes_to ∙ is-along) last

    -- the calls of the walk
    calls-along : (name : List ℕ) → last_of it.list.names ≡ Some name → most ≡ walk_and asker.user execute start.directory.number (before_last it.list.names) (λ v file. 0)
        (volume_at files start.directory.drive)
    calls-along name last =
        ap (λ (read : Result PathList NameFault). listed_calls read (λ list. last_calls asker files execute
        (λ name v dir. 0) (route_for purpose asker files terms execute list) (last_of list.names))) it.read
        ∙ ap (λ (meant : Rule.Route). last_calls asker files execute (λ name v dir. 0) meant (last_of it.list.names))
        (route-is asker refusal (route_for purpose asker files terms execute) it.list it.meant it.read it.comes_to ∙ is-along)
        ∙ ap (last_calls asker files execute (λ name v dir. 0) (along start.directory it.list.names)) last

    calls-enough : (name : List ℕ) → last_of it.list.names ≡ Some name → (walker : Walker) → walker.by.execute ≡ execute
        → asker.user ≡ walker.by.user → (v : DiskVolume) → volume_at files start.directory.drive ≡ Some v → walk_calls v.files
        walker.by.user walker.by.execute start.directory.number (before_last it.list.names) ≤ most
    calls-enough name last walker searches user v there =
        subst (λ (n : ℕ). walk_calls v.files walker.by.user walker.by.execute start.directory.number (before_last it.list.names) ≤ n)
        (ap (λ (e : Bool). walk_and walker.by.user e start.directory.number (before_last it.list.names) (λ v file. 0) (volume_at files start.directory.drive)) searches
        ∙ ap (λ (u : ℕ). walk_and u execute start.directory.number (before_last it.list.names) (λ v file. 0) (volume_at files start.directory.drive)) (sym user)
        ∙ sym (calls-along name last))
        (walk-part walker.by.user walker.by.execute start.directory.number (before_last it.list.names) (λ v file. 0) (volume_at files start.directory.drive) v there)

    -- a list without names
    pub along-unnamed : (state : FileState) (views : List DriveView) (number : ℕ) → start.first ≡ None
        → number ≡ unnamed_number purpose → RepresentsFiles state views files → HasFileAt state.disks views start.directory
        → LocatesLast purpose whole most (Err number) files state views views
    along-unnamed state views number none number_is stands has =
        let empty : it.list.names ≡ [] = subst (λ (first : Option ℕ). NamesFrom cells first it.list.names) none names-along in
        subst (λ (n : ℕ). LocatesLast purpose whole most (Err n) files state views views) (sym number_is)
        (unnamed-there purpose asker files execute whole most it.list start.directory state views stands has
        (names-along-route ∙ ap (λ (names : List (List ℕ)). names_on purpose asker files execute it.list (along start.directory names) (last_of names)) empty))

    -- by its last name
    pub along-named : (walker : Walker) (state new : FileState) (views now : List DriveView)
        → walker.by.execute ≡ execute → asker.user ≡ walker.by.user → RepresentsFiles state views files → HasFileAt state.disks
        views start.directory → new.io ≡ state.io → new.directories ≡ state.directories → new.records ≡ state.records
        → (name : List ℕ) → last_of it.list.names ≡ Some name → (reached : Result LastName DirError)
        (result : Result LastLocated ℕ) → result ≡ last_by reached route.next → WalksToLast walker start.directory it.list.names
        reached state.disks views new.disks now → LocatesLast purpose whole most result files new views now
    along-named walker state new views now searches user stands has io directories records name last reached result result_is walk =
        subst (λ (step : Step NamedBy). LocatesLast purpose step most result files new views now)
        (ap (λ (e : Bool). walks asker files e start.directory (before_last it.list.names) (λ directory. comes (named_by it.list name directory))) searches
        ∙ sym (names-along-route ∙ ap (names_on purpose asker files execute it.list (along start.directory it.list.names)) last))
        (subst (λ (r : Result LastLocated ℕ). LocatesLast purpose (walks asker files walker.by.execute start.directory
        (before_last it.list.names) (λ directory. comes (named_by it.list name directory))) most r files new views
        now) (sym result_is)
        (last-located purpose asker walker files it.list start.directory state new views now user stands has io directories
        records most (calls-enough name last walker searches user) proper route.next it.route_is.next_is name last
        reached walk))

-- ---- some names

cons-some : (found : Names) (names : List (List ℕ)) → name_list (Ok found) ≡ Ok names → 1 ≤ length found.names → 1 ≤ length names
cons-some found names is some =
    let same : found.names ≡ names = cc in
    subst (λ (all : List (List ℕ)). 1 ≤ length all) same some

before-some : (name : List ℕ) (rest : Result Names NameFault) (names : List (List ℕ)) → name_list (name_before name rest) ≡ Ok names → 1 ≤ length names
before-some name (Ok found) names is = cons-some (record found { names = name ∷ found.names }) names is (omega arith)
before-some name (Err fault) names is = cc

with-some : (rest : ℕ → Result Names NameFault) (name : List ℕ) (next : ℕ) (b : Behind) (names : List (List ℕ)) → name_list (names_with rest name next b) ≡ Ok names → 1 ≤ length names
with-some rest name next another names is = before-some name (rest (next + 1)) names is
with-some rest name next a_slash names is = cons-some (record { names = name ∷ []; slash = true; next = next }) names is (omega arith)
with-some rest name next nothing names is = cons-some (record { names = name ∷ []; slash = false; next = next }) names is (omega arith)
with-some rest name next unreadable names is = cc

behind-some : (rest : ℕ → Result Names NameFault) (cells : Cells) (at : ℕ) (name : Result (List ℕ) NameFault)
    (names : List (List ℕ)) → name_list (names_behind rest cells at name) ≡ Ok names → 1 ≤ length names
behind-some rest cells at (Ok name) names is = with-some rest name (at + length name) (behind cells (at + length name)) names is
behind-some rest cells at (Err fault) names is = cc

left-some : (cells : Cells) (at left : ℕ) (names : List (List ℕ)) → name_list (names_at cells at left) ≡ Ok names → 1 ≤ length names
left-some cells at zero names is = cc
left-some cells at (suc left) names is = behind-some (λ next. names_at cells next left) cells at (name_at cells at) names is

-- names that stand from an address on have a last one
pub has-last : (cells : Cells) (at : ℕ) (names : List (List ℕ)) → NamesStand cells at names → (name : List ℕ) × (last_of names ≡ Some name)
has-last cells at names stand =
    let some : 1 ≤ length names = left-some cells at stand.left names stand.are in
    (_, slice_get-get_or names (length names - 1) [] (omega arith))

-- the directory that was reached is there
pub reached-directory : (drive next : ℕ) (disks : List (Option Volume)) (views : List DriveView)
    (reached : Result LastName DirError) (result : Result LastLocated ℕ) → result ≡ last_by reached next
    → IfOk (directory_reached reached) (ArrivesOn drive disks views)
    → IfOk result (λ located. HasFileAt disks views located.last.directory)
reached-directory drive next disks views reached result is holds =
    subst (λ (r : Result LastLocated ℕ). IfOk r (λ located. HasFileAt disks views located.last.directory)) (sym is) (by reached holds)
  where
    by : (reached : Result LastName DirError) → IfOk (directory_reached reached) (ArrivesOn drive disks views) → IfOk (last_by reached next) (λ located. HasFileAt disks views located.last.directory)
    by (Ok last) it = it.file
    by (Err error) it = tt
