-- I$Create, step by step.
use Rattle.std.proofs.Common.{◌≡◌, ◌∙◌, ℕ, nat_lt, ◌||◌, not, Bool, true, false, Option, Some, None, is_some, List, [], Result, Ok, refl, ap, sym, subst, if◌then◌else◌}
use Rattle.os9_base.specs.declared.errors.TheConstants.{E_BPNAM, E_CEF, E_FNA, E_FULL, E_PTHFUL, E_SLF}
use Rattle.std.specs.Option.{option_map_or}
use Rattle.os9_base.specs.Cells.{Cells}
use Rattle.os9_base.specs.declared.call.CallEnd.{CallEnd}
use Rattle.os9_base.specs.declared.registers.TimePacket.{TimePacket}
use Rattle.os9_outer.specs.TerminalState.{TerminalState}
use Rattle.proc_model.specs.Processes.{Processes}
use Rattle.os9_base.specs.declared.name_fault.NameFault.{NameFault}
use Rattle.io_model.specs.Path.{new_number}
use Rattle.io_model.specs.Modes.{can_write}
use Rattle.io_model.specs.PathList.{PathList, ends_in_dots}
use Rattle.proc_state.specs.declared.state.ProcState.{ProcState}
use Rattle.device_paths.specs.Standing.{NamesFrom, NamesStand}
use Rattle.rbf_model.specs.Volume.{DiskVolume}
use Rattle.rbf_model.specs.Walk.{look_up}
use Rattle.rbf_change.specs.Calls.{free_total}
use Rattle.rbf_change.specs.Faults as ends
use Rattle.rbf_change.specs.Names.{is_dots, may_change}
use Rattle.rbf_change.specs.NewFiles.{NewEntryRefusal, bad_path, exists, no_cluster, not_allowed, too_many_runs}
use Rattle.rbf_entries.specs.Places.{IsEntryRefused}
use Rattle.file_rules.specs.Attempts.{asker_of}
use Rattle.file_rules.specs.Change.{ChangeMayLeave, creates}
use Rattle.file_rules.specs.Create.{clusters_for, creates_in, creates_on_route, creates_with_path, has_room_for, i_create, opens_new}
use Rattle.file_rules.specs.Files.{Asker, Files, volume_at}
use Rattle.file_rules.specs.Open.{is_for_execution, says_directory}
use Rattle.file_rules.specs.Step.{FileStep, MayBeLeft, Step, VolumeChange, changes, comes, deed_of, leaves_so, needs, reaches, refused, refuses, refuses_so}
use Rattle.file_rules.specs.Route.{Found, along, before_last, is_root, last_of, list_of, nowhere, reads_list, walks, route_of, route_to_new}
use Rattle.lock_model.specs.declared.place.FilePlace.{FilePlace}
use Rattle.file_drives.specs.Changed.{has_no_segment, is_full_for}
use Rattle.file_drives.specs.Drives.{DriveView}
use Rattle.file_state.specs.Ends.{EndsFileAttempt}
use Rattle.file_state.specs.declared.state.FileState.{FileState}
use Rattle.file_routes.proofs.RouteLemmas.{leads-on, mode-tested}
use Rattle.file_routes.specs.Routes.{IsRoute, Led, led_by, leads, mode_refusal, next_step, refuses_by, route_for, route_on}
use Rattle.file_routes.specs.declared.route.Purpose.TheVariants.{New}
use Rattle.file_routes.specs.declared.route.Route.{Route}
use Rattle.file_routes.specs.declared.route.Course.{Course}
use Rattle.name_calls.proofs.OpenLemmas.{deed-walks}
use Rattle.file_routes.specs.Calls.{walk_and}
use Rattle.name_calls.specs.OpenCalls.{creating_calls, new_file_calls}
use Rattle.name_calls.specs.Steps.{creates_along}

-- the change that is made, beside which a path gets this number
abbrev pub change_by : Asker → Files → PathList → List ℕ → Found → ℕ → VolumeChange
change_by asker files list name dir number = record {
  drive = dir.place.drive;
  change = creates dir.place.number name asker.caller.regs.b;
  effect = opens_new asker files list dir.place.drive number;
}

-- the file is made in the directory in which its name may be entered
abbrev pub makes_there : Asker → Files → PathList → List ℕ → Found → FileStep
makes_there asker files list name dir = reaches dir.place.drive (creates_with_path asker files list name dir)

-- ---- the tests of the directory

module _ (asker : Asker) (files : Files) (list : PathList) (name : List ℕ) (dir : Found) where
  abbrev may : Bool
  may = may_change dir.file asker.user (is_for_execution asker.caller.regs.a)

  abbrev there : Bool
  there = is_some (look_up dir.file.contents name)

  abbrev tests : Bool → Bool → Bool → FileStep
  tests may says there =
      refuses (not may) E_FNA (refuses says E_FNA (refuses there E_CEF (creates_with_path asker files list name dir)))

  pub creates-forbidden : may ≡ false → deed_of (creates_in asker files list name dir) files ≡ leaves_so (refuses_so E_FNA files)
  creates-forbidden is = ap (λ (may : Bool). deed_of (tests may (says_directory asker.caller.regs.b) there) files) is

  pub creates-directory : says_directory asker.caller.regs.b ≡ true → deed_of (creates_in asker files list name dir) files ≡ leaves_so (refuses_so E_FNA files)
  creates-directory is = ap (λ (says : Bool). deed_of (tests may says there) files) is ∙ by may
    where
      by : (may : Bool) → deed_of (tests may true there) files ≡ leaves_so (refuses_so E_FNA files)
      by true = refl
      by false = refl

  module _ (allowed : may ≡ true) (file : says_directory asker.caller.regs.b ≡ false) where
    tested : (found : Bool) → there ≡ found → creates_in asker files list name dir ≡ tests true false found
    tested found is =
        ap (λ (may : Bool). tests may (says_directory asker.caller.regs.b) there) allowed
        ∙ ap (λ (says : Bool). tests true says there) file
        ∙ ap (λ (there : Bool). tests true false there) is

    pub creates-exists : there ≡ true → deed_of (creates_in asker files list name dir) files ≡ leaves_so (refuses_so E_CEF files)
    creates-exists is = ap (λ (step : FileStep). deed_of step files) (tested true is)

    pub creates-on : look_up dir.file.contents name ≡ None → creates_in asker files list name dir ≡ creates_with_path asker files list name dir
    creates-on none = tested false (ap (λ (o : Option ℕ). is_some o) none)

-- ---- why the entry is refused

module _ (asker : Asker) (dir : Found) (name : List ℕ) (user : ℕ) (execute : Bool) (proper : is_dots name ≡ false) where
  abbrev reason : Bool → Bool → Bool → Bool → Bool → Option NewEntryRefusal
  reason dots may there full list =
      if dots then Some bad_path
      else (if not may then Some not_allowed
      else (if there then Some exists
      else (if full then Some no_cluster
      else (if list then Some too_many_runs else None))))

  forbidden-by : (dots may there full list : Bool) → dots ≡ false → reason dots may there full list ≡ Some not_allowed → may ≡ false
  forbidden-by true may there full list proper is = cc
  forbidden-by false false there full list proper is = refl
  forbidden-by false true true full list proper is = cc
  forbidden-by false true false true list proper is = cc
  forbidden-by false true false false true proper is = cc
  forbidden-by false true false false false proper is = cc

  pub is-forbidden : IsEntryRefused dir.file name user execute not_allowed → may_change dir.file user execute ≡ false
  is-forbidden refusal = forbidden-by _ _ _ _ _ proper (refusal 0 0 0)

  exists-by : (dots may there full list : Bool) → dots ≡ false → reason dots may there full list ≡ Some exists → (may ≡ true) × (there ≡ true)
  exists-by true may there full list proper is = cc
  exists-by false false there full list proper is = cc
  exists-by false true true full list proper is = (refl, refl)
  exists-by false true false true list proper is = cc
  exists-by false true false false true proper is = cc
  exists-by false true false false false proper is = cc

  pub is-there : IsEntryRefused dir.file name user execute exists → (may_change dir.file user execute ≡ true) × (is_some (look_up dir.file.contents name) ≡ true)
  is-there refusal = exists-by _ _ _ _ _ proper (refusal 0 0 0)

  no-dots-by : (dots may there full list : Bool) → dots ≡ false → reason dots may there full list ≡ Some bad_path → ⊥
  no-dots-by true may there full list proper is = cc
  no-dots-by false false there full list proper is = cc
  no-dots-by false true true full list proper is = cc
  no-dots-by false true false true list proper is = cc
  no-dots-by false true false false true proper is = cc
  no-dots-by false true false false false proper is = cc

  pub is-proper : IsEntryRefused dir.file name user execute bad_path → ⊥
  is-proper refusal = no-dots-by _ _ _ _ _ proper (refusal 0 0 0)

-- ---- a fault before the change leaves the volume as it was

module _ (asker : Asker) (files : Files) (list : PathList) (v : DiskVolume) where
  abbrev stays : FileStep → Type 0
  stays step = MayBeLeft (deed_of step files) asker v v

  stays-behind : (test : Bool) (number : ℕ) (next : FileStep) → stays next → stays (refuses test number next)
  stays-behind true number next stay = refl
  stays-behind false number next stay = stay

  module _ (name : List ℕ) (dir : Found) where
    room-stays : (number : ℕ) → stays (has_room_for dir 0 (comes (changes (change_by asker files list name dir number))))
    room-stays number =
        stays-behind (nat_lt (free_total dir.volume) (clusters_for dir 0)) E_FULL (refuses (has_no_segment dir.volume dir.file) E_SLF (comes (changes (change_by asker files list name dir number))))
        (stays-behind (has_no_segment dir.volume dir.file) E_SLF (comes (changes (change_by asker files list name dir number))) (ends.before refl))

    path-stays : (number : Option ℕ) → stays (needs number E_PTHFUL (λ number. has_room_for dir 0 (comes (changes (change_by asker files list name dir number)))))
    path-stays None = refl
    path-stays (Some number) = room-stays number

    pub with-path-stays : stays (creates_with_path asker files list name dir)
    with-path-stays = path-stays (new_number files.io.paths asker.caller.process.0)

    pub create-stays : stays (creates_in asker files list name dir)
    create-stays =
        stays-behind (not (may_change dir.file asker.user (is_for_execution asker.caller.regs.a))) E_FNA _
        (stays-behind (says_directory asker.caller.regs.b) E_FNA _
        (stays-behind (is_some (look_up dir.file.contents name)) E_CEF (creates_with_path asker files list name dir) with-path-stays))

  pub create-walk-stays : (execute : Bool) (name : List ℕ) (from : FilePlace) (names : List (List ℕ)) → stays (walks asker files execute from names (creates_in asker files list name))
  create-walk-stays execute name from names =
      deed-walks (λ deed. MayBeLeft deed asker v v) asker files (λ number. refl) (creates_in asker files list name) (create-stays name) execute from names

-- ---- the change

module _ (asker : Asker) (files : Files) (list : PathList) (name : List ℕ) (dir : Found) (number : ℕ) where
  abbrev it : VolumeChange
  it = change_by asker files list name dir number

  abbrev with-room : Bool → Bool → FileStep
  with-room full none = refuses full E_FULL (refuses none E_SLF (comes (changes it)))

  -- the number of the path
  pub makes-numbered : new_number files.io.paths asker.caller.process.0 ≡ Some number → makes_there asker files list
      name dir ≡ reaches dir.place.drive (with-room (is_full_for it.change dir.volume dir.file)
      (has_no_segment dir.volume dir.file))
  makes-numbered some =
      ap (λ (number : Option ℕ). reaches dir.place.drive (needs number E_PTHFUL (λ number. has_room_for dir 0 (comes (changes (change_by asker files list name dir number)))))) some

  pub room-full : (full none : Bool) → full ≡ true → deed_of (with-room full none) files ≡ leaves_so (refuses_so E_FULL files)
  room-full full none is = ap (λ (full : Bool). deed_of (with-room full none) files) is

  pub room-none : (full none : Bool) → full ≡ false → none ≡ true → deed_of (with-room full none) files ≡ leaves_so (refuses_so E_SLF files)
  room-none full none enough is =
      ap (λ (full : Bool). deed_of (with-room full none) files) enough ∙ ap (λ (none : Bool). deed_of (with-room false none) files) is

  pub room-made : (full none : Bool) → full ≡ false → none ≡ false → deed_of (with-room full none) files ≡ changes it
  room-made full none enough is =
      ap (λ (full : Bool). deed_of (with-room full none) files) enough ∙ ap (λ (none : Bool). deed_of (with-room false none) files) is

  -- what a fault in it leaves
  pub room-broken : (full none : Bool) (v left : DiskVolume) → ChangeMayLeave it.change asker.user asker.now v left
      → ((full || none) ≡ true → left ≡ v) → MayBeLeft (deed_of (with-room full none) files) asker v left
  room-broken true none v left may_be same = same refl
  room-broken false true v left may_be same = same refl
  room-broken false false v left may_be same = may_be

-- without a number
pub makes-full : (asker : Asker) (files : Files) (list : PathList) (name : List ℕ) (dir : Found)
    → new_number files.io.paths asker.caller.process.0 ≡ None → deed_of (makes_there asker files list name dir) files
    ≡ leaves_so (refuses_so E_PTHFUL files)
makes-full asker files list name dir none =
    ap (λ (number : Option ℕ). deed_of (needs number E_PTHFUL (λ number. has_room_for dir 0 (comes (changes (change_by asker files list name dir number))))) files) none

-- ---- the list

-- names with a first one stand from its address on
pub names-some : (cells : Cells) (first : Option ℕ) (at : ℕ) (names : List (List ℕ)) → first ≡ Some at → NamesFrom cells first names → NamesStand cells at names
names-some cells first at names some from = subst (λ (first : Option ℕ). NamesFrom cells first names) some from

module _ (asker : Asker) (files : Files) (terms : ℕ) (refusal : Option ℕ) (execute : Bool) where
  abbrev leads_new : Step Led
  leads_new = leads asker refusal (route_for New asker files terms execute)

  -- nothing is made as a directory itself or the one above it
  pub new-proper : (list : PathList) (led : Led) → list_of asker ≡ Ok list → leads_new ≡ comes led → ends_in_dots list ≡ false
  new-proper list led read is =
      by refusal (ends_in_dots list) (is_root files terms list)
      (ap (λ (read : Result PathList NameFault). reads_list read (refuses_by refusal)
      (λ list. led_by list (route_to_new asker files terms execute list))) (sym read) ∙ is)
    where
      by : (refusal : Option ℕ) (dots root : Bool) → refuses_by refusal (led_by list (if dots || root then nowhere E_BPNAM else route_of asker files terms execute list)) ≡ comes led → dots ≡ false
      by None true root is = cc
      by None false root is = refl
      by (Some number) dots root is = cc

  module _ (refusal_is : refusal ≡ mode_refusal (can_write asker.caller.regs.a)) (execute_is : execute ≡ is_for_execution asker.caller.regs.a) where
    abbrev creates_led : Step Led → FileStep
    creates_led step = next_step step (λ led. creates_on_route asker files terms led.list led.route)

    by-leads : i_create asker files terms ≡ creates_led leads_new
    by-leads =
        (λ i. reads_list (list_of asker) (λ (step : FileStep). mode-tested (can_write asker.caller.regs.a) step i)
        (λ list. creates_on_route asker files terms list (route_to_new asker files terms
        (is_for_execution asker.caller.regs.a) list)))
        ∙ leads-on asker (mode_refusal (can_write asker.caller.regs.a)) (route_to_new asker files terms (is_for_execution asker.caller.regs.a)) (creates_on_route asker files terms)
        (λ list number. refl)
        ∙ ap (λ (refusal : Option ℕ). creates_led (leads asker refusal (route_to_new asker files terms (is_for_execution asker.caller.regs.a)))) (sym refusal_is)
        ∙ ap (λ (execute : Bool). creates_led (leads asker refusal (route_for New asker files terms execute))) (sym execute_is)

    -- it is refused
    pub creates-refused : (number : ℕ) → leads_new ≡ refused number → i_create asker files terms ≡ refused number
    creates-refused number is = by-leads ∙ ap creates_led is

    -- or goes on along the route that was found
    pub creates-routed : (cells : Cells) (route : Route) (course : Course) (it : IsRoute cells asker leads_new route)
        → route.course ≡ course → i_create asker files terms ≡ creates_on_route asker files terms it.list
        (route_on (Ok course) it.list.names)
    creates-routed cells route course it is =
        by-leads ∙ ap creates_led it.comes_to ∙ ap (creates_on_route asker files terms it.list) (it.route_is.course_is ∙ ap (λ (course : Course). route_on (Ok course) it.list.names) is)

-- ---- the names

-- without a name it is refused
pub along-nameless : (asker : Asker) (files : Files) (list : PathList) (from : FilePlace) → list.names ≡ [] → creates_along asker files list from ≡ refused E_BPNAM
along-nameless asker files list from none =
    ap (λ (names : List (List ℕ)). needs (last_of names) E_BPNAM (λ name. walks asker files (is_for_execution asker.caller.regs.a) from (before_last names) (creates_in asker files list name))) none

-- with one it walks along those before it
module _ (m : Processes) (was : Files) (now : TimePacket) (p : ℕ) (list : PathList) (from : FilePlace) (name : List ℕ) (last : last_of list.names ≡ Some name) where
  abbrev asked : Asker
  asked = asker_of m p now

  abbrev for_it : Bool
  for_it = is_for_execution asked.caller.regs.a

  pub along-named : (end : CallEnd) (processes : ProcState) (new : FileState) (before after : List DriveView)
      (terms : List TerminalState) → EndsFileAttempt (walks asked was for_it from (before_last list.names)
      (creates_in asked was list name)) (walk_and asked.user for_it from.number (before_last list.names)
      (new_file_calls asked name) (volume_at was from.drive)) m was now p end processes new before after terms
      → EndsFileAttempt (creates_along asked was list from) (creating_calls asked was (along from list.names)) m was now p end
      processes new before after terms
  along-named end processes new before after terms it =
      subst
      (λ (o : Option (List ℕ)). EndsFileAttempt (needs o E_BPNAM (λ name. walks asked was for_it from (before_last list.names) (creates_in asked was list name)))
      (option_map_or (λ name. walk_and asked.user for_it from.number (before_last list.names) (new_file_calls asked name) (volume_at was from.drive)) o 0)
      m was now p end processes new before after terms)
      (sym last) it

-- the last one is not that of a directory itself or of the one above it
pub last-proper : (list : PathList) (name : List ℕ) → ends_in_dots list ≡ false → last_of list.names ≡ Some name → is_dots name ≡ false
last-proper list name proper last = ap (λ (o : Option (List ℕ)). option_map_or is_dots o false) (sym last) ∙ proper
