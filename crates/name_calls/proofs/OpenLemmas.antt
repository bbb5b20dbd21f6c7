-- I$Open, step by step.
use Rattle.std.proofs.Common.{◌≡◌, ◌∙◌, ℕ, not, Bool, true, false, Option, Some, None, List, Ok, refl, ap, sym}
use Rattle.os9_base.specs.declared.errors.TheConstants.{E_FNA, E_MNF, E_PNNF, E_SHARE, E_PTHFUL}
use Rattle.os9_base.specs.Cells.{Cells}
use Rattle.os9_base.specs.declared.registers.Regs.{Regs}
use Rattle.io_model.specs.Path.{PathTable, new_number, paths_after_begin}
use Rattle.io_model.specs.declared.path.Target.{Target}
use Rattle.io_model.specs.Io.{new_desc}
use Rattle.io_model.specs.Modes.{is_mode}
use Rattle.io_model.specs.Open.{opened_regs}
use Rattle.io_model.specs.PathList.{PathList}
use Rattle.io_model.specs.Step.{answers}
use Rattle.rbf_model.specs.File.{DiskFile}
use Rattle.rbf_model.specs.Volume.{DiskVolume}
use Rattle.rbf_model.specs.Walk.{WalkEnd, arrives, not_allowed, not_found, walk}
use Rattle.proc_model.specs.Processes.{Processes, regs_at, user_at}
use Rattle.proc_model.specs.Records.{record_at}
use Rattle.proc_state.specs.Tie.{RepresentsProcesses}
use Rattle.proc_state.specs.declared.state.ProcState.{ProcState}
use Rattle.file_rules.specs.Files.{Asker, DriveState, Files, target_on, volume_at, with_drives, with_path_table}
use Rattle.file_rules.specs.Open.{begins_on, i_open, is_for_execution, may_open, opens_found, opens_on_route}
use Rattle.file_rules.specs.Sharing.{is_not_shared}
use Rattle.file_rules.specs.Step.{Deed, FileEffect, FileStep, MayBeLeft, Step, comes, refused, deed_of, done, leaves, leaves_so, needs, reaches, refuses, refuses_so, with_drives_after}
use Rattle.file_rules.specs.Route.{Found, list_of, reads_list, walk_ends, walks, route_of}
use Rattle.file_rules.specs.Route as Rule
use Rattle.lock_model.specs.declared.place.FilePlace.{FilePlace}
use Rattle.proc_state.proofs.Tied.{regs-tied}
use Rattle.file_routes.proofs.RouteLemmas.{leads-on, mode-tested}
use Rattle.file_routes.specs.Routes.{IsRoute, Led, leads, mode_refusal, next_step, route_for, route_on}
use Rattle.file_routes.specs.declared.route.Route.{Route}
use Rattle.file_routes.specs.declared.route.Course.{Course}
use Rattle.file_routes.specs.declared.route.Purpose.TheVariants.{Existing}
use Rattle.name_calls.proofs.OpenEndLemmas.{user-tied}
use Rattle.name_calls.specs.Steps.{begins}

-- ---- what it does is done where no drive failed

-- what may be said of a step that is refused, and of what goes on from each file, may be said of a walk
module _ (P : Deed → Type 0) (asker : Asker) (files : Files) (refusal : (number : ℕ)
    → P (leaves_so (refuses_so number files))) (next : Found → FileStep) (found : (it : Found)
    → P (deed_of (next it) files)) where
  with-file : (drive n : ℕ) (v : DiskVolume) (file : Option DiskFile)
      → P (deed_of (needs file E_PNNF
      (λ file. next (record { place = record { drive = drive; number = n }; volume = v; file = file }))) files)
  with-file drive n v None = refusal E_PNNF
  with-file drive n v (Some file) = found (record { place = record { drive = drive; number = n }; volume = v; file = file })

  with-end : (drive : ℕ) (v : DiskVolume) (end : WalkEnd) → P (deed_of (walk_ends drive v end next) files)
  with-end drive v (arrives n) = with-file drive n v (v.files n)
  with-end drive v not_allowed = refusal E_FNA
  with-end drive v not_found = refusal E_PNNF

  with-volume : (execute : Bool) (from : FilePlace) (names : List (List ℕ)) (volume : Option DiskVolume)
      → P (deed_of (needs volume E_MNF
      (λ v. reaches from.drive (walk_ends from.drive v (walk v.files asker.user execute from.number names) next)))
      files)
  with-volume execute from names None = refusal E_MNF
  with-volume execute from names (Some v) = with-end from.drive v (walk v.files asker.user execute from.number names)

  pub deed-walks : (execute : Bool) (from : FilePlace) (names : List (List ℕ)) → P (deed_of (walks asker files execute from names next) files)
  deed-walks execute from names = with-volume execute from names (volume_at files from.drive)

-- ---- I$Open of a file that was found

-- at the file that a walk has reached
abbrev pub opens_there : Asker → Files → PathList → Found → FileStep
opens_there asker files list found = reaches found.place.drive (opens_found asker files list found)

-- it changes no volume
module _ (asker : Asker) (files : Files) (v : DiskVolume) where
  abbrev stays : Deed → Type 0
  stays deed = MayBeLeft deed asker v v

  tests-stay : (forbidden shared : Bool) (number : Option ℕ) (regs : ℕ → Regs) (paths : PathTable)
      → stays (deed_of (refuses forbidden E_FNA
      (refuses shared E_SHARE (needs number E_PTHFUL (λ n. done (regs n) (with_path_table files paths))))) files)
  tests-stay true shared number regs paths = refl
  tests-stay false true number regs paths = refl
  tests-stay false false None regs paths = refl
  tests-stay false false (Some n) regs paths = refl

  pub found-stays : (list : PathList) (found : Found) → stays (deed_of (opens_found asker files list found) files)
  found-stays list found = tests-stay
      (not (may_open found.file asker.user asker.caller.regs.a))
      (is_not_shared files found asker.caller.regs.a)
      (new_number files.io.paths asker.caller.process.0)
      (opened_regs asker.caller.regs list)
      (paths_after_begin files.io.paths asker.caller.process.0 (new_desc (target_on found.file found.place) asker.caller.regs.a))

  pub walk-stays : (execute : Bool) (list : PathList) (from : FilePlace) → stays (deed_of (walks asker files execute from list.names (opens_found asker files list)) files)
  walk-stays execute list from =
      deed-walks stays asker files (λ number. refl) (opens_found asker files list) (found-stays list) execute from list.names

-- it is the same whatever the drives' counts are
module _ (was : Files) (drives : List DriveState) where
  abbrev Late : FileStep → FileStep → Type 0
  Late step later =
      (effect : FileEffect) → deed_of later (with_drives was drives) ≡ leaves_so effect → (it : FileEffect) × (deed_of step was ≡ leaves_so it) × (effect ≡ with_drives_after it drives)

  late-tests : (forbidden shared : Bool) (number : Option ℕ) (regs : ℕ → Regs) (paths : PathTable)
      → Late (refuses forbidden E_FNA
      (refuses shared E_SHARE (needs number E_PTHFUL (λ n. done (regs n) (with_path_table was paths)))))
      (refuses forbidden E_FNA (refuses shared E_SHARE
      (needs number E_PTHFUL (λ n. done (regs n) (with_path_table (with_drives was drives) paths)))))
  late-tests true shared number regs paths effect is =
      let same : effect ≡ refuses_so E_FNA (with_drives was drives) = cc in (refuses_so E_FNA was, refl, same)
  late-tests false true number regs paths effect is =
      let same : effect ≡ refuses_so E_SHARE (with_drives was drives) = cc in (refuses_so E_SHARE was, refl, same)
  late-tests false false None regs paths effect is =
      let same : effect ≡ refuses_so E_PTHFUL (with_drives was drives) = cc in (refuses_so E_PTHFUL was, refl, same)
  late-tests false false (Some n) regs paths effect is =
      let same : effect ≡ leaves (answers (regs n)) (with_path_table (with_drives was drives) paths) = cc in
      (leaves (answers (regs n)) (with_path_table was paths), refl, same)

  pub late-found : (asker : Asker) (list : PathList) (found : Found) → Late (opens_there asker was list found) (opens_found asker (with_drives was drives) list found)
  late-found asker list found = late-tests
      (not (may_open found.file asker.user asker.caller.regs.a))
      (is_not_shared was found asker.caller.regs.a)
      (new_number was.io.paths asker.caller.process.0)
      (opened_regs asker.caller.regs list)
      (paths_after_begin was.io.paths asker.caller.process.0 (new_desc (target_on found.file found.place) asker.caller.regs.a))

-- ---- the tests of a file that was found

module _ (asker : Asker) (files : Files) (list : PathList) (found : Found) where
  pub found-forbidden : may_open found.file asker.user asker.caller.regs.a ≡ false → deed_of (opens_found asker files list found) files ≡ leaves_so (refuses_so E_FNA files)
  found-forbidden may =
      ap (λ (may : Bool). deed_of (refuses (not may) E_FNA (refuses (is_not_shared files found asker.caller.regs.a) E_SHARE (begins_on asker files list found))) files) may

  module _ (may : may_open found.file asker.user asker.caller.regs.a ≡ true) where
    tested : opens_found asker files list found ≡ refuses (is_not_shared files found asker.caller.regs.a) E_SHARE (begins_on asker files list found)
    tested = ap (λ (may : Bool). refuses (not may) E_FNA (refuses (is_not_shared files found asker.caller.regs.a) E_SHARE (begins_on asker files list found))) may

    pub found-shared : is_not_shared files found asker.caller.regs.a ≡ true → deed_of (opens_found asker files list found) files ≡ leaves_so (refuses_so E_SHARE files)
    found-shared shared =
        ap (λ (step : FileStep). deed_of step files) tested
        ∙ ap (λ (shared : Bool). deed_of (refuses shared E_SHARE (begins_on asker files list found)) files) shared

    pub found-begins : (target : Target) → is_not_shared files found asker.caller.regs.a ≡ false → target ≡ target_on
        found.file found.place → begins asker files list target ≡ opens_found asker files list found
    found-begins target shared target_is =
        ap (begins asker files list) target_is
        ∙ sym (tested ∙ ap (λ (shared : Bool). refuses shared E_SHARE (begins_on asker files list found)) shared)

-- ---- by the user and the registers that were read

module _ (s : ProcState) (m : Processes) (p : ℕ) (tied : RepresentsProcesses s m) (regs : Regs) (regs_are : regs ≡ (record_at s.table p).regs) where
  pub mode-tied : (regs_at m p).a ≡ regs.a
  mode-tied = ap (λ (regs : Regs). regs.a) (sym (regs_are ∙ regs-tied s m p tied))

  pub may-tied : (file : DiskFile) (user : ℕ) → user ≡ (record_at s.table p).user → may_open file (user_at m p) (regs_at m p).a ≡ may_open file user regs.a
  may-tied file user user_is =
      ap (λ (n : ℕ). may_open file n (regs_at m p).a) (user-tied s m p tied ∙ sym user_is) ∙ ap (may_open file user) mode-tied

-- ---- the list

module _ (asker : Asker) (files : Files) (terms : ℕ) (refusal : Option ℕ) (execute : Bool)
    (refusal_is : refusal ≡ mode_refusal (is_mode asker.caller.regs.a)) (execute_is : execute ≡ is_for_execution
    asker.caller.regs.a) where
  abbrev opens_led : Step Led → FileStep
  opens_led step = next_step step (λ led. opens_on_route asker files terms led.list led.route)

  by-leads : i_open asker files terms ≡ opens_led (leads asker refusal (route_for Existing asker files terms execute))
  by-leads =
      (λ i. reads_list (list_of asker) (λ (step : FileStep). mode-tested (is_mode asker.caller.regs.a) step i)
      (λ list. opens_on_route asker files terms list
      (route_of asker files terms (is_for_execution asker.caller.regs.a) list)))
      ∙ leads-on asker (mode_refusal (is_mode asker.caller.regs.a)) (route_of asker files terms (is_for_execution asker.caller.regs.a)) (opens_on_route asker files terms) (λ list number. refl)
      ∙ ap (λ (refusal : Option ℕ). opens_led (leads asker refusal (route_of asker files terms (is_for_execution asker.caller.regs.a)))) (sym refusal_is)
      ∙ ap (λ (execute : Bool). opens_led (leads asker refusal (route_for Existing asker files terms execute))) (sym execute_is)

  -- along the route that was found
  pub opens-route : (list : PathList) (meant : Rule.Route) → leads asker refusal (route_for Existing asker files terms execute) ≡
      comes (record { list = list; route = meant }) → i_open asker files terms ≡ opens_on_route asker files terms list meant
  opens-route list meant is = by-leads ∙ ap opens_led is

  -- or it is refused
  pub opens-refused : (number : ℕ) → leads asker refusal (route_for Existing asker files terms execute) ≡ refused number → i_open asker files terms ≡ refused number
  opens-refused number is = by-leads ∙ ap opens_led is

  pub opens-routed : (cells : Cells) (route : Route) (course : Course)
      (it : IsRoute cells asker (leads asker refusal (route_for Existing asker files terms execute)) route)
      → route.course ≡ course → i_open asker files terms ≡ opens_on_route asker files terms it.list
      (route_on (Ok course) it.list.names)
  opens-routed cells route course it is =
      opens-route it.list it.meant it.comes_to ∙ ap (opens_on_route asker files terms it.list) (it.route_is.course_is ∙ ap (λ (course : Course). route_on (Ok course) it.list.names) is)
