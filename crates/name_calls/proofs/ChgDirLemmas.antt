-- I$ChgDir in two parts.
use Rattle.std.proofs.Common.{◌≡◌, ◌∙◌, ℕ, ◌%◌, ◌+◌, ◌≤◌, not, Bool, true, false, Option, None, List, Result, Ok, Err, refl, ap, sym, subst}
use Rattle.os9_base.specs.declared.errors.TheConstants.{E_FNA}
use Rattle.os9_base.specs.declared.registers.Regs.{Regs}
use Rattle.os9_base.specs.declared.name_fault.NameFault.{NameFault}
use Rattle.os9_base.specs.declared.name_fault.NameFault.TheVariants.{Unreadable, NoName}
use Rattle.io_model.specs.Modes.{is_mode}
use Rattle.io_model.specs.PathList.{PathList}
use Rattle.file_rules.specs.ChgDir.{goes_on_route, goes_to, i_chgdir, may_go_to}
use Rattle.proc_model.specs.Processes.{Processes, regs_at, with_regs_of}
use Rattle.io_model.specs.Io.{Io, with_call}
use Rattle.io_model.specs.Step.{answers}
use Rattle.proc_state.specs.Tie.{RepresentsProcesses}
use Rattle.proc_state.specs.declared.state.ProcState.{ProcState}
use Rattle.file_rules.specs.Attempts.{files_kept}
use Rattle.file_rules.specs.Files.{Asker, Files, directories_at, with_directories_of, with_directory, with_drives, with_io}
use Rattle.file_drives.specs.Drives.{DriveView, drive_states}
use Rattle.file_state.proofs.StateLemmas.{stands-with_io}
use Rattle.file_state.specs.Tie.{RepresentsFiles}
use Rattle.file_state.specs.declared.state.FileState.{FileState}
use Rattle.file_rules.specs.Open.{is_for_execution, tests_mode}
use Rattle.file_rules.specs.Step.{FileStep, Step, refused, comes, leaves, reaches, refuses, with_drives_after}
use Rattle.file_rules.specs.Route.{Route, along, to_device, nowhere, Found, list_of, reads_list, walks, route_of}
use Rattle.lock_model.specs.declared.place.FilePlace.{FilePlace}
use Rattle.file_routes.specs.Routes.{mode_refusal, next_step, refuses_by}
use Rattle.name_calls.proofs.ListCallLemmas.{located-seen, located-within}
use Rattle.name_calls.proofs.LookLemmas.{walks-on}
use Rattle.name_calls.specs.ListCalls.{i_chgdir_calls, located_calls}
use Rattle.name_calls.specs.ChgDir.{allows_to_go, goes_there, looks_for_directory}
use Rattle.name_calls.specs.Locating.{FoundBy, found_by, locates, locates_on}
use Rattle.name_calls.specs.Looks.{answer_of}

-- on from a step, and on again
on-twice : {A B E : Type 0} (step : Step A) (first : A → Step B) (last : B → Step E) → next_step (next_step step first) last ≡ next_step step (λ it. next_step (first it) last)
on-twice (refused number) first last = refl
on-twice (comes it) first last = refl
on-twice (reaches drive step) first last = ap (reaches drive) (on-twice step first last)

module _ (asker : Asker) (files : Files) where
  abbrev both : Step FoundBy → FileStep
  both step = next_step (next_step step (allows_to_go asker)) (goes_there asker files)

  tested : (list : PathList) (found : Found) (forbidden : Bool) → refuses forbidden E_FNA
      (goes_there asker files (record { list = list; found = found })) ≡ next_step
      (refuses forbidden E_FNA (comes (record { list = list; found = found }))) (goes_there asker files)
  tested list found true = refl
  tested list found false = refl

  module _ (list : PathList) where
    with-found : (found : Found) → goes_to asker files list found ≡ next_step (allows_to_go asker (found_by list found)) (goes_there asker files)
    with-found found = tested list found (not (may_go_to found.file asker.user asker.caller.regs.a))

    with-route : (route : Route) → goes_on_route asker files list route ≡ both (locates_on asker files (is_for_execution asker.caller.regs.a) list route)
    with-route (along from names) =
        walks-on asker files (is_for_execution asker.caller.regs.a) (goes_to asker files list)
        (λ found. comes (found_by list found)) (λ it. next_step (allows_to_go asker it) (goes_there asker files))
        with-found from names
        ∙ sym (on-twice (walks asker files (is_for_execution asker.caller.regs.a) from names (λ found. comes (found_by list found))) (allows_to_go asker) (goes_there asker files))
    with-route to_device = refl
    with-route (nowhere number) = refl

  pub chgdir-parts : (terms : ℕ) → i_chgdir asker files terms ≡ next_step (looks_for_directory asker files terms) (goes_there asker files)
  chgdir-parts terms = by (list_of asker) (is_mode asker.caller.regs.a)
    where
      by : (read : Result PathList NameFault) (allowed : Bool) → reads_list read (tests_mode allowed)
          (λ list. goes_on_route asker files list (route_of asker files terms (is_for_execution asker.caller.regs.a)
          list)) ≡ next_step (next_step (reads_list read (refuses_by (mode_refusal allowed))
          (λ list. locates_on asker files (is_for_execution asker.caller.regs.a) list
          (route_of asker files terms (is_for_execution asker.caller.regs.a) list))) (allows_to_go asker))
          (goes_there asker files)
      by (Ok list) true = with-route list (route_of asker files terms (is_for_execution asker.caller.regs.a) list)
      by (Ok list) false = refl
      by (Err Unreadable) true = refl
      by (Err Unreadable) false = refl
      by (Err NoName) true = refl
      by (Err NoName) false = refl

-- the mode of a call chooses its directory, and is its refusal or none
pub looks-same : (asker : Asker) (files : Files) (terms : ℕ) (regs : Regs) (execute allowed : Bool)
    (refusal : Option ℕ) → regs ≡ asker.caller.regs → execute ≡ is_for_execution regs.a → allowed ≡ is_mode regs.a
    → refusal ≡ mode_refusal allowed → next_step (locates execute refusal asker files terms) (allows_to_go asker) ≡
    looks_for_directory asker files terms
looks-same asker files terms regs execute allowed refusal same execute_is allowed_is refusal_is =
    ap (λ (execute : Bool). next_step (locates execute refusal asker files terms) (allows_to_go asker)) (execute_is ∙ ap (λ (regs : Regs). is_for_execution regs.a) same)
    ∙ ap (λ (refusal : Option ℕ). next_step (locates (is_for_execution asker.caller.regs.a) refusal asker files terms)
    (allows_to_go asker)) (refusal_is ∙ ap mode_refusal (allowed_is ∙ ap (λ (regs : Regs). is_mode regs.a) same))

-- and the calls of the walk are a part of its calls, beside one for what was found
module _ (asker : Asker) (files : Files) (terms : ℕ) (execute : Bool) (same : execute ≡ is_for_execution asker.caller.regs.a) where
  pub chgdir-seen : located_calls execute (λ v file. 0) asker files terms ≤ i_chgdir_calls asker files terms
  chgdir-seen =
      subst (λ (e : Bool). located_calls execute (λ v file. 0) asker files terms ≤ located_calls e (λ v file. 1) asker files terms) same
      (located-seen asker files terms execute (λ v file. 1))

  pub chgdir-within : (refusal : Option ℕ) (it : FoundBy) → answer_of (locates execute refusal asker files terms) ≡ Ok
      it → located_calls execute (λ v file. 0) asker files terms + 1 ≤ i_chgdir_calls asker files terms
  chgdir-within refusal it is =
      subst (λ (e : Bool). located_calls execute (λ v file. 0) asker files terms + 1 ≤ located_calls e (λ v file. 1) asker files terms) same
      (located-within asker files terms execute (λ v file. 1) it refusal is)

-- the call of a process is done, and its directory is another one
pub gone-there : (mid final : FileState) (views : List DriveView) (was : Files) (p : ℕ) (regs : Regs) (io : Io)
    (execute searched : Bool) (place found : FilePlace) → io ≡ with_call mid.io p None → execute ≡ searched
    → found ≡ place → RepresentsFiles mid views (with_drives was (drive_states views))
    → ((views : List DriveView) (files : Files) → RepresentsFiles (record mid { io = io }) views files
    → RepresentsFiles final views (with_directories_of files p (with_directory (directories_at files p) execute place)))
    → RepresentsFiles final views (files_kept p
    (with_drives_after (leaves (answers regs) (with_directories_of was p (with_directory (directories_at was p)
    searched found))) (drive_states views)))
gone-there mid final views was p regs io execute searched place found io_is searches place_is stands goes =
    subst (λ (place : FilePlace). RepresentsFiles final views
    (files_kept p (with_drives_after
    (leaves (answers regs) (with_directories_of was p (with_directory (directories_at was p) searched place)))
    (drive_states views)))) (sym place_is)
    (subst (λ (execute : Bool). RepresentsFiles final views
    (files_kept p (with_drives_after
    (leaves (answers regs) (with_directories_of was p (with_directory (directories_at was p) execute place)))
    (drive_states views)))) searches
    (goes views (with_io (with_drives was (drive_states views)) (with_call was.io p None))
    (stands-with_io mid views (with_drives was (drive_states views)) (with_call was.io p None) io (ap (λ (old : Io). with_call old p None) stands.io ∙ sym io_is) stands)))

-- and its process has X past the list
pub told-past : (processes : ProcState) (m : Processes) (p next end : ℕ) (regs : Regs) → regs ≡ regs_at m p → next ≡ end
    → RepresentsProcesses processes (with_regs_of m p (record regs { x = next % 65536 })) → RepresentsProcesses processes
    (with_regs_of m p (record (regs_at m p) { x = end % 65536 }))
told-past processes m p next end regs same next_is tied =
    subst (λ (n : ℕ). RepresentsProcesses processes (with_regs_of m p (record (regs_at m p) { x = n % 65536 }))) next_is
    (subst (λ (regs : Regs). RepresentsProcesses processes (with_regs_of m p (record regs { x = next % 65536 }))) same tied)
