-- I$Delete and I$DeletX in two parts.
use Rattle.std.proofs.Common.{◌≡◌, ◌∙◌, ℕ, Bool, true, false, Option, Some, None, List, Result, Ok, Err, refl, ap}
use Rattle.os9_base.specs.declared.errors.TheConstants.{E_FNA}
use Rattle.os9_base.specs.declared.registers.Regs.{Regs}
use Rattle.os9_base.specs.declared.name_fault.NameFault.{NameFault}
use Rattle.os9_base.specs.declared.name_fault.NameFault.TheVariants.{Unreadable, NoName}
use Rattle.io_model.specs.Modes.{is_mode}
use Rattle.io_model.specs.PathList.{PathList}
use Rattle.file_rules.specs.Delete.{deletes_by, deletes_in, deletes_named, i_deletx}
use Rattle.file_rules.specs.Files.{Asker, Files}
use Rattle.file_rules.specs.Open.{is_for_execution, tests_mode}
use Rattle.file_rules.specs.Step.{comes, refused}
use Rattle.file_rules.specs.Route.{Route, along, to_device, nowhere, before_last, last_of, list_of, reads_list, route_of}
use Rattle.file_routes.specs.Routes.{mode_refusal, next_step, refuses_by}
use Rattle.file_routes.specs.declared.route.Purpose.TheVariants.{Existing}
use Rattle.name_calls.proofs.LookLemmas.{walks-on}
use Rattle.name_calls.specs.Delete.{deletes_it}
use Rattle.name_calls.specs.Naming.{named_by, names_last, names_on}

module _ (asker : Asker) (files : Files) (execute : Bool) where
  with-route : (list : PathList) (route : Route) (last : Option (List ℕ)) → deletes_named asker files execute list route last
      ≡ next_step (names_on Existing asker files execute list route last) (deletes_it asker files execute)
  with-route list (along from names) None = walks-on asker files execute (λ root. refused E_FNA) (λ root. refused E_FNA) (deletes_it asker files execute) (λ found. refl) from names
  with-route list (along from names) (Some name) = walks-on asker files execute (deletes_in asker files execute list
      name) (λ directory. comes (named_by list name directory)) (deletes_it asker files execute) (λ found. refl) from
      (before_last names)
  with-route list to_device last = refl
  with-route list (nowhere number) last = refl

  pub deletes-parts : (terms : ℕ) (refusal : Option ℕ) → deletes_by asker files terms execute (refuses_by refusal) ≡
      next_step (names_last Existing execute refusal asker files terms) (deletes_it asker files execute)
  deletes-parts terms refusal = by (list_of asker) refusal
    where
      by : (read : Result PathList NameFault) (refusal : Option ℕ) → reads_list read (refuses_by refusal)
          (λ list. deletes_named asker files execute list (route_of asker files terms execute list)
          (last_of list.names)) ≡ next_step (reads_list read (refuses_by refusal) (λ list. names_on Existing asker
          files execute list (route_of asker files terms execute list) (last_of list.names)))
          (deletes_it asker files execute)
      by (Ok list) None = with-route list (route_of asker files terms execute list) (last_of list.names)
      by (Ok list) (Some number) = refl
      by (Err Unreadable) refusal = refl
      by (Err NoName) None = refl
      by (Err NoName) (Some number) = refl

-- the test of a mode is a refusal, or none
pub tests-refusal : (asker : Asker) (files : Files) (terms : ℕ) (execute allowed : Bool) → deletes_by asker files
    terms execute (refuses_by (mode_refusal allowed)) ≡ deletes_by asker files terms execute (tests_mode allowed)
tests-refusal asker files terms execute true = refl
tests-refusal asker files terms execute false = refl

-- the mode of a call chooses its directory, and is its refusal or none
pub deletx-parts : (asker : Asker) (files : Files) (terms : ℕ) (regs : Regs) (execute allowed : Bool)
    (refusal : Option ℕ) → regs ≡ asker.caller.regs → execute ≡ is_for_execution regs.a → allowed ≡ is_mode regs.a
    → refusal ≡ mode_refusal allowed → deletes_by asker files terms execute (refuses_by refusal) ≡ i_deletx asker
    files terms
deletx-parts asker files terms regs execute allowed refusal same execute_is allowed_is refusal_is =
    ap (λ (execute : Bool). deletes_by asker files terms execute (refuses_by refusal)) (execute_is ∙ ap (λ (regs : Regs). is_for_execution regs.a) same)
    ∙ ap (λ (refusal : Option ℕ). deletes_by asker files terms (is_for_execution asker.caller.regs.a)
    (refuses_by refusal)) (refusal_is ∙ ap mode_refusal (allowed_is ∙ ap (λ (regs : Regs). is_mode regs.a) same))
    ∙ tests-refusal asker files terms (is_for_execution asker.caller.regs.a) (is_mode asker.caller.regs.a)
