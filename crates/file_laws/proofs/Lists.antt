-- I$Open and I$Create of a path list that leads to a terminal or a pipe are those of terminals and pipes.
use Rattle.std.proofs.Common.{◌≡◌, ℕ, Bool, true, false, Result, Ok, length, refl, sym, ap, ◌∙◌, inl, inr}
use Rattle.os9_base.specs.declared.errors.TheConstants.{E_BMODE}
use Rattle.os9_base.specs.declared.name_fault.NameFault.{NameFault}
use Rattle.io_model.specs.Lead.{Lead, a_new_place, lead_of, what_is_there}
use Rattle.io_model.specs.Modes.{can_write, is_mode}
use Rattle.io_model.specs.Open.{i_create as creates_device, i_open as opens_device, opens_lead, reads_list as reads_device_list}
use Rattle.io_model.specs.PathList.{PathList}
use Rattle.io_model.specs.Step.{IoStep}
use Rattle.file_rules.specs.Create.{creates_on_route, i_create}
use Rattle.file_rules.specs.Files.{Files, Asker}
use Rattle.file_rules.specs.Open.{i_open, is_for_execution, opens_on_route, tests_mode}
use Rattle.file_rules.specs.Step.{FileStep, comes, as_io}
use Rattle.file_rules.specs.Route.{list_of, reads_list, to_device, route_of, route_to_new}
use Rattle.file_laws.proofs.Bare.{Agrees}

module _ (asker : Asker) (files : Files) (whole : IoStep) (lead : PathList → Lead) (next : PathList → FileStep) where
  -- the list that was read leads to a device; the mode is tested before
  read-agrees : (allowed : Bool) (list : PathList) → next list ≡ comes (as_io whole)
      → (read : Result PathList NameFault) → read ≡ Ok list → reads_device_list read allowed
      (λ list. opens_lead asker.caller files.io list (lead list)) ≡ whole
      → Agrees (reads_list read (tests_mode allowed) next) whole
  read-agrees true list there read is whole_is =
      inl (ap (λ (read : Result PathList NameFault). reads_list read (tests_mode true) next) is ∙ there)
  read-agrees false list there read is whole_is = inr (
    E_BMODE,
    ap (λ (read : Result PathList NameFault). reads_list read (tests_mode false) next) is,
    sym whole_is ∙ ap (λ (read : Result PathList NameFault). reads_device_list read false (λ list. opens_lead asker.caller files.io list (lead list))) is,
  )

module _ (asker : Asker) (files : Files) (terms : ℕ) (list : PathList) (is : list_of asker ≡ Ok list) where
  pub open-agrees : route_of asker files terms (is_for_execution asker.caller.regs.a) list ≡ to_device
      → Agrees (i_open asker files terms) (opens_device asker.caller files.io (length files.drives) terms)
  open-agrees route =
      read-agrees asker files (opens_device asker.caller files.io (length files.drives) terms)
      (lead_of what_is_there (length files.drives) terms) (λ list. opens_on_route asker files terms list
      (route_of asker files terms (is_for_execution asker.caller.regs.a) list)) (is_mode asker.caller.regs.a) list
      (ap (opens_on_route asker files terms list) route) (list_of asker) is refl

  pub create-agrees : route_to_new asker files terms (is_for_execution asker.caller.regs.a) list ≡ to_device
      → Agrees (i_create asker files terms) (creates_device asker.caller files.io (length files.drives) terms)
  create-agrees route =
      read-agrees asker files (creates_device asker.caller files.io (length files.drives) terms)
      (lead_of a_new_place (length files.drives) terms) (λ list. creates_on_route asker files terms list
      (route_to_new asker files terms (is_for_execution asker.caller.regs.a) list)) (can_write asker.caller.regs.a)
      list
      (ap (creates_on_route asker files terms list) route) (list_of asker) is refl
