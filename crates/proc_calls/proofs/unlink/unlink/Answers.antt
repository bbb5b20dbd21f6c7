use Rattle.std.proofs.Common.{sym, ap, subst, ◌∙◌}
use Rattle.std.specs.Option.{option_map_or}
use Rattle.os9_base.specs.declared.registers.Regs.{Regs}
use Rattle.proc_model.specs.Memory.{map_at}
use Rattle.proc_model.specs.ModuleList.{passes}
use Rattle.proc_model.specs.Slots.{group_slot}
use Rattle.std.proofs.Common.{position}
use Rattle.proc_model.specs.ModuleLinks.{Entered, is_at, without_module_link}
use Rattle.proc_model.specs.UnLink.{f_unlink, after_unlink, without_group_link}
use Rattle.proc_state.specs.Tie.{RepresentsProcesses}
use Rattle.proc_calls.proofs.Steps.{done-answers}
use Rattle.proc_calls.proofs.Unlinking.{unlinked-at}
use Rattle.proc_calls.proofs.unlink.unlink.Goals as goal

pub returns-clause-call : goal.returns-clause-call
returns-clause-call c =
    λ m tied.
    let p = c.args.p.0 in
    let number = c.in-Some.id.0 in
    let there = unlinked-at m p number (ap (λ (regs : Regs). position (passes (is_at (map_at m.memory p) regs.u))
    m.memory.modules) (sym (c.regs-regs.ensures.tied m tied)) ∙ sym (c.in-Some.ensures.found m tied)) in
    let found : Entered = record { number = number; entry = there.entry } in
    done-answers m (f_unlink m p) (after_unlink m p found) c.unlink_module.new.self there.goes
    (subst (RepresentsProcesses c.unlink_module.new.self)
    (λ i. without_module_link (option_map_or (without_group_link m p (there.group_is i))
    (group_slot (map_at m.memory p) (there.group_is i)) m) number)
    (c.unlink_module.ensures.tied _ (c.drop_group_link.ensures.tied m tied)))
