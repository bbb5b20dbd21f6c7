-- The list of the plan is the one that is searched.
use Rattle.std.proofs.Common.{sym, ap, ◌∙◌}
use Rattle.os9_outer.specs.Plans.{listed_fault, fault_in}
use Rattle.os9_outer.proofs.ram_drive.Plan.fault_at.Goals as goal

pub returns-in-Calls : goal.returns-in-Calls
returns-in-Calls c =
    c.fault_of.ensures
    ∙ ap (λ faults. listed_fault faults c.args.call) c.deref.ensures.value
    ∙ ap (λ plan. fault_in plan c.args.call) (sym c.in-Calls.is)
