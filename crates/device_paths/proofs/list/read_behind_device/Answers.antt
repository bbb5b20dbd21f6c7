use Rattle.std.proofs.Common.{◌≡◌, ◌∙◌, Some, Result, Ok, sym, ap, subst, arith}
use Rattle.guest_memory.specs.Tie.{cells_of}
use Rattle.os9_base.specs.Cells.{Cells}
use Rattle.device_paths.specs.Listed.{listed_by, listed_with, tails}
use Rattle.device_paths.specs.Tail.{HasLaterName}
use Rattle.device_paths.specs.declared.names.Step.{Step}
use Rattle.device_paths.specs.declared.names.Step.TheVariants.{Another}
use Rattle.os9_base.specs.declared.name_fault.NameFault.{NameFault}
use Rattle.device_paths.proofs.list.read_behind_device.Goals as goal

pub returns-in-Another-clause-list : goal.returns-in-Another-clause-list
returns-in-Another-clause-list c =
    let cells : Cells = cells_of c.args.memory.now c.args.p.0 in
    let is : c.step_over.result ≡ Ok (Another c.in-Another.next) =
    c.in_ok-next.was ∙ ap (λ (step : Step). let found : Result Step NameFault = Ok step in found) c.in-Another.is
    in
    let up = subst (λ (result : Result Step NameFault). HasLaterName c.args.at result) is c.step_over.ensures.up in
    c.with_names.ensures
    ∙ ap (listed_with (Some c.args.device)) (c.read_tail.ensures.tail 65535 (omega (arith, up.0)))
    ∙ sym (ap (listed_by c.args.device (tails cells)) (sym c.step_over.ensures.exact ∙ is))
