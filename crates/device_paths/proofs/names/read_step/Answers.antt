use Rattle.std.proofs.Common.{◌≡◌, ◌∙◌, ℕ, List, Result, Ok, sym, ap, subst}
use Rattle.guest_memory.specs.Tie.{cells_of}
use Rattle.io_model.specs.PathList.{names_at, names_behind}
use Rattle.os9_base.specs.Cells.{Cells}
use Rattle.device_paths.specs.Tail.{tail_of, tail_after}
use Rattle.os9_base.specs.declared.name_fault.NameFault.{NameFault}
use Rattle.device_paths.proofs.names.read_step.Goals as goal

pub returns-clause-step : goal.returns-clause-step
returns-clause-step c left =
    let cells : Cells = cells_of c.args.memory.now c.args.p.0 in
    ap (λ (name : Result (List ℕ) NameFault). tail_of (names_behind (λ next. names_at cells next left) cells c.args.at name)) (sym c.name.ensures.name ∙ c.in_ok-name.was)
    ∙ subst (λ (seen : Cells). tail_of (names_behind (λ next. names_at seen next left) seen c.args.at
    (Ok c.in_ok-name.name)) ≡ tail_after (λ next. tail_of (names_at seen next left)) c.step_over.result)
    (c.name.ensures.same.cells c.args.p.0) (c.step_over.ensures.step left)
