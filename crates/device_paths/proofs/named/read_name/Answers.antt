use Rattle.std.proofs.Common.{◌≡◌, ◌∙◌, ℕ, suc, ◌+◌, length, List, Result, Ok, Err, sym, ap, subst}
use Rattle.guest_memory.specs.Tie.{cells_of}
use Rattle.io_model.specs.PathList.{behind, names_at, names_behind}
use Rattle.os9_base.specs.Cells.{Cells}
use Rattle.device_paths.specs.Standing.{NextIsBehind, name_list, named_by, names_after}
use Rattle.device_paths.specs.Tail.{step_by}
use Rattle.device_paths.specs.declared.named.Named.{Named}
use Rattle.device_paths.specs.declared.names.Step.{Step}
use Rattle.device_paths.proofs.StandingLemmas.{first-read, names-by, next-behind}
use Rattle.os9_base.specs.declared.name_fault.NameFault.{NameFault}
use Rattle.device_paths.proofs.named.read_name.Goals as goal

pub returns-clause-names : goal.returns-clause-names
returns-clause-names c left =
    let cells : Cells = cells_of c.args.memory.now c.args.p.0 in
    let name : List ℕ = c.in_ok-name.name in
    let behind_it : c.step_over-step.result ≡ step_by name (c.args.at + length name) (behind cells (c.args.at + length name)) =
    c.step_over-step.ensures.exact
    ∙ ap (λ (seen : Cells). step_by name (c.args.at + length name) (behind seen (c.args.at + length name))) (c.name.ensures.same.cells c.args.p.0)
    in
    ap (λ (name : Result (List ℕ) NameFault). name_list (names_behind (λ next. names_at cells next left) cells c.args.at name)) (sym c.name.ensures.name ∙ c.in_ok-name.was)
    ∙ names-by (λ next. names_at cells next left) name (c.args.at + length name) (behind cells (c.args.at + length name))
    ∙ ap (λ (step : Result Step NameFault). names_after (λ next. name_list (names_at cells next left)) (named_by name step)) (sym behind_it)
    ∙ ap (names_after (λ next. name_list (names_at cells next left))) (sym c.with_next.ensures)

pub returns-clause-first : goal.returns-clause-first
returns-clause-first c names stand =
    first-read (cells_of c.args.memory.now c.args.p.0) c.args.at names c.with_next.result (returns-clause-names c) stand

pub returns-clause-up : goal.returns-clause-up
returns-clause-up c =
    subst (NextIsBehind c.args.at) (sym c.with_next.ensures) (next-behind c.args.at c.in_ok-name.name c.step_over-step.result c.step_over-step.ensures.up)
