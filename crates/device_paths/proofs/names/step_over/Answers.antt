use Rattle.std.proofs.Common.{◌≡◌, ◌∙◌, ◌+◌, ℕ, length, sym, ap, arith}
use Rattle.guest_memory.specs.Tie.{cells_of}
use Rattle.io_model.specs.PathList.{another, behind, names_at}
use Rattle.os9_base.specs.Cells.{Cells}
use Rattle.device_paths.specs.Tail.{behind_of, tail_of}
use Rattle.device_paths.proofs.NamesLemmas.{tail-another}
use Rattle.device_paths.proofs.names.step_over.Goals as goal

pub returns-in-Another-clause-step : goal.returns-in-Another-clause-step
returns-in-Another-clause-step c left =
    let cells : Cells = cells_of c.args.memory.now c.args.p.0 in
    let next : c.args.at + length c.args.name.now ≡ c.from.result + c.from-2.result = omega (arith, c.from.ensures, c.from-2.ensures, c.len-len.ensures.length) in
    let follows : behind cells (c.args.at + length c.args.name.now) ≡ another =
    ap (λ (k : ℕ). behind cells (c.args.at + k)) (sym c.len-len.ensures.length) ∙ sym c.what_follows.ensures.behind ∙ ap behind_of c.in-Another.is
    in
    tail-another cells left (c.args.at + length c.args.name.now) c.args.name.now (behind cells (c.args.at + length c.args.name.now)) follows
    ∙ ap (λ (k : ℕ). tail_of (names_at cells (k + 1) left)) next
