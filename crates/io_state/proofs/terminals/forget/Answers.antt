use Rattle.std.proofs.Common.{◌∙◌, sym, arith, map}
use Rattle.std.proofs.lemmas.List.{length-map, get_or-map, ext_get_or}
use Rattle.io_model.specs.Terminal.{new_terminal, forgotten}
use Rattle.io_state.proofs.terminals.forget.Goals as goal

pub returns : goal.returns
returns c =
    ext_get_or new_terminal c.loop-term.terms (map (forgotten c.args.p) c.args.terms.now)
    (omega (arith, length-map c.args.terms.now (forgotten c.args.p), c.loop-term.auto.terms))
    (λ k h. c.loop-term.invariant.done k (omega (arith, c.loop-term.auto.terms)) ∙ sym
    (get_or-map (forgotten c.args.p) c.args.terms.now k new_terminal new_terminal
    (omega (arith, c.loop-term.auto.terms))))
