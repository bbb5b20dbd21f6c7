use Rattle.std.proofs.Common.{◌≡◌, ℕ, false, not, sym, ap, ◌∙◌, arith, below_more}
use Rattle.io_model.specs.Alone.{is_outside}
use Rattle.io_state.proofs.StreamLemmas.{none-in, some-in}
use Rattle.io_state.proofs.state.IoState.is_alone.Goals as goal

pub loop-number-preserved : goal.loop-number-preserved
loop-number-preserved c =
    below_more (λ (q : ℕ). is_outside c.args.self.now c.args.p.0 c.args.path.0 c.args.direction q ≡ false)
    c.loop-number.number c.loop-number.invariant (sym c.is_outside.ensures ∙ c.if-is_outside.false)

pub returns-then-is_outside : goal.returns-then-is_outside
returns-then-is_outside c =
    sym (ap not (some-in (is_outside c.args.self.now c.args.p.0 c.args.path.0 c.args.direction) 0 33
    c.loop-number.number (omega arith) (omega arith) (sym c.is_outside.ensures ∙ c.if-is_outside.true)))

pub returns : goal.returns
returns c =
    sym (ap not (none-in (is_outside c.args.self.now c.args.p.0 c.args.path.0 c.args.direction) 0 33 (λ k low high. c.loop-number.invariant k (omega arith))))
