use Rattle.std.proofs.Common.{sym, ◌∙◌, below_more, arith}
use Rattle.proc_model.specs.Memory.{map_at}
use Rattle.proc_model.specs.ModuleLinks.{is_at}
use Rattle.proc_calls.proofs.Addresses.{first-passing, none-passing}
use Rattle.proc_calls.proofs.unlink.module_at.Goals as goal

pub returns-then-is_at-clause-found : goal.returns-then-is_at-clause-found
returns-then-is_at-clause-found c =
    λ m tied.
    sym (first-passing c.args.s.now.memory m.memory tied.memory (is_at (map_at m.memory c.args.p.0) c.args.address)
    c.loop-number.number (omega arith) (sym c.if-is_at.true ∙ c.is_at.ensures.tied m tied)
    (c.loop-number.invariant m tied))

pub returns-clause-found : goal.returns-clause-found
returns-clause-found c =
    λ m tied.
    sym (none-passing c.args.s.now.memory m.memory tied.memory (is_at (map_at m.memory c.args.p.0) c.args.address) (λ k below. c.loop-number.invariant m tied k (omega arith)))

pub loop-number-preserved : goal.loop-number-preserved
loop-number-preserved c =
    λ m tied. below_more _ _ (c.loop-number.invariant m tied) (sym (c.is_at.ensures.tied m tied) ∙ c.if-is_at.false)
