use Rattle.std.proofs.Common.{◌≡◌, true, false, sym, subst, arith}
use Rattle.std.specs.Prelude.{count_by, is_some}
use Rattle.lock_model.specs.Locks.{Locks}
use Rattle.lock_model.specs.Conflict as model
use Rattle.record_locks.proofs.NoneHeld.{none_opposed}
use Rattle.record_locks.proofs.locks.Locks.conflicts.Goals as goal

pub returns-then-self-eq0-clause-answer : goal.returns-then-self-eq0-clause-answer
returns-then-self-eq0-clause-answer c =
    let counted = c.self.invariant.counted in
    let none : count_by is_some c.self.inside.held.items ≡ 0 = omega (arith, c.if-self-eq0.true) in
    sym (subst (λ (s : Locks). model.conflicts s c.args.asked ≡ false) c.self.view_is (none_opposed c.args.asked (λ owner. true) c.self.inside.held.items none))
