use Rattle.std.proofs.Common.{rules, sym, subst}
use Rattle.lock_model.specs.Locks.{Locks}
use Rattle.lock_model.specs.Laws.{MayHold}
use Rattle.lock_model.proofs.Keeping.{are-granted}
use Rattle.record_locks.proofs.locks.Locks.grant.Goals as goal

pub invariant_of-self : goal.invariant_of-self
invariant_of-self c =
    let locks : Locks = record { held = c.self.inside.held.items; requests = c.self.inside.requests.items } in
    record {
      kept = are-granted locks c.args.path c.args.lock (subst (λ (s : Locks). MayHold s c.args.lock) (sym c.self.view_is) c.requires.may) c.self.invariant.kept;
      counted = search rules;
    }

pub returns-clause-kept : goal.returns-clause-kept
returns-clause-kept c =
    let locks : Locks = record { held = c.self.inside.held.items; requests = c.self.inside.requests.items } in
    are-granted locks c.args.path c.args.lock (subst (λ (s : Locks). MayHold s c.args.lock) (sym c.self.view_is) c.requires.may) c.self.invariant.kept
