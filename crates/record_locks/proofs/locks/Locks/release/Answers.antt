use Rattle.std.proofs.Common.{rules}
use Rattle.lock_model.specs.Locks.{Locks}
use Rattle.lock_model.proofs.Keeping.{are-released}
use Rattle.record_locks.proofs.locks.Locks.release.Goals as goal

pub invariant_of-self : goal.invariant_of-self
invariant_of-self c =
    let locks : Locks = record { held = c.self.inside.held.items; requests = c.self.inside.requests.items } in
    record {
      kept = are-released locks c.args.path c.self.invariant.kept;
      counted = search rules;
    }

pub returns-clause-kept : goal.returns-clause-kept
returns-clause-kept c =
    let locks : Locks = record { held = c.self.inside.held.items; requests = c.self.inside.requests.items } in
    are-released locks c.args.path c.self.invariant.kept
