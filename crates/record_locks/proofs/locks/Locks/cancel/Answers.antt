use Rattle.lock_model.specs.Locks.{Locks}
use Rattle.lock_model.proofs.Keeping.{are-forgotten}
use Rattle.record_locks.proofs.locks.Locks.cancel.Goals as goal

pub invariant_of-self : goal.invariant_of-self
invariant_of-self c =
    let locks : Locks = record { held = c.self.inside.held.items; requests = c.self.inside.requests.items } in
    record { kept = are-forgotten locks c.args.p.0 c.self.invariant.kept; counted = c.self.invariant.counted }

pub returns-clause-kept : goal.returns-clause-kept
returns-clause-kept c =
    let locks : Locks = record { held = c.self.inside.held.items; requests = c.self.inside.requests.items } in
    are-forgotten locks c.args.p.0 c.self.invariant.kept
