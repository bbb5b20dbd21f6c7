use Rattle.std.proofs.Common.{◌≡◌, false, None, sym, subst}
use Rattle.lock_model.specs.Locks.{Locks, request_of}
use Rattle.lock_model.specs.Waits.{closes}
use Rattle.lock_model.proofs.Keeping.{are-waiting}
use Rattle.record_locks.proofs.locks.Locks.keep.Goals as goal

pub invariant_of-self : goal.invariant_of-self
invariant_of-self c =
    let locks : Locks = record { held = c.self.inside.held.items; requests = c.self.inside.requests.items } in
    record {
      kept = are-waiting locks c.args.request
          (subst (λ (s : Locks). request_of s c.args.request.lock.owner.0 ≡ None) (sym c.self.view_is) c.requires.quiet)
          (subst (λ (s : Locks). closes s c.args.request.lock ≡ false) (sym c.self.view_is) c.requires.unclosed)
          c.self.invariant.kept;
      counted = c.self.invariant.counted;
    }

pub returns-clause-kept : goal.returns-clause-kept
returns-clause-kept c =
    let locks : Locks = record { held = c.self.inside.held.items; requests = c.self.inside.requests.items } in
    are-waiting locks c.args.request
    (subst (λ (s : Locks). request_of s c.args.request.lock.owner.0 ≡ None) (sym c.self.view_is) c.requires.quiet)
    (subst (λ (s : Locks). closes s c.args.request.lock ≡ false) (sym c.self.view_is) c.requires.unclosed) c.self.invariant.kept
