use Rattle.std.proofs.Common.{◌≡◌, ◌==◌, ℕ, subst, arith}
use Rattle.lock_model.specs.Records.{ends_locks_below}
use Rattle.lock_model.specs.declared.lock.TheConstants.{PATH_PLACES}
use Rattle.file_rules.specs.Locking.{lock_ends}
use Rattle.file_state.proofs.state.FileState.end_locks_of.Goals as goal

pub returns : goal.returns
returns c =
    let state = c.args.self.now in
    let ends = lock_ends state.io.paths (λ owner. owner == c.args.p.0) in
    let all : c.loop-path.path ≡ PATH_PLACES = omega arith in
    subst (λ (n : ℕ). c.loop-path.self ≡ record state { records = ends_locks_below ends n state.records }) all c.loop-path.invariant
