use Rattle.std.proofs.Common.{◌≡◌, ◌==◌}
use Rattle.lock_model.specs.Records.{ends_locks_below}
use Rattle.file_rules.specs.Locking.{lock_ends}
use Rattle.file_state.proofs.state.FileState.end_locks_of.Given as goal

-- the locks of the paths so far have ended
abbrev pub invariant-loop-path : goal.invariant-loop-path
invariant-loop-path l =
    l.self
    ≡ record l.fn.self { records = ends_locks_below (lock_ends l.fn.self.io.paths (λ owner. owner == l.p.0)) l.path l.fn.self.records }
