-- The volume stays mounted.
use Rattle.rbf_access.specs.Mounted.{IsMounted}
use Rattle.disk_vectors.proofs.outcome.make_calls.Given as goal

abbrev pub invariant-loop-call : goal.invariant-loop-call
invariant-loop-call g l = IsMounted l.volume ((goal.BlockDriver-dyn g l.d.now).media l.d.now.1)
