use Rattle.std.proofs.Common.{◌≡◌, length}
use Rattle.os9_base.proofs.RunLemmas.{IsReadTo}
use Rattle.os9_base.proofs.read.read_run.Given as goal

abbrev pub invariant-loop-count : goal.invariant-loop-count
invariant-loop-count g l = IsReadTo (g.M.UserMem.cells l.memory) l.at 30 l.count l.into × (length l.into ≡ 30)
