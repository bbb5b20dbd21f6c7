use Rattle.std.proofs.Common.{◌≡◌, ◌-◌, ◌≤◌, None, replicate, vec_len}
use Rattle.pipe_mgr.proofs.pipes.closed_pipes.Given as goal

abbrev pub invariant-fill : goal.invariant-fill
invariant-fill l = record { closed : l.pipes.items ≡ replicate (vec_len l.pipes) None; most : vec_len l.pipes ≤ 17 }

abbrev pub decreases-fill : goal.decreases-fill
decreases-fill l = 17 - vec_len l.pipes
