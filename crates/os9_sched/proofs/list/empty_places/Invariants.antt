use Rattle.std.proofs.Common.{◌≡◌, ◌-◌, ◌≤◌, None, replicate, vec_len}
use Rattle.os9_sched.proofs.list.empty_places.Given as goal

abbrev pub invariant-fill : goal.invariant-fill
invariant-fill l = record { empty : l.places.items ≡ replicate (vec_len l.places) None; most : vec_len l.places ≤ 33 }

abbrev pub decreases-fill : goal.decreases-fill
decreases-fill l = 33 - vec_len l.places
