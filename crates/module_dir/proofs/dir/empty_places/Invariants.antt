use Rattle.std.proofs.Common.{◌≡◌, ◌-◌, ◌≤◌, None, replicate, vec_len}
use Rattle.module_dir.proofs.dir.empty_places.Given as goal

abbrev pub invariant-fill : goal.invariant-fill
invariant-fill l = record { empty : l.places.items ≡ replicate (vec_len l.places) None; most : vec_len l.places ≤ 64 }

abbrev pub decreases-fill : goal.decreases-fill
decreases-fill l = 64 - vec_len l.places
