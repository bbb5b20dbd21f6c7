use Rattle.std.proofs.Common.{◌≡◌, ◌-◌, ◌≤◌, None, replicate, vec_len}
use Rattle.path_desc.proofs.numbers.empty_descs.Given as goal

abbrev pub invariant-fill : goal.invariant-fill
invariant-fill l = record { free : l.descs.items ≡ replicate (vec_len l.descs) None; most : vec_len l.descs ≤ 65 }

abbrev pub decreases-fill : goal.decreases-fill
decreases-fill l = 65 - vec_len l.descs
