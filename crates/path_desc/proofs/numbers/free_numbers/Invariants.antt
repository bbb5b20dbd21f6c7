use Rattle.std.proofs.Common.{◌≡◌, ◌-◌, ◌≤◌, None, replicate, vec_len}
use Rattle.path_desc.proofs.numbers.free_numbers.Given as goal

abbrev pub invariant-fill : goal.invariant-fill
invariant-fill l = record { free : l.own.items ≡ replicate (vec_len l.own) (replicate 16 None); most : vec_len l.own ≤ 33 }

abbrev pub decreases-fill : goal.decreases-fill
decreases-fill l = 33 - vec_len l.own
