use Rattle.std.proofs.Common.{◌≡◌, ◌-◌, map, take, ◌++◌, replicate}
use Rattle.os9_base.specs.Name.{low_bits}
use Rattle.os9_base.proofs.name.without_mark.Given as goal

abbrev pub invariant-loop-i : goal.invariant-loop-i
invariant-loop-i l = l.characters ≡ map low_bits (take l.i l.run) ++ replicate (29 - l.i) 0
