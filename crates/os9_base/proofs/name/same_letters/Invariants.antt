use Rattle.std.proofs.Common.{◌≡◌, map, take}
use Rattle.os9_base.specs.Name.{lower}
use Rattle.os9_base.proofs.name.same_letters.Given as goal

abbrev pub invariant-loop-i : goal.invariant-loop-i
invariant-loop-i l = map lower (take l.i l.a) ≡ map lower (take l.i l.b)
