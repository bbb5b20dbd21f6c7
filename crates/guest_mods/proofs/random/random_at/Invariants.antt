-- The number is the one in the place that the loop has come to.
use Rattle.std.proofs.Common.{◌≡◌, ◌<◌}
use Rattle.guest_mods.specs.Random.{random}
use Rattle.guest_mods.proofs.random.random_at.Given as goal

abbrev pub invariant-loop-i : goal.invariant-loop-i
invariant-loop-i l = record { is : l.x ≡ random l.seed l._i; below : l.x < 2147483648 }
