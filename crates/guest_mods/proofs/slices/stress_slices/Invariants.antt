-- The slices below the index are drawn.
use Rattle.std.proofs.Common.{◌≡◌, ◌+◌, ◌<◌}
use Rattle.guest_mods.specs.Random.{random, slice_lengths}
use Rattle.guest_mods.proofs.slices.stress_slices.Given as goal

abbrev pub invariant-loop-i : goal.invariant-loop-i
invariant-loop-i l = record {
  number : l.x ≡ random l.seed (800 + l._i);
  below : l.x < 2147483648;
  drawn : l.slices.items ≡ slice_lengths l.seed l._i;
}
