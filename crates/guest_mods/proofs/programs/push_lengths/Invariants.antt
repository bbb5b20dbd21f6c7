-- The lengths below the index are pushed.
use Rattle.std.proofs.Common.{◌≡◌, ◌+◌, ◌<◌, ◌++◌}
use Rattle.guest_mods.specs.Random.{random, draws}
use Rattle.guest_mods.proofs.programs.push_lengths.Given as goal

abbrev pub invariant-loop-i : goal.invariant-loop-i
invariant-loop-i l = record {
  number : l.x ≡ random l.load.seed (0 + l._i);
  below : l.x < 2147483648;
  drawn : l.code.items ≡ l.initial.code.items ++ draws l.load.seed 32 0 l._i;
}
