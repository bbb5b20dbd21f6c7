-- As many zeros as the index are pushed.
use Rattle.std.proofs.Common.{◌≡◌, ◌++◌, replicate}
use Rattle.guest_mods.proofs.sectors.push_zeros.Given as goal

abbrev pub invariant-loop-i : goal.invariant-loop-i
invariant-loop-i l = l.image.items ≡ l.initial.image.items ++ replicate l._i 0
