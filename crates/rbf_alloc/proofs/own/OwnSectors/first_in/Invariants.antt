-- No cluster of the segments before this one has its mark there.
use Rattle.std.proofs.Common.{◌≡◌, ℕ, ◌<◌, false}
use Rattle.rbf_alloc.specs.Own.{in_part, here}
use Rattle.rbf_alloc.proofs.own.OwnSectors.first_in.Given as goal

abbrev pub invariant-loop-i : goal.invariant-loop-i
invariant-loop-i l = (j c : ℕ) → j < l.i → here (in_part l.k l.self j) l.place c ≡ false
