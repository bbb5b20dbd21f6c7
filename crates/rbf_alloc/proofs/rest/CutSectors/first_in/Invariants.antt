-- No cluster of the segments before this one is given up and has its mark there.
use Rattle.std.proofs.Common.{◌≡◌, ℕ, ◌&&◌, not, false}
use Rattle.rbf_alloc.specs.Own.{in_own, here}
use Rattle.rbf_alloc.proofs.OwnParts.{in_front}
use Rattle.rbf_alloc.proofs.rest.CutSectors.first_in.Given as goal

abbrev pub invariant-loop-i : goal.invariant-loop-i
invariant-loop-i l = (c : ℕ) → here (λ d. in_front l.k l.self.old l.i d && not (in_own l.k l.self.kept d)) l.place c ≡ false
