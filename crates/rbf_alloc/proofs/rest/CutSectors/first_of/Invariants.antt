-- The clusters before this one are kept.
use Rattle.std.proofs.Common.{◌≡◌, ℕ, ◌<◌, ◌≤◌, true}
use Rattle.rbf_alloc.specs.Own.{in_own}
use Rattle.rbf_alloc.proofs.rest.CutSectors.first_of.Given as goal

abbrev pub invariant-loop-c : goal.invariant-loop-c
invariant-loop-c l = (x : ℕ) → l.part.first ≤ x → x < l.c → in_own l.k l.self.kept x ≡ true
