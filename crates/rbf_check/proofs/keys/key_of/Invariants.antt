use Rattle.std.proofs.Common.{◌≡◌, ℕ, ◌<◌, ◌≤◌, get_or, length}
use Rattle.os9_base.specs.Name.{lower}
use Rattle.rbf_check.proofs.keys.key_of.Given as goal

abbrev pub invariant-loop-i : goal.invariant-loop-i
invariant-loop-i l =
    (length l.key ≡ 29) × ((k : ℕ) → k < l.i → get_or l.key k 0 ≡ lower (get_or l.name k 0)) × ((k : ℕ) → l.i ≤ k → get_or l.key k 0 ≡ 0)
