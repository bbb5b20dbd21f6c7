use Rattle.std.proofs.Common.{◌≡◌, ℕ, ◌<◌, get_or, length}
use Rattle.rbf_check.proofs.names.is_text.Given as goal

abbrev pub invariant-loop-i : goal.invariant-loop-i
invariant-loop-i l = (length l.name ≡ length l.text) × ((k : ℕ) → k < l.i → get_or l.name k 0 ≡ get_or l.text k 0)
