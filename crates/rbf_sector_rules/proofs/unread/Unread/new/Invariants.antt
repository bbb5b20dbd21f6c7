use Rattle.std.proofs.Common.{◌≡◌, ℕ, ◌+◌, ◌<◌, ◌≤◌, get_or, length}
use Rattle.std.specs.Prelude.{vec_capacity}
use Rattle.rbf_sector_rules.proofs.unread.Unread.new.Given as goal

abbrev pub invariant-loop-e : goal.invariant-loop-e
invariant-loop-e l =
    (length l.next.items ≡ l.e) × (l.positions + 1 ≤ vec_capacity l.next) × ((k : ℕ) → k < l.e → get_or l.next.items k 0 ≡ k)
