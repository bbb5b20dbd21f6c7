-- At first no process is marked.
use Rattle.std.proofs.Common.{◌≡◌, ℕ, false, inl, inr, arith, get_or, replicate}
use Rattle.std.proofs.lemmas.Bool.{cases_lt}
use Rattle.std.proofs.lemmas.List.{get_or_past, get_or-replicate}
use Rattle.record_locks.proofs.cycle.leading_to.Goals as goal

none-marked : (q : ℕ) → get_or (replicate 33 false) q false ≡ false
none-marked q = elim (cases_lt q 33) [
  | inl low ↦ get_or-replicate 33 q false false low
  | inr past ↦ get_or_past (replicate 33 false) q false past
]

pub loop-waits-init : goal.loop-waits-init
loop-waits-init c = record { few = omega arith; leading = none-marked }
