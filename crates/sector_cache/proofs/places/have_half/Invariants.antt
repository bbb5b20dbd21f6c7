use Rattle.std.proofs.Common.{◌≡◌, ◌≢◌, ℕ, ◌<◌, false, get_or}
use Rattle.sector_cache.proofs.places.have_half.Given as goal

abbrev pub invariant-loop-other : goal.invariant-loop-other
invariant-loop-other l = l.found ≡ false → (m : ℕ) → m < l.other-index → get_or l.halves m 0 ≢ l.half
