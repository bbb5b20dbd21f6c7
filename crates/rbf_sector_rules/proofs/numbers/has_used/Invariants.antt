-- No position of the sector before this one is used.
use Rattle.std.proofs.Common.{◌≡◌, ℕ, ◌+◌, ◌*◌, ◌<◌, false}
use Rattle.rbf_model.specs.Fields as model
use Rattle.rbf_model.specs.Geometry.{sector as sector_of}
use Rattle.rbf_sector_rules.specs.Positions.{entry_at_position}
use Rattle.rbf_sector_rules.proofs.numbers.has_used.Given as goal

abbrev pub invariant-loop-i : goal.invariant-loop-i
invariant-loop-i l = (k : ℕ) → k < l.i → model.is_used (entry_at_position (sector_of l.image) (8 * l.n + k)) ≡ false
