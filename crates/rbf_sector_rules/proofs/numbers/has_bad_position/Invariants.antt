-- No position of the sector before this one is such a position.
use Rattle.std.proofs.Common.{ℕ, ◌+◌, ◌*◌, ◌<◌}
use Rattle.rbf_model.specs.Disk.{disk_of}
use Rattle.rbf_model.specs.Geometry.{sector}
use Rattle.rbf_sector.specs.Ident.{geometry_of}
use Rattle.rbf_sector_rules.specs.Rules.{IsBadPosition}
use Rattle.rbf_sector_rules.proofs.numbers.has_bad_position.Given as goal

abbrev pub invariant-loop-i : goal.invariant-loop-i
invariant-loop-i l =
    (k : ℕ) → k < l.i → IsBadPosition (disk_of (geometry_of l.image.ident) (sector l.image.bytes.now)) (8 * l.n + k) → ⊥
