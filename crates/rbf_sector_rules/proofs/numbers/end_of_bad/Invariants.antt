-- No position from this sector on is such a position.
use Rattle.std.proofs.Common.{ℕ, ◌*◌, ◌<◌, ◌≤◌}
use Rattle.rbf_model.specs.Disk.{disk_of}
use Rattle.rbf_model.specs.Geometry.{sector}
use Rattle.rbf_sector.specs.Ident.{geometry_of}
use Rattle.rbf_sector_rules.specs.Rules.{IsBadPosition}
use Rattle.rbf_sector_rules.proofs.numbers.end_of_bad.Given as goal

abbrev pub invariant-loop-n : goal.invariant-loop-n
invariant-loop-n l =
    (e : ℕ) → 8 * l.n ≤ e → e < 8 * l.image.ident.total → IsBadPosition (disk_of (geometry_of l.image.ident) (sector l.image.bytes.now)) e → ⊥
