use Rattle.std.proofs.Common.{◌≡◌, ℕ, true, take}
use Rattle.rbf_model.specs.Disk.{disk_of}
use Rattle.rbf_model.specs.Geometry.{sector}
use Rattle.rbf_model.specs.Segments.{has}
use Rattle.rbf_sector.specs.Ident.{geometry_of}
use Rattle.rbf_sector_rules.specs.Positions.{positions_in}
use Rattle.rbf_sector_rules.specs.Rules.{IsBadPosition}
use Rattle.rbf_sector_rules.proofs.numbers.has_bad_number.Given as goal

abbrev pub invariant-loop-first : goal.invariant-loop-first
invariant-loop-first l =
    (e : ℕ) → has (positions_in (take l.first-index l.first-items)) e ≡ true → IsBadPosition (disk_of (geometry_of l.image.ident) (sector l.image.bytes.now)) e → ⊥
