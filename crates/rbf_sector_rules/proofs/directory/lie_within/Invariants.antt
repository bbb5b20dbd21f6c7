use Rattle.std.proofs.Common.{◌≡◌, ℕ, ◌<◌, true, get_or}
use Rattle.rbf_model.specs.Geometry.{is_within}
use Rattle.rbf_sector.specs.Ident.{geometry_of}
use Rattle.rbf_sector_rules.proofs.directory.lie_within.Given as goal

abbrev pub invariant-loop-i : goal.invariant-loop-i
invariant-loop-i l =
    (k : ℕ) → k < l.i → is_within (geometry_of l.ident) (get_or l.segs k (0, 0)) ≡ true
