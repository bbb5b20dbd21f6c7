use Rattle.rbf_model.specs.Geometry.{sector}
use Rattle.rbf_sector_rules.specs.Files.{found_numbers}
use Rattle.rbf_sector.specs.Ident.{geometry_of}
use Rattle.rbf_sector_rules.proofs.Again.{AreSearched}
use Rattle.rbf_sector_rules.proofs.shares.least_used_again.Given as goal

abbrev pub invariant-loop-place : goal.invariant-loop-place
invariant-loop-place l =
    AreSearched (geometry_of l.image.ident) (sector l.image.bytes.now) (found_numbers l.files) l.uses l.place
