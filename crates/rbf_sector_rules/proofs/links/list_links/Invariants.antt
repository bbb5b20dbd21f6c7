use Rattle.rbf_model.specs.Geometry.{sector}
use Rattle.rbf_sector.specs.Ident.{geometry_of}
use Rattle.rbf_sector_rules.specs.Files.{found_numbers}
use Rattle.rbf_sector_rules.proofs.Linking.{AreLinksOf}
use Rattle.rbf_sector_rules.proofs.links.list_links.Given as goal

abbrev pub invariant-loop-file : goal.invariant-loop-file
invariant-loop-file l = AreLinksOf (geometry_of l.image.ident) (sector l.image.bytes.now) (found_numbers l.files) l.links.items l.file-index
