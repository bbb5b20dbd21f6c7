use Rattle.rbf_model.specs.Geometry.{sector}
use Rattle.rbf_sector.specs.Ident.{geometry_of}
use Rattle.rbf_check.proofs.Dotting.{AreDottedBy}
use Rattle.rbf_check.proofs.dots.list_dotted.Given as goal

abbrev pub invariant-loop-link : goal.invariant-loop-link
invariant-loop-link l = AreDottedBy (geometry_of l.image.ident) (sector l.image.bytes.now) l.links l.dotted.items l.link-index
