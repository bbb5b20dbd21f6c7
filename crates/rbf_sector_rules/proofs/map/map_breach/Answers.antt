use Rattle.rbf_model.specs.Geometry.{sector}
use Rattle.rbf_sector.specs.Ident.{geometry_of}
use Rattle.rbf_sector_rules.proofs.MapRule.{no_map_breach, map_breach_is}
use Rattle.rbf_sector_rules.proofs.map.map_breach.Goals as goal

pub returns-then-has_map : goal.returns-then-has_map
returns-then-has_map c =
    no_map_breach (geometry_of c.args.image.now.ident) (sector c.args.image.now.bytes.now) c.if-has_map.ensures

pub returns : goal.returns
returns c =
    map_breach_is (geometry_of c.args.image.now.ident) (sector c.args.image.now.bytes.now) (λ map. c.if-has_map.ensures map)
