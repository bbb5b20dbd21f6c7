-- All fields of an identification sector.
use Rattle.rbf_model.specs.Geometry.{Geometry}
use Rattle.rbf_sector.specs.declared.ident.Ident.{Ident}

-- the geometry in the fields of an identification sector
abbrev pub geometry_of : Ident → Geometry
geometry_of ident =
    record { total = ident.total; map_bytes = ident.map_bytes; cluster = ident.cluster; root = ident.root }
