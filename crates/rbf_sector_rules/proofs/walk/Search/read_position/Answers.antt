use Rattle.std.proofs.Common.{ℕ, ◌∙◌, ap, subst, sym}
use Rattle.rbf_model.specs.Fields.{is_used, descriptor_field}
use Rattle.rbf_model.specs.Geometry.{IsNumber, sector}
use Rattle.rbf_sector.specs.Ident.{geometry_of}
use Rattle.rbf_sector_rules.specs.Positions.{PositionNames}
use Rattle.rbf_sector_rules.proofs.PositionsRead.{found_nothing, found_one}
use Rattle.rbf_sector_rules.proofs.walk.Search.read_position.Goals as goal

pub returns-in_ok-find-clause-found : goal.returns-in_ok-find-clause-found
returns-in_ok-find-clause-found c =
    let disk = sector c.args.image.now.bytes.now in
    let bytes = sym c.position_bytes.ensures in
    let named = c.in-Some.ensures in
    let names : PositionNames disk c.args.e c.in-Some.n = record { used = ap is_used bytes ∙ named.0; descriptor = ap descriptor_field bytes ∙ named.1 } in
    found_one (geometry_of c.args.image.now.ident) disk c.args.e c.in-Some.n c.args.self.now.found.items c.find.new.self.found.items names named.2 c.in_ok-find.ensures.found

pub returns-in_default-clause-found : goal.returns-in_default-clause-found
returns-in_default-clause-found c =
    let g = geometry_of c.args.image.now.ident in
    let disk = sector c.args.image.now.bytes.now in
    let bytes = c.position_bytes.ensures in
    let P : ℕ → Type 0 = λ n. IsNumber g n in
    found_nothing g disk c.args.e c.args.self.now.found.items (λ m names number. c.in_default.ensures
    (ap is_used bytes ∙ names.used) (subst P (sym (ap descriptor_field bytes ∙ names.descriptor)) number))
