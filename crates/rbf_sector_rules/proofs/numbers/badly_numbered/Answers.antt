use Rattle.std.proofs.Common.{sym, ap, ◌∙◌}
use Rattle.std.proofs.lemmas.Bool.{MatchBool-at_false}
use Rattle.rbf_model.specs.Fields.{segments_field}
use Rattle.rbf_model.specs.Geometry.{sector}
use Rattle.rbf_sector.specs.Ident.{geometry_of}
use Rattle.rbf_sector_rules.specs.Reading.{listed}
use Rattle.rbf_sector_rules.specs.Rules.{HasBadNumber}
use Rattle.rbf_sector_rules.proofs.Numbered.{none_broken}
use Rattle.rbf_sector_rules.proofs.numbers.badly_numbered.Goals as goal

pub returns : goal.returns
returns c =
    let g = geometry_of c.args.image.now.ident in
    let dir = c.directory_of-dir in
    let Bad = HasBadNumber g (listed c.args.image.now dir.result.number) in
    none_broken g (sector c.args.image.now.bytes.now) c.args.file.now.number dir.result.number c.args.file.now.fd.segs
    dir.ensures.number (c.requires.file.fd.segs ∙ ap (λ n. segments_field (sector c.args.image.now.bytes.now n))
    (sym dir.ensures.number)) (sym c.lie_within.ensures ∙ c.if-not-lie_within.false)
    (MatchBool-at_false Bad (Bad → ⊥) c.if-bad.false c.in_ok-bad.ensures)
