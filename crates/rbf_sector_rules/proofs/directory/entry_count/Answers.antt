use Rattle.std.proofs.Common.{◌==◌, ◌∙◌, sym}
use Rattle.std.specs.List.{list_all}
use Rattle.std.specs.Int.{bit_at}
use Rattle.std.proofs.lemmas.Bool.{cond-true}
use Rattle.rbf_model.specs.Geometry.{is_within}
use Rattle.rbf_model.specs.File.{has_room, is_directory_size}
use Rattle.rbf_sector.specs.Ident.{geometry_of}
use Rattle.rbf_sector_rules.specs.Reading.{is_searchable_descriptor}
use Rattle.rbf_sector_rules.proofs.Searched.{four_parts, whole_entries}
use Rattle.rbf_sector_rules.proofs.directory.entry_count.Goals as goal

pub returns-then-is_searchable : goal.returns-then-is_searchable
returns-then-is_searchable c =
    let g = geometry_of c.args.ident.now in
    let fd = c.args.fd.now in
    let searchable = sym c.if-is_searchable.ensures in
    let parts = four_parts (bit_at fd.attr 7 == 1) (list_all (is_within g) fd.segs) (has_room fd.segs fd.size) (is_directory_size fd.size) searchable in
    whole_entries fd.size parts.3 ∙ sym (cond-true (is_searchable_descriptor g fd) fd.size 0 searchable)
