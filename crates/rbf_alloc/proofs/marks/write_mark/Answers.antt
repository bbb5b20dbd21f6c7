use Rattle.std.proofs.Common.{◌/◌, refl, arith}
use Rattle.rbf_alloc.proofs.Marking.{write_on, sector_on, mark_sound}
use Rattle.rbf_alloc.proofs.marks.write_mark.Goals as goal

pub write_map_sector-requires-clause-on : goal.write_map_sector-requires-clause-on
write_map_sector-requires-clause-on g c = sector_on _ _ _ c.args.cluster (c.args.cluster / 2048) refl c.requires.in_map c.requires.marking

pub returns-clause-on : goal.returns-clause-on
returns-clause-on g c v old on =
    write_on v old _ _ _ c.args.written.now _ c.args.cluster (c.args.cluster / 2048) refl (omega arith) c.if-written-place.false c.requires.in_map refl
    c.in_ok-write_map_sector.ensures.written on

pub write_map_sector-requires-clause-sound : goal.write_map_sector-requires-clause-sound
write_map_sector-requires-clause-sound g c =
    mark_sound _ _ c.args.written.now c.args.cluster (c.args.cluster / 2048) refl (omega arith) c.if-written-place.false c.requires.in_map c.requires.marking
