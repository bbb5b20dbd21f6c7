use Rattle.std.proofs.Common.{arith}
use Rattle.rbf_model.specs.Geometry.{sector}
use Rattle.rbf_sector.specs.Ident.{geometry_of}
use Rattle.rbf_check.proofs.Noted.{notes_owner}
use Rattle.rbf_check.proofs.Surveys.{header_is, reached_below, segments_below}
use Rattle.rbf_check.proofs.clusters.note_file.Goals as goal

pub note_sectors-requires-2-clause-within : goal.note_sectors-requires-2-clause-within
note_sectors-requires-2-clause-within c =
    omega (arith, reached_below c.args.survey.now c.requires.survey c.args.file.now.number c.requires.reached)

pub note_sectors-requires-2-clause-fits : goal.note_sectors-requires-2-clause-fits
note_sectors-requires-2-clause-fits c =
    let header = header_is c.args.survey.now c.requires.survey in
    let most = header.most in
    omega (arith, reached_below c.args.survey.now c.requires.survey c.args.file.now.number c.requires.reached)

pub note_segments-requires-clause-within : goal.note_segments-requires-clause-within
note_segments-requires-clause-within c k d low =
    omega (arith, segments_below c.args.survey.now c.requires.survey c.args.file.now.number c.args.file.now.fd.segs c.requires.reached c.requires.file.fd.segs k d low)

pub returns : goal.returns
returns c =
    notes_owner (geometry_of c.args.survey.now.image.ident) (sector c.args.survey.now.image.bytes.now)
    c.args.file.now.number c.from-cluster.result c.system_count.result c.args.file.now.fd.segs
    c.args.used.now.items c.note_sectors.new.used.items c.note_sectors-2.new.used.items
    c.note_segments.new.used.items (omega arith) c.system_count.ensures.count c.requires.file.fd.segs
    c.note_sectors.ensures c.note_sectors-2.ensures c.note_segments.ensures
