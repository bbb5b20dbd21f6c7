use Rattle.std.proofs.Common.{arith}
use Rattle.rbf_check.proofs.Noted.{notes_more}
use Rattle.rbf_check.proofs.clusters.note_sectors.Goals as goal

pub loop-s-preserved : goal.loop-s-preserved
loop-s-preserved c =
    let size = c.loop-s.invariant.size in
    notes_more c.args.cluster c.args.first c.loop-s.s c.args.used.now.items c.loop-s.used.items (omega arith) (omega arith) c.loop-s.invariant
