use Rattle.std.proofs.Common.{arith}
use Rattle.rbf_sector_rules.proofs.NotedSegments.{runs_more}
use Rattle.rbf_sector_rules.proofs.uses.Uses.note_segments.Goals as goal

pub loop-segment-preserved : goal.loop-segment-preserved
loop-segment-preserved c =
    runs_more c.args.cluster c.requires.cluster c.args.owner c.args.self.now c.args.segments.now
    c.loop-segment.segment-index c.loop-segment.self c.note_segment.new.self (omega arith)
    c.loop-segment.invariant c.note_segment.ensures
