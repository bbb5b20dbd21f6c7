use Rattle.std.proofs.Common.{arith}
use Rattle.rbf_segs.proofs.Runs.{length-sectors_of_more}
use Rattle.rbf_segs.proofs.segment_list.total.Goals as goal

pub loop-count-preserved : goal.loop-count-preserved
loop-count-preserved c =
    let more = length-sectors_of_more c.args.runs.now c.loop-count.count-index (0, 0) (omega arith) in
    (omega arith, omega arith)
