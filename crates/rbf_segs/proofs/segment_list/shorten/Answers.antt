use Rattle.std.proofs.Common.{◌<◌, length, arith}
use Rattle.rbf_segs.proofs.Runs.{IsCutTo-same, cut_further, cut_away, cut_all}
use Rattle.rbf_segs.proofs.segment_list.shorten.Goals as goal
use Rattle.rbf_segs.proofs.segment_list.shorten.Goals.{then-left-eq0, else-left-eq0}

pub loop-i-preserved : goal.loop-i-preserved
loop-i-preserved c =
    let within : c.loop-i.i < length c.loop-i.places = omega arith in
    elim c.if-left-eq0.branch [
      | then-left-eq0 w ↦ IsCutTo-same w.places-is (omega arith) w.runs-is (cut_away _ _ _ _ _ _ (0, 0) c.loop-i.invariant within (omega arith))
      | else-left-eq0 w ↦ IsCutTo-same (cc) (omega arith) w.runs-is (cut_further _ _ _ _ _ _ (0, 0) c.loop-i.invariant within (omega arith))
    ]

pub returns : goal.returns
returns c =
    let all = cut_all _ _ _ _ _ _ c.loop-i.invariant c.loop-i.auto.places (omega arith) in
    record { places = all.0; runs = all.1 }
