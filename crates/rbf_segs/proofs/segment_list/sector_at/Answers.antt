use Rattle.std.proofs.Common.{◌+◌, ◌∙◌, drop, slice_get, sym, ap, arith}
use Rattle.rbf_model.specs.Segments.{sectors_of}
use Rattle.rbf_segs.proofs.Runs.{sector_in_run, sector_past_run}
use Rattle.rbf_segs.proofs.segment_list.sector_at.Goals as goal

pub returns-then-left-from : goal.returns-then-left-from
returns-then-left-from c =
    sym (sector_in_run c.args.runs.now c.loop-lsn.lsn-index c.loop-lsn.left (0, 0) (omega arith) (omega arith)) ∙ c.loop-lsn.invariant

pub loop-lsn-preserved : goal.loop-lsn-preserved
loop-lsn-preserved c =
    let past = sector_past_run c.args.runs.now c.loop-lsn.lsn-index c.loop-lsn.left (0, 0) (omega arith) (omega arith) in
    ap (slice_get (sectors_of (drop (c.loop-lsn.lsn-index + 1) c.args.runs.now))) (omega arith) ∙ sym past ∙ c.loop-lsn.invariant
