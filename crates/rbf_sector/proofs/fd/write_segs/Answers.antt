use Rattle.std.proofs.Common.{arith}
use Rattle.rbf_sector.proofs.Pairs.{ended_at, full_at}
use Rattle.rbf_sector.proofs.fd.write_segs.Goals as goal

pub returns-then-from-lt-MAX_SEGMENTS-clause-segs : goal.returns-then-from-lt-MAX_SEGMENTS-clause-segs
returns-then-from-lt-MAX_SEGMENTS-clause-segs c =
    let written = c.put_pair-then-from-lt-MAX_SEGMENTS.ensures in
    ended_at c.args.b.now c.loop-i.b c.put_pair-then-from-lt-MAX_SEGMENTS.new.b c.args.segs.now c.loop-i.i
    c.from-then-from-lt-MAX_SEGMENTS.result c.runs-runs.ensures.segments c.loop-i.invariant
    (omega (arith, c.runs-runs.ensures.count)) (omega (arith, c.runs-runs.ensures.count)) (omega arith)
    written.pair written.beside

pub returns-else-from-lt-MAX_SEGMENTS-clause-segs : goal.returns-else-from-lt-MAX_SEGMENTS-clause-segs
returns-else-from-lt-MAX_SEGMENTS-clause-segs c =
    full_at c.args.b.now c.loop-i.b c.args.segs.now c.loop-i.i c.from-2.result c.runs-runs.ensures.segments
    c.loop-i.invariant (omega (arith, c.runs-runs.ensures.count)) (omega (arith, c.runs-runs.ensures.count))
    (omega arith)
