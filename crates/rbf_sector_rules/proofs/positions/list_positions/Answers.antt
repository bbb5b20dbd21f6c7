use Rattle.std.proofs.Common.{arith}
use Rattle.std.proofs.lemmas.Option.{get_or_from_slice_get}
use Rattle.rbf_sector_rules.proofs.Positioned.{listed_none, listed_more, listed_full}
use Rattle.rbf_sector_rules.proofs.positions.list_positions.Goals as goal

pub loop-i-init : goal.loop-i-init
loop-i-init c = listed_none c.args.dir.now.entries c.args.dir.now.segs c.clear.new.self.items c.clear.ensures.items

pub returns-then-left-eq0-clause-positions : goal.returns-then-left-eq0-clause-positions
returns-then-left-eq0-clause-positions c =
    listed_full c.args.dir.now.entries c.args.dir.now.segs c.loop-i.ranges.items c.loop-i.i c.loop-i.left c.loop-i.invariant (omega arith)

pub loop-i-preserved : goal.loop-i-preserved
loop-i-preserved c =
    let segs = c.args.dir.now.segs in
    let i = c.loop-i.i in
    let pair = c.run-lsn.result in
    let at = get_or_from_slice_get segs i pair (0, 0) c.run-lsn.ensures.pair in
    listed_more c.args.dir.now.entries segs c.loop-i.ranges.items i c.loop-i.left c.loop-i.invariant
    c.push.new.self.items pair c.min-count.result (omega arith) (omega arith) c.run-lsn.ensures.segment.some at
    (omega (arith, c.min-count.ensures, c.from.ensures)) c.in_ok-push.ensures.items
