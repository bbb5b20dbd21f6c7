use Rattle.std.proofs.Common.{arith}
use Rattle.rbf_write.proofs.Needed.{past_volumes, count_is}
use Rattle.rbf_write.proofs.clusters.clusters_for.Goals as goal

pub returns-then-end : goal.returns-then-end
returns-then-end c = past_volumes c.args.k c.args.segs.now c.args.end _ c.requires c.sectors-had.ensures.count c.sectors-had.ensures.few (omega arith)

pub returns : goal.returns
returns c =
    count_is c.args.k c.args.segs.now c.args.end _ _ _ _ _ c.requires (omega arith) c.sectors-had.ensures.count
    c.div_ceil.ensures c.saturating_sub-missing.ensures c.from.ensures c.div_ceil-2.ensures
