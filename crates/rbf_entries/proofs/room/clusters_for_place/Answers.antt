use Rattle.std.proofs.Common.{arith}
use Rattle.rbf_entries.proofs.Needs.{count_is, ceil_few}
use Rattle.rbf_entries.proofs.room.clusters_for_place.Goals as goal

pub returns-clause-count : goal.returns-clause-count
returns-clause-count c = count_is c.args.k c.args.segs.now c.args.place _ _ _ _ c.requires c.sectors.ensures.count c.saturating_sub-missing.ensures c.from.ensures c.div_ceil.ensures

pub returns-clause-few : goal.returns-clause-few
returns-clause-few c =
    let same = c.from.ensures in
    let low = ceil_few c.saturating_sub-missing.result c.from.result (omega (arith, c.requires)) in
    let left = c.saturating_sub-missing.ensures in
    let is = c.div_ceil.ensures in
    omega arith
