use Rattle.std.proofs.Common.{◌∙◌, sym, refl, arith}
use Rattle.rbf_model.specs.Segments.{sectors_of}
use Rattle.rbf_write.proofs.Beside.{beside_more, beside_ends, beside_is}
use Rattle.rbf_write.proofs.kept.end_beside.Goals as goal

pub returns-then-lsn-from-clause-end : goal.returns-then-lsn-from-clause-end
returns-then-lsn-from-clause-end c =
    beside_is c.args.k c.args.loaded.now.number _ c.from.result c.sector_before.result (sectors_of c.args.loaded.now.file.segs) c.args.place _ c.from.ensures refl c.sector_before.ensures
    (beside_ends c.args.k _ (sectors_of c.args.loaded.now.file.segs) c.args.place c.loop-next.next c.loop-next.invariant
    (omega arith) c.unwrap-lsn.result c.from-in-loop-next.result (sym c.lsn_of.ensures ∙ c.unwrap-lsn.ensures)
    c.from-in-loop-next.ensures c.if-lsn-from.true)

pub loop-next-preserved : goal.loop-next-preserved
loop-next-preserved c =
    beside_more c.args.k _ (sectors_of c.args.loaded.now.file.segs) c.args.place c.loop-next.next c.loop-next.invariant
    (omega arith) c.unwrap-lsn.result c.from-in-loop-next.result (sym c.lsn_of.ensures ∙ c.unwrap-lsn.ensures)
    c.from-in-loop-next.ensures c.if-lsn-from.false
