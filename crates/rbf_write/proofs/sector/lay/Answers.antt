use Rattle.std.proofs.Common.{arith}
use Rattle.rbf_write.proofs.LaidSector.{laid_sector}
use Rattle.rbf_write.proofs.sector.lay.Goals as goal

pub returns : goal.returns
returns c q low =
    laid_sector c.args.start c.args.size c.args.at c.args.from.now c.part_in.result.now c.args.bytes.now c.clear.new.bytes c.put_bytes.new.bytes c.place_in-first.result c.place_in.result
    c.place_in-first.ensures c.place_in.ensures c.clear.ensures (omega arith) c.part_in.ensures c.put_bytes.ensures q low
