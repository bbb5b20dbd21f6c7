use Rattle.std.proofs.Common.{◌∙◌, ap, min, length}
use Rattle.rbf_write.proofs.LaidSector.{part_is}
use Rattle.rbf_write.proofs.sector.part_in.Goals as goal

pub returns : goal.returns
returns c =
    part_is c.args.from.now _ c.args.room c.min-skip.result c.min.result (c.min-skip.ensures ∙ ap (min (length c.args.from.now)) c.saturating_sub.ensures) c.min.ensures
