use Rattle.std.proofs.Common.{◌+◌, sym, subst}
use Rattle.os9_outer.specs.Drive.{with_sector}
use Rattle.rbf_access.specs.Mounted.{IsSoundMedia}
use Rattle.rbf_alloc.proofs.marks.write_map_sector.Goals as goal

pub store-requires-clause-sound : goal.store-requires-clause-sound
store-requires-clause-sound g c =
    subst (λ k. IsSoundMedia (with_sector ((goal.BlockDriver-dyn g c.args.d.now).media c.args.d.now.1) (1 + k)
    c.sector.new.into)) (sym c.from.ensures) (c.requires.sound c.sector.new.into c.sector.ensures)
