use Rattle.std.proofs.Common.{sym}
use Rattle.rbf_access.proofs.volume.Volume.sector.Goals as goal

pub unreachable-requires : goal.unreachable-requires
unreachable-requires c = let gone = rw (sym c.in-None.ensures) at c.requires in cc

pub returns : goal.returns
returns c = sym c.in-Some.ensures
