-- The bytes and the zeros behind them are a sector.
use Rattle.std.proofs.Common.{arith, append_assoc}
use Rattle.std.proofs.lemmas.Grind.{common_steps}
use Rattle.guest_mods.specs.BootDisk.{sector_with}
use Rattle.guest_mods.proofs.sectors.push_sector.Goals as goal

pub returns : goal.returns
unfolding sector_with
returns c = grind (arith, common_steps, append_assoc)
