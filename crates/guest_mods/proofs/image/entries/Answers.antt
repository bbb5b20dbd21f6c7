-- The bytes are those of the three entries.
use Rattle.std.proofs.Common.{refl}
use Rattle.guest_mods.specs.BootDisk.{root_entries}
use Rattle.guest_mods.proofs.image.entries.Goals as goal

pub returns : goal.returns
unfolding root_entries
returns c = refl
