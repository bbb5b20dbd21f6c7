-- A repaired image.
use Rattle.std.specs.Prelude.{◌≡◌, ℕ, List, length}
use Rattle.os9_base.specs.declared.registers.TimePacket.{TimePacket}
use Rattle.rbf_model.specs.Geometry.{image_geometry}
use Rattle.rbf_model.specs.Volume.{DiskVolume, Vol, lost_clusters}
use Rattle.vol_tools.specs.Tool.{repair, repaired, freed_line, Gives}
use Rattle.vol_tools.specs.Clearing.{ClearsBits}
use Rattle.vol_tools.specs.declared.image.Repaired.{Repaired}

-- the image represents the volume without lost clusters; the clusters that were lost are free now, their number is
-- reported, and only their bits have changed
pub record IsRepaired (old : List ℕ) (outcome : Repaired) : Type 0 where
  pub volume : DiskVolume
  pub was : Vol old volume
  pub is : Vol outcome.image.items (repaired volume)
  pub freed : outcome.freed ≡ length (lost_clusters (image_geometry old) volume)
  pub gives : (now : TimePacket) → Gives repair now volume (repaired volume) (freed_line outcome.freed)
  pub bits : ClearsBits old outcome.image.items (lost_clusters (image_geometry old) volume)
