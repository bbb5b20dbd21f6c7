-- The result of a call on the volume that the media represents.
use Rattle.std.specs.Prelude.{ℕ, Option, List}
use Rattle.os9_outer.specs.Drive.{sector_at, with_sector}
use Rattle.rbf_model.specs.Volume.{DiskVolume}
use Rattle.rbf_model.specs.Writes.{put_at}
use Rattle.rbf_access.specs.Mounted.{RepresentsVolume}

-- the media represents a volume with this property
pub record RepresentsOne (media : Option (List ℕ)) (fact : DiskVolume → Type 0) : Type 0 where
  pub volume : DiskVolume
  pub on : RepresentsVolume media volume
  pub changed : fact volume

-- the media represents the result of the change of the volume that it represented before
abbrev pub Becomes : Option (List ℕ) → Option (List ℕ) → (DiskVolume → DiskVolume → Type 0) → Type 0
Becomes before now change = (v : DiskVolume) → RepresentsVolume before v → RepresentsOne now (change v)

-- the media with bytes written over a part of one of its sectors
abbrev pub with_piece : Option (List ℕ) → ℕ → ℕ → List ℕ → Option (List ℕ)
with_piece media lsn at piece = with_sector media lsn (put_at (sector_at media lsn) at piece)
