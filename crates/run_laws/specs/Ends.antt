-- What no event changes in the volumes of the drives: the first sector of each, and the bytes after its end.
use Rattle.std.specs.Prelude.{◌≡◌, ℕ, Some, None}
use Rattle.rbf_model.specs.Volume.{DiskVolume}
use Rattle.file_rules.specs.Files.{volume_at}
use Rattle.machine_model.specs.State.{State}

-- the first sector of the volume and the bytes after its end are unchanged (OS-9 Technical Reference, "Identification
-- Sector")
pub record KeepsVolumeEnds (v w : DiskVolume) : Type 0 where
  pub ident : w.ident ≡ v.ident
  pub rest : w.rest ≡ v.rest

-- each drive with a volume still has one, with the same ends, and no other drive has got one
pub record VolumesKeepEnds (s t : State) : Type 0 where
  pub kept : (drive : ℕ) (v : DiskVolume) → volume_at s.files drive ≡ Some v
      → (w : DiskVolume) × (volume_at t.files drive ≡ Some w) × KeepsVolumeEnds v w
  pub none : (drive : ℕ) → volume_at s.files drive ≡ None → volume_at t.files drive ≡ None
