-- The volumes in the drives.
use Rattle.std.specs.Prelude.{◌≡◌, ℕ, Some, List}
use Rattle.rbf_model.specs.Volume.{DiskVolume}
use Rattle.file_drives.specs.Drives.{DriveView, drive_states}
use Rattle.file_drives.specs.Mounted.{DriveHolds}
use Rattle.file_rules.specs.Files.{volume_at}
use Rattle.machine_model.specs.State.{State}

-- the media of each drive with a volume represents that volume of the state, and the drives have failed as the state
-- says
pub record HoldsVolumes (s : State) (drives : List DriveView) : Type 0 where
  pub counts : s.files.drives ≡ drive_states drives
  pub volumes : (drive : ℕ) (v : DiskVolume) → volume_at s.files drive ≡ Some v → DriveHolds drives drive v
