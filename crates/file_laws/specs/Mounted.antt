-- What no call changes of drives: which of them have a volume, and their number.
use Rattle.std.specs.Prelude.{◌≡◌, ℕ, is_some, length}
use Rattle.file_rules.specs.Files.{Files, volume_at}

-- the same drives have a volume, and the numbers of drives and of places for directories of processes are the same
pub record KeepsMountedDrives (old new : Files) : Type 0 where
  pub drives : length new.drives ≡ length old.drives
  pub directories : length new.directories ≡ length old.directories
  pub volumes : length new.volumes ≡ length old.volumes
  pub mounted : (drive : ℕ) → is_some (volume_at new drive) ≡ is_some (volume_at old drive)
