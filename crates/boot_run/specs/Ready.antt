-- What a machine needs to run with images (this project's own).
use Rattle.std.specs.Prelude.{◌≡◌, ℕ, ◌≤◌, ◌<◌, true, List, length, All}
use Rattle.os9_base.specs.declared.limits.TheConstants.{LAST_TICK}
use Rattle.time_rules.specs.CivilTime.{is_time_packet}
use Rattle.boot_run.specs.Loaded.{AreUnloaded}
use Rattle.os9_kernel.specs.Outside.{Outside}
use Rattle.file_drives.specs.Drives.{DriveView}
use Rattle.boot_run.specs.Drives.{HaveRoom, IsEmptyDrive}
use Rattle.boot_run.specs.declared.imaged.Start.{Start}

-- there is a valid number of blocks, a date and time, and fewer slices than ticks are counted
pub record IsValidStart (start : Start) : Type 0 where
  pub least : 8 ≤ start.blocks
  pub most : start.blocks ≤ 256
  pub time : is_time_packet start.time ≡ true
  pub few : length start.slices.items < LAST_TICK

-- one to four terminals without keys; at most four drives, at least this number, and none with an image
pub record DevicesAreFree (drives : ℕ) (devices : Outside) : Type 0 where
  pub terminals : AreUnloaded devices.terms
  pub room : HaveRoom drives devices.drives

-- the number of drives is the same, and none has an image
pub record AreEmptyAgain (before after : List DriveView) : Type 0 where
  pub as_many : length after ≡ length before
  pub empty : All IsEmptyDrive after
