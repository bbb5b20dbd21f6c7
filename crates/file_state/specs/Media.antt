-- The effect of an attempt of a call on files on the drives and their media, including what no volume shows of them
-- (this project's own).
use Rattle.std.specs.Prelude.{◌≡◌, ◌≢◌, ◌⊎◌, ℕ, Some, List, slice_get, Result, Ok, Err}
use Rattle.os9_base.specs.declared.call.CallEnd.{CallEnd}
use Rattle.os9_base.specs.declared.call.CallEnd.TheVariants.{Done, Error, Wait, Ended, NoMemory}
use Rattle.rbf_model.specs.File.{DiskFile}
use Rattle.rbf_model.specs.Volume.{DiskVolume}
use Rattle.rbf_access.specs.declared.faults.FileFault.TheVariants.{Device}
use Rattle.rbf_walk.specs.declared.error.DirError.{DirError}
use Rattle.rbf_walk.specs.declared.error.DirError.TheVariants.{File}
use Rattle.file_rules.specs.Change.{Change, writes, sizes, sets_attributes, creates, makes_directory, deletes}
use Rattle.file_rules.specs.Files.{Asker, Files, OneFailed, volume_at}
use Rattle.file_rules.specs.Step.{Deed, FileStep, VolumeChange, as_io, changes, deed_of, drive_of, leaves_so}
use Rattle.file_drives.specs.Changed.{AnswersOnDisk}
use Rattle.file_drives.specs.Drives.{DriveView, KeepsIdent, drive_states, media_at, media_of}

-- ---- the media after a volume is changed

-- the changed file, or the directory in which a file is made or deleted
abbrev pub file_changed : Change → ℕ
file_changed (writes n at bytes) = n
file_changed (sizes n size) = n
file_changed (sets_attributes n attributes) = n
file_changed (creates d name attributes) = d
file_changed (makes_directory d name attributes) = d
file_changed (deletes d n name) = d

-- the disk's own call that makes the change has this result, and leaves this media of the drive
pub record ChangesDisk (it : VolumeChange) (asker : Asker) (files : Files) (answer : Result ℕ DirError)
    (before after : List DriveView) : Type 0 where
  pub volume : DiskVolume
  pub is : volume_at files it.drive ≡ Some volume
  pub file : DiskFile
  pub there : volume.files (file_changed it.change) ≡ Some file
  pub disk : AnswersOnDisk it.change asker.user asker.now volume file answer (media_at before it.drive)
      (media_at after it.drive)

-- a fault of the drive has ended that call
pub record BreaksDisk (it : VolumeChange) (asker : Asker) (files : Files) (number : ℕ) (before after : List DriveView)
    : Type 0 where
  pub failed : OneFailed it.drive number (drive_states before) (drive_states after)
  pub left : ChangesDisk it asker files (Err (File (Device number))) before after

-- by how the attempt ends: the change is made, also if its entry in the history found no memory; or a fault has ended
-- it, or all media are as they were
abbrev pub MediaAfterChange : VolumeChange → Asker → Files → CallEnd → List DriveView → List DriveView → Type 0
MediaAfterChange it asker files Done before after = (n : ℕ) × ChangesDisk it asker files (Ok n) before after
MediaAfterChange it asker files (Error number) before after =
    (media_of after ≡ media_of before) ⊎ BreaksDisk it asker files number before after
MediaAfterChange it asker files Wait before after = ⊥
MediaAfterChange it asker files Ended before after = ⊥
MediaAfterChange it asker files NoMemory before after = (n : ℕ) × ChangesDisk it asker files (Ok n) before after

-- ---- the drives

-- by what is done; a call that has to be refused changes no volume
abbrev pub MediaAfter : Deed → Asker → Files → CallEnd → List DriveView → List DriveView → Type 0
MediaAfter (leaves_so it) asker files end before after = media_of after ≡ media_of before
MediaAfter (as_io step) asker files end before after = media_of after ≡ media_of before
MediaAfter (changes it) asker files end before after = MediaAfterChange it asker files end before after

-- the effect of an attempt of this step on the drives, whether one of them fails or not
pub record KeepsDrives (step : FileStep) (asker : Asker) (files : Files) (end : CallEnd) (before after : List DriveView)
    : Type 0 where
  -- the drives that it does not reach are unchanged
  pub others : (n : ℕ) → drive_of step ≢ Some n → slice_get after n ≡ slice_get before n
  pub media : MediaAfter (deed_of step files) asker files end before after
  -- in any case all media keep their length and their first sectors
  pub ident : (n : ℕ) → KeepsIdent (media_at before n) (media_at after n)
