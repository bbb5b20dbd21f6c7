-- What calls of one drive leave of the kernel's files, in the terms of the calls on files.
use Rattle.std.specs.Prelude.{◌≡◌, ◌≢◌, ℕ, Option, Some, None, List, slice_get, Result, Ok, Err}
use Rattle.rbf_model.specs.Volume.{DiskVolume}
use Rattle.rbf_access.specs.declared.faults.VolFault.{VolFault}
use Rattle.rbf_access.specs.declared.volume.Volume.{Volume}
use Rattle.file_rules.specs.Files.{Files, DriveState, KeepsDriveFaults, OneFailed, with_drives, with_volume}
use Rattle.file_drives.specs.Drives.{DriveView, drive_states, media_of}
use Rattle.file_drives.specs.Mounted.{DriveHolds, disk_at}
use Rattle.file_state.specs.Tie.{RepresentsFiles}
use Rattle.file_state.specs.declared.state.FileState.{FileState}

-- the drives after calls of this one, which ended with the fault of this number, or without a fault
abbrev pub DrivesMove : Option ℕ → ℕ → List DriveState → List DriveState → Type 0
DrivesMove None drive before now = KeepsDriveFaults before now
DrivesMove (Some number) drive before now = OneFailed drive number before now

-- all drives but this one are unchanged
abbrev pub OthersStay : ℕ → List DriveView → List DriveView → Type 0
OthersStay drive before now = (n : ℕ) → n ≢ drive → slice_get now n ≡ slice_get before n

-- the drive was read, and the files and the media are unchanged
pub record HasReadDrive (fault : Option ℕ) (drive : ℕ) (files : Files) (new : FileState) (before now : List DriveView)
    : Type 0 where
  pub moved : DrivesMove fault drive files.drives (drive_states now)
  pub stands : RepresentsFiles new now (with_drives files (drive_states now))
  pub media_kept : media_of now ≡ media_of before
  pub others : OthersStay drive before now

-- ---- mounting

-- by the result of an attempt to mount the volume of this drive: it is mounted there, or each mounted volume is still
-- mounted
abbrev pub MountsOn : Result (Unit {0}) VolFault → ℕ → FileState → List DriveView → FileState → List DriveView → Type 0
MountsOn (Ok done) n old before new after =
    (files : Files) (v : DiskVolume) → RepresentsFiles old before files → DriveHolds before n v
    → RepresentsFiles new after (with_drives (with_volume files n v) (drive_states after))
MountsOn (Err fault) n old before new after =
    (files : Files) → RepresentsFiles old before files
    → RepresentsFiles new after (with_drives files (drive_states after))

-- the state kept for every other drive is unchanged
abbrev pub OthersKept : ℕ → List (Option Volume) → List (Option Volume) → Type 0
OthersKept n before after = (m : ℕ) → m ≢ n → disk_at after m ≡ disk_at before m
