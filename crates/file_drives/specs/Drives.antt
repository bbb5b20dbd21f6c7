-- What can be observed of the drives of a machine, as lists that do not depend on the construction of their drivers,
-- and how they change in a call that reaches one of them (this project's own).
use Rattle.std.specs.Prelude.{◌≡◌, ℕ, Option, Some, None, List, length, map, option_map, slice_get, slice_index_or, slice_set}
use Rattle.std.specs.declared.alloc.Global.{Global}
use Rattle.std.specs.declared.dyn_box.DynBox.{DynBox}
use Rattle.device_table.specs.declared.devices.DeviceTable.{DeviceTable}
use Rattle.os9_outer.specs.Drive.{sector_at}
use Rattle.os9_outer.specs.declared.drive.BlockDriver.{Ghosts}
use Rattle.rbf_access.specs.Drive.{DriveCounts, MovesCounts, drive_counts}
use Rattle.file_rules.specs.Files.{DriveState}

-- a drive, as far as it can be observed
pub record DriveView : Type 0 where
  pub media : Option (List ℕ)  -- the bytes of the image in the drive, if there is one
  pub counts : DriveCounts  -- the number of its faults and of its calls, and its last fault

-- the drive as shown by its driver, which has these ghost members
abbrev pub drive_view : {Driver : Type 0} → Ghosts Driver → Driver → DriveView
drive_view members driver = record { media = members.media driver; counts = drive_counts members driver }

-- the lent drive, as `lent_seen BlockDriver-dyn d.now`
abbrev pub lent_seen : {Table : Type 0} {Driver : Table → Type 0}
    → ((drive : (table : Table) × Driver table) → Ghosts (Driver drive.0)) → (table : Table) × Driver table → DriveView
lent_seen members drive = drive_view (members drive) drive.1

-- the drive in a box, as `boxed_seen BlockDriver-box driver.now`
abbrev pub boxed_seen : {Table : Type 0} {Driver : Table → Type 0}
    → ((drive : DynBox Table Global Driver) → Ghosts (Driver drive.vtable)) → DynBox Table Global Driver → DriveView
boxed_seen members drive = drive_view (members drive) drive.value

-- each drive of a list, as `drive_views BlockDriver-box drives.now.items`
abbrev pub drive_views : {Table : Type 0} {Driver : Table → Type 0}
    → ((drive : DynBox Table Global Driver) → Ghosts (Driver drive.vtable)) → List (DynBox Table Global Driver)
    → List DriveView
drive_views members drives = map (boxed_seen members) drives

-- each drive of a table, as `drives_seen BlockDriver-box devices.now`
abbrev pub drives_seen : {Table : Type 0} {Driver : Table → Type 0} {Terminals : Type 0}
    → ((drive : DynBox Table Global Driver) → Ghosts (Driver drive.vtable))
    → DeviceTable (DynBox Table Global Driver) Terminals → List DriveView
drives_seen members devices = drive_views members devices.drives.items

-- the bytes of the image in each drive
abbrev pub media_of : List DriveView → List (Option (List ℕ))
media_of views = map (λ view. view.media) views

-- a drive that was never called and never failed, without media
abbrev pub unused_drive : DriveView
unused_drive = record { media = None; counts = record { faults = 0; last = None; calls = 0 } }

-- the bytes of the image in the drive of this number; none also if there is no such drive
abbrev pub media_at : List DriveView → ℕ → Option (List ℕ)
media_at views n = (slice_index_or views n unused_drive).media

-- the media keeps its length and its first sector, which identifies the volume
pub record KeepsIdent (before after : Option (List ℕ)) : Type 0 where
  pub as_long : option_map length after ≡ option_map length before
  pub first : sector_at after 0 ≡ sector_at before 0

-- what the calls on files show of a drive
abbrev pub drive_state : DriveView → DriveState
drive_state view = record { faults = view.counts.faults; last = view.counts.last }

abbrev pub drive_states : List DriveView → List DriveState
drive_states views = map drive_state views

-- the drive of this number changed in this way, and no other drive changed
abbrev pub ChangesOneDrive : (DriveView → DriveView → Type 0) → ℕ → List DriveView → List DriveView → Type 0
ChangesOneDrive change n before after =
    (old : DriveView) × (new : DriveView) × (slice_get before n ≡ Some old) × (after ≡ slice_set before n new)
    × change old new

-- at most `most` calls of it were made, and the fault of this number ended them, if there was one
abbrev pub OneDriveMoves : Option ℕ → ℕ → ℕ → List DriveView → List DriveView → Type 0
OneDriveMoves fault most n before after =
    ChangesOneDrive (λ old new. MovesCounts fault most old.counts new.counts) n before after

-- such calls that only read the drive
pub record OnlyReadsDrive (fault : Option ℕ) (most : ℕ) (old new : DriveView) : Type 0 where
  pub media_kept : new.media ≡ old.media
  pub counts : MovesCounts fault most old.counts new.counts

abbrev pub ReadsDrive : Option ℕ → ℕ → ℕ → List DriveView → List DriveView → Type 0
ReadsDrive fault most n before after = ChangesOneDrive (OnlyReadsDrive fault most) n before after
