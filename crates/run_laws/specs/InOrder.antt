-- Volumes on which each change finds its place. It follows from rules 5 and 6 of a disk and the 48 pairs of a
-- descriptor (OS-9 Technical Reference, Random Block File Manager, FD.SEG), and each change keeps it.
use Rattle.std.specs.Prelude.{◌≡◌, ℕ, ◌≤◌, true, Some, length}
use Rattle.rbf_model.specs.File.{DiskFile, has_room, is_directory}
use Rattle.rbf_model.specs.Volume.{DiskVolume}
use Rattle.rbf_change.specs.Calls.{shape}
use Rattle.file_rules.specs.Change.{Change, writes, sizes, sets_attributes, creates, makes_directory, deletes}
use Rattle.file_rules.specs.Files.{Files, volume_at}

-- a descriptor can describe the file: its segments have room for its contents, and their number is at most that of the
-- pairs of FD.SEG
pub record IsDescribable (file : DiskFile) : Type 0 where
  pub room : has_room file.segments (length file.contents) ≡ true
  pub few : length file.segments ≤ 48

-- a descriptor can describe each file of a volume, and its root is a directory
pub record IsInOrder (v : DiskVolume) : Type 0 where
  pub files : (n : ℕ) (file : DiskFile) → v.files n ≡ Some file → IsDescribable file
  pub root : DiskFile
  pub there : v.files (shape v).root ≡ Some root
  pub directory : is_directory root ≡ true

-- each mounted volume is in order
abbrev pub AreInOrder : Files → Type 0
AreInOrder files = (drive : ℕ) (v : DiskVolume) → volume_at files drive ≡ Some v → IsInOrder v

-- the change deletes no directory (System Programmer's Manual, I$Delete)
abbrev pub DeletesNoDirectory : Change → DiskVolume → Type 0
DeletesNoDirectory (writes n at bytes) v = Unit {0}
DeletesNoDirectory (sizes n size) v = Unit {0}
DeletesNoDirectory (sets_attributes n attributes) v = Unit {0}
DeletesNoDirectory (creates d name attributes) v = Unit {0}
DeletesNoDirectory (makes_directory d name attributes) v = Unit {0}
DeletesNoDirectory (deletes d n name) v = (file : DiskFile) → v.files n ≡ Some file → is_directory file ≡ true → ⊥
