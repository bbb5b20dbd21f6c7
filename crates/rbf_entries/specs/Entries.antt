-- Entries of a directory that are overwritten in their places.
use Rattle.std.specs.Prelude.{◌≡◌, ℕ, ◌+◌, ◌*◌, ◌/◌, ◌%◌, ◌≤◌, true, false, Option, Some, List, length, get_or}
use Rattle.rbf_model.specs.Disk.{image_disk}
use Rattle.rbf_model.specs.Fields.{directory_entry, descriptor_field, is_used}
use Rattle.rbf_model.specs.File.{DiskFile, is_directory}
use Rattle.rbf_model.specs.Laws.{IsReady}
use Rattle.rbf_model.specs.Segments.{sectors_of}
use Rattle.rbf_model.specs.Volume.{DiskVolume}
use Rattle.rbf_model.specs.Writes.{IsNewEntry}
use Rattle.rbf_access.specs.Mounted.{RepresentsVolume}
use Rattle.rbf_entries.specs.Becomes.{with_piece}

-- the sector that holds the entry in place i of a directory: each sector has 8
abbrev pub sector_of_entry : DiskFile → ℕ → ℕ
sector_of_entry dir i = get_or (sectors_of dir.segments) (i / 8) 0

-- the media with bytes written over the front of that entry
abbrev pub with_entry_bytes : Option (List ℕ) → DiskFile → ℕ → List ℕ → Option (List ℕ)
with_entry_bytes media dir i bytes = with_piece media (sector_of_entry dir i) (32 * (i % 8)) bytes

-- a place after the first two of directory d of the volume that the media represents
pub record IsEntryPlace (media : Option (List ℕ)) (d i : ℕ) : Type 0 where
  pub content : DiskVolume
  pub on : RepresentsVolume media content
  pub dir : DiskFile
  pub is : content.files d ≡ Some dir
  pub directory : is_directory dir ≡ true
  pub after : 2 ≤ i
  pub within : 32 * (i + 1) ≤ length dir.contents

-- a free place, and the entry of a new file, which is on the disk, by a name that is not in the directory
pub record MayFill (media : Option (List ℕ)) (d i : ℕ) (entry : List ℕ) : Type 0 where
  pub place : IsEntryPlace media d i
  pub free : is_used (directory_entry place.dir.contents i) ≡ false
  pub new : IsNewEntry place.dir.contents i entry (descriptor_field entry)
  pub ready : IsReady (image_disk place.on.image) place.content d (descriptor_field entry)

-- the place of a used entry that names a file, not a directory
pub record MayFree (media : Option (List ℕ)) (d i : ℕ) : Type 0 where
  pub place : IsEntryPlace media d i
  pub used : is_used (directory_entry place.dir.contents i) ≡ true
  pub file : DiskFile
  pub names : place.content.files (descriptor_field (directory_entry place.dir.contents i)) ≡ Some file
  pub not_directory : is_directory file ≡ false
