-- The writes of one sector after which a disk still represents a volume: the conditions of each law.
use Rattle.std.specs.Prelude.{◌≡◌, ◌⊎◌, ℕ, ◌+◌, ◌-◌, ◌*◌, ◌/◌, ◌<◌, ◌≤◌, ◌&&◌, ◌||◌, Bool, true, false, not, List, ◌++◌, length, take, get_or, Some}
use Rattle.rbf_model.specs.Fields.{directory_entry, is_used, size_field, segments_field}
use Rattle.rbf_model.specs.Disk.{Disk}
use Rattle.rbf_model.specs.Geometry.{Geometry, IsNumber, LieWithin, map_sectors}
use Rattle.rbf_model.specs.Segments.{sectors_of, AreDistinct}
use Rattle.rbf_model.specs.File.{DiskFile, file_from, file_at, is_directory, has_room}
use Rattle.rbf_model.specs.Space.{is_whole, is_marked, own_sectors, owned, owns, has_cluster, Unused}
use Rattle.rbf_model.specs.Tree.{EntryNames}
use Rattle.rbf_model.specs.Volume.{DiskVolume, is_free}
use Rattle.rbf_model.specs.Writes.{put, put_at, with_file, IsNewDirectory, IsNewEntry}

-- a sector of the map
pub record IsMapSector (g : Geometry) (s : ℕ) : Type 0 where
  pub after : 1 ≤ s
  pub within : s ≤ map_sectors g

-- a write to the map that marks these free clusters, and changes no other mark
pub record MarksFreeClusters (disk : Disk) (v : DiskVolume) (s : ℕ) (bytes : List ℕ) (taken : ℕ → Bool) : Type 0 where
  pub map : IsMapSector disk.geometry s
  pub free : (c : ℕ) → taken c ≡ true → is_free disk.geometry v c ≡ true
  pub marks : (c : ℕ) → c * disk.geometry.cluster < disk.geometry.total
      → is_marked (put disk.sectors s bytes) c ≡ (is_marked disk.sectors c || taken c)

-- a write to the map that clears the marks of these clusters, and changes no other mark: each of them is lost, or is
-- not whole and in no file
pub record FreesClusters (disk : Disk) (v : DiskVolume) (s : ℕ) (bytes : List ℕ) (freed : ℕ → Bool) : Type 0 where
  pub map : IsMapSector disk.geometry s
  pub unused : (c : ℕ) → freed c ≡ true
      → (v.lost c ≡ true) ⊎ ((is_whole disk.geometry c ≡ false) × Unused disk.geometry v.files c)
  pub marks : (c : ℕ) → c * disk.geometry.cluster < disk.geometry.total
      → is_marked (put disk.sectors s bytes) c ≡ (is_marked disk.sectors c && not (freed c))

-- sector s is the one in place j of file n
pub record IsFileSector (v : DiskVolume) (n : ℕ) (file : DiskFile) (j s : ℕ) : Type 0 where
  pub is : v.files n ≡ Some file
  pub within : j < length (sectors_of file.segments)
  pub at : get_or (sectors_of file.segments) j 0 ≡ s

-- a write that the volume does not show
pub data IsUnseen (disk : Disk) (v : DiskVolume) (s : ℕ) (bytes : List ℕ) : Type 0 where
  -- to a sector of a free or a lost cluster
  idle : (is_free disk.geometry v (s / disk.geometry.cluster) ≡ true) ⊎ (v.lost (s / disk.geometry.cluster) ≡ true)
      → IsUnseen disk v s bytes
  -- to any sector that nothing owns
  unowned : s < disk.geometry.total
      → ((n : ℕ) (file : DiskFile) → v.files n ≡ Some file → owns disk.geometry n file s ≡ false)
      → IsUnseen disk v s bytes
  -- to a sector of a file, if no byte below the file's size changes
  past_size : {n j : ℕ} {file : DiskFile} → IsFileSector v n file j s
      → take (length file.contents - 256 * j) bytes ≡ take (length file.contents - 256 * j) (disk.sectors s)
      → IsUnseen disk v s bytes

-- the file with the bytes of its sector in place j, up to its size
abbrev pub with_sector_bytes : DiskFile → ℕ → List ℕ → DiskFile
with_sector_bytes file j bytes =
    record file { contents = put_at file.contents (256 * j) (take (length file.contents - 256 * j) bytes) }

-- a write to a sector, below its size, of a file that is not a directory
pub record Overwrites (v : DiskVolume) (n : ℕ) (file : DiskFile) (j s : ℕ) : Type 0 where
  pub sector : IsFileSector v n file j s
  pub not_directory : is_directory file ≡ false
  pub below : 256 * j < length file.contents

-- a descriptor that a file of the volume may have instead of its own
pub record Describes (disk : Disk) (v : DiskVolume) (n : ℕ) (old : DiskFile) (bytes : List ℕ) : Type 0 where
  pub is : v.files n ≡ Some old
  pub within : LieWithin disk.geometry (segments_field bytes)
  pub distinct : AreDistinct (owned disk.geometry n (file_from disk.sectors bytes))
  pub room : has_room (segments_field bytes) (size_field bytes) ≡ true
  pub clusters : (c : ℕ) → has_cluster disk.geometry n (file_from disk.sectors bytes) c ≡ true
      → (v.lost c ≡ true) ⊎ (has_cluster disk.geometry n old c ≡ true)

-- the same, if the file keeps its kind, and a directory its size and segments
pub record Redescribes (disk : Disk) (v : DiskVolume) (n : ℕ) (old : DiskFile) (bytes : List ℕ) : Type 0 where
  pub describes : Describes disk v n old bytes
  pub kind : is_directory (file_from disk.sectors bytes) ≡ is_directory old
  pub directory : is_directory old ≡ true
      → (segments_field bytes ≡ old.segments) × (size_field bytes ≡ length old.contents)

-- a new file that is on the disk and in no directory, whose clusters are lost; d is the parent of a new directory
pub record IsReady (disk : Disk) (v : DiskVolume) (d n : ℕ) : Type 0 where
  pub number : IsNumber disk.geometry n
  pub within : LieWithin disk.geometry (segments_field (disk.sectors n))
  pub distinct : AreDistinct (own_sectors n (file_at disk.sectors n))
  pub room : has_room (segments_field (disk.sectors n)) (size_field (disk.sectors n)) ≡ true
  pub clusters : (c : ℕ) → has_cluster disk.geometry n (file_at disk.sectors n) c ≡ true → v.lost c ≡ true
  pub made : is_directory (file_at disk.sectors n) ≡ true → IsNewDirectory (file_at disk.sectors n).contents n d

-- an entry of a directory: the number of the directory's descriptor, the directory, the place of the entry in it, and
-- its new 32 bytes
pub record DirectoryEntry : Type 0 where
  pub directory : ℕ
  pub file : DiskFile
  pub place : ℕ
  pub bytes : List ℕ

-- a write to a sector of a file: the place of the sector among the file's, its LSN, and the 256 bytes
pub record SectorWrite : Type 0 where
  pub place : ℕ
  pub lsn : ℕ
  pub bytes : List ℕ

-- a directory with other 32 bytes for its entry in place i
abbrev pub with_directory_entry : DiskFile → ℕ → List ℕ → DiskFile
with_directory_entry dir i bytes = record dir { contents = put_at dir.contents (32 * i) bytes }

-- the directory with the entry's bytes
abbrev pub with_entry_put : DirectoryEntry → DiskFile
with_entry_put entry = with_directory_entry entry.file entry.place entry.bytes

-- a write to a sector of a directory that changes one of its entries, after the first two, to these bytes
pub record PutsEntry (sectors : ℕ
    → List ℕ) (v : DiskVolume) (entry : DirectoryEntry) (write : SectorWrite) : Type 0 where
  pub sector : IsFileSector v entry.directory entry.file write.place write.lsn
  pub directory : is_directory entry.file ≡ true
  pub after : 2 ≤ entry.place
  pub within : 32 * (entry.place + 1) ≤ length entry.file.contents
  pub whole : length entry.bytes ≡ 32
  pub contents : (file_from (put sectors write.lsn write.bytes) (sectors entry.directory)).contents
      ≡ put_at entry.file.contents (32 * entry.place) entry.bytes

-- the same, if a free entry becomes that of a new file, whose descriptor is in sector n
pub record AddsEntry (disk : Disk) (v : DiskVolume) (entry : DirectoryEntry) (write : SectorWrite)
    (n : ℕ) : Type 0 where
  pub puts : PutsEntry disk.sectors v entry write
  pub free : is_used (directory_entry entry.file.contents entry.place) ≡ false
  pub new : IsNewEntry entry.file.contents entry.place entry.bytes n
  pub ready : IsReady disk v entry.directory n

-- a write of a directory's descriptor that adds a new file's entry at its end
pub record AppendsEntry (disk : Disk) (v : DiskVolume) (entry : DirectoryEntry) (bytes : List ℕ) (n : ℕ) : Type 0 where
  pub describes : Describes disk v entry.directory entry.file bytes
  pub directory : is_directory entry.file ≡ true
  pub kind : is_directory (file_from disk.sectors bytes) ≡ true
  pub end : length entry.file.contents ≡ 32 * entry.place
  pub whole : length entry.bytes ≡ 32
  pub contents : (file_from disk.sectors bytes).contents ≡ entry.file.contents ++ entry.bytes
  pub new : IsNewEntry entry.file.contents entry.place entry.bytes n
  pub ready : IsReady disk (with_file disk.geometry v entry.directory (Some (file_from disk.sectors bytes)))
      entry.directory n

-- a write to a directory's sector that makes free the entry of a file that is not a directory
pub record RemovesEntry (sectors : ℕ → List ℕ) (v : DiskVolume) (entry : DirectoryEntry) (write : SectorWrite) (n : ℕ)
    (file : DiskFile) : Type 0 where
  pub puts : PutsEntry sectors v entry write
  pub free : is_used entry.bytes ≡ false
  pub names : EntryNames entry.file.contents entry.place n
  pub is : v.files n ≡ Some file
  pub not_directory : is_directory file ≡ false
