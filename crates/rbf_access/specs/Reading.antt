-- Reads of a file.
use Rattle.std.specs.Prelude.{◌≡◌, true, ℕ, ◌+◌, ◌-◌, ◌*◌, ◌/◌, ◌^◌, ◌<◌, ◌≤◌, Option, Some, List, [], ◌∷◌, ◌++◌, length, min, drop, Result, OnOk}
use Rattle.os9_outer.specs.Drive.{sector_count as drive_sectors, sector_at}
use Rattle.rbf_model.specs.Fields.{segments_field}
use Rattle.rbf_model.specs.Segments.{has, sectors_of}
use Rattle.rbf_model.specs.File.{DiskFile, segment_bytes}
use Rattle.rbf_model.specs.Volume.{DiskVolume}
use Rattle.rbf_sector.specs.declared.fd.Fd.{Fd}
use Rattle.rbf_sector.specs.declared.run.Run.{Run}
use Rattle.rbf_change.specs.Contents.{bytes_from, sector_span}
use Rattle.sector_cache.specs.declared.sector.Sector.{Sector}
use Rattle.rbf_access.specs.Cached.{SectorsAreHeld, IsCacheOf, IsHeldSector}
use Rattle.rbf_access.specs.Mounted.{RepresentsVolume}

-- the fields of a descriptor are those of a file
pub record IsFdOf (file : DiskFile) (fd : Fd) : Type 0 where
  pub attributes_are : fd.attr ≡ file.attributes
  pub owner_is : fd.owner ≡ file.owner
  pub modified_is : fd.modified ≡ file.modified
  pub links_are : fd.links ≡ file.links
  pub created_is : fd.created ≡ file.created
  pub size_is : fd.size ≡ length file.contents
  pub segments_are : fd.segs ≡ file.segments

-- a fact about file n of the volume that the media represents
abbrev pub OnFile : Option (List ℕ) → ℕ → (DiskFile → Type 0) → Type 0
OnFile media n fact =
    (v : DiskVolume) (file : DiskFile) → RepresentsVolume media v → v.files n ≡ Some file → fact file

-- a fact about that volume and its file n
abbrev pub OnVolumeFile : Option (List ℕ) → ℕ → (DiskVolume → DiskFile → Type 0) → Type 0
OnVolumeFile media n fact =
    (v : DiskVolume) (file : DiskFile) → RepresentsVolume media v → v.files n ≡ Some file → fact v file

-- a buffer into which bytes have been read: the part that they do not fill is unchanged
abbrev pub filled_buffer : List ℕ → List ℕ → List ℕ
filled_buffer bytes buffer = bytes ++ drop (length bytes) buffer

-- a read of a file from place `at` on: the number of bytes read, which the file's end and the room of the buffer limit,
-- and the buffer after the read
pub record IsReadInto (file : DiskFile) (at : ℕ) (before now : List ℕ) (count : ℕ) : Type 0 where
  pub count_is : count ≡ length (bytes_from file.contents at (length before))
  pub buffer_is : now ≡ filled_buffer (bytes_from file.contents at (length before)) before

-- the greatest number of drive calls that a read into a buffer makes: one for the descriptor, and one for each sector
-- of which it reads a byte
abbrev pub read_calls : DiskFile → ℕ → ℕ → ℕ
read_calls file at room = 1 + sector_span at (min (at + room) (length file.contents))

-- the drive has each of the sectors
abbrev pub AreOnDrive : Option (List ℕ) → List ℕ → Type 0
AreOnDrive media sectors = (s : ℕ) → has sectors s ≡ true → s < drive_sectors media

-- the drive has the sectors of these segments, which have `count` bytes from place `at` on
pub record HaveBytes (media : Option (List ℕ)) (segments : List (ℕ × ℕ)) (at count : ℕ) : Type 0 where
  pub on_drive : AreOnDrive media (sectors_of segments)
  pub within : count ≤ 256 * length (sectors_of segments) - at
  pub fits : at + count < 2 ^ 32

-- the segment list of the descriptor in this sector of the media
abbrev pub list_at : Option (List ℕ) → ℕ → List (ℕ × ℕ)
list_at media fd = segments_field (sector_at media fd)

-- the segment list that has a run alone
abbrev pub run_list : Run → List (ℕ × ℕ)
run_list run = (run.lsn, run.count) ∷ []

-- the bytes of the sectors of a list from place `at` on that fill a buffer
abbrev pub bytes_for : Option (List ℕ) → List (ℕ × ℕ) → ℕ → List ℕ → List ℕ
bytes_for media segments at buffer = bytes_from (segment_bytes (sector_at media) segments) at (length buffer)

-- the number of sectors that have these bytes
abbrev pub span_for : ℕ → List ℕ → ℕ
span_for at buffer = sector_span at (at + length buffer)

-- the sectors in a cache are the media's, and this sector is one of them
pub record IsCacheWith (media : Option (List ℕ)) (held : List Sector) (lsn : ℕ) : Type 0 where
  pub cached : IsCacheOf media held
  pub here : IsHeldSector held lsn

-- all sectors of a read are cached: the descriptor, and those of which it reads a byte
pub record AreCached (held : List Sector) (fd : ℕ) (file : DiskFile) (at room : ℕ) : Type 0 where
  pub descriptor : IsHeldSector held fd
  pub sectors : SectorsAreHeld held file.segments (at / 256)
      (at / 256 + sector_span at (min (at + room) (length file.contents)))

-- how a read of file n uses the cache: if all its sectors are cached, no call of the drive is made; after the read they
-- are cached if there are at most 256 of them
pub record UsesCache {A Fault : Type 0} (n : ℕ) (file : DiskFile) (at room : ℕ) (result : Result A Fault)
    (old new : List Sector) (calls calls_now : ℕ) : Type 0 where
  pub hits : AreCached old n file at room → calls_now ≡ calls
  pub held : OnOk result (read_calls file at room ≤ 256 → AreCached new n file at room)
