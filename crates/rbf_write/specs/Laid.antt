-- Bytes that are laid over those of a file, sector by sector.
use Rattle.std.specs.Prelude.{◌≡◌, ℕ, ◌+◌, ◌-◌, ◌*◌, ◌/◌, ◌^◌, ◌<◌, ◌≤◌, nat_le, nat_lt, min, true, false, Option, Some, Result, OnOk, OnErr, List, ◌++◌, length, take, drop, replicate, slice_index, if◌then◌else◌}
use Rattle.os9_outer.specs.Drive.{sector_at, with_sector}
use Rattle.rbf_model.specs.Geometry.{sector, map_sectors}
use Rattle.rbf_model.specs.Segments.{sectors_of, has, AreDistinct}
use Rattle.rbf_model.specs.File.{DiskFile, is_directory, segment_bytes}
use Rattle.rbf_model.specs.Volume.{DiskVolume, Vol}
use Rattle.rbf_model.specs.Writes.{put_at, with_file_in_place}
use Rattle.rbf_change.specs.Calls.{shape, cluster_size}
use Rattle.rbf_access.specs.Mounted.{RepresentsVolume}
use Rattle.rbf_access.specs.declared.faults.FileFault.{FileFault}

-- a byte of a file over which bytes are laid from a place on, with zeros from its size up to that place
abbrev pub laid_byte : ℕ → ℕ → List ℕ → ℕ → ℕ → ℕ
laid_byte size at from place old =
    if nat_le at place then (if nat_lt (place - at) (length from) then slice_index from (place - at) else old)
    else (if nat_le size place then 0 else old)

-- all bytes of its sectors then
abbrev pub laid_bytes : List ℕ → ℕ → ℕ → List ℕ → List ℕ
laid_bytes whole size at from = put_at (put_at whole size (replicate (at - size) 0)) at from

-- the same if only the sectors before a place have been written
abbrev pub laid_front : List ℕ → List ℕ → ℕ → List ℕ
laid_front target whole place = take (256 * place) target ++ drop (256 * place) whole

-- a sector has been laid over and written
pub record LaysSector (size at : ℕ) (from : List ℕ) (start lsn : ℕ) (old new : Option (List ℕ)) : Type 0 where
  pub bytes : List ℕ
  pub whole : length bytes ≡ 256
  pub each : (q : ℕ) → q < 256 → slice_index bytes q
      ≡ laid_byte size at from (start + q) (slice_index (sector_at old lsn) q)
  pub media : new ≡ with_sector old lsn bytes

-- segments of file n, which is not a directory: its own, followed by those of lost clusters
pub record IsDataOf (u : DiskVolume) (n : ℕ) (file : DiskFile) (segments : List (ℕ × ℕ)) (size : ℕ) : Type 0 where
  pub is : u.files n ≡ Some file
  pub not_directory : is_directory file ≡ false
  pub size_is : size ≡ length file.contents
  pub room : size ≤ 256 * length (sectors_of file.segments)
  pub more : List ℕ
  pub sectors_are : sectors_of segments ≡ sectors_of file.segments ++ more
  pub behind : (s : ℕ) → has more s ≡ true → u.lost (s / cluster_size u) ≡ true
  pub distinct : AreDistinct (sectors_of segments)
  pub past_map : (s : ℕ) → has (sectors_of segments) s ≡ true → map_sectors (shape u) < s
  pub below : (s : ℕ) → has (sectors_of segments) s ≡ true → s < (shape u).total

-- the media has such a file
pub record HasData (media : Option (List ℕ)) (segments : List (ℕ × ℕ)) (size : ℕ) : Type 0 where
  pub volume : DiskVolume
  pub on : RepresentsVolume media volume
  pub number : ℕ
  pub file : DiskFile
  pub is : IsDataOf volume number file segments size

-- the sectors now have these bytes, and the file the first of them; no other sector has changed
pub record IsLaid (u : DiskVolume) (n : ℕ) (file : DiskFile) (segments : List (ℕ × ℕ)) (old new : Option (List ℕ))
    (bytes : List ℕ) : Type 0 where
  pub image : List ℕ
  pub now : List ℕ
  pub was : old ≡ Some image
  pub is : new ≡ Some now
  pub vol : Vol now (with_file_in_place u n (record file { contents = take (length file.contents) bytes }))
  pub bytes_are : segment_bytes (sector now) segments ≡ bytes
  pub others : (s : ℕ) → has (sectors_of segments) s ≡ false → sector now s ≡ sector image s

-- the same for the sectors before `place`, a sector with a byte to be laid
pub record IsPartLaid (u : DiskVolume) (n : ℕ) (file : DiskFile) (segments : List (ℕ × ℕ)) (old new : Option (List ℕ))
    (size at : ℕ) (from : List ℕ) : Type 0 where
  pub place : ℕ
  pub first : min size at / 256 ≤ place
  pub unfinished : 256 * place < at + length from
  pub laid : IsLaid u n file segments old new
      (laid_front (laid_bytes (segment_bytes (sector_at old) segments) size at from)
      (segment_bytes (sector_at old) segments) place)

-- bytes that may be laid over those of a file on the media, from a place on
pub record MayLay (media : Option (List ℕ)) (segments : List (ℕ × ℕ)) (size at : ℕ) (from : List ℕ) : Type 0 where
  -- the segments are those of such a file
  pub held : HasData media segments size
  -- they have room for all bytes
  pub room : at + length from ≤ 256 * length (sectors_of segments)
  -- there is a byte to write
  pub some : min size at < at + length from
  -- the places are numbers of 32 bits
  pub fits : at + length from < 2 ^ 32

-- the answers of a call that lays the bytes, and the contents of the sectors then
pub record Fills (u : DiskVolume) (n : ℕ) (file : DiskFile) (segments : List (ℕ × ℕ)) (size at : ℕ) (from : List ℕ)
    (old new : Option (List ℕ)) (result : Result (Unit {0}) FileFault) : Type 0 where
  -- all of them have been laid
  pub laid : OnOk result
      (IsLaid u n file segments old new (laid_bytes (segment_bytes (sector_at old) segments) size at from))
  -- or those of the sectors before some place have been laid
  pub part : OnErr result (IsPartLaid u n file segments old new size at from)
