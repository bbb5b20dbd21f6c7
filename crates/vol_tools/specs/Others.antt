-- The bytes of an image after a tool for a path (this project's own).
use Rattle.std.specs.Prelude.{◌≡◌, ◌≢◌, ℕ, ◌*◌, ◌%◌, ◌≤◌, true, Some, None, List, length, unwrap_or}
use Rattle.rbf_model.specs.File.{DiskFile}
use Rattle.rbf_model.specs.Geometry.{image_geometry, sector}
use Rattle.rbf_model.specs.Laws.{IsMapSector}
use Rattle.rbf_model.specs.Segments.{has}
use Rattle.rbf_model.specs.Space.{own_sectors}
use Rattle.rbf_model.specs.Volume.{DiskVolume, Vol}
use Rattle.rbf_model.specs.Writes.{put_at}
use Rattle.rbf_change.specs.Names.{entry_place, place_of}
use Rattle.rbf_change.specs.Tidy.{KeepsListEnd}
use Rattle.rbf_entries.specs.NewEntry.{sector_of_place}
use Rattle.vol_tools.specs.Tool.{Tool, LeadsTo, put, mkdir, remove}

-- the entry of a path: the directory to which the path leads, before and now; the place of the entry, which is that of
-- its old name or that of a new one; and the sector of that place
pub record PathEntry (path : List ℕ) (before after : DiskVolume) : Type 0 where
  pub directory : ℕ
  pub name : List ℕ
  pub leads : LeadsTo before path directory name
  pub old : DiskFile
  pub was : before.files directory ≡ Some old
  pub new : DiskFile
  pub is : after.files directory ≡ Some new
  pub place : ℕ
  pub stands : place ≡ unwrap_or (place_of old.contents name) (entry_place old.contents)
  pub lsn : ℕ
  pub holds : lsn ≡ sector_of_place new.segments place

-- a sector of a new file: its descriptor, or one of its segments
pub record IsOfNewFile (before after : DiskVolume) (s : ℕ) : Type 0 where
  pub number : ℕ
  pub none : before.files number ≡ None
  pub file : DiskFile
  pub is : after.files number ≡ Some file
  pub of : has (own_sectors number file) s ≡ true

-- what is unchanged
pub record KeepsOthers (path : List ℕ) (image now : List ℕ) : Type 0 where
  pub before : DiskVolume
  pub was : Vol image before
  pub after : DiskVolume
  pub is : Vol now after
  pub entry : PathEntry path before after
  -- all sectors except those of the map and of a new file, the directory's descriptor and the entry's sector: those of
  -- free and lost clusters, of all other files, even after their ends, of a deleted file, and after the volume
  pub others : (s : ℕ) → ¬ IsMapSector (image_geometry image) s → ¬ IsOfNewFile before after s → s ≢ entry.directory
      → s ≢ entry.lsn → sector now s ≡ sector image s
  -- in the entry's sector all bytes except the 32 of the entry
  pub filled : (bytes : List ℕ) × (length bytes ≤ 32)
      × (sector now entry.lsn ≡ put_at (sector image entry.lsn) (32 * (entry.place % 8)) bytes)
  -- in the directory's descriptor the bytes after its list of segments, except the pair of zeros after a changed list
  pub list : KeepsListEnd (sector image entry.directory) (sector now entry.directory)

-- the same for each tool that changes a file of a path
abbrev pub KeepsOthersBy : Tool → (image now : List ℕ) → Type 0
KeepsOthersBy (put path bytes) image now = KeepsOthers path image now
KeepsOthersBy (mkdir path) image now = KeepsOthers path image now
KeepsOthersBy (remove path) image now = KeepsOthers path image now
KeepsOthersBy tool image now = Unit {0}
