-- A file that is removed from the volume, and its clusters.
use Rattle.std.specs.Prelude.{◌≡◌, ℕ, ◌*◌, ◌<◌, ◌&&◌, ◌||◌, Bool, true, not, List, Option, Some, None}
use Rattle.rbf_model.specs.Geometry.{Geometry, image_geometry, sector, map_sectors, LieWithin}
use Rattle.rbf_model.specs.File.{DiskFile, file_at}
use Rattle.rbf_model.specs.Space.{is_marked, is_whole, has_cluster, Unused}
use Rattle.rbf_model.specs.Volume.{DiskVolume, Vol}
use Rattle.rbf_model.specs.Writes.{with_lost}
use Rattle.rbf_model.specs.Laws.{IsMapSector}
use Rattle.rbf_change.specs.Calls.{shape}
use Rattle.rbf_change.specs.Faults.{MayLose, OneIsMarked}
use Rattle.rbf_change.specs.Tidy.{KeepsMapEnd, MayKeepMapEnd}
use Rattle.rbf_access.specs.Mounted.{RepresentsVolume}
use Rattle.rbf_alloc.specs.Cleared.{before, not_before}

-- the former file n is removed from the volume v: its descriptor is still in that sector, its clusters are marked, and
-- no file has them
pub record IsGone (media : Option (List ℕ)) (v : DiskVolume) (n : ℕ) (file : DiskFile) : Type 0 where
  pub on : RepresentsVolume media v
  pub none : v.files n ≡ None
  pub number : n < (image_geometry on.image).total
  pub shown : file ≡ file_at (sector on.image) n
  pub within : LieWithin (image_geometry on.image) file.segments
  pub marked : (c : ℕ) → has_cluster (shape v) n file c ≡ true → is_marked (sector on.image) c ≡ true
  pub unused : (c : ℕ) → has_cluster (shape v) n file c ≡ true → Unused (shape v) v.files c

-- the same for some file
pub record FileHasGone (media : Option (List ℕ)) (n : ℕ) : Type 0 where
  pub content : DiskVolume
  pub file : DiskFile
  pub gone : IsGone media content n file

-- a volume in which the clusters of file n are not lost any more
abbrev pub freed : DiskVolume → ℕ → DiskFile → DiskVolume
freed v n file = with_lost v (λ c. v.lost c && not (has_cluster (shape v) n file c))

-- only the map has changed
abbrev pub OnlyMap : List ℕ → List ℕ → Type 0
OnlyMap old new = (s : ℕ) → ¬ IsMapSector (image_geometry old) s → sector new s ≡ sector old s

-- its clusters have been given back
pub record IsDropped (v : DiskVolume) (n : ℕ) (file : DiskFile) (old new : Option (List ℕ)) : Type 0 where
  pub image : List ℕ
  pub now : List ℕ
  pub was : old ≡ Some image
  pub is : new ≡ Some now
  pub vol : Vol now (freed v n file)
  pub others : OnlyMap image now
  pub end : KeepsMapEnd image now (has_cluster (shape v) n file)

-- clusters are given back sector by sector of the map, upwards, until a fault occurred at the sector in some place or
-- after it: the marks of these in the sectors before it have been cleared, and no other mark of the map; the whole
-- clusters that remain are lost, in addition to those that are lost after all have been given back
pub record StopsAtPlace (g : Geometry) (after left : DiskVolume) (gone : ℕ → Bool) (old new : List ℕ) : Type 0 where
  pub place : ℕ
  pub marks : (c : ℕ) → c < 2048 * map_sectors (image_geometry old)
      → is_marked (sector new) c ≡ (is_marked (sector old) c && not (before gone place c))
  pub lost_are : left ≡ with_lost after (λ c. after.lost c || (is_whole g c && not_before gone place c))

-- a fault occurred before all were given back: some of the whole ones may still be lost, and one is still marked
pub record DropEnds (v : DiskVolume) (n : ℕ) (file : DiskFile) (old new : Option (List ℕ)) : Type 0 where
  pub image : List ℕ
  pub now : List ℕ
  pub was : old ≡ Some image
  pub is : new ≡ Some now
  pub left : DiskVolume
  pub vol : Vol now left
  pub lose : MayLose (freed v n file) left (λ c. is_whole (shape v) c && has_cluster (shape v) n file c)
  pub unfinished : OneIsMarked now (has_cluster (shape v) n file)
  pub others : OnlyMap image now
  pub end : MayKeepMapEnd image now (has_cluster (shape v) n file)
  -- no mark has been cleared after a sector of the map whose marks are still set
  pub stops : StopsAtPlace (shape v) (freed v n file) left (has_cluster (shape v) n file) image now
