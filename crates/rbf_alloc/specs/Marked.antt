-- How the marks of gained clusters are written to the media.
use Rattle.std.specs.Prelude.{◌≡◌, ℕ, ◌+◌, ◌*◌, ◌/◌, ◌<◌, ◌==◌, ◌&&◌, ◌||◌, Bool, true, false, not, List, length, slice_index_or, count_by, Option, Some, if◌then◌else◌}
use Rattle.std.specs.List.{range_with_len}
use Rattle.os9_outer.specs.Drive.{with_sector}
use Rattle.rbf_model.specs.Geometry.{image_geometry, sector, map_sectors}
use Rattle.rbf_model.specs.Segments.{has}
use Rattle.rbf_model.specs.Space.{is_marked, cluster_count}
use Rattle.rbf_model.specs.Volume.{DiskVolume, Vol}
use Rattle.rbf_model.specs.Writes.{with_lost}
use Rattle.rbf_model.specs.Laws.{IsMapSector}
use Rattle.rbf_model.specs.ClusterMap.{ClusterMap, mark, IsSectorOf}
use Rattle.rbf_change.specs.Agrees.{MountedPart}
use Rattle.rbf_change.specs.Calls.{is_free_in}
use Rattle.rbf_alloc.specs.Gained.{is_written, cluster_at}

-- a cluster that is free in the volume and marked in the map
abbrev pub is_new_mark : DiskVolume → ClusterMap → ℕ → Bool
is_new_mark v map c = is_free_in v c && (mark map.bytes c == 1)

-- the mounted part is that of an image, but its map has additional marks of free clusters
pub record IsAhead (v : DiskVolume) (image : List ℕ) (kept : MountedPart) : Type 0 where
  pub vol : Vol image v
  pub sizes_are : kept.sizes ≡ image_geometry image
  pub clusters_are : kept.map.clusters ≡ cluster_count (image_geometry image)
  pub whole_are : kept.map.whole ≡ (image_geometry image).total / (image_geometry image).cluster
  pub sectors : length kept.map.bytes ≡ 256 * map_sectors (image_geometry image)
  pub marks : (c : ℕ) → c < 8 * length kept.map.bytes
      → (mark kept.map.bytes c == 1) ≡ (is_marked (sector image) c || is_new_mark v kept.map c)

-- the image has the marks of the map in those of its sectors that were written, and these clusters are lost now; all
-- else is as in the old image
pub record IsMarkedTo (v : DiskVolume) (old now : List ℕ) (map : ClusterMap) (written : List Bool) : Type 0 where
  pub vol : Vol now (with_lost v (λ c. v.lost c || (is_new_mark v map c && is_written written c)))
  pub marks : (c : ℕ) → c < 8 * length map.bytes
      → is_marked (sector now) c ≡ (if is_written written c then mark map.bytes c == 1 else is_marked (sector old) c)
  pub others : (s : ℕ) → ¬ IsMapSector (image_geometry old) s → sector now s ≡ sector old s

-- the same of the media of a drive
pub record IsMarkedOn (v : DiskVolume) (old : List ℕ) (media : Option (List ℕ)) (kept : MountedPart)
    (written : List Bool) : Type 0 where
  pub ahead : IsAhead v old kept
  pub now : List ℕ
  pub is : media ≡ Some now
  pub marked : IsMarkedTo v old now kept.map written

-- the same for some volume
pub record IsMarking (kept : MountedPart) (media : Option (List ℕ)) (written : List Bool) : Type 0 where
  pub volume : DiskVolume
  pub old : List ℕ
  pub on : IsMarkedOn volume old media kept written

-- every such fact about the media still holds, with more of the map's sectors written
abbrev pub NewMarks : Option (List ℕ) → Option (List ℕ) → MountedPart → List Bool → List Bool → Type 0
NewMarks media now kept written written_now =
    (v : DiskVolume) (old : List ℕ) → IsMarkedOn v old media kept written → IsMarkedOn v old now kept written_now

-- a sector of the map has been written
pub record WritesMapSector (map : ClusterMap) (n : ℕ) (old new : Option (List ℕ)) : Type 0 where
  pub bytes : List ℕ
  pub of_map : IsSectorOf map.bytes n bytes
  pub media : new ≡ with_sector old (1 + n) bytes

-- the marks of all of these clusters are in sectors that were written
abbrev pub AllWritten : List ℕ → List Bool → Type 0
AllWritten clusters written = (c : ℕ) → has clusters c ≡ true → is_written written c ≡ true

-- the marks of the clusters of these places are in wanted sectors among the first n of the map
abbrev pub AreWanted : ℕ → List (ℕ × ℕ) → ℕ → ℕ → (ℕ → Bool) → ℕ → Type 0
AreWanted k segments first count wanted n =
    (i : ℕ) → i < count → (cluster_at k segments (first + i * k) / 2048 < n)
    × (wanted (cluster_at k segments (first + i * k) / 2048) ≡ true)

-- the number of wanted ones that have not been written
abbrev pub unwritten : (ℕ → Bool) → List Bool → ℕ → ℕ
unwritten wanted written n = count_by (λ p. wanted p && not (slice_index_or written p false)) (range_with_len 0 n)
