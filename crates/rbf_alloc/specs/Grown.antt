-- A file's clusters that have been taken on the media.
use Rattle.std.specs.Prelude.{◌≡◌, ◌↔◌, ℕ, ◌<◌, ◌≤◌, ◌&&◌, ◌||◌, min, not, Bool, true, false, List, length, Option, Some, Result, Ok, Err, IfOk, IfSome, IsErrOf, IsNone}
use Rattle.rbf_model.specs.Geometry.{image_geometry, sector, map_sectors}
use Rattle.rbf_model.specs.Segments.{has}
use Rattle.rbf_model.specs.Volume.{DiskVolume, Vol}
use Rattle.rbf_model.specs.Writes.{with_lost}
use Rattle.rbf_model.specs.Laws.{IsMapSector}
use Rattle.rbf_change.specs.Growth.{uses, with_clusters, Gains}
use Rattle.rbf_change.specs.Calls.{shape, cluster_size, free_total, is_free_in}
use Rattle.rbf_change.specs.Faults.{MayLose}
use Rattle.rbf_change.specs.Tidy.{KeepsMapEnd}
use Rattle.rbf_access.specs.Faults.{file_fault}
use Rattle.rbf_access.specs.declared.faults.FileFault.{FileFault}
use Rattle.rbf_access.specs.declared.faults.FileFault.TheVariants as fault
use Rattle.rbf_access.specs.MapMarks.{marking_sectors}
use Rattle.rbf_access.specs.Mounted.{OnVolume}
use Rattle.rbf_alloc.specs.Gained.{AreChosen, IsTooMany}

-- only sectors of the map have changed, and no mark past the clusters has
pub record ChangesMap (old now : List ℕ) : Type 0 where
  pub others : (s : ℕ) → ¬ IsMapSector (image_geometry old) s → sector now s ≡ sector old s
  pub end : KeepsMapEnd old now (λ _. false)

-- `count` clusters that may be gained and are chosen, all of which fit the list
pub record IsChosenGrowth (k count : ℕ) (free : ℕ → Bool) (before : List (ℕ × ℕ)) (taken : List ℕ) : Type 0 where
  pub counted : length taken ≡ count
  pub gained : Gains k free before taken
  pub best : AreChosen k free before count taken
  pub fits : length (with_clusters k before taken) ≤ 48

-- the clusters have been taken: in the volume they are lost
pub record IsGrown (v : DiskVolume) (count : ℕ) (old new : Option (List ℕ)) (before after : List (ℕ × ℕ)) : Type 0 where
  pub image : List ℕ
  pub now : List ℕ
  pub was : old ≡ Some image
  pub is : new ≡ Some now
  pub taken : List ℕ
  pub chosen : IsChosenGrowth (cluster_size v) count (is_free_in v) before taken
  pub segments : after ≡ with_clusters (cluster_size v) before taken
  pub vol : Vol now (with_lost v (λ c. v.lost c || has taken c))
  pub changes : ChangesMap image now

-- a fault occurred before all were taken: some of them may be lost
pub record GrowthEnds (v : DiskVolume) (count : ℕ) (old new : Option (List ℕ)) (before : List (ℕ × ℕ)) : Type 0 where
  pub image : List ℕ
  pub now : List ℕ
  pub was : old ≡ Some image
  pub is : new ≡ Some now
  pub taken : List ℕ
  pub chosen : IsChosenGrowth (cluster_size v) count (is_free_in v) before taken
  pub left : DiskVolume
  pub vol : Vol now left
  pub lose : MayLose v left (has taken)
  pub changes : ChangesMap image now

-- the answers of a growth by `count` clusters in the volume that the media represents before
pub record Grows (v : DiskVolume) (count : ℕ) (before : List (ℕ × ℕ)) (old new : Option (List ℕ))
    (result : Result (List (ℕ × ℕ)) FileFault) : Type 0 where
  -- the answer is the segments followed by those of the clusters, which are lost now
  pub grown : IfOk result (IsGrown v count old new before)
  -- too few clusters are free
  pub full : IsErrOf result fault.NoCluster ↔ (free_total v < count)
  -- a chosen cluster does not fit the list
  pub runs : IsErrOf result fault.TooManyRuns → IsTooMany (cluster_size v) count (is_free_in v) before
  -- a write of the drive has failed
  pub ends : IfSome (file_fault result) (λ _. GrowthEnds v count old new before)

-- no free cluster has a sector of the segments
abbrev pub AreTaken : Option (List ℕ) → List (ℕ × ℕ) → Type 0
AreTaken media segments =
    OnVolume media (λ v. (c : ℕ) → uses (cluster_size v) segments c ≡ true → is_free_in v c ≡ false)

-- the result is not a fault of the drive
abbrev pub NoFault : Result (List (ℕ × ℕ)) FileFault → Type 0
NoFault result = IsNone (file_fault result)

-- a cluster that the second list has and the first does not
abbrev pub is_gained : ℕ → List (ℕ × ℕ) → List (ℕ × ℕ) → ℕ → Bool
is_gained k before after c = uses k after c && not (uses k before c)

-- the greatest number of its drive calls: one for each sector of the map that has a mark of a gained cluster; after a
-- fault at most the number of clusters, and of sectors of the map
abbrev pub growth_calls : DiskVolume → ℕ → List (ℕ × ℕ) → Result (List (ℕ × ℕ)) FileFault → ℕ
growth_calls v count before (Ok after) = marking_sectors (shape v) (is_gained (cluster_size v) before after)
growth_calls v count before (Err fault) = min count (map_sectors (shape v))
