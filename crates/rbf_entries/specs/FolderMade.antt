-- A new directory whose descriptor is on the media, before it has a name.
use Rattle.std.specs.Prelude.{◌≡◌, ◌≢◌, ◌↔◌, ℕ, ◌+◌, ◌-◌, ◌<◌, ◌==◌, min, true, false, Option, Some, List, length, get_or, if◌then◌else◌, Result, Ok, Err, IfOk, IfSome, IsErrOf}
use Rattle.os9_outer.specs.Drive.{sector_at}
use Rattle.rbf_model.specs.File.{DiskFile, file_at}
use Rattle.rbf_model.specs.Geometry.{image_geometry, sector}
use Rattle.rbf_model.specs.Disk.{image_disk}
use Rattle.rbf_model.specs.Laws.{IsMapSector, IsReady}
use Rattle.rbf_model.specs.Segments.{has, sectors_of}
use Rattle.rbf_model.specs.Space.{has_cluster}
use Rattle.rbf_model.specs.Volume.{DiskVolume, Vol}
use Rattle.rbf_change.specs.Calls.{shape, cluster_size, free_total, is_free_in}
use Rattle.rbf_change.specs.Contents.{extended}
use Rattle.rbf_change.specs.Faults.{MayLose}
use Rattle.rbf_change.specs.NewFiles.{Plan, IsNewFile, file_clusters}
use Rattle.rbf_change.specs.Parts.{FileIsMade}
use Rattle.rbf_change.specs.Tidy.{KeepsMapEnd}
use Rattle.rbf_access.specs.Faults.{file_fault}
use Rattle.rbf_access.specs.MapMarks.{marking_sectors}
use Rattle.rbf_entries.specs.NewEntry.{IsAfterMarks}
use Rattle.rbf_access.specs.declared.faults.FileFault.{FileFault}
use Rattle.rbf_access.specs.declared.faults.FileFault.TheVariants as fault

-- the number of sectors of a new directory: the rest of its descriptor's cluster, or one in a cluster of its own
abbrev pub new_sectors : ℕ → ℕ
new_sectors k = if k == 1 then 1 else k - 1

-- the first sector of a file
abbrev pub first_sector : DiskFile → ℕ
first_sector file = get_or (sectors_of file.segments) 0 0

-- a directory's first sector has its entries and zeros after them; apart from it, only sector n and the map have
-- changed, and no mark past the clusters has
pub record WritesFolder (old now : List ℕ) (n first : ℕ) (entries : List ℕ) : Type 0 where
  pub first_is : sector now first ≡ extended entries 256
  pub others : (s : ℕ) → ¬ IsMapSector (image_geometry old) s → s ≢ n → s ≢ first → sector now s ≡ sector old s
  pub end : KeepsMapEnd old now (λ _. false)

-- the clusters of a new directory n, which has a sector: all of them were free, and their number is what 64 bytes need
pub record ClustersTaken (v : DiskVolume) (n : ℕ) (file : DiskFile) : Type 0 where
  pub clusters : List ℕ
  pub are : (c : ℕ) → has clusters c ≡ has_cluster (shape v) n file c
  pub counted : length clusters ≡ file_clusters (cluster_size v) 64
  pub free : (c : ℕ) → has clusters c ≡ true → is_free_in v c ≡ true
  pub some : has (sectors_of file.segments) (first_sector file) ≡ true

-- directory n has been made: its descriptor is in that sector, and its clusters are lost until an entry of its parent
-- names it
pub record IsFolderMade (v : DiskVolume) (parent n : ℕ) (plan : Plan) (old new : Option (List ℕ)) : Type 0 where
  pub image : List ℕ
  pub now : List ℕ
  pub was : old ≡ Some image
  pub is : new ≡ Some now
  pub left : DiskVolume
  pub vol : Vol now left
  pub made : FileIsMade v left (sector now) n plan
  pub takes : ClustersTaken v n made.file
  -- it may be given an entry in its parent
  pub ready : IsReady (image_disk now) left parent n
  pub writes : WritesFolder image now n (first_sector made.file) plan.contents

-- a fault occurred before that: clusters that the directory was to have may be lost
pub record FolderEnds (v : DiskVolume) (plan : ℕ → Plan) (old new : Option (List ℕ)) : Type 0 where
  pub image : List ℕ
  pub now : List ℕ
  pub was : old ≡ Some image
  pub is : new ≡ Some now
  pub number : ℕ
  pub file : DiskFile
  pub chosen : IsNewFile (cluster_size v) (is_free_in v) number (plan number) file
  pub takes : ClustersTaken v number file
  pub left : DiskVolume
  pub vol : Vol now left
  pub lose : MayLose v left (has_cluster (shape v) number file)
  -- its first sector is written after the marks of its clusters
  pub order : IsAfterMarks image now (first_sector file) left (has_cluster (shape v) number file)
  -- its descriptor, the last write, was not written
  pub undescribed : sector now number ≡ sector image number
  -- only its first sector and the map have changed
  pub others : (s : ℕ) → ¬ IsMapSector (image_geometry image) s → s ≢ first_sector file
      → sector now s ≡ sector image s
  pub end : KeepsMapEnd image now (λ _. false)

-- the answers of a call that makes a directory in the volume that the media represents before
pub record MakesFolder (v : DiskVolume) (parent : ℕ) (plan : ℕ → Plan) (old new : Option (List ℕ))
    (result : Result ℕ FileFault) : Type 0 where
  -- the answer is the number of the new directory, which is on the media
  pub made : IfOk result (λ n. IsFolderMade v parent n (plan n) old new)
  -- too few clusters are free for its descriptor and 64 bytes
  pub full : IsErrOf result fault.NoCluster ↔ (free_total v < file_clusters (cluster_size v) 64)
  -- it never has too many segments
  pub runs : ¬ IsErrOf result fault.TooManyRuns
  -- an access of the drive has failed
  pub ends : IfSome (file_fault result) (λ _. FolderEnds v plan old new)

-- the greatest number of drive calls that make a directory: one for each of its two sectors, and one for each sector of
-- the map that has a mark of its clusters, according to its descriptor on the media, but at most the number of clusters
-- it takes; after a fault one for each cluster
abbrev pub folder_calls : {E : Type 0} → DiskVolume → Option (List ℕ) → Result ℕ E → ℕ
folder_calls v after (Ok n) =
    min (file_clusters (cluster_size v) 64)
    (marking_sectors (shape v) (has_cluster (shape v) n (file_at (sector_at after) n))) + 2
folder_calls v after (Err fault) = file_clusters (cluster_size v) 64 + 2
