-- A new file whose descriptor is on the media, before it has a name.
use Rattle.std.specs.Prelude.{◌≡◌, ◌≢◌, ◌↔◌, ℕ, ◌<◌, true, false, Option, Some, List, length, Result, IfOk, IfSome, IsErrOf}
use Rattle.rbf_model.specs.File.{DiskFile}
use Rattle.rbf_model.specs.Geometry.{image_geometry, sector}
use Rattle.rbf_model.specs.Disk.{image_disk}
use Rattle.rbf_model.specs.Laws.{IsMapSector, IsReady}
use Rattle.rbf_model.specs.Space.{has_cluster}
use Rattle.rbf_model.specs.Volume.{DiskVolume, Vol}
use Rattle.rbf_change.specs.Calls.{shape, cluster_size, free_total, is_free_in}
use Rattle.rbf_change.specs.Faults.{MayLose}
use Rattle.rbf_change.specs.NewFiles.{Plan, IsNewFile, file_clusters}
use Rattle.rbf_change.specs.Parts.{FileIsMade}
use Rattle.rbf_change.specs.Tidy.{KeepsMapEnd}
use Rattle.rbf_access.specs.Faults.{file_fault}
use Rattle.rbf_access.specs.declared.faults.FileFault.{FileFault}
use Rattle.rbf_access.specs.declared.faults.FileFault.TheVariants as fault

-- only sector n and sectors of the map have changed, and no mark past the clusters has
pub record WritesDescriptor (old now : List ℕ) (n : ℕ) : Type 0 where
  pub others : (s : ℕ) → ¬ IsMapSector (image_geometry old) s → s ≢ n → sector now s ≡ sector old s
  pub end : KeepsMapEnd old now (λ _. false)

-- file n has been made: its descriptor is in that sector, and its clusters are lost until an entry names it
pub record IsMade (v : DiskVolume) (n : ℕ) (plan : Plan) (old new : Option (List ℕ)) : Type 0 where
  pub image : List ℕ
  pub now : List ℕ
  pub was : old ≡ Some image
  pub is : new ≡ Some now
  pub left : DiskVolume
  pub vol : Vol now left
  pub made : FileIsMade v left (sector now) n plan
  -- its clusters were free
  pub fresh : (c : ℕ) → has_cluster (shape v) n made.file c ≡ true → is_free_in v c ≡ true
  -- and it may be given an entry in any directory
  pub ready : (d : ℕ) → IsReady (image_disk now) left d n
  pub writes : WritesDescriptor image now n

-- a fault occurred before that: clusters that the file was to have may be lost
pub record FileMakingEnds (v : DiskVolume) (plan : Plan) (old new : Option (List ℕ)) : Type 0 where
  pub image : List ℕ
  pub now : List ℕ
  pub was : old ≡ Some image
  pub is : new ≡ Some now
  pub number : ℕ
  pub file : DiskFile
  pub chosen : IsNewFile (cluster_size v) (is_free_in v) number plan file
  pub left : DiskVolume
  pub vol : Vol now left
  pub lose : MayLose v left (has_cluster (shape v) number file)
  pub others : (s : ℕ) → ¬ IsMapSector (image_geometry image) s → sector now s ≡ sector image s
  pub end : KeepsMapEnd image now (λ _. false)

-- the answers of a call that makes a file in the volume that the media represents before
pub record MakesNewFile (v : DiskVolume) (plan : Plan) (old new : Option (List ℕ)) (result : Result ℕ FileFault)
    : Type 0 where
  -- the answer is the number of the new file, which is on the media
  pub made : IfOk result (λ n. IsMade v n plan old new)
  -- too few clusters are free for the file
  pub full : IsErrOf result fault.NoCluster ↔ (free_total v < file_clusters (cluster_size v) (length plan.contents))
  -- it never has too many segments
  pub runs : ¬ IsErrOf result fault.TooManyRuns
  -- an access of the drive has failed
  pub ends : IfSome (file_fault result) (λ _. FileMakingEnds v plan old new)
