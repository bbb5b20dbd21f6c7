-- Complete deletions.
use Rattle.std.specs.Prelude.{◌≡◌, ◌≢◌, ◌⊎◌, ℕ, ◌+◌, ◌*◌, ◌%◌, ◌&&◌, Bool, Option, Some, List, [], ◌∷◌, Result, Ok, Err}
use Rattle.rbf_model.specs.File.{DiskFile}
use Rattle.rbf_model.specs.Geometry.{image_geometry, sector}
use Rattle.rbf_model.specs.Laws.{IsMapSector}
use Rattle.rbf_model.specs.Space.{is_whole, has_cluster}
use Rattle.rbf_model.specs.Volume.{DiskVolume, Vol, in_file}
use Rattle.rbf_model.specs.Walk.{WalkEnd, arrives, not_allowed, not_found}
use Rattle.rbf_model.specs.Writes.{put_at}
use Rattle.rbf_change.specs.Calls.{shape}
use Rattle.rbf_change.specs.Faults.{MayLose, OneIsMarked}
use Rattle.rbf_change.specs.Names.{deletion_end}
use Rattle.rbf_change.specs.NewFiles.{Deletes}
use Rattle.rbf_change.specs.Tidy.{KeepsMapEnd, MayKeepMapEnd}
use Rattle.rbf_access.specs.MapMarks.{marking_sectors}
use Rattle.rbf_access.specs.declared.faults.FileFault.{FileFault}
use Rattle.rbf_access.specs.declared.faults.FileFault.TheVariants.{Device, NoCluster, TooManyRuns}
use Rattle.rbf_alloc.specs.Dropped.{StopsAtPlace}
use Rattle.rbf_entries.specs.Deletions.{IsDeletable, deletion_calls}
use Rattle.rbf_entries.specs.declared.deletion.Deletable.{Deletable}
use Rattle.rbf_entries.specs.Entries.{sector_of_entry}
use Rattle.rbf_walk.specs.Walk.{calls_on}
use Rattle.rbf_walk.specs.declared.error.DirError.{DirError}
use Rattle.rbf_walk.specs.declared.error.DirError.TheVariants.{NotAllowed, BadPath, NotFound, Exists, File}

-- on the media the first byte of one entry is now 0, and apart from its sector only the map has changed
pub record ClearsEntry (old new : List ℕ) (dir : DiskFile) (place : ℕ) : Type 0 where
  pub entry : sector new (sector_of_entry dir place)
      ≡ put_at (sector old (sector_of_entry dir place)) (32 * (place % 8)) (0 ∷ [])
  pub others : (s : ℕ) → s ≢ sector_of_entry dir place → ¬ IsMapSector (image_geometry old) s
      → sector new s ≡ sector old s

-- file n has been deleted from directory d, where it had the name
pub record IsDeleted (v : DiskVolume) (d n : ℕ) (name : List ℕ) (old new : Option (List ℕ)) : Type 0 where
  pub image : List ℕ
  pub now : List ℕ
  pub was : old ≡ Some image
  pub is : new ≡ Some now
  pub file : DiskFile
  pub there : v.files n ≡ Some file
  pub after : DiskVolume
  pub vol : Vol now after
  pub deletes : Deletes v after d n name
  pub writes : ClearsEntry image now deletes.dir deletes.place
  pub end : KeepsMapEnd image now (has_cluster (shape v) n file)

-- file n has been removed from directory d, and a fault occurred before all of its clusters were free: some may be
-- lost, and one is still marked
pub record IsHalfDeleted (v : DiskVolume) (d n : ℕ) (name : List ℕ) (old new : Option (List ℕ)) : Type 0 where
  pub image : List ℕ
  pub now : List ℕ
  pub was : old ≡ Some image
  pub is : new ≡ Some now
  pub file : DiskFile
  pub there : v.files n ≡ Some file
  pub after : DiskVolume
  pub deletes : Deletes v after d n name
  pub left : DiskVolume
  pub vol : Vol now left
  pub lose : MayLose after left (λ c. is_whole (shape v) c && has_cluster (shape v) n file c)
  pub unfinished : OneIsMarked now (has_cluster (shape v) n file)
  pub writes : ClearsEntry image now deletes.dir deletes.place
  pub end : MayKeepMapEnd image now (has_cluster (shape v) n file)
  -- no mark has been cleared after a sector of the map whose marks are still set
  pub stops : StopsAtPlace (shape v) after left (has_cluster (shape v) n file) image now

-- each answer of a deletion of file n, and what it leaves: after a fault nothing has changed, or the file is removed
abbrev pub AnswersDeletionOf : DiskVolume → ℕ → ℕ → List ℕ → Option (List ℕ) → Option (List ℕ)
    → Result (Unit {0}) FileFault → Type 0
AnswersDeletionOf v d n name old new (Ok done) = IsDeleted v d n name old new
AnswersDeletionOf v d n name old new (Err (Device number)) = (new ≡ old) ⊎ IsHalfDeleted v d n name old new
AnswersDeletionOf v d n name old new (Err NoCluster) = ⊥
AnswersDeletionOf v d n name old new (Err TooManyRuns) = ⊥

-- the greatest number of drive calls of that: a read and a write of the entry's sector, and one for each sector of the
-- map that has a mark of the file's clusters
abbrev pub file_deletion_calls : DiskVolume → ℕ → DiskFile → ℕ
file_deletion_calls v n file = 2 + marking_sectors (shape v) (has_cluster (shape v) n file)

-- the found entry is that of a file, and may be made free, by some name in some directory
pub record MayBeDeleted (media : Option (List ℕ)) (found : Deletable) : Type 0 where
  pub directory : ℕ
  pub name : List ℕ
  pub is : IsDeletable media directory name found

-- some file has been deleted from directory d by its name
pub record IsDeletedBy (v : DiskVolume) (d : ℕ) (name : List ℕ) (old new : Option (List ℕ)) : Type 0 where
  pub number : ℕ
  pub is : IsDeleted v d number name old new

-- a fault has left file n in this state, in a deletion that the user is allowed
pub record LeavesLost (v : DiskVolume) (d n : ℕ) (name : List ℕ) (user : ℕ) (execute : Bool) (old new : Option (List ℕ))
    : Type 0 where
  pub half : IsHalfDeleted v d n name old new
  pub allowed : deletion_end v.files half.deletes.dir name user execute ≡ arrives n

-- a deletion that a fault ended: nothing has changed, or the file is removed, and the user was allowed to delete it
pub data DeletionStops (v : DiskVolume) (d : ℕ) (name : List ℕ) (user : ℕ) (execute : Bool) (old new : Option (List ℕ))
    : Type 0 where
  as_before : new ≡ old → DeletionStops v d name user execute old new
  lost_now : {n : ℕ} → LeavesLost v d n name user execute old new → DeletionStops v d name user execute old new

-- the answer of a deletion with this end, if no fault of the drive ended it before
abbrev pub AnswersDeletion : WalkEnd → Result (Unit {0}) DirError → Type 0
AnswersDeletion end (Ok done) = (n : ℕ) × (end ≡ arrives n)
AnswersDeletion end (Err NotAllowed) = end ≡ not_allowed
AnswersDeletion end (Err BadPath) = ⊥
AnswersDeletion end (Err NotFound) = end ≡ not_found
AnswersDeletion end (Err Exists) = ⊥
AnswersDeletion end (Err (File (Device n))) = Unit
AnswersDeletion end (Err (File NoCluster)) = ⊥
AnswersDeletion end (Err (File TooManyRuns)) = ⊥

-- the greatest number of drive calls of a deletion: those of the search for the entry, and if the file is removed, a
-- read and a write of the entry's sector, and one for each sector of the map that has a mark of the file's clusters
abbrev pub deletion_total : DiskVolume → DiskFile → List ℕ → ℕ → Bool → ℕ
deletion_total v dir name user execute =
    deletion_calls dir name user execute
    + calls_on (deletion_end v.files dir name user execute)
    (λ n. 2 + marking_sectors (shape v) (in_file (shape v) n (v.files n)))
