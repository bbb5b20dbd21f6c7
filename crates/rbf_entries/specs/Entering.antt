-- A new file that a user enters into a directory by a name: the answers of such a call, and what it leaves.
use Rattle.std.specs.Prelude.{◌≡◌, ◌≢◌, ◌⊎◌, ℕ, ◌+◌, ◌*◌, ◌%◌, ◌||◌, nat_lt, Bool, true, false, Option, Some, None, List, ◌∷◌, length, take, Result, Ok, Err, if◌then◌else◌}
use Rattle.rbf_model.specs.File.{DiskFile, file_at}
use Rattle.rbf_model.specs.Geometry.{image_geometry, sector}
use Rattle.rbf_model.specs.Laws.{IsMapSector}
use Rattle.rbf_model.specs.Segments.{has, sectors_of}
use Rattle.rbf_model.specs.Space.{has_cluster}
use Rattle.rbf_model.specs.Volume.{DiskVolume, Vol}
use Rattle.rbf_model.specs.Writes.{put_at}
use Rattle.rbf_change.specs.Calls.{shape, cluster_size, free_total}
use Rattle.rbf_change.specs.Contents.{sector_count}
use Rattle.rbf_change.specs.Faults.{EntryEnds}
use Rattle.rbf_change.specs.Names.{new_entry, entry_place, is_dots}
use Rattle.rbf_change.specs.NewFiles.{Plan, EntersNewFile, NewEntryRefusal, bad_path, not_allowed, exists, no_cluster, too_many_runs, entry_refusal, entry_clusters}
use Rattle.rbf_change.specs.Tidy.{IsNewList, KeepsListEnd, KeepsMapEnd}
use Rattle.rbf_access.specs.declared.faults.FileFault.{FileFault}
use Rattle.rbf_access.specs.declared.faults.FileFault.TheVariants.{Device, NoCluster, TooManyRuns}
use Rattle.rbf_walk.specs.declared.error.DirError.{DirError}
use Rattle.rbf_walk.specs.declared.error.DirError.TheVariants.{NotAllowed, BadPath, NotFound, Exists, File}
use Rattle.rbf_entries.specs.NewEntry.{sector_of_place, IsAfterMarks, IsUncountedEntry}

-- the written sectors of a new file n: its descriptor, and the sectors of its contents
abbrev pub written_sectors : ℕ → DiskFile → List ℕ
written_sectors n file = n ∷ take (sector_count (length file.contents)) (sectors_of file.segments)

-- a user's request: a file of this plan, which may depend on the file's number, by a name in a directory
pub record Entering : Type 0 where
  pub directory : ℕ
  pub name : List ℕ
  pub user : ℕ
  pub execute : Bool
  pub plan : ℕ → Plan

-- whether the volume refuses it, and why
abbrev pub refusal_of : DiskVolume → DiskFile → Entering → Option NewEntryRefusal
refusal_of v dir e =
    entry_refusal (cluster_size v) (free_total v) dir e.name e.user e.execute (length (e.plan 0).contents)

-- the file has been entered
pub record IsEnteredOn (v : DiskVolume) (dir : DiskFile) (e : Entering) (old new : Option (List ℕ)) (n : ℕ)
    : Type 0 where
  pub allowed : refusal_of v dir e ≡ None
  pub image : List ℕ
  pub now : List ℕ
  pub was : old ≡ Some image
  pub is : new ≡ Some now
  pub after : DiskVolume
  pub vol : Vol now after
  pub enters : EntersNewFile v after e.directory n e.name (e.plan n)
  -- the sector of the entry has the entry's 32 bytes, and its other bytes are unchanged
  pub filled : sector now (sector_of_place enters.both.new.segments (entry_place dir.contents))
      ≡ put_at (sector image (sector_of_place enters.both.new.segments (entry_place dir.contents)))
      (32 * (entry_place dir.contents % 8)) (new_entry e.name n)
  -- all other sectors are unchanged, except those of the map and of the new file, and the directory's descriptor
  pub others : (s : ℕ) → ¬ IsMapSector (image_geometry image) s → has (written_sectors n enters.both.file) s ≡ false
      → s ≢ e.directory → s ≢ sector_of_place enters.both.new.segments (entry_place dir.contents)
      → sector now s ≡ sector image s
  -- the bytes after the lists of both descriptors, and the marks after the whole clusters
  pub list : IsNewList (sector now n)
  pub kept_list : KeepsListEnd (sector image e.directory) (sector now e.directory)
  pub end : KeepsMapEnd image now (λ _. false)

-- a new file n is on the media, and all clusters that it and its directory take were marked before: they are lost in
-- the volume that is left
pub record IsFileOnMedia (v left : DiskVolume) (now : List ℕ) (n : ℕ) (file : DiskFile) (gained : List ℕ) : Type 0 where
  pub shown : file_at (sector now) n ≡ file
  pub marked : (c : ℕ) → (has_cluster (shape v) n file c || has gained c) ≡ true → left.lost c ≡ true

-- a fault occurred after a new file and its directory, which are not refused, began to take clusters: the tree is
-- unchanged, and the clusters may be lost
pub record EnteringTook (v : DiskVolume) (dir : DiskFile) (e : Entering) (old new : Option (List ℕ)) : Type 0 where
  pub allowed : refusal_of v dir e ≡ None
  pub image : List ℕ
  pub now : List ℕ
  pub was : old ≡ Some image
  pub is : new ≡ Some now
  pub left : DiskVolume
  pub vol : Vol now left
  pub number : ℕ
  pub ends : EntryEnds v left e.directory number e.name (e.plan number)
  -- only sectors of the map and of the file, and the sector of the entry, have changed
  pub others : (s : ℕ) → ¬ IsMapSector (image_geometry image) s → has (written_sectors number ends.both.file) s ≡ false
      → s ≢ sector_of_place ends.both.new.segments (entry_place dir.contents) → sector now s ≡ sector image s
  -- the file's sectors are written after the marks of its clusters
  pub marks : (s : ℕ) → has (written_sectors number ends.both.file) s ≡ true
      → IsAfterMarks image now s left (has_cluster (shape v) number ends.both.file)
  -- its descriptor is written after its contents
  pub descriptor : (sector now number ≡ sector image number) ⊎ (file_at (sector now) number ≡ ends.both.file)
  -- a cluster that the directory gains is marked after its descriptor has been written
  pub growth : (c : ℕ) → has ends.both.entry.gained c ≡ true → left.lost c ≡ true
      → file_at (sector now) number ≡ ends.both.file
  -- the entry's sector is unchanged, or it was written after the file that it names and after all marks
  pub entry : (sector now (sector_of_place ends.both.new.segments (entry_place dir.contents))
      ≡ sector image (sector_of_place ends.both.new.segments (entry_place dir.contents)))
      ⊎ (IsUncountedEntry image now dir (sector_of_place ends.both.new.segments (entry_place dir.contents))
      (entry_place dir.contents) (new_entry e.name number)
      × IsFileOnMedia v left now number ends.both.file ends.both.entry.gained)
  pub end : KeepsMapEnd image now (λ _. false)

-- a fault occurred before the entry was in the directory
pub data EnteringStops (v : DiskVolume) (dir : DiskFile) (e : Entering) (old new : Option (List ℕ)) : Type 0 where
  unchanged : new ≡ old → EnteringStops v dir e old new
  took : EnteringTook v dir e old new → EnteringStops v dir e old new

-- the request was refused, and the media is unchanged
pub record EnteringIsRefused (v : DiskVolume) (dir : DiskFile) (e : Entering) (reason : NewEntryRefusal)
    (old new : Option (List ℕ)) : Type 0 where
  pub because : refusal_of v dir e ≡ Some reason
  pub media_kept : new ≡ old

-- each answer with its cause and what it leaves; the answer for an entered file is its number
abbrev pub AnswersEntering : DiskVolume → DiskFile → Entering → Option (List ℕ) → Option (List ℕ)
    → Result ℕ DirError → Type 0
AnswersEntering v dir e old new (Ok n) = IsEnteredOn v dir e old new n
AnswersEntering v dir e old new (Err NotAllowed) = EnteringIsRefused v dir e not_allowed old new
AnswersEntering v dir e old new (Err BadPath) = EnteringIsRefused v dir e bad_path old new
AnswersEntering v dir e old new (Err NotFound) = ⊥
AnswersEntering v dir e old new (Err Exists) = EnteringIsRefused v dir e exists old new
AnswersEntering v dir e old new (Err (File (Device n))) =
    (is_dots e.name ≡ false) × EnteringStops v dir e old new
AnswersEntering v dir e old new (Err (File NoCluster)) = EnteringIsRefused v dir e no_cluster old new
AnswersEntering v dir e old new (Err (File TooManyRuns)) = EnteringIsRefused v dir e too_many_runs old new

-- the answer of a call on files, as the answer of a call on directories
abbrev pub widened : Result ℕ FileFault → Result ℕ DirError
widened (Ok n) = Ok n
widened (Err fault) = Err (File fault)

-- the greatest number of drive calls that write an entry: two for its sector in a free place; after the last entry, one
-- more for the directory's descriptor and one for a cluster that the directory gains
abbrev pub entry_calls : DiskVolume → DiskFile → ℕ
entry_calls v dir =
    if nat_lt (32 * entry_place dir.contents) (length dir.contents) then 2
    else (if nat_lt 0 (entry_clusters (cluster_size v) dir) then 4 else 3)

-- the greatest number that enter a file that itself needs `made` calls, once its place has been found: none if refused
abbrev pub entering_calls : DiskVolume → DiskFile → ℕ → Result ℕ DirError → ℕ
entering_calls v dir made (Ok n) = made + entry_calls v dir
entering_calls v dir made (Err NotAllowed) = 0
entering_calls v dir made (Err BadPath) = 0
entering_calls v dir made (Err NotFound) = 0
entering_calls v dir made (Err Exists) = 0
entering_calls v dir made (Err (File (Device n))) = made + entry_calls v dir
entering_calls v dir made (Err (File NoCluster)) = 0
entering_calls v dir made (Err (File TooManyRuns)) = 0
