-- The answers of a write, and what each leaves.
use Rattle.std.specs.Prelude.{◌≡◌, ℕ, ◌+◌, ◌*◌, ◌<◌, ◌≤◌, ◌==◌, nat_lt, min, Option, List, [], length, Result, Ok, Err, if◌then◌else◌, IsNone}
use Rattle.rbf_model.specs.Geometry.{map_sectors}
use Rattle.rbf_model.specs.File.{DiskFile}
use Rattle.rbf_model.specs.Volume.{DiskVolume}
use Rattle.rbf_change.specs.Contents.{written, sector_span}
use Rattle.rbf_change.specs.Growth.{with_clusters, clusters_needed, IsChoice, IsOneTooMany}
use Rattle.rbf_change.specs.Calls.{shape, cluster_size, is_free_in, free_total, WritesFileAt}
use Rattle.rbf_change.specs.Faults.{WriteEnds}
use Rattle.rbf_access.specs.declared.faults.FileFault.{FileFault}
use Rattle.rbf_access.specs.declared.faults.FileFault.TheVariants.{Device, NoCluster, TooManyRuns}
use Rattle.rbf_access.specs.Faults.{file_fault}
use Rattle.rbf_access.specs.MapMarks.{marking_sectors}
use Rattle.rbf_access.specs.Mounted.{RepresentsVolume}
use Rattle.rbf_alloc.specs.Grown.{is_gained}
use Rattle.rbf_write.specs.Files.{OnVolumeFile}
use Rattle.rbf_write.specs.Laying.{Laying, laying_end, IsTidyChange, IsTidyStop}

-- the contents of a file after a write
abbrev pub contents_written : DiskFile → Laying → List ℕ
contents_written file write = written file.contents write.at write.bytes

-- the number of clusters that a write needs
abbrev pub write_needs : DiskVolume → DiskFile → Laying → ℕ
write_needs v file write = clusters_needed (cluster_size v) file.segments (length (contents_written file write))

-- all bytes have been written
pub record AreBytesWritten (v : DiskVolume) (old : DiskFile) (write : Laying) (before after : Option (List ℕ)) : Type 0
  where
    pub enough : write_needs v old write ≤ free_total v
    pub volume : DiskVolume
    pub on : RepresentsVolume after volume
    pub writes : WritesFileAt v volume write.number write.at write.bytes write.now
    pub tidy : IsTidyChange before after write.number writes.new.segments (laying_end write)
    pub nothing : write.bytes ≡ [] → after ≡ before

-- a fault has ended a write whose clusters had been chosen, so it would not have been refused: only the map, and
-- sectors of the file with those clusters, have changed
pub record WriteStops (v : DiskVolume) (write : Laying) (before after : Option (List ℕ)) : Type 0 where
  pub volume : DiskVolume
  pub on : RepresentsVolume after volume
  pub ends : WriteEnds v volume write.number write.at write.bytes
  pub choice : IsChoice (cluster_size v) (is_free_in v) ends.old.segments (length (contents_written ends.old write))
      ends.taken
  pub tidy : IsTidyStop before after write.number (with_clusters (cluster_size v) ends.old.segments ends.taken)
      (laying_end write)

-- a fault has ended a write of some bytes: nothing has changed, or its clusters had been chosen
pub data WriteIsEnded (v : DiskVolume) (write : Laying) (before after : Option (List ℕ)) : Type 0 where
  unchanged : 0 < length write.bytes → after ≡ before → WriteIsEnded v write before after
  stopped : WriteStops v write before after → WriteIsEnded v write before after

-- error 248: fewer clusters are free than the write needs
pub record WriteIsFull (v : DiskVolume) (old : DiskFile) (write : Laying) (before after : Option (List ℕ))
    : Type 0 where
  pub few : free_total v < write_needs v old write
  pub media_kept : after ≡ before

-- error 217: enough are free, and a chosen cluster does not fit the list of segments
pub record WriteIsTooLong (v : DiskVolume) (old : DiskFile) (write : Laying) (before after : Option (List ℕ))
    : Type 0 where
  pub enough : write_needs v old write ≤ free_total v
  pub chosen : List ℕ
  pub full : IsOneTooMany (cluster_size v) (is_free_in v) old.segments (length (contents_written old write)) chosen
  pub media_kept : after ≡ before

-- each answer of a write with its cause and what it leaves
abbrev pub AnswersWrite : DiskVolume → DiskFile → Laying → Option (List ℕ) → Option (List ℕ)
    → Result (Unit {0}) FileFault → Type 0
AnswersWrite v old write before after (Ok done) = AreBytesWritten v old write before after
AnswersWrite v old write before after (Err (Device n)) = WriteIsEnded v write before after
AnswersWrite v old write before after (Err NoCluster) = WriteIsFull v old write before after
AnswersWrite v old write before after (Err TooManyRuns) = WriteIsTooLong v old write before after

-- the result is not a fault of the drive
abbrev pub IsRefusal : Result (Unit {0}) FileFault → Type 0
IsRefusal result = IsNone (file_fault result)

-- the number of the map's sectors with a mark of a cluster that a call has gained for file n; if the call has failed,
-- the number of the map's sectors
abbrev pub AreMarked : DiskVolume → DiskFile → ℕ → Option (List ℕ) → Result (Unit {0}) FileFault → ℕ → Type 0
AreMarked v file n after (Ok done) marks =
    OnVolumeFile after n (λ w new.
    marks ≡ marking_sectors (shape v) (is_gained (cluster_size v) file.segments new.segments))
AreMarked v file n after (Err fault) marks = marks ≡ map_sectors (shape v)

-- a fact about a file of the volume before such a call, and that number
abbrev pub OnMarked : Option (List ℕ) → Option (List ℕ) → ℕ → Result (Unit {0}) FileFault
    → (DiskVolume → DiskFile → ℕ → Type 0) → Type 0
OnMarked before after n result fact =
    OnVolumeFile before n (λ v file. (marks : ℕ) → AreMarked v file n after result marks → fact v file marks)

-- the greatest number of drive calls of a write of bytes up to an end, after that of the descriptor: one for each
-- sector of the map that gains a mark, but at most the number of needed clusters; two for each sector of bytes; and one
-- for the descriptor, if the file's size changes
abbrev pub laying_calls : DiskVolume → DiskFile → ℕ → ℕ → ℕ → ℕ
laying_calls v file marks at end =
    min (clusters_needed (cluster_size v) file.segments end) marks + 2 * sector_span (min (length file.contents) at) end
    + (if nat_lt (length file.contents) end then 1 else 0)

-- the same for a complete write: one more, and none if there are no bytes
abbrev pub write_calls : DiskVolume → DiskFile → ℕ → ℕ → ℕ → ℕ
write_calls v file marks at count = if count == 0 then 0 else 1 + laying_calls v file marks at (at + count)
