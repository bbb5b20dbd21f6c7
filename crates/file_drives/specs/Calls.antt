-- The greatest number of calls of its drive that a change of a volume makes.
use Rattle.std.specs.Prelude.{ℕ, ◌+◌, min, Option, Some, None, Result, Ok, Err}
use Rattle.rbf_model.specs.File.{DiskFile}
use Rattle.rbf_model.specs.Geometry.{map_sectors}
use Rattle.rbf_model.specs.Volume.{DiskVolume, in_file}
use Rattle.rbf_change.specs.Calls.{shape, cluster_size}
use Rattle.rbf_change.specs.NewFiles.{file_clusters}
use Rattle.rbf_access.specs.MapMarks.{marking_sectors}
use Rattle.rbf_access.specs.declared.faults.FileFault.{FileFault}
use Rattle.rbf_access.specs.declared.faults.FileFault.TheVariants.{Device, NoCluster, TooManyRuns}
use Rattle.rbf_entries.specs.Entering.{entering_calls}
use Rattle.rbf_alloc.specs.Grown.{is_gained}
use Rattle.rbf_walk.specs.declared.error.DirError.{DirError}
use Rattle.rbf_write.specs.Outcomes.{write_calls}
use Rattle.rbf_write.specs.Sizes.{Sizing, size_calls}
use Rattle.file_rules.specs.MakDir.{new_directory_size}

-- at most one if the change is refused
abbrev pub calls_unless_refused : Result (Unit {0}) FileFault → ℕ → ℕ
calls_unless_refused (Ok done) most = most
calls_unless_refused (Err (Device number)) most = most
calls_unless_refused (Err NoCluster) most = 1
calls_unless_refused (Err TooManyRuns) most = 1

-- the number of sectors of the map with a mark of a cluster that a file has gained; if the call has failed, the number
-- of sectors of the map
abbrev pub marks_made : Result (Unit {0}) FileFault → DiskVolume → DiskFile → Option DiskFile → ℕ
marks_made (Ok done) v file None = 0
marks_made (Ok done) v file (Some new) =
    marking_sectors (shape v) (is_gained (cluster_size v) file.segments new.segments)
marks_made (Err fault) v file new = map_sectors (shape v)

-- a write of `count` bytes to file n from place `at` on
abbrev pub writing_calls : ℕ → ℕ → ℕ → Result (Unit {0}) FileFault → DiskVolume → DiskFile → DiskVolume → ℕ
writing_calls n at count result v file left =
    calls_unless_refused result (write_calls v file (marks_made result v file (left.files n)) at count)

-- a change of the size of a file
abbrev pub sizing_calls : Sizing → Result (Unit {0}) FileFault → DiskVolume → DiskFile → DiskVolume → ℕ
sizing_calls sizing result v file left =
    calls_unless_refused result (size_calls v file (marks_made result v file (left.files sizing.number)) sizing)

-- a new directory: one for each of its two sectors, and one for each sector of the map that has a mark of its clusters,
-- but at most one for each cluster that it takes; after a fault one for each cluster
abbrev pub directory_calls : Result ℕ DirError → DiskVolume → DiskVolume → ℕ
directory_calls (Ok n) v left =
    min (file_clusters (cluster_size v) new_directory_size)
    (marking_sectors (shape v) (in_file (shape v) n (left.files n))) + 2
directory_calls (Err error) v left = file_clusters (cluster_size v) new_directory_size + 2

-- the directory and its entry
abbrev pub making_calls : Result ℕ DirError → DiskVolume → DiskFile → DiskVolume → ℕ
making_calls answer v dir left = entering_calls v dir (directory_calls answer v left) answer

-- a deletion of file n: a read and a write of its entry's sector, and one for each sector of the map that has a mark of
-- the file's clusters
abbrev pub deleting_calls : ℕ → DiskVolume → DiskFile → DiskVolume → ℕ
deleting_calls n v dir left = 2 + marking_sectors (shape v) (in_file (shape v) n (v.files n))
