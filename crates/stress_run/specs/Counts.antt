-- What `stress` counts (this project's own).
use Rattle.std.specs.Prelude.{ℕ, length, map, sum, if◌then◌else◌}
use Rattle.std.specs.Option.{option_map_or}
use Rattle.os9_words.specs.declared.stress_counts.StressCounts.{StressCounts}
use Rattle.rbf_model.specs.Counts.{file_count}
use Rattle.rbf_model.specs.File.{DiskFile, is_directory}
use Rattle.rbf_model.specs.Geometry.{Geometry, geometry}
use Rattle.rbf_model.specs.Volume.{DiskVolume, file_numbers, free_clusters, lost_clusters}

-- the size of a file that is not a directory
abbrev pub data_size : DiskFile → ℕ
data_size file = if is_directory file then 0 else length file.contents

-- the sum of the sizes of all files that are not directories
abbrev pub file_bytes : Geometry → DiskVolume → ℕ
file_bytes g v = sum (map (λ n. option_map_or data_size (v.files n) 0) (file_numbers g v))

-- a number of slices, and what a volume has: the files that are not directories, the sum of their sizes, and the free
-- and the lost clusters
abbrev pub counts_with : ℕ → DiskVolume → StressCounts
counts_with slices v = record {
  slices = slices;
  files = file_count (geometry v.ident) v;
  bytes = file_bytes (geometry v.ident) v;
  free = length (free_clusters (geometry v.ident) v);
  lost = length (lost_clusters (geometry v.ident) v);
}
