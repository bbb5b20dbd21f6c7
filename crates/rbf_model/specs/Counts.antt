-- The numbers of files and directories of a volume.
use Rattle.std.specs.Prelude.{ℕ, not, false, count_by}
use Rattle.std.specs.Option.{option_map_or}
use Rattle.rbf_model.specs.Geometry.{Geometry}
use Rattle.rbf_model.specs.File.{is_directory}
use Rattle.rbf_model.specs.Volume.{DiskVolume, file_numbers}

-- the files that are not directories
abbrev pub file_count : Geometry → DiskVolume → ℕ
file_count g v =
    count_by (λ n. option_map_or (λ file. not (is_directory file)) (v.files n) false) (file_numbers g v)

-- and the directories, including the root
abbrev pub directory_count : Geometry → DiskVolume → ℕ
directory_count g v =
    count_by (λ n. option_map_or is_directory (v.files n) false) (file_numbers g v)
