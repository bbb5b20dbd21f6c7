-- When a tool is refused, and with which number (System Programmer's Manual, error codes). The user is always user 0.
use Rattle.std.specs.Prelude.{ℕ, ◌&&◌, not, false, Bool, Option, Some, None, List, [], length, option_map, if◌then◌else◌}
use Rattle.os9_base.specs.declared.errors.TheConstants.{E_FNA, E_BPNAM, E_PNNF, E_CEF, E_FULL, E_SLF}
use Rattle.rbf_model.specs.File.{DiskFile, is_directory}
use Rattle.rbf_model.specs.Volume.{DiskVolume}
use Rattle.rbf_model.specs.Walk.{WalkEnd, arrives, not_allowed, not_found, walk, file_permits}
use Rattle.rbf_change.specs.Calls.{shape, cluster_size, free_total}
use Rattle.rbf_change.specs.Names.{is_dots, deletion_end}
use Rattle.rbf_change.specs.NewFiles.{NewEntryRefusal, bad_path, not_allowed as new_not_allowed, exists, no_cluster, too_many_runs, entry_refusal}
use Rattle.vol_tools.specs.Path.{Place, place_of, path_names, directory_names}

-- the end of a walk from the root along names
abbrev pub way_end : DiskVolume → List (List ℕ) → WalkEnd
way_end v names = walk v.files 0 false (shape v).root names

-- the number with which a walk ends, or the result of `next` if it arrives
abbrev pub on_arrival : WalkEnd → (ℕ → Option ℕ) → Option ℕ
on_arrival (arrives n) next = next n
on_arrival not_allowed next = Some E_FNA
on_arrival not_found next = Some E_PNNF

abbrev pub refusal_number : NewEntryRefusal → ℕ
refusal_number bad_path = E_BPNAM
refusal_number new_not_allowed = E_FNA
refusal_number exists = E_CEF
refusal_number no_cluster = E_FULL
refusal_number too_many_runs = E_SLF

-- the number with which a new file of a size, by a name in directory d, is refused
abbrev pub entering_number : DiskVolume → List ℕ → ℕ → Option DiskFile → Option ℕ
entering_number v name size None = Some E_PNNF
entering_number v name size (Some dir) =
    option_map refusal_number (entry_refusal (cluster_size v) (free_total v) dir name 0 false size)

abbrev pub making_number : DiskVolume → ℕ → Option Place → Option ℕ
making_number v size None = Some E_BPNAM
making_number v size (Some place) =
    if is_dots place.name then Some E_BPNAM
    else on_arrival (way_end v place.way) (λ d. entering_number v place.name size (v.files d))

-- the same for the creation of a file, and of a directory, by a path
abbrev pub create_number : DiskVolume → List ℕ → Option ℕ
create_number v path = making_number v 0 (place_of path)

abbrev pub make_dir_number : DiskVolume → List ℕ → Option ℕ
make_dir_number v path = making_number v 64 (place_of path)

-- the same for a deletion of a file
abbrev pub deleting_number : DiskVolume → List ℕ → Option DiskFile → Option ℕ
deleting_number v name None = Some E_PNNF
deleting_number v name (Some dir) = on_arrival (deletion_end v.files dir name 0 false) (λ n. None)

abbrev pub removing_number : DiskVolume → Option Place → Option ℕ
removing_number v None = Some E_BPNAM
removing_number v (Some place) =
    on_arrival (way_end v place.way) (λ d. deleting_number v place.name (v.files d))

abbrev pub remove_number : DiskVolume → List ℕ → Option ℕ
remove_number v path = removing_number v (place_of path)

-- the same for a read of a file, or of a directory
abbrev pub opening_number : (DiskFile → Bool) → Option DiskFile → Option ℕ
opening_number kind None = Some E_PNNF
opening_number kind (Some file) = if kind file && file_permits file 0 1 then None else Some E_FNA

abbrev pub reading_number : DiskVolume → (DiskFile → Bool) → Option (List (List ℕ)) → Option ℕ
reading_number v kind None = Some E_BPNAM
reading_number v kind (Some names) = on_arrival (way_end v names) (λ n. opening_number kind (v.files n))

abbrev pub get_number : DiskVolume → List ℕ → Option ℕ
get_number v path = reading_number v (λ file. not (is_directory file)) (path_names path)

abbrev pub list_number : DiskVolume → List ℕ → Option ℕ
list_number v path = reading_number v is_directory (directory_names path)
