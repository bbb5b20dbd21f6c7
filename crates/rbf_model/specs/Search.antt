-- The files that are reached on a disk from its root, and their volume.
use Rattle.std.specs.Prelude.{◌≡◌, ◌↔◌, ℕ, ◌*◌, ◌&&◌, Bool, true, not, List, [], drop, Some, None, if◌then◌else◌}
use Rattle.std.specs.List.{list_any, list_all}
use Rattle.rbf_model.specs.Fields.{size_field, segments_field}
use Rattle.rbf_model.specs.Geometry.{is_within}
use Rattle.rbf_model.specs.Disk.{Disk, image_disk}
use Rattle.rbf_model.specs.Segments.{has}
use Rattle.rbf_model.specs.File.{file_at, is_directory, is_directory_size, has_room}
use Rattle.rbf_model.specs.Space.{is_whole, is_marked, has_cluster}
use Rattle.rbf_model.specs.Tree.{ReachedFile}
use Rattle.rbf_model.specs.Volume.{DiskVolume}

-- a searchable directory: its segments are within the volume and hold its size, which is a directory's
abbrev pub is_searchable : Disk → ℕ → Bool
is_searchable disk n =
    is_directory (file_at disk.sectors n) && list_all (is_within disk.geometry) (segments_field (disk.sectors n))
    && has_room (segments_field (disk.sectors n)) (size_field (disk.sectors n))
    && is_directory_size (size_field (disk.sectors n))

-- the bytes of each searchable directory; any other directory has no entries for any rule
abbrev pub searchable_bytes : Disk → ℕ → List ℕ
searchable_bytes disk n = if is_searchable disk n then (file_at disk.sectors n).contents else []

-- the descriptors that are reached on a disk
abbrev pub IsReachedOn : Disk → ℕ → Type 0
IsReachedOn disk n = ReachedFile disk.geometry (searchable_bytes disk) n

-- the list has the reached descriptors, and no others
abbrev pub IsListOfReached : Disk → List ℕ → Type 0
IsListOfReached disk found = (n : ℕ) → (has found n ≡ true) ↔ IsReachedOn disk n

-- the volume of a disk with these reached descriptors, and with these bytes past the total
abbrev pub volume_of : Disk → List ℕ → List ℕ → DiskVolume
volume_of disk found rest = record {
  ident = disk.sectors 0;
  files = λ n. if has found n then Some (file_at disk.sectors n) else None;
  lost = λ c. is_whole disk.geometry c && is_marked disk.sectors c
      && not (list_any (λ n. has_cluster disk.geometry n (file_at disk.sectors n) c) found);
  rest = rest;
}

-- the volume of an image with these reached descriptors
abbrev pub image_volume : List ℕ → List ℕ → DiskVolume
image_volume image numbers =
    volume_of (image_disk image) numbers (drop (256 * (image_disk image).geometry.total) image)
