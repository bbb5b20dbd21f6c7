-- The rules of a well formed volume, each with the sector at which a breach of it is reported.
use Rattle.std.specs.Prelude.{◌≡◌, ◌≢◌, ◌⊎◌, ℕ, ◌*◌, ◌/◌, ◌<◌, ◌≤◌, true, false, List, slice_get, Some, Contains}
use Rattle.rbf_model.specs.Fields.{size_field, segments_field, directory_entry, descriptor_field}
use Rattle.rbf_model.specs.Geometry.{HasMap, HasHeader, IsNumber, is_within}
use Rattle.rbf_model.specs.Disk.{Disk, image_disk}
use Rattle.rbf_model.specs.File.{file_at, is_directory, is_directory_size, has_room}
use Rattle.rbf_model.specs.Space.{is_marked, owned, owns, has_cluster}
use Rattle.rbf_model.specs.Tree.{HasEntry, Links, HasDots, HasEntryNames, HasDifferentNames}
use Rattle.rbf_model.specs.Search.{searchable_bytes, IsReachedOn}

-- a breach of a rule, by its number, at a sector
pub data Breaks (disk : Disk) : ℕ → ℕ → Type 0 where
  -- rule 1: a used entry, even one of the first two, names a descriptor of the volume
  bad_number : {d i : ℕ} → IsReachedOn disk d → HasEntry (searchable_bytes disk d) i
      → ¬ IsNumber disk.geometry (descriptor_field (directory_entry (searchable_bytes disk d) i)) → Breaks disk 1 d
  -- rule 1: a segment is within the volume
  bad_segment : {n : ℕ} {segment : ℕ × ℕ} → IsReachedOn disk n → Contains (segments_field (disk.sectors n)) segment
      → is_within disk.geometry segment ≡ false → Breaks disk 1 n
  -- rule 2: the map has a bit for each cluster and ends within the volume
  bad_map : ¬ HasMap disk.geometry → Breaks disk 2 1
  -- rule 3: the cluster of every used sector is marked
  unmarked : {n s : ℕ} → IsReachedOn disk n → owns disk.geometry n (file_at disk.sectors n) s ≡ true
      → is_marked disk.sectors (s / disk.geometry.cluster) ≡ false → Breaks disk 3 s
  -- rule 4: no sector is used twice by its owner
  used_twice : {n i j s : ℕ} → IsReachedOn disk n → i < j
      → slice_get (owned disk.geometry n (file_at disk.sectors n)) i ≡ Some s
      → slice_get (owned disk.geometry n (file_at disk.sectors n)) j ≡ Some s → Breaks disk 4 s
  -- rule 4: no cluster has two owners; the first of its sectors is reported
  shared : {n m s : ℕ} (c : ℕ) → IsReachedOn disk n → IsReachedOn disk m → n ≢ m
      → has_cluster disk.geometry n (file_at disk.sectors n) c ≡ true
      → has_cluster disk.geometry m (file_at disk.sectors m) c ≡ true → s ≡ c * disk.geometry.cluster → Breaks disk 4 s
  -- rule 5: the segments hold the size
  no_room : {n : ℕ} → IsReachedOn disk n
      → has_room (segments_field (disk.sectors n)) (size_field (disk.sectors n)) ≡ false → Breaks disk 5 n
  -- rule 6: the root is a directory
  no_root : is_directory (file_at disk.sectors disk.geometry.root) ≡ false → Breaks disk 6 disk.geometry.root
  -- rule 6: a directory has whole entries, at least two
  bad_size : {n : ℕ} → IsReachedOn disk n → is_directory (file_at disk.sectors n) ≡ true
      → is_directory_size (size_field (disk.sectors n)) ≡ false → Breaks disk 6 n
  -- rule 7: a directory begins with itself and its parent
  no_dots : {n : ℕ} → IsReachedOn disk n → is_directory (file_at disk.sectors n) ≡ true
      → ¬ HasDots disk.geometry (searchable_bytes disk) n → Breaks disk 7 n
  -- rule 8: every other used entry has a proper name
  bad_name : {d : ℕ} → IsReachedOn disk d → ¬ HasEntryNames (searchable_bytes disk d) → Breaks disk 8 d
  -- rule 8: no two of them have the same name
  same_name : {d : ℕ} → IsReachedOn disk d → ¬ HasDifferentNames (searchable_bytes disk d) → Breaks disk 8 d
  -- rule 9: a reached descriptor is named once, and the root's never
  named_twice : {d e i j n : ℕ} → IsNumber disk.geometry n → Links disk.geometry (searchable_bytes disk) d i n
      → Links disk.geometry (searchable_bytes disk) e j n → ¬ ((d ≡ e) × (i ≡ j)) → Breaks disk 9 n
  named_root : {d i : ℕ} → Links disk.geometry (searchable_bytes disk) d i disk.geometry.root
      → Breaks disk 9 disk.geometry.root

-- a breach of a rule by an image; if the first line of rule 1 fails, no other is tested
pub data ImageBreaks (image : List ℕ) : ℕ → ℕ → Type 0 where
  bad_header : ¬ HasHeader image → ImageBreaks image 1 0
  breaks : {rule lsn : ℕ} → HasHeader image → Breaks (image_disk image) rule lsn → ImageBreaks image rule lsn

-- the fault of an image: the breach of the least broken rule, at the least sector
pub record IsFault (image : List ℕ) (rule lsn : ℕ) : Type 0 where
  pub broken : ImageBreaks image rule lsn
  pub least : (other at : ℕ) → ImageBreaks image other at → (rule < other) ⊎ ((rule ≡ other) × (lsn ≤ at))
