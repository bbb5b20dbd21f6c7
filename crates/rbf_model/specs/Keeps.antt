-- The nine rules of a well formed volume in positive form: a disk on which none of them is broken.
use Rattle.std.specs.Prelude.{◌≡◌, ℕ, ◌/◌, true}
use Rattle.rbf_model.specs.Fields.{size_field, segments_field, directory_entry, descriptor_field}
use Rattle.rbf_model.specs.Geometry.{LieWithin, HasMap, IsNumber}
use Rattle.rbf_model.specs.Disk.{Disk}
use Rattle.rbf_model.specs.Segments.{AreDistinct}
use Rattle.rbf_model.specs.File.{file_at, is_directory, is_directory_size, has_room}
use Rattle.rbf_model.specs.Space.{is_marked, owned, owns, has_cluster}
use Rattle.rbf_model.specs.Tree.{HasEntry, Links, HasDots, HasEntryNames, HasDifferentNames}
use Rattle.rbf_model.specs.Search.{searchable_bytes, IsReachedOn}

pub record Keeps (disk : Disk) : Type 0 where
  -- rule 1
  pub numbers : (d i : ℕ) → IsReachedOn disk d → HasEntry (searchable_bytes disk d) i
      → IsNumber disk.geometry (descriptor_field (directory_entry (searchable_bytes disk d) i))
  pub segments : (n : ℕ) → IsReachedOn disk n → LieWithin disk.geometry (segments_field (disk.sectors n))
  -- rule 2
  pub map : HasMap disk.geometry
  -- rule 3
  pub marks : (n s : ℕ) → IsReachedOn disk n → owns disk.geometry n (file_at disk.sectors n) s ≡ true
      → is_marked disk.sectors (s / disk.geometry.cluster) ≡ true
  -- rule 4
  pub once : (n : ℕ) → IsReachedOn disk n → AreDistinct (owned disk.geometry n (file_at disk.sectors n))
  pub apart : (n m c : ℕ) → IsReachedOn disk n → IsReachedOn disk m
      → has_cluster disk.geometry n (file_at disk.sectors n) c ≡ true
      → has_cluster disk.geometry m (file_at disk.sectors m) c ≡ true → n ≡ m
  -- rule 5
  pub room : (n : ℕ) → IsReachedOn disk n
      → has_room (segments_field (disk.sectors n)) (size_field (disk.sectors n)) ≡ true
  -- rule 6
  pub root : is_directory (file_at disk.sectors disk.geometry.root) ≡ true
  pub sizes : (n : ℕ) → IsReachedOn disk n → is_directory (file_at disk.sectors n) ≡ true
      → is_directory_size (size_field (disk.sectors n)) ≡ true
  -- rule 7
  pub dots : (n : ℕ) → IsReachedOn disk n → is_directory (file_at disk.sectors n) ≡ true
      → HasDots disk.geometry (searchable_bytes disk) n
  -- rule 8
  pub names : (d : ℕ) → IsReachedOn disk d → HasEntryNames (searchable_bytes disk d)
  pub different : (d : ℕ) → IsReachedOn disk d → HasDifferentNames (searchable_bytes disk d)
  -- rule 9
  pub named_once : (d e i j n : ℕ) → Links disk.geometry (searchable_bytes disk) d i n
      → Links disk.geometry (searchable_bytes disk) e j n → (d ≡ e) × (i ≡ j)
  pub root_free : (d i : ℕ) → Links disk.geometry (searchable_bytes disk) d i disk.geometry.root → ⊥
