-- The volume that an image represents.
use Rattle.std.specs.Prelude.{◌≡◌, ◌↔◌, ℕ, ◌*◌, ◌&&◌, Bool, true, false, not, List, [], length, drop, filter, Option, Some, None, IsSome, is_some, if◌then◌else◌}
use Rattle.std.specs.List.{range_with_len, list_all}
use Rattle.rbf_model.specs.Fields.{size_field}
use Rattle.rbf_model.specs.Geometry.{Geometry, image_geometry, IsGeometry, IsNumber, HasHeader}
use Rattle.rbf_model.specs.Disk.{Disk, image_disk, IsDisk}
use Rattle.rbf_model.specs.File.{DiskFile, file_at, is_directory, is_directory_size, has_room}
use Rattle.rbf_model.specs.Space.{IsMapped, is_marked, is_whole, has_cluster, cluster_count}
use Rattle.rbf_model.specs.Tree.{EntryNames, ReachedFile, HasDots, HasEntryNames, HasDifferentNames}

-- a volume: the bytes of sector 0, the file of each descriptor number, whether each cluster is lost, and the bytes past
-- the total
pub record DiskVolume : Type 0 where
  pub ident : List ℕ
  pub files : ℕ → Option DiskFile
  pub lost : ℕ → Bool
  pub rest : List ℕ

-- the bytes of a directory of the volume, and no bytes for another file
abbrev pub listing : Option DiskFile → List ℕ
listing None = []
listing (Some file) = if is_directory file then file.contents else []

-- the bytes of each directory
abbrev pub directories : (ℕ → Option DiskFile) → ℕ → List ℕ
directories files n = listing (files n)

-- each file is the one that its descriptor represents, and its segments hold its size
pub record Shows (sectors : ℕ → List ℕ) (v : DiskVolume) : Type 0 where
  pub ident : v.ident ≡ sectors 0
  pub shown : (n : ℕ) (file : DiskFile) → v.files n ≡ Some file → file ≡ file_at sectors n
  pub room : (n : ℕ) (file : DiskFile) → v.files n ≡ Some file → has_room file.segments (size_field (sectors n)) ≡ true

-- The rules on directories, for the files of a volume: the files are those that are reached from the root, each by one
-- entry, and the directories are in order.
pub record IsTree (g : Geometry) (files : ℕ → Option DiskFile) : Type 0 where
  -- the files are the reached ones
  pub reached : (n : ℕ) → IsSome (files n) ↔ ReachedFile g (directories files) n
  -- rule 6
  pub root : (file : DiskFile) → files g.root ≡ Some file → is_directory file ≡ true
  pub sizes : (n : ℕ) (file : DiskFile) → files n ≡ Some file → is_directory file ≡ true
      → is_directory_size (length file.contents) ≡ true
  -- rule 1
  pub numbers : (d i n : ℕ) → EntryNames (directories files d) i n → IsNumber g n
  -- rule 7
  pub dots : (n : ℕ) (file : DiskFile) → files n ≡ Some file → is_directory file ≡ true
      → HasDots g (directories files) n
  -- rule 8
  pub names : (n : ℕ) → HasEntryNames (directories files n)
  pub different : (n : ℕ) → HasDifferentNames (directories files n)
  -- rule 9
  pub once : (d e i j n : ℕ) → EntryNames (directories files d) i n → EntryNames (directories files e) j n
      → (d ≡ e) × (i ≡ j)
  pub root_free : (d i : ℕ) → EntryNames (directories files d) i g.root → ⊥

-- a disk represents a volume
pub record Sound (disk : Disk) (v : DiskVolume) : Type 0 where
  -- the first line of rule 1, and rule 2
  pub shape : IsGeometry disk.geometry
  pub sectors : IsDisk disk
  -- rule 5, and the bytes of the files
  pub shows : Shows disk.sectors v
  pub mapped : IsMapped disk.geometry (is_marked disk.sectors) v.files v.lost
  pub tree : IsTree disk.geometry v.files

-- an image represents a volume; an image for which there is one is well formed
pub record Vol (image : List ℕ) (v : DiskVolume) : Type 0 where
  pub header : HasHeader image
  pub sound : Sound (image_disk image) v
  pub rest : v.rest ≡ drop (256 * (image_geometry image).total) image

-- the cluster is one of the file's, if there is a file
abbrev pub in_file : Geometry → ℕ → Option DiskFile → ℕ → Bool
in_file g n None c = false
in_file g n (Some file) c = has_cluster g n file c

-- a cluster is free if it is whole, is not lost, and is in no file; the root's file has the system's clusters
unfoldable pub is_free : Geometry → DiskVolume → ℕ → Bool
is_free g v c =
    is_whole g c && not (v.lost c) && list_all (λ n. not (in_file g n (v.files n) c)) (range_with_len 0 g.total)

-- the descriptor numbers of the files, by rising number
abbrev pub file_numbers : Geometry → DiskVolume → List ℕ
file_numbers g v = filter (λ n. is_some (v.files n)) (range_with_len 0 g.total)

-- the free and the lost clusters, by rising number
abbrev pub free_clusters : Geometry → DiskVolume → List ℕ
free_clusters g v = filter (is_free g v) (range_with_len 0 (cluster_count g))

abbrev pub lost_clusters : Geometry → DiskVolume → List ℕ
lost_clusters g v = filter v.lost (range_with_len 0 (cluster_count g))
