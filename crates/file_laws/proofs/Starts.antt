-- What paths and directories of processes are on at the start, and where processes begin and end.
use Rattle.std.proofs.Common.{◌≡◌, ℕ, zero, suc, ◌-◌, ◌<◌, ◌≤◌, Bool, true, false, Option, Some, None, List, [], ◌∷◌, ◌++◌, codes, length, get_or, map, replicate, refl, sym, ap, ◌∙◌, subst, inl, inr, ◌⊎◌, arith}
use Rattle.std.specs.Prelude.{if◌then◌else◌, option_and_then, slice_get}
use Rattle.std.specs.List.{AllZip}
use Rattle.std.specs.Option.{option_map_or}
use Rattle.std.proofs.lemmas.Bool.{cases_eq, cases_lt}
use Rattle.std.proofs.lemmas.List.{get_or-set_same, get_or-set_other, get_or_past, get_or-replicate, length-replicate, length-set}
use Rattle.std.proofs.lemmas.Option.{none-some, option_and_then_some, same_Some}
use Rattle.io_model.specs.Path.{no_paths, paths_after_begin, paths_after_dup}
use Rattle.io_model.specs.declared.path.Desc.{Desc}
use Rattle.io_model.specs.declared.path.Target.{Target}
use Rattle.io_model.specs.declared.path.Target.TheVariants.{File, Folder, Term, Pipe}
use Rattle.lock_model.specs.Records.{with_waiting}
use Rattle.rbf_model.specs.File.{DiskFile, is_directory}
use Rattle.rbf_model.specs.Geometry.{Geometry, image_geometry, sector}
use Rattle.rbf_model.specs.Volume.{DiskVolume, Vol}
use Rattle.rbf_model.specs.Walk.{look_up}
use Rattle.rbf_model.proofs.Owners.{cluster_positive, root_file}
use Rattle.rbf_change.specs.Calls.{cluster_size, shape}
use Rattle.rbf_change.proofs.LawfulWrites.{shape-image}
use Rattle.io_model.specs.Io.{Io, first_paths, new_desc}
use Rattle.io_model.specs.Waiting.{io_interrupted, wait_target, without_unfinished}
use Rattle.io_model.specs.Processes.{io_ended, io_started}
use Rattle.file_rules.specs.Files.{Files, DriveState, directories_at, directory_of, no_directories, volume_at, with_io, with_volume}
use Rattle.file_rules.specs.Processes.{StartsWithImages, directory_in_root, files_ended, files_started, first_directories, first_files, io_left, without_locks_of}
use Rattle.file_rules.specs.Locking.{files_interrupted}
use Rattle.file_rules.specs.Route.{root_of}
use Rattle.lock_model.specs.declared.place.FilePlace.{FilePlace}
use Rattle.file_laws.specs.Kinds.{IsOfKind, AreKinds}
use Rattle.file_laws.specs.Mounted.{KeepsMountedDrives}
use Rattle.file_laws.proofs.Counts.{many-directories, many-io, many-then}
use Rattle.file_laws.proofs.Kept.{AreOn, directory_in, file_of, kind-same, kinds-directories, kinds-io, kinds-records, none-in, on-by}
use Rattle.file_laws.proofs.Paths.{on-begin, on-dup, on-ended}

-- ---- processes that begin and end

module _ (files : Files) (kinds : AreKinds files) where
  pub kinds-started : (parent child : ℕ) → AreKinds (files_started files parent child)
  kinds-started parent child =
      kinds-directories (with_io files (io_started files.io parent child)) (kinds-io files kinds (io_started files.io parent child) kinds.paths) child (directories_at files parent)
      (λ execute place at. kind-same files (with_io files (io_started files.io parent child)) place true refl (kinds.directories parent execute place at))

  pub kinds-ended : (p : ℕ) → AreKinds (files_ended files p)
  kinds-ended p =
      kinds-directories (without_locks_of (io_left files p) p)
      (kinds-records (with_io files (io_ended files.io p)) (kinds-io files kinds (io_ended files.io p)
      (on-ended files files.io p kinds.paths)) (without_locks_of (io_left files p) p).records) p no_directories
      (λ execute place at. absurd (none-in execute place at))

-- where no path changes, as where a key arrives or a call that waits is broken off
pub kinds-same : (files : Files) (io : Io) → io.paths ≡ files.io.paths → AreKinds files → AreKinds (with_io files io)
kinds-same files io same kinds = kinds-io files kinds io (subst (AreOn files) (sym same) kinds.paths)

paths-unfinished : (io : Io) (p : ℕ) (target : Option Target) → (without_unfinished io p target).paths ≡ io.paths
paths-unfinished io p None = refl
paths-unfinished io p (Some (File drive sector)) = refl
paths-unfinished io p (Some (Folder drive sector)) = refl
paths-unfinished io p (Some (Term terminal)) = refl
paths-unfinished io p (Some (Pipe pipe)) = refl

pub kinds-interrupted : (files : Files) (p : ℕ) → AreKinds files → AreKinds (files_interrupted files p)
kinds-interrupted files p kinds =
    kinds-records (with_io files (io_interrupted files.io p)) (kinds-same files (io_interrupted files.io p)
    (paths-unfinished files.io p (wait_target files.io p)) kinds) (with_waiting files.records p None)

pub many-started : (files : Files) (parent child : ℕ) → KeepsMountedDrives files (files_started files parent child)
many-started files parent child =
    many-then files (with_io files (io_started files.io parent child)) (files_started files parent child)
    (many-io files (io_started files.io parent child))
    (many-directories (with_io files (io_started files.io parent child)) child (directories_at files parent))

pub many-ended : (files : Files) (p : ℕ) → KeepsMountedDrives files (files_ended files p)
many-ended files p =
    record { drives = refl; directories = length-set files.directories p no_directories; volumes = refl; mounted = λ drive. refl }

-- ---- the start

-- no path is there at first
no-path : (path : ℕ) → get_or (replicate 65 (let none : Option Desc = None in none)) path None ≡ None
no-path path =
    elim (cases_lt path 65) [
      | inl within ↦ get_or-replicate 65 path None None within
      | inr past ↦ get_or_past (replicate 65 (let none : Option Desc = None in none)) path None (omega (arith, length-replicate 65 (let none : Option Desc = None in none)))
    ]

-- the paths of the first process are on TERM
first-on : (files : Files) → AreOn files first_paths
first-on files =
    on-dup files (paths_after_dup (paths_after_begin no_paths 2 (new_desc (Term 0) 3)) 2 0) 2 0
    (on-dup files (paths_after_begin no_paths 2 (new_desc (Term 0) 3)) 2 0
    (on-begin files no_paths 2 (new_desc (Term 0) 3) (λ s desc there. absurd (none-some desc (sym (no-path s) ∙ there))) tt))

abbrev some_volume : DiskVolume → Option DiskVolume
some_volume v = Some v

-- no volume stands behind those of the images
none-behind : (count d : ℕ) (v : DiskVolume) → get_or (replicate count (let none : Option DiskVolume = None in none)) d None ≡ Some v → ⊥
none-behind zero d v at = none-some v at
none-behind (suc count) zero v at = none-some v at
none-behind (suc count) (suc d) v at = none-behind count d v at

-- each volume that is mounted is that of an image
pub image-of : (images : List (List ℕ)) (volumes : List DiskVolume) (count d : ℕ) (v : DiskVolume) → AllZip Vol images
    volumes → get_or (map some_volume volumes ++ replicate count None) d None ≡ Some v → (image : List ℕ) × Vol image
    v
image-of [] [] count d v mounted at = absurd (none-behind count d v at)
image-of [] (u ∷ us) count d v mounted at = absurd mounted
image-of (image ∷ images) [] count d v mounted at = absurd mounted
image-of (image ∷ images) (u ∷ us) count zero v mounted at = (image, subst (Vol image) (same_Some u v at) mounted.0)
image-of (image ∷ images) (u ∷ us) count (suc d) v mounted at = image-of images us count d v mounted.1 at

first-there : (volumes : List DiskVolume) (count : ℕ) (v : DiskVolume) → slice_get volumes 0 ≡ Some v → get_or (map some_volume volumes ++ replicate count None) 0 None ≡ Some v
first-there [] count v is = absurd (none-some v is)
first-there (u ∷ us) count v is = is

-- the clusters of an image's volume have sectors, and its root is there and is a directory
some-clusters : (image : List ℕ) (v : DiskVolume) → Vol image v → 0 < cluster_size v
some-clusters image v vol =
    subst (λ (g : Geometry). 0 < g.cluster) (sym (shape-image image v vol)) (cluster_positive (image_geometry image).cluster vol.sound.shape.header.clusters)

root-there : (image : List ℕ) (v : DiskVolume) → Vol image v → (file : DiskFile) × (v.files (shape v).root ≡ Some file) × (is_directory file ≡ true)
root-there image v vol =
    let root = root_file (image_geometry image) (sector image) v vol.sound in (
      root.0,
      ap (λ (g : Geometry). v.files g.root) (shape-image image v vol) ∙ root.1,
      vol.sound.tree.root root.0 root.1,
    )

module _ (images : List (List ℕ)) (volumes : List DiskVolume) (drives : List DriveState) (mounted : AllZip Vol images volumes) where
  abbrev First : Files
  First = first_files volumes drives

  -- a directory on the first volume is there
  on-first : (v : DiskVolume) (n : ℕ) (file : DiskFile) → slice_get volumes 0 ≡ Some v → v.files n ≡ Some file → is_directory file ≡ true → IsOfKind First (record { drive = 0; number = n }) true
  on-first v n file is there kind = record {
    file = file;
    there = ap (file_of n) (first-there volumes (length drives - length volumes) v is) ∙ there;
    kind = kind;
  }

  root-first : (v : DiskVolume) → slice_get volumes 0 ≡ Some v → IsOfKind First (root_of 0 v) true
  root-first v is =
      let of = image-of images volumes (length drives - length volumes) 0 v mounted (first-there volumes (length drives - length volumes) v is) in
      let root = root-there of.0 v of.1 in
      on-first v (shape v).root root.0 is root.1 root.2

  cmds-first : (v : DiskVolume) (name : List ℕ) (place : FilePlace) → slice_get volumes 0 ≡ Some v → directory_in_root v (root_of 0 v) name ≡ Some place → IsOfKind First place true
  cmds-first v name place is at =
      option_and_then_some (λ (n : ℕ). option_and_then (λ (file : DiskFile). if is_directory file then Some
      (record { drive = 0; number = n }) else None) (v.files n))
      (option_and_then (λ (file : DiskFile). look_up file.contents name) (v.files (root_of 0 v).number)) place at
      (λ n named found.
      option_and_then_some (λ (file : DiskFile). if is_directory file then Some (record { drive = 0; number = n })
      else None) (v.files n) place found (λ file there kind. by_kind n file there (is_directory file) refl kind))
    where
      by_kind : (n : ℕ) (file : DiskFile) → v.files n ≡ Some file → (kind : Bool) → is_directory file ≡ kind
          → (if kind then Some (record { drive = 0; number = n }) else None) ≡ Some place → IsOfKind First place true
      by_kind n file there true kind found =
          subst (λ (place : FilePlace). IsOfKind First place true) (same_Some (record { drive = 0; number = n }) place found) (on-first v n file is there kind)
      by_kind n file there false kind found = absurd (none-some place found)

  directories-first : (v : Option DiskVolume) → slice_get volumes 0 ≡ v → (execute : Bool) (place : FilePlace) → directory_in execute (first_directories v) ≡ Some place → IsOfKind First place true
  directories-first None is execute place at = absurd (none-in execute place at)
  directories-first (Some v) is false place at =
      subst (λ (place : FilePlace). IsOfKind First place true) (same_Some (root_of 0 v) place at) (root-first v is)
  directories-first (Some v) is true place at =
      by_cmds (directory_in_root v (root_of 0 v) (codes "CMDS")) refl at
    where
      by_cmds : (cmds : Option FilePlace) → directory_in_root v (root_of 0 v) (codes "CMDS") ≡ cmds
          → option_map_or (λ (place : FilePlace). Some place) cmds (Some (root_of 0 v)) ≡ Some place
          → IsOfKind First place true
      by_cmds None at here = subst (λ (place : FilePlace). IsOfKind First place true) (same_Some (root_of 0 v) place here) (root-first v is)
      by_cmds (Some cmds) at here = cmds-first v (codes "CMDS") place is (at ∙ here)

  first-kinds : AreKinds First
  first-kinds = record {
    paths = first-on First;
    directories = λ p execute place at. by_process p execute place at (cases_eq p 2);
    clusters =
        λ drive v is. let of = image-of images volumes (length drives - length volumes) drive v mounted is in some-clusters of.0 v of.1;
  }
    where
      none : (p : ℕ) → get_or (replicate 33 no_directories) p no_directories ≡ no_directories
      none p =
          elim (cases_lt p 33) [
            | inl within ↦ get_or-replicate 33 p no_directories no_directories within
            | inr past ↦ get_or_past (replicate 33 no_directories) p no_directories (omega (arith, length-replicate 33 no_directories))
          ]

      by_process : (p : ℕ) (execute : Bool) (place : FilePlace) → directory_of First p execute ≡ Some place → (p ≡ 2) ⊎ (p ≡ 2 → ⊥) → IsOfKind First place true
      by_process p execute place at (inl same) =
          let is : directories_at First p ≡ first_directories (slice_get volumes 0) = ap (directories_at First) same ∙
          get_or-set_same (replicate 33 no_directories) 2 (first_directories (slice_get volumes 0)) no_directories
          (omega (arith, length-replicate 33 no_directories)) in
          directories-first (slice_get volumes 0) refl execute place (sym (ap (directory_in execute) is) ∙ at)
      by_process p execute place at (inr apart) =
          let is : directories_at First p ≡ no_directories = get_or-set_other (replicate 33 no_directories) 2 p (first_directories (slice_get volumes 0)) no_directories apart ∙ none p in
          absurd (none-in execute place (sym (ap (directory_in execute) is) ∙ at))

pub kinds-start : (images : List (List ℕ)) (drives : List DriveState) (files : Files) → StartsWithImages images drives files → AreKinds files
kinds-start images drives files it = subst AreKinds (sym it.is) (first-kinds images it.volumes drives it.mounted)

-- ---- a volume that is mounted in an empty drive

module _ (files : Files) (kinds : AreKinds files) (drive : ℕ) (image : List ℕ) (v : DiskVolume) (empty : volume_at files drive ≡ None) (vol : Vol image v) where
  -- nothing was on that drive
  kind-mounted : (place : FilePlace) (kind : Bool) → IsOfKind files place kind → IsOfKind (with_volume files drive v) place kind
  kind-mounted place kind it = by_drive (cases_eq place.drive drive)
    where
      by_drive : (place.drive ≡ drive) ⊎ (place.drive ≡ drive → ⊥) → IsOfKind (with_volume files drive v) place kind
      by_drive (inl same) =
          absurd (none-some it.file (sym (ap (file_of place.number) (ap (volume_at files) same ∙ empty)) ∙ it.there))
      by_drive (inr apart) = record {
        file = it.file;
        there = ap (file_of place.number) (get_or-set_other files.volumes drive place.drive (Some v) None apart) ∙ it.there;
        kind = it.kind;
      }

  clusters-mounted : (other : ℕ) (u : DiskVolume) → volume_at (with_volume files drive v) other ≡ Some u
      → (other ≡ drive) ⊎ (other ≡ drive → ⊥) → (drive < length files.volumes) ⊎ (length files.volumes ≤ drive)
      → 0 < cluster_size u
  clusters-mounted other u at (inl same) (inl within) =
      subst (λ (u : DiskVolume). 0 < cluster_size u)
      (same_Some v u (sym (ap (volume_at (with_volume files drive v)) same ∙ get_or-set_same files.volumes drive
      (Some v) None within) ∙ at)) (some-clusters image v vol)
  clusters-mounted other u at (inl same) (inr past) =
      absurd (none-some u (sym (ap (volume_at (with_volume files drive v)) same ∙ get_or_past (with_volume files drive v).volumes drive None (rw length-set past)) ∙ at))
  clusters-mounted other u at (inr apart) within =
      kinds.clusters other u (sym (get_or-set_other files.volumes drive other (Some v) None apart) ∙ at)

  pub kinds-mounted : AreKinds (with_volume files drive v)
  kinds-mounted = record {
    paths = λ s desc there. on-by files (with_volume files drive v) desc.mode desc.target (λ place kind at. kind-mounted place kind) (kinds.paths s desc there);
    directories = λ p execute place at. kind-mounted place true (kinds.directories p execute place at);
    clusters = λ other u at. clusters-mounted other u at (cases_eq other drive) (cases_lt drive (length files.volumes));
  }
