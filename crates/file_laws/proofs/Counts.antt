-- The same drives have volumes, and there are as many drives and directories, where something of the state changes.
use Rattle.std.proofs.Common.{◌≡◌, ℕ, Bool, true, Some, is_some, List, length, refl, sym, ap, ◌∙◌, inl, inr, ◌⊎◌}
use Rattle.std.proofs.lemmas.Bool.{cases_eq}
use Rattle.std.proofs.lemmas.List.{length-set}
use Rattle.rbf_model.specs.Volume.{DiskVolume}
use Rattle.io_model.specs.Io.{Io}
use Rattle.file_rules.specs.Files.{Files, DriveState, KeepsDriveFaults, volume_at, with_directories_of, with_drives, with_io, with_volume, with_records}
use Rattle.lock_model.specs.Records.{Records}
use Rattle.file_rules.specs.declared.places.Directories.{Directories}
use Rattle.file_laws.specs.Kinds.{AreKinds}
use Rattle.file_laws.specs.Mounted.{KeepsMountedDrives}
use Rattle.file_laws.proofs.Kept.{AreOn, directory_in, kinds-directories, kinds-io, volume-new, volume-other, kinds-records}
use Rattle.file_laws.specs.Kinds.{IsOfKind}
use Rattle.lock_model.specs.declared.place.FilePlace.{FilePlace}

pub many-same : (files : Files) → KeepsMountedDrives files files
many-same files = record { drives = refl; directories = refl; volumes = refl; mounted = λ drive. refl }

pub many-then : (first second third : Files) → KeepsMountedDrives first second → KeepsMountedDrives second third → KeepsMountedDrives first third
many-then first second third one two = record {
  drives = two.drives ∙ one.drives;
  directories = two.directories ∙ one.directories;
  volumes = two.volumes ∙ one.volumes;
  mounted = λ drive. two.mounted drive ∙ one.mounted drive;
}

pub many-io : (files : Files) (io : Io) → KeepsMountedDrives files (with_io files io)
many-io files io = record { drives = refl; directories = refl; volumes = refl; mounted = λ drive. refl }

pub many-directories : (files : Files) (p : ℕ) (directories : Directories) → KeepsMountedDrives files (with_directories_of files p directories)
many-directories files p directories = record {
  drives = refl;
  directories = length-set files.directories p directories;
  volumes = refl;
  mounted = λ drive. refl;
}

pub many-drives : (files : Files) (drives : List DriveState) → length drives ≡ length files.drives → KeepsMountedDrives files (with_drives files drives)
many-drives files drives same = record { drives = same; directories = refl; volumes = refl; mounted = λ drive. refl }

pub many-volume : (files : Files) (drive : ℕ) (v w : DiskVolume) → volume_at files drive ≡ Some v → KeepsMountedDrives files (with_volume files drive w)
many-volume files drive v w is = record {
  drives = refl;
  directories = refl;
  volumes = length-set files.volumes drive (Some w);
  mounted = λ other. by_drive other (cases_eq other drive);
}
  where
    by_drive : (other : ℕ) → (other ≡ drive) ⊎ (other ≡ drive → ⊥) → is_some (volume_at (with_volume files drive w) other) ≡ is_some (volume_at files other)
    by_drive other (inl same) =
        ap is_some (ap (volume_at (with_volume files drive w)) same ∙ volume-new files drive v w is) ∙ sym (ap is_some (ap (volume_at files) same ∙ is))
    by_drive other (inr apart) = ap is_some (volume-other files drive v w is other apart)

pub none-many : (old new : List DriveState) → KeepsDriveFaults old new → length new ≡ length old
none-many old new none = ap (λ (drives : List DriveState). length drives) none

-- ---- both: what paths and directories are on, and how many there are

pub record Stands (old new : Files) : Type 0 where
  pub kinds : AreKinds new
  pub many : KeepsMountedDrives old new

module _ (files : Files) (kinds : AreKinds files) where
  pub stands-same : Stands files files
  stands-same = record { kinds = kinds; many = many-same files }

  pub stands-io : (io : Io) → AreOn files io.paths → Stands files (with_io files io)
  stands-io io on = record { kinds = kinds-io files kinds io on; many = many-io files io }

  -- with other records all is as before
  pub stands-records : (new : Files) (records : Records) → Stands files new → Stands files (with_records new records)
  stands-records new records it = record {
    kinds = kinds-records new it.kinds records;
    many = record { drives = it.many.drives; directories = it.many.directories; volumes = it.many.volumes; mounted = it.many.mounted };
  }

  pub stands-directories : (p : ℕ) (directories : Directories) → ((execute : Bool) (place : FilePlace)
      → directory_in execute directories ≡ Some place → IsOfKind files place true)
      → Stands files (with_directories_of files p directories)
  stands-directories p directories new = record {
    kinds = kinds-directories files kinds p directories new;
    many = many-directories files p directories;
  }
