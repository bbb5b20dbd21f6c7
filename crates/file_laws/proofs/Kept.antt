-- What paths and directories of processes are on, where other things of the state change.
use Rattle.std.proofs.Common.{◌≡◌, ℕ, ◌<◌, ◌≤◌, Bool, true, false, if◌then◌else◌, Option, Some, None, List, length, refl, sym, ap, ◌∙◌, subst, inl, inr, ◌⊎◌}
use Rattle.std.specs.Prelude.{option_and_then, slice_index_or, slice_set}
use Rattle.std.proofs.lemmas.Bool.{cases_eq, cases_lt}
use Rattle.std.proofs.lemmas.List.{get_or-set_same, get_or-set_other, get_or_past, length-set}
use Rattle.std.proofs.lemmas.Option.{none-some, same_Some}
use Rattle.io_model.specs.Path.{PathTable, desc_of}
use Rattle.io_model.specs.declared.path.Desc.{Desc}
use Rattle.io_model.specs.declared.path.Target.{Target}
use Rattle.io_model.specs.declared.path.Target.TheVariants.{File, Folder, Term, Pipe}
use Rattle.rbf_model.specs.Geometry.{geometry}
use Rattle.rbf_model.specs.File.{DiskFile, is_directory}
use Rattle.rbf_model.specs.Volume.{DiskVolume}
use Rattle.rbf_change.specs.Calls.{cluster_size}
use Rattle.io_model.specs.Io.{Io}
use Rattle.file_rules.specs.Files.{Files, DriveState, no_directories, directories_at, directory_of, volume_at, place_of_target, with_io, with_directories_of, with_volume, with_drives, with_records}
use Rattle.lock_model.specs.Records.{Records}
use Rattle.file_rules.specs.declared.places.Directories.{Directories}
use Rattle.lock_model.specs.declared.place.FilePlace.{FilePlace}
use Rattle.file_laws.specs.Kinds.{IsOfKind, IsOnTarget, IsOnItsKind, AreKinds}

-- ---- what stands on the same volumes

abbrev pub file_of : ℕ → Option DiskVolume → Option DiskFile
file_of n volume = option_and_then (λ (v : DiskVolume). v.files n) volume

pub kind-same : (old new : Files) (place : FilePlace) (kind : Bool) → new.volumes ≡ old.volumes → IsOfKind old place kind → IsOfKind new place kind
kind-same old new place kind same it = record {
  file = it.file;
  there = ap (λ (volumes : List (Option DiskVolume)). file_of place.number (slice_index_or volumes place.drive None)) same ∙ it.there;
  kind = it.kind;
}

pub on-by : (old new : Files) (mode : ℕ) (target : Target) → ((place : FilePlace) (kind : Bool)
    → place_of_target target ≡ Some place → IsOfKind old place kind → IsOfKind new place kind) → IsOnTarget old mode
    target → IsOnTarget new mode target
on-by old new mode (File drive number) carry it = carry (record { drive = drive; number = number }) false refl it
on-by old new mode (Folder drive number) carry it = (carry (record { drive = drive; number = number }) true refl it.0, it.1)
on-by old new mode (Term terminal) carry it = tt
on-by old new mode (Pipe pipe) carry it = tt

pub on-same : (old new : Files) (desc : Desc) → new.volumes ≡ old.volumes → IsOnItsKind old desc → IsOnItsKind new desc
on-same old new desc same it = on-by old new desc.mode desc.target (λ place kind at. kind-same old new place kind same) it

-- each path of a table is on what it was opened on
abbrev pub AreOn : Files → PathTable → Type 0
AreOn files paths = (s : ℕ) (desc : Desc) → desc_of paths s ≡ Some desc → IsOnItsKind files desc

-- a directory of a process, of these
abbrev pub directory_in : Bool → Directories → Option FilePlace
directory_in execute directories = if execute then directories.execution_directory else directories.data_directory

pub none-in : (execute : Bool) (place : FilePlace) → directory_in execute no_directories ≡ Some place → ⊥
none-in true place at = none-some place at
none-in false place at = none-some place at

-- ---- other paths, drives and directories

module _ (files : Files) (kinds : AreKinds files) where
  pub kinds-io : (io : Io) → AreOn files io.paths → AreKinds (with_io files io)
  kinds-io io on = record {
    paths = λ s desc there. on-same files (with_io files io) desc refl (on s desc there);
    directories = λ p execute place at. kind-same files (with_io files io) place true refl (kinds.directories p execute place at);
    clusters = λ drive v is. kinds.clusters drive v is;
  }

  pub kinds-drives : (drives : List DriveState) → AreKinds (with_drives files drives)
  kinds-drives drives = record {
    paths = λ s desc there. on-same files (with_drives files drives) desc refl (kinds.paths s desc there);
    directories = λ p execute place at. kind-same files (with_drives files drives) place true refl (kinds.directories p execute place at);
    clusters = λ drive v is. kinds.clusters drive v is;
  }

  pub kinds-records : (records : Records) → AreKinds (with_records files records)
  kinds-records records = record {
    paths = λ s desc there. on-same files (with_records files records) desc refl (kinds.paths s desc there);
    directories = λ p execute place at. kind-same files (with_records files records) place true refl (kinds.directories p execute place at);
    clusters = λ drive v is. kinds.clusters drive v is;
  }

  pub kinds-directories : (p : ℕ) (directories : Directories) → ((execute : Bool) (place : FilePlace)
      → directory_in execute directories ≡ Some place → IsOfKind files place true)
      → AreKinds (with_directories_of files p directories)
  kinds-directories p directories new = record {
    paths = λ s desc there. on-same files (with_directories_of files p directories) desc refl (kinds.paths s desc there);
    directories = λ q execute place at. kind-same files (with_directories_of files p directories) place true refl
        (by_process q execute place at (cases_eq q p) (cases_lt p (length files.directories)));
    clusters = λ drive v is. kinds.clusters drive v is;
  }
    where
      by_process : (q : ℕ) (execute : Bool) (place : FilePlace)
          → directory_of (with_directories_of files p directories) q execute ≡ Some place → (q ≡ p) ⊎ (q ≡ p → ⊥)
          → (p < length files.directories) ⊎ (length files.directories ≤ p) → IsOfKind files place true
      by_process q execute place at (inl same) (inl within) =
          let is : directories_at (with_directories_of files p directories) q ≡ directories = ap
          (directories_at (with_directories_of files p directories)) same ∙ get_or-set_same files.directories p
          directories no_directories within in
          new execute place (sym (ap (directory_in execute) is) ∙ at)
      by_process q execute place at (inl same) (inr past) =
          let is : directories_at (with_directories_of files p directories) q ≡ no_directories = ap
          (directories_at (with_directories_of files p directories)) same ∙ get_or_past
          (slice_set files.directories p directories) p no_directories (rw length-set past) in
          absurd (none-in execute place (sym (ap (directory_in execute) is) ∙ at))
      by_process q execute place at (inr apart) within =
          kinds.directories q execute place (sym (ap (directory_in execute) (get_or-set_other files.directories p q directories no_directories apart)) ∙ at)

-- ---- another volume in a drive

-- a file of the volume v is there in w, as a directory or none
pub record IsStill (w : DiskVolume) (n : ℕ) (was : DiskFile) : Type 0 where
  pub file : DiskFile
  pub there : w.files n ≡ Some file
  pub kind : is_directory file ≡ is_directory was

abbrev pub Still : DiskVolume → DiskVolume → ℕ → Type 0
Still v w n = (was : DiskFile) → v.files n ≡ Some was → IsStill w n was

module _ (files : Files) (drive : ℕ) (v w : DiskVolume) (is : volume_at files drive ≡ Some v) where
  pub volume-new : volume_at (with_volume files drive w) drive ≡ Some w
  volume-new = by_place (cases_lt drive (length files.volumes))
    where
      by_place : (drive < length files.volumes) ⊎ (length files.volumes ≤ drive) → volume_at (with_volume files drive w) drive ≡ Some w
      by_place (inl within) = get_or-set_same files.volumes drive (Some w) None within
      by_place (inr past) = absurd (none-some v (sym (get_or_past files.volumes drive None past) ∙ is))

  pub volume-other : (other : ℕ) → (other ≡ drive → ⊥) → volume_at (with_volume files drive w) other ≡ volume_at files other
  volume-other other apart = get_or-set_other files.volumes drive other (Some w) None apart

  pub kind-volume : (place : FilePlace) (kind : Bool) → (place.drive ≡ drive → Still v w place.number) → IsOfKind files place kind → IsOfKind (with_volume files drive w) place kind
  kind-volume place kind still it = by_drive (cases_eq place.drive drive)
    where
      by_drive : (place.drive ≡ drive) ⊎ (place.drive ≡ drive → ⊥) → IsOfKind (with_volume files drive w) place kind
      by_drive (inl same) =
          let was : v.files place.number ≡ Some it.file = sym (ap (file_of place.number) (ap (volume_at files) same ∙ is)) ∙ it.there in
          let now = still same it.file was in record {
            file = now.file;
            there = ap (file_of place.number) (ap (volume_at (with_volume files drive w)) same ∙ volume-new) ∙ now.there;
            kind = now.kind ∙ it.kind;
          }
      by_drive (inr apart) = record {
        file = it.file;
        there = ap (file_of place.number) (volume-other place.drive apart) ∙ it.there;
        kind = it.kind;
      }

  pub kinds-volume : AreKinds files → w.ident ≡ v.ident
      → ((s : ℕ) (desc : Desc) (place : FilePlace) → desc_of files.io.paths s ≡ Some desc → place_of_target desc.target ≡ Some place → place.drive ≡ drive → Still v w place.number)
      → ((p : ℕ) (execute : Bool) (place : FilePlace) → directory_of files p execute ≡ Some place → place.drive ≡ drive → Still v w place.number) → AreKinds (with_volume files drive w)
  kinds-volume kinds ident paths directories = record {
    paths = λ s desc there. on-by files (with_volume files drive w) desc.mode desc.target (λ place kind at. kind-volume place kind (paths s desc place there at)) (kinds.paths s desc there);
    directories = λ p execute place at. kind-volume place true (directories p execute place at) (kinds.directories p execute place at);
    clusters = λ other u at. by_drive other u at (cases_eq other drive);
  }
    where
      some : 0 < cluster_size w
      some = subst (λ (i : List ℕ). 0 < (geometry i).cluster) (sym ident) (kinds.clusters drive v is)

      by_drive : (other : ℕ) (u : DiskVolume) → volume_at (with_volume files drive w) other ≡ Some u → (other ≡ drive) ⊎ (other ≡ drive → ⊥) → 0 < cluster_size u
      by_drive other u at (inl same) =
          subst (λ (u : DiskVolume). 0 < cluster_size u) (same_Some w u (sym (ap (volume_at (with_volume files drive w)) same ∙ volume-new) ∙ at)) some
      by_drive other u at (inr apart) = kinds.clusters other u (sym (volume-other other apart) ∙ at)

-- a volume whose files are all there still
pub record AllStill (v w : DiskVolume) : Type 0 where
  pub ident : w.ident ≡ v.ident
  pub files : (n : ℕ) → Still v w n

pub kinds-still : (files : Files) (drive : ℕ) (v w : DiskVolume) → volume_at files drive ≡ Some v → AllStill v w → AreKinds files → AreKinds (with_volume files drive w)
kinds-still files drive v w is still kinds =
    kinds-volume files drive v w is kinds still.ident (λ s desc place there at same. still.files place.number) (λ p execute place at same. still.files place.number)
