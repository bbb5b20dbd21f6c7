-- The file that a number of a process names: its path, where it is, its volume and the file.
use Rattle.std.proofs.Common.{◌≡◌, ℕ, Bool, true, false, Option, Some, None, refl, sym, ap, ◌∙◌, subst}
use Rattle.std.specs.Prelude.{option_map, option_and_then}
use Rattle.std.proofs.lemmas.Bool.{both_ways}
use Rattle.std.proofs.lemmas.Option.{none-some, option_and_then_some, same_Some}
use Rattle.io_model.specs.Path.{desc_of, slot_of}
use Rattle.io_model.specs.declared.path.Desc.{Desc}
use Rattle.io_model.specs.declared.path.SysPath.{SysPath}
use Rattle.io_model.specs.declared.path.Target.{Target}
use Rattle.io_model.specs.declared.path.Target.TheVariants.{File, Folder, Term, Pipe}
use Rattle.rbf_model.specs.File.{DiskFile, is_directory}
use Rattle.rbf_model.specs.Volume.{DiskVolume}
use Rattle.io_model.specs.Io.{Io, OpenPath, open_path}
use Rattle.io_model.specs.Modes.{can_write}
use Rattle.file_rules.specs.Files.{Files, OpenFile, file_in, open_file, open_file_at, place_of_target, volume_at}
use Rattle.lock_model.specs.declared.place.FilePlace.{FilePlace}
use Rattle.file_laws.specs.Kinds.{IsOfKind, IsOnTarget, AreKinds}
use Rattle.file_laws.proofs.Kept.{file_of}

map-some : {A B P : Type 0} (f : A → B) (o : Option A) (y : B) → option_map f o ≡ Some y → ((x : A) → o ≡ Some x → f x ≡ y → P) → P
map-some f None y is next = absurd (none-some y is)
map-some f (Some x) y is next = next x refl (same_Some (f x) y is)

abbrev path_with : SysPath → Desc → OpenPath
path_with s desc = record { path = s; desc = desc }

abbrev file_with : OpenPath → FilePlace → DiskVolume → DiskFile → OpenFile
file_with path place v file = record { opened = path; place = place; volume = v; file = file }

pub path-desc : (io : Io) (p n : ℕ) (opened : OpenPath) → open_path io p n ≡ Some opened → desc_of io.paths opened.path.0 ≡ Some opened.desc
path-desc io p n opened is =
    option_and_then_some (λ (s : SysPath). option_map (path_with s) (desc_of io.paths s.0)) (slot_of io.paths p n) opened is (λ s at mapped.
    map-some (path_with s) (desc_of io.paths s.0) opened mapped (λ desc there same.
    subst (λ (opened : OpenPath). desc_of io.paths opened.path.0 ≡ Some opened.desc) same there))

-- what a file that a number names is
pub record IsNamed (files : Files) (p n : ℕ) (opened : OpenFile) : Type 0 where
  pub path : open_path files.io p n ≡ Some opened.opened
  pub place : place_of_target opened.opened.desc.target ≡ Some opened.place
  pub mounted : volume_at files opened.place.drive ≡ Some opened.volume
  pub there : opened.volume.files opened.place.number ≡ Some opened.file

pub is-named : (files : Files) (p n : ℕ) (opened : OpenFile) → open_file files p n ≡ Some opened → IsNamed files p n opened
is-named files p n opened is =
    option_and_then_some (λ (path : OpenPath). option_and_then (open_file_at files path) (place_of_target path.desc.target)) (open_path files.io p n) opened is (λ path named at.
    option_and_then_some (open_file_at files path) (place_of_target path.desc.target) opened at (λ place on here.
    option_and_then_some (λ (v : DiskVolume). option_map (file_with path place v) (v.files place.number)) (volume_at files place.drive) opened here (λ v mounted mapped.
    map-some (file_with path place v) (v.files place.number) opened mapped (λ file there same.
    subst (IsNamed files p n) same (record { path = named; place = on; mounted = mounted; there = there })))))

pub opened-desc : (files : Files) (p n : ℕ) (opened : OpenFile) → open_file files p n ≡ Some opened → desc_of files.io.paths opened.opened.path.0 ≡ Some opened.opened.desc
opened-desc files p n opened is = path-desc files.io p n opened.opened (is-named files p n opened is).path

-- a path that may be written is on a file, and on no directory
module _ (files : Files) (kinds : AreKinds files) (p n : ℕ) (opened : OpenFile) (is : open_file files p n ≡ Some opened) (writes : can_write opened.opened.desc.mode ≡ true) where
  kind-of : (place : FilePlace) (kind : Bool) → place ≡ opened.place → IsOfKind files place kind → is_directory opened.file ≡ kind
  kind-of place kind same it =
      let named = is-named files p n opened is in
      let there : file_in files opened.place ≡ Some opened.file = ap (file_of opened.place.number) named.mounted ∙ named.there in
      ap (λ (file : DiskFile). is_directory file) (same_Some opened.file it.file (sym there ∙ sym (ap (file_in files) same) ∙ it.there)) ∙ it.kind

  by-target : (target : Target) → place_of_target target ≡ Some opened.place → IsOnTarget files opened.opened.desc.mode target → is_directory opened.file ≡ false
  by-target (File drive number) at it =
      kind-of (record { drive = drive; number = number }) false (same_Some (record { drive = drive; number = number }) opened.place at) it
  by-target (Folder drive number) at it = absurd (both_ways (can_write opened.opened.desc.mode) it.1 writes)
  by-target (Term terminal) at it = absurd (none-some opened.place at)
  by-target (Pipe pipe) at it = absurd (none-some opened.place at)

  pub written-file : is_directory opened.file ≡ false
  written-file =
      by-target opened.opened.desc.target (is-named files p n opened is).place
      (kinds.paths opened.opened.path.0 opened.opened.desc (opened-desc files p n opened is))
