-- What is known of a path on a file or a directory, and of the file that it is on.
use Rattle.std.proofs.Common.{◌≡◌, ◌∙◌, ℕ, ◌<◌, ◌^◌, Bool, true, false, Option, Some, None, List, length, get_or, slice_get, option_map, option_and_then, sym, ap, refl, subst, arith}
use Rattle.std.proofs.lemmas.Bool.{false≢true}
use Rattle.std.proofs.lemmas.List.{get_or_default}
use Rattle.std.proofs.lemmas.Option.{none-some, same_Some, slice_get_read}
use Rattle.rbf_access.specs.Mounted.{RepresentsVolume}
use Rattle.rbf_access.specs.declared.volume.Volume.{Volume}
use Rattle.rbf_model.specs.File.{DiskFile}
use Rattle.rbf_model.specs.Volume.{DiskVolume}
use Rattle.io_model.specs.Io.{Io, OpenPath, open_path}
use Rattle.file_drives.proofs.MountedLemmas.{mounted-below}
use Rattle.file_drives.specs.Drives.{DriveView}
use Rattle.file_drives.specs.Mounted.{AgreesOnDrive, AreMounted, HasDataFileAt, HasFileAt, disk_at, mounted_at}
use Rattle.file_rules.specs.Files as rules
use Rattle.file_rules.specs.Files.{Files, open_file, open_file_at, place_of_target, volume_at}
use Rattle.lock_model.specs.declared.place.FilePlace.{FilePlace}
use Rattle.file_state.specs.Opened.{IsOpenFileOf, path_of}
use Rattle.file_state.specs.Tie.{AreSoundFiles, RepresentsFiles}
use Rattle.file_state.specs.declared.state.FileState.{FileState}
use Rattle.file_state.specs.declared.state.OpenFile.{OpenFile}
use Rattle.file_io.proofs.SizeLemmas.{size-low}
use Rattle.file_io.specs.Opened.{IsOpenedPath, MayBeWritten, found_on}

-- ---- a path that a number names

-- a number of a process names the path, which was opened on the file at its place
pub record IsNamed (io : Io) (p n : ℕ) (opened : OpenFile) : Type 0 where
  pub names : open_path io p n ≡ Some (path_of opened)
  pub place : place_of_target opened.desc.target ≡ Some opened.place

-- what the rules of the calls find is what the number names
module _ (files : Files) (p n : ℕ) (found : rules.OpenFile) where
  abbrev Parts : Option OpenPath → Type 0
  Parts path = (path ≡ Some found.opened) × (place_of_target found.opened.desc.target ≡ Some found.place)

  by_file : (opened : OpenPath) (place : FilePlace) (v : DiskVolume) (o : Option DiskFile)
      → place_of_target opened.desc.target ≡ Some place → option_map {U = rules.OpenFile} (λ (file : DiskFile). record
      { opened = opened; place = place; volume = v; file = file }) o ≡ Some found → Parts (Some opened)
  by_file opened place v None at e = absurd (none-some found e)
  by_file opened place v (Some file) at e =
      let whole : record { opened = opened; place = place; volume = v; file = file } ≡ found = same_Some (record { opened = opened; place = place; volume = v; file = file }) found e in
      let same : opened ≡ found.opened = ap (λ (it : rules.OpenFile). it.opened) whole in (
        ap (λ (it : OpenPath). Some it) same,
        ap (λ (it : OpenPath). place_of_target it.desc.target) (sym same) ∙ at ∙ ap (λ (it : rules.OpenFile). Some it.place) whole,
      )

  by_volume : (opened : OpenPath) (place : FilePlace) (o : Option DiskVolume) → place_of_target opened.desc.target ≡
      Some place → option_and_then (λ (v : DiskVolume). option_map {U = rules.OpenFile} (λ (file : DiskFile). record
      { opened = opened; place = place; volume = v; file = file }) (v.files place.number)) o ≡ Some found
      → Parts (Some opened)
  by_volume opened place None at e = absurd (none-some found e)
  by_volume opened place (Some v) at e = by_file opened place v (v.files place.number) at e

  by_place : (opened : OpenPath) (o : Option FilePlace) → place_of_target opened.desc.target ≡ o → option_and_then (open_file_at files opened) o ≡ Some found → Parts (Some opened)
  by_place opened None at e = absurd (none-some found e)
  by_place opened (Some place) at e = by_volume opened place (volume_at files place.drive) at e

  by_path : (o : Option OpenPath) → option_and_then (λ (it : OpenPath). option_and_then (open_file_at files it) (place_of_target it.desc.target)) o ≡ Some found → Parts o
  by_path None e = absurd (none-some found e)
  by_path (Some opened) e = by_place opened (place_of_target opened.desc.target) refl e

  pub found-parts : open_file files p n ≡ Some found → Parts (open_path files.io p n)
  found-parts e = by_path (open_path files.io p n) e

pub named-of : (state : FileState) (views : List DriveView) (files : Files) (p n : ℕ) (opened : OpenFile)
    → RepresentsFiles state views files → IsOpenFileOf state views files p n opened → IsNamed state.io p n opened
named-of state views files p n opened stands it =
    let parts = found-parts files p n it.found it.is in
    record {
      names = ap (λ (io : Io). open_path io p n) (sym stands.io) ∙ parts.0 ∙ ap (λ (o : OpenPath). Some o) it.path;
      place =
          ap (λ (o : OpenPath). place_of_target o.desc.target) (sym it.path) ∙ parts.1
          ∙ ap (λ (place : FilePlace). Some place) it.place;
    }

-- ---- the file that it is on

-- the rules of the calls find it by the number
pub open-file : (files : Files) (p n : ℕ) (opened : OpenFile) (v : DiskVolume) (file : DiskFile) → open_path files.io
    p n ≡ Some (path_of opened) → place_of_target opened.desc.target ≡ Some opened.place
    → volume_at files opened.place.drive ≡ Some v → v.files opened.place.number ≡ Some file → open_file files p n ≡
    Some (found_on opened v file)
open-file files p n opened v file path place is there =
    ap (λ (o : Option OpenPath). option_and_then (λ (it : OpenPath). option_and_then (open_file_at files it) (place_of_target it.desc.target)) o) path
    ∙ ap (λ (o : Option FilePlace). option_and_then (open_file_at files (path_of opened)) o) place
    ∙ ap (λ (o : Option DiskVolume). option_and_then (λ (v : DiskVolume). option_map {U = rules.OpenFile}
    (λ (file : DiskFile). record { opened = path_of opened; place = opened.place; volume = v; file = file })
    (v.files opened.place.number)) o) is
    ∙ ap (λ (o : Option DiskFile). option_map {U = rules.OpenFile} (λ (file : DiskFile). record { opened = path_of opened; place = opened.place; volume = v; file = file }) o) there

-- ---- in a sound state

module _ (state : FileState) (views : List DriveView) (sound : AreSoundFiles state views) (p n : ℕ) (opened : OpenFile) (is : IsOpenedPath state p n opened) where
  file : IsOpenFileOf state views sound.files p n opened
  file = is.file views sound.files sound.stands sound.kinds

  pub is-named : IsNamed state.io p n opened
  is-named = named-of state views sound.files p n opened sound.stands file

  pub has-file : HasFileAt state.disks views opened.place
  has-file = file.has

  pub may-be-written : MayBeWritten opened state.disks views
  may-be-written writes = by opened.is_directory refl
    where
      by : (t : Bool) → opened.is_directory ≡ t → HasDataFileAt state.disks views opened.place
      by true directory = absurd (false≢true (sym (file.unwritten directory) ∙ writes))
      by false directory = file.data_file directory

-- ---- on a drive

-- a volume that is mounted is that of some media
pub mounted-on : (disks : List (Option Volume)) (views : List DriveView) (volumes : List (Option DiskVolume)) (n : ℕ)
    (v : DiskVolume) → AreMounted disks views volumes → mounted_at volumes n ≡ Some v → (media : Option (List ℕ)) ×
    RepresentsVolume media v
mounted-on disks views volumes n v mounted is =
    let none : DriveView = record { media = None; counts = record { faults = 0; last = None; calls = 0 } } in
    let view : DriveView = get_or views n none in
    let inside : n < length views = omega (arith, mounted-below volumes n v is, mounted.as_many) in
    let there : slice_get views n ≡ Some view = slice_get_read views (length views) n view refl inside (get_or_default views n none view inside) in
    by (disk_at disks n) view (subst (λ (o : Option DiskVolume). AgreesOnDrive (disk_at disks n) view o) is (mounted.each n view there))
  where
    by : (kept : Option Volume) (view : DriveView) → AgreesOnDrive kept view (Some v) → (media : Option (List ℕ)) × RepresentsVolume media v
    by None view agrees = absurd agrees
    by (Some volume) view agrees = (view.media, agrees.on)

-- a file of it has no more bytes than 32 bits count
pub mounted-low : (disks : List (Option Volume)) (views : List DriveView) (volumes : List (Option DiskVolume)) (n : ℕ)
    (v : DiskVolume) (number : ℕ) (file : DiskFile) → AreMounted disks views volumes → mounted_at volumes n ≡ Some v
    → v.files number ≡ Some file → length file.contents < 2 ^ 32
mounted-low disks views volumes n v number file mounted is there =
    let on = mounted-on disks views volumes n v mounted is in
    size-low on.0 v number file on.1 there
