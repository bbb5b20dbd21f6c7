-- The file of a path, from the number that names it.
use Rattle.std.proofs.Common.{◌≡◌, ℕ, ◌<◌, ◌∙◌, Bool, true, false, Option, Some, None, IfSome, option_map, option_and_then, List, length, get_or, slice_get, refl, ap, sym, subst, arith}
use Rattle.std.proofs.lemmas.List.{get_or_default}
use Rattle.std.proofs.lemmas.Option.{none-some, same_Some, slice_get_read}
use Rattle.os9_base.specs.declared.registers.Regs.{Regs}
use Rattle.io_model.specs.Again.{IsAgain, path_number}
use Rattle.io_model.specs.Io.{Io, OpenPath, pending_at, open_path}
use Rattle.io_model.specs.declared.io_call.IoCall.{IoCall}
use Rattle.io_state.specs.Sound.{IsNoRead}
use Rattle.io_model.specs.Modes.{can_write}
use Rattle.rbf_access.specs.Mounted.{RepresentsVolume}
use Rattle.rbf_access.specs.declared.volume.Volume.{Volume}
use Rattle.rbf_model.specs.File.{DiskFile}
use Rattle.rbf_model.specs.Volume.{DiskVolume}
use Rattle.file_rules.specs.Files.{Files, OpenFile, open_file, open_file_at, place_of_target, volume_at}
use Rattle.lock_model.specs.declared.place.FilePlace.{FilePlace}
use Rattle.file_drives.proofs.MountedLemmas.{mounted-below}
use Rattle.file_drives.specs.Drives.{DriveView}
use Rattle.file_drives.specs.Mounted.{AgreesOnDrive, AreMounted, HasDataFileAt, HasFileAt, ReadsFile, mounted_at}
use Rattle.file_drives.specs.Mounted as drives
use Rattle.file_laws.specs.Kinds.{AreKinds}
use Rattle.file_state.proofs.AskingLemmas.{may-ask, no-read-again}
use Rattle.file_state.specs.Asking.{KeepsRequest, MayAsk}
use Rattle.file_state.specs.Opened.{IsOpenFileOf, IsPathOf, path_of}
use Rattle.file_state.specs.Tie.{AreSoundFiles, RepresentsFiles}
use Rattle.file_state.specs.declared.state.FileState.{FileState}
use Rattle.file_state.specs.declared.state.OpenFile.{OpenFile as KernelFile}
use Rattle.file_status.specs.Status.{RepresentsOpenFile}

and-then : {A B : Type 0} (f : A → Option B) (o : Option A) (b : B) → option_and_then f o ≡ Some b → (a : A) × (o ≡ Some a) × (f a ≡ Some b)
and-then f None b h = absurd (none-some b h)
and-then f (Some a) b h = (a, refl, h)

mapped : {A B : Type 0} (f : A → B) (o : Option A) (b : B) → option_map f o ≡ Some b → (a : A) × (o ≡ Some a) × (f a ≡ b)
mapped f None b h = absurd (none-some b h)
mapped f (Some a) b h = (a, refl, same_Some (f a) b h)

-- what a file that a number names is found by
record IsFound (files : Files) (p n : ℕ) (found : OpenFile) : Type 0 where
  pub target : place_of_target found.opened.desc.target ≡ Some found.place
  pub volume : volume_at files found.place.drive ≡ Some found.volume
  pub file : found.volume.files found.place.number ≡ Some found.file
  pub path : open_path files.io p n ≡ Some found.opened

found-by : (files : Files) (p n : ℕ) (found : OpenFile) → open_file files p n ≡ Some found → IsFound files p n found
found-by files p n found is =
    let one = and-then (λ (opened : OpenPath). option_and_then (open_file_at files opened) (place_of_target opened.desc.target)) (open_path files.io p n) found is in
    let two = and-then (open_file_at files one.0) (place_of_target one.0.desc.target) found one.2 in
    let three = and-then (λ (v : DiskVolume). option_map (λ (file : DiskFile). let f : OpenFile = record
    { opened = one.0; place = two.0; volume = v; file = file } in f) (v.files two.0.number))
    (volume_at files two.0.drive) found two.2 in
    let four = mapped (λ (file : DiskFile). let f : OpenFile = record { opened = one.0; place = two.0; volume = three.0; file = file } in f) (three.0.files two.0.number) found three.2 in
    subst (λ (f : OpenFile). IsFound files p n f) four.2
    (record { target = two.1; volume = three.1; file = four.1; path = one.1 })

-- the file that a number names is the one that its path was opened on
pub open-of : (state : FileState) (views : List DriveView) (files : Files) (p n : ℕ) (opened : KernelFile) (it : IsOpenFileOf state views files p n opened) → RepresentsOpenFile files opened it.found
open-of state views files p n opened it =
    let by = found-by files p n it.found it.is in
    record {
      path_is = ap (λ (path : OpenPath). path.path) it.path;
      desc_is = ap (λ (path : OpenPath). path.desc) it.path;
      place_is = it.place;
      target_is = ap (λ (path : OpenPath). place_of_target path.desc.target) (sym it.path) ∙ by.target ∙ ap (λ place. Some place) it.place;
      volume_is = ap (λ (place : FilePlace). volume_at files place.drive) (sym it.place) ∙ by.volume;
      file_is = ap (λ (place : FilePlace). it.found.volume.files place.number) (sym it.place) ∙ by.file;
    }

-- where the kernel's files stand for some, the file is there
pub file-there : (state : FileState) (views : List DriveView) (p n : ℕ) (opened : KernelFile) → AreSoundFiles state views
    → ((was : Files) → RepresentsFiles state views was → AreKinds was → IsOpenFileOf state views was p n opened)
    → HasFileAt state.disks views opened.place
file-there state views p n opened sound named = (named sound.files sound.stands sound.kinds).has

-- a path that may be written is on no directory
pub data-file-there : (state : FileState) (views : List DriveView) (p n : ℕ) (opened : KernelFile)
    → AreSoundFiles state views → ((was : Files) → RepresentsFiles state views was → AreKinds was → IsOpenFileOf state views was p n
    opened) → can_write opened.desc.mode ≡ true → HasDataFileAt state.disks views opened.place
data-file-there state views p n opened sound named may = by opened.is_directory refl
  where
    it : IsOpenFileOf state views sound.files p n opened
    it = named sound.files sound.stands sound.kinds

    by : (directory : Bool) → opened.is_directory ≡ directory → HasDataFileAt state.disks views opened.place
    by true is = absurd (let e : true ≡ false = sym may ∙ it.unwritten is in cc)
    by false is = it.data_file is

-- the number names the path of the file
module _ (state : FileState) (views : List DriveView) (p n : ℕ) (opened : KernelFile) (sound : AreSoundFiles state views)
    (named : (was : Files) → RepresentsFiles state views was → AreKinds was → IsOpenFileOf state views was p n opened) where
  it : IsOpenFileOf state views sound.files p n opened
  it = named sound.files sound.stands sound.kinds

  names : open_path state.io p n ≡ Some (path_of opened)
  names =
      ap (λ (io : Io). open_path io p n) (sym sound.stands.io) ∙ (found-by sound.files p n it.found it.is).path
      ∙ ap (λ (path : OpenPath). Some path) it.path

  place : place_of_target opened.desc.target ≡ Some opened.place
  place = (open-of state views sound.files p n opened it).target_is

  -- its process may ask for records on it
  pub asks-there : IsPathOf state.io opened → KeepsRequest state.io state.records.locks p → MayAsk state.io state.records.locks p opened
  asks-there path pending = may-ask state.io state.records.locks p n opened path names place pending

  -- and the pending call of the process is not a read of a terminal
  pub no-read-there : (call : IoCall) (regs : Regs) → path_number call regs ≡ n → IsAgain call regs state.io p → IfSome (pending_at state.io p) (IsNoRead state.io)
  no-read-there call regs number again = no-read-again state.io p n opened call regs again number names place

-- ---- on a drive

-- a volume that is mounted is that of some media
pub mounted-on : (disks : List (Option Volume)) (views : List DriveView) (volumes : List (Option DiskVolume)) (n : ℕ)
    (v : DiskVolume) → AreMounted disks views volumes → mounted_at volumes n ≡ Some v → (media : Option (List ℕ)) ×
    RepresentsVolume media v
mounted-on disks views volumes n v mounted is =
    let none : DriveView = record { media = None; counts = record { faults = 0; last = None; calls = 0 } } in
    let view : DriveView = get_or views n none in
    let inside : n < length views = omega (arith, mounted-below volumes n v is, mounted.as_many) in
    let there : slice_get views n ≡ Some view = slice_get_read views (length views) n view refl inside (get_or_default views n none view inside) in
    by (drives.disk_at disks n) view (subst (λ (o : Option DiskVolume). AgreesOnDrive (drives.disk_at disks n) view o) is (mounted.each n view there))
  where
    by : (kept : Option Volume) (view : DriveView) → AgreesOnDrive kept view (Some v) → (media : Option (List ℕ)) × RepresentsVolume media v
    by None view agrees = absurd agrees
    by (Some volume) view agrees = (view.media, agrees.on)

-- a file that is there is there still if its drive was only read
pub data-stays : (at : FilePlace) (fault : Option ℕ) (most : DiskVolume → DiskFile → ℕ)
    (disks new : List (Option Volume)) (views now : List DriveView) → HasDataFileAt disks views at
    → ReadsFile at fault most disks views new now → HasDataFileAt new now at
data-stays at fault most disks new views now it reads = record {
  has = record {
    volumes = it.has.volumes;
    mounted = reads.mounted it.has.volumes it.has.mounted;
    volume = it.has.volume;
    is = it.has.is;
    file = it.has.file;
    there = it.has.there;
  };
  not_directory = it.not_directory;
}
