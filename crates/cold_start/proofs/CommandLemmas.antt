-- The root of a mounted volume, its bytes, and the entry of a name in it.
use Rattle.std.proofs.Common.{◌≡◌, ℕ, ◌+◌, ◌/◌, ◌<◌, ◌≤◌, ◌∙◌, true, Option, Some, None, option_map, IfOk, IsSome, List, ◌++◌, length, get_or, take, drop, Result, Ok, Err, refl, ap, sym, subst, append-nil, arith}
use Rattle.std.specs.Prelude.{option_and_then}
use Rattle.std.proofs.lemmas.Bool.{and_parts}
use Rattle.std.proofs.lemmas.List.{drop_all, take_all}
use Rattle.std.proofs.lemmas.Option.{slice_get-get_or}
use Rattle.rbf_model.specs.Fields.{descriptor_field}
use Rattle.rbf_model.specs.File.{DiskFile, is_directory}
use Rattle.rbf_model.specs.Geometry.{Geometry, image_geometry, sector}
use Rattle.rbf_model.specs.Volume.{DiskVolume, Vol}
use Rattle.rbf_model.specs.Walk.{entry_has_name, look_up}
use Rattle.rbf_model.proofs.Owners.{root_file}
use Rattle.rbf_model.proofs.Walked.{entry_file}
use Rattle.rbf_change.specs.Calls.{shape}
use Rattle.rbf_change.specs.Contents.{sector_count}
use Rattle.rbf_change.proofs.LawfulWrites.{shape-image}
use Rattle.rbf_access.specs.Mounted.{RepresentsVolume}
use Rattle.rbf_access.specs.Reading.{IsReadInto}
use Rattle.rbf_access.specs.declared.volume.Volume.{Volume}
use Rattle.rbf_walk.proofs.Places.{find_none}
use Rattle.rbf_walk.specs.Search.{IsNameFoundAt, NonePasses}
use Rattle.file_rules.specs.Processes.{directory_in_root}
use Rattle.lock_model.specs.declared.place.FilePlace.{FilePlace}
use Rattle.file_drives.proofs.MountedLemmas.{mounted-below}
use Rattle.file_drives.specs.Drives.{DriveView, unused_drive}
use Rattle.file_drives.specs.Mounted.{AgreesOnDrive, AreMounted, HasFileAt, OnDisks, ReadsFile, disk_at, mounted_at}
use Rattle.cold_start.proofs.ReadLemmas.{drive-more, drive-then}
use Rattle.cold_start.specs.Start.{IsNamedDescriptor, IsRootAt, OnVolumeOf, directory_at, search_calls}
use Rattle.cold_start.specs.declared.fault.StartFault.{StartFault}

-- ---- the bytes of a file

-- all of them were read
pub read-all : (file : DiskFile) (before now : List ℕ) (count : ℕ) → length before ≡ length file.contents → IsReadInto file 0 before now count → now ≡ file.contents
read-all file before now count same read =
    let all : take (length before) file.contents ≡ file.contents = take_all (length before) file.contents (omega (arith, same)) in
    read.buffer_is
    ∙ ap (λ bytes. bytes ++ drop (length bytes) before) all
    ∙ ap (λ rest. file.contents ++ rest) (drop_all (length file.contents) before (omega (arith, same)))
    ∙ append-nil file.contents

-- a buffer of that length that was filled from its front
pub buffer-whole : (contents items now : List ℕ) (len : ℕ) → now ≡ contents → length items ≡ length contents → len ≡ length items → take len (now ++ drop (length now) items) ≡ contents
buffer-whole contents items now len is same all =
    ap (λ bytes. take len (bytes ++ drop (length bytes) items)) is
    ∙ ap (λ rest. take len (contents ++ rest)) (drop_all (length contents) items (omega (arith, same)))
    ∙ ap (take len) (append-nil contents)
    ∙ take_all len contents (omega (arith, same, all))

-- no entry has the name
pub none-named : (contents name : List ℕ) (i : ℕ) → NonePasses (entry_has_name name) contents i → length contents / 32 ≤ i → look_up contents name ≡ None
none-named contents name i none past =
    ap (option_map descriptor_field) (find_none contents (entry_has_name name) (λ k low. none k (omega (arith, low, past))))

-- the same of these bytes and this name
pub named-as : (directory bytes word name : List ℕ) (o : Option ℕ) → directory ≡ bytes → word ≡ name → IsNamedDescriptor directory word o → IsNamedDescriptor bytes name o
named-as directory bytes word name o same called named =
    subst (λ n. IsNamedDescriptor bytes n o) called (subst (λ b. IsNamedDescriptor b word o) same named)

-- ---- the root

-- what is mounted is the volume of an image
represents : (slot : Option Volume) (view : DriveView) (v : DiskVolume) → AgreesOnDrive slot view (Some v) → RepresentsVolume view.media v
represents None view v agrees = absurd agrees
represents (Some volume) view v agrees = agrees.on

pub of-image : (disks : List (Option Volume)) (views : List DriveView) (volumes : List (Option DiskVolume)) (n : ℕ)
    (v : DiskVolume) → AreMounted disks views volumes → mounted_at volumes n ≡ Some v → (image : List ℕ) × Vol image v
of-image disks views volumes n v mounted is =
    let within = mounted-below volumes n v is in
    let many = mounted.as_many in
    let below : n < length views = omega (arith, within, many) in
    let view : DriveView = get_or views n unused_drive in
    let on : RepresentsVolume view.media v = represents (disk_at disks n) view v
    (subst (λ o. AgreesOnDrive (disk_at disks n) view o) is
    (mounted.each n view (slice_get-get_or views n unused_drive below))) in
    (on.image, on.vol)

-- its root is there, and is a directory
pub root-there : (image : List ℕ) (v : DiskVolume) → Vol image v → (file : DiskFile) × (v.files (shape v).root ≡ Some file) × (is_directory file ≡ true)
root-there image v vol =
    let root = root_file (image_geometry image) (sector image) v vol.sound in (
      root.0,
      ap (λ (g : Geometry). v.files g.root) (shape-image image v vol) ∙ root.1,
      vol.sound.tree.root root.0 root.1,
    )

some-is : {X : Type 0} (o : Option X) → IsSome o → (x : X) × (o ≡ Some x)
some-is None some = absurd (cc some)
some-is (Some x) some = (x, refl)

-- an entry of it names a file
pub entry-there : (image : List ℕ) (v : DiskVolume) (root : DiskFile) (name : List ℕ) (place n : ℕ) → Vol image v
    → v.files (shape v).root ≡ Some root → is_directory root ≡ true → IsNameFoundAt root.contents name place n
    → (file : DiskFile) × (v.files n ≡ Some file)
entry-there image v root name place n vol is directory found =
    let used = (and_parts _ _ found.has).0 in
    let some = entry_file (image_geometry image) v.files vol.sound.tree (shape v).root place root is directory (record { within = found.within; used = used }) in
    some-is (v.files n) (subst (λ k. IsSome (v.files k)) (sym found.descriptor_is) some)

-- ---- CMDS

module _ (disks : List (Option Volume)) (views : List DriveView) (root : FilePlace) (at : IsRootAt disks views root) where
  -- the root of each volume that may be mounted there
  pub record RootOf (v : DiskVolume) : Type 0 where
    pub image : List ℕ
    pub vol : Vol image v
    pub file : DiskFile
    pub there : v.files (shape v).root ≡ Some file
    pub directory : is_directory file ≡ true
    pub number_is : root.number ≡ (shape v).root
    pub is : v.files root.number ≡ Some file

  pub root-of : (volumes : List (Option DiskVolume)) (v : DiskVolume) → AreMounted disks views volumes → mounted_at volumes root.drive ≡ Some v → RootOf v
  root-of volumes v mounted is =
      let on = of-image disks views volumes root.drive v mounted is in
      let file = root-there on.0 v on.1 in
      let same : root.number ≡ (shape v).root = ap (λ (place : FilePlace). place.number) (at.each volumes v mounted is) in
      record {
        image = on.0;
        vol = on.1;
        file = file.0;
        there = file.1;
        directory = file.2;
        number_is = same;
        is = ap v.files same ∙ file.1;
      }

  pub root-file : HasFileAt disks views root
  root-file =
      let it = root-of at.volumes at.volume at.mounted at.is in
      record { volumes = at.volumes; mounted = at.mounted; volume = at.volume; is = at.is; file = it.file; there = it.is }

  module _ (bytes : List ℕ) (kept : List (Option Volume)) (mid : List DriveView) (wanted : List ℕ)
      (read : ReadsFile root None (λ v file. 2 + sector_count (length file.contents)) disks views kept mid)
      (whole : OnDisks disks views root (λ v file. bytes ≡ file.contents)) where
    -- the bytes are those of each such root
    root-bytes : (v : DiskVolume) (volumes : List (Option DiskVolume)) → AreMounted disks views volumes → mounted_at volumes root.drive ≡ Some v → (of : RootOf v) → bytes ≡ of.file.contents
    root-bytes v volumes mounted is of = whole volumes v of.file mounted is of.is

    module _ (n : ℕ) (named : IsNamedDescriptor bytes wanted (Some n)) where
      abbrev entry : FilePlace
      entry = record { drive = root.drive; number = n }

      -- the entry's file
      pub entry-of : (volumes : List (Option DiskVolume)) (v : DiskVolume) → AreMounted disks views volumes → mounted_at volumes root.drive ≡ Some v → (file : DiskFile) × (v.files n ≡ Some file)
      entry-of volumes v mounted is =
          let of = root-of volumes v mounted is in
          entry-there of.image v of.file wanted named.0 n of.vol of.there of.directory
          (subst (λ contents. IsNameFoundAt contents wanted named.0 n) (root-bytes v volumes mounted is of) named.1)

      pub entry-file : HasFileAt kept mid entry
      entry-file =
          let file = entry-of at.volumes at.volume at.mounted at.is in
          record { volumes = at.volumes; mounted = read.mounted at.volumes at.mounted; volume = at.volume; is = at.is; file = file.0; there = file.1 }

      -- the directory that was looked for
      pub entry-found : (found : Option FilePlace) → OnDisks kept mid entry (λ v file. found ≡ directory_at entry file) → OnVolumeOf disks views root (λ v. found ≡ directory_in_root v root wanted)
      entry-found found looked volumes v mounted is =
          let of = root-of volumes v mounted is in
          let file = entry-of volumes v mounted is in
          let names : option_and_then (λ (file : DiskFile). look_up file.contents wanted) (v.files root.number) ≡ Some n =
          ap (option_and_then (λ (file : DiskFile). look_up file.contents wanted)) of.is
          ∙ ap (λ contents. look_up contents wanted) (sym (root-bytes v volumes mounted is of)) ∙ named.1.names
          in
          looked volumes v file.0 (read.mounted volumes mounted) is file.1
          ∙ ap (option_and_then (directory_at entry)) (sym file.1)
          ∙ ap (option_and_then (λ (k : ℕ). option_and_then (directory_at (record { drive = root.drive; number = k })) (v.files k))) (sym names)

      pub entry-answer : (result : Result (Option FilePlace) StartFault) → OnDisks kept mid entry
          (λ v file. IfOk result (λ found. found ≡ directory_at entry file)) → OnVolumeOf disks views root
          (λ v. IfOk result (λ found. found ≡ directory_in_root v root wanted))
      entry-answer (Ok found) looked = entry-found found looked
      entry-answer (Err fault) looked = λ volumes v mounted is. tt

      pub entry-read : (new : List (Option Volume)) (after : List DriveView) (fault : Option ℕ)
          → ReadsFile entry fault (λ v file. 1) kept mid new after → ReadsFile root fault
          (λ v file. search_calls file) disks views new after
      entry-read new after fault looked = record {
        drive = λ volumes v file mounted is there.
            let other = entry-of volumes v mounted is in
            drive-more fault (2 + sector_count (length file.contents) + 1) (search_calls file) root.drive views after (omega arith)
            (drive-then fault (2 + sector_count (length file.contents)) 1 root.drive views mid after (read.drive volumes v file mounted is there)
            (looked.drive volumes v other.0 (read.mounted volumes mounted) is other.1));
        mounted = λ volumes mounted. looked.mounted volumes (read.mounted volumes mounted);
      }
