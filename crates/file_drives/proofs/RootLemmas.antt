-- The root of a volume that is mounted.
use Rattle.std.proofs.Common.{◌≡◌, ℕ, ◌<◌, ◌∙◌, Option, Some, None, option_map, IfSome, List, length, get_or, refl, ap, sym, subst, ⊎_elim, arith}
use Rattle.std.proofs.lemmas.Bool.{cases_lt}
use Rattle.std.proofs.lemmas.List.{get_or_past, get_or_read}
use Rattle.std.proofs.lemmas.Option.{slice_get-get_or}
use Rattle.rbf_model.specs.File.{DiskFile}
use Rattle.rbf_model.specs.Geometry.{Geometry, image_geometry, sector}
use Rattle.rbf_model.specs.Volume.{DiskVolume, Vol}
use Rattle.rbf_model.proofs.Owners.{root_file}
use Rattle.rbf_change.specs.Calls.{shape}
use Rattle.rbf_change.proofs.LawfulWrites.{shape-image}
use Rattle.rbf_change.specs.Agrees.{Agrees}
use Rattle.rbf_access.specs.Mounted.{RepresentsVolume, mounted_part}
use Rattle.rbf_access.specs.declared.volume.Volume.{Volume}
use Rattle.file_rules.specs.Route.{root_of}
use Rattle.lock_model.specs.declared.place.FilePlace.{FilePlace}
use Rattle.file_drives.proofs.MountedLemmas.{mounted-below}
use Rattle.file_drives.specs.Drives.{DriveView}
use Rattle.file_drives.specs.Mounted.{AgreesOnDrive, AreMounted, HasFileAt, disk_at, mounted_at}

-- the root that is kept is that of the volume
pub root-kept : (volume : Volume) (view : DriveView) (n number : ℕ) (o : Option DiskVolume)
    → ((image : List ℕ) (v : DiskVolume) → Agrees (mounted_part volume) image → Vol image v → number ≡ (shape v).root)
    → AgreesOnDrive (Some volume) view o → ◌≡◌ {A = Option FilePlace} (Some (record { drive = n; number = number }))
    (option_map (root_of n) o)
root-kept volume view n number None is agrees = absurd agrees
root-kept volume view n number (Some v) is agrees =
    ap (λ k. let place : FilePlace = record { drive = n; number = k } in Some place) (is agrees.on.image v agrees.agrees agrees.on.vol)

pub no-root : (view : DriveView) (n : ℕ) (o : Option DiskVolume) → AgreesOnDrive None view o → ◌≡◌ {A = Option FilePlace} None (option_map (root_of n) o)
no-root view n None agrees = refl
no-root view n (Some v) agrees = absurd agrees

-- each drive and what is kept for it agree, and where there is no drive nothing is kept
pub root-at : (disks : List (Option Volume)) (views : List DriveView) (volumes : List (Option DiskVolume)) (n : ℕ)
    (slot : Option Volume) (result : Option FilePlace) → n < length disks → slot ≡ get_or disks n slot
    → ((view : DriveView) (o : Option DiskVolume) → AgreesOnDrive slot view o → result ≡ option_map (root_of n) o)
    → AreMounted disks views volumes → result ≡ option_map (root_of n) (mounted_at volumes n)
root-at disks views volumes n slot result there slot_is root mounted =
    ⊎_elim
    (λ below.
    let view : DriveView = get_or views n no_view in
    root view (mounted_at volumes n) (subst (λ k. AgreesOnDrive k view (mounted_at volumes n)) is_kept (mounted.each n view (slice_get-get_or views n no_view below))))
    (λ past.
    let none : mounted_at volumes n ≡ None = get_or_past volumes n None (let same = mounted.as_many in omega (arith, past, same)) in
    root no_view (mounted_at volumes n) (subst (λ o. AgreesOnDrive slot no_view o) (sym none) (subst (λ k. AgreesOnDrive k no_view None) (sym (mounted.none_behind n past) ∙ is_kept) tt)))
    (cases_lt n (length views))
  where
    no_view : DriveView
    no_view = record { media = None; counts = record { faults = 0; last = None; calls = 0 } }

    is_kept : disk_at disks n ≡ slot
    is_kept = sym (get_or_read disks n slot there slot_is None)

-- there is a file
pub root-there : (disks : List (Option Volume)) (views : List DriveView) (volumes : List (Option DiskVolume)) (n : ℕ)
    (result : Option FilePlace) → AreMounted disks views volumes → result ≡ option_map (root_of n)
    (mounted_at volumes n) → IfSome result (HasFileAt disks views)
root-there disks views volumes n result mounted is =
    subst (λ r. IfSome r (HasFileAt disks views)) (sym is) (by (mounted_at volumes n) refl)
  where
    has : (v : DiskVolume) (media : Option (List ℕ)) → RepresentsVolume media v → (file : DiskFile) × (v.files (shape v).root ≡ Some file)
    has v media on =
        subst (λ (g : Geometry). (file : DiskFile) × (v.files g.root ≡ Some file)) (sym (shape-image on.image v on.vol)) (root_file (image_geometry on.image) (sector on.image) v on.vol.sound)

    agrees-there : (slot : Option Volume) (view : DriveView) (v : DiskVolume) → AgreesOnDrive slot view (Some v) → RepresentsVolume view.media v
    agrees-there None view v agrees = absurd agrees
    agrees-there (Some volume) view v agrees = agrees.on

    at : (v : DiskVolume) → mounted_at volumes n ≡ Some v → HasFileAt disks views (root_of n v)
    at v here =
        let below : n < length views = let within = mounted-below volumes n v here in let same = mounted.as_many in omega (arith, within, same) in
        let view : DriveView = get_or views n (record { media = None; counts = record { faults = 0; last = None; calls = 0 } }) in
        let on : RepresentsVolume view.media v = agrees-there (disk_at disks n) view v
        (subst (λ o. AgreesOnDrive (disk_at disks n) view o) here
        (mounted.each n view (slice_get-get_or views n _ below))) in
        let found = has v view.media on in
        record { volumes = volumes; mounted = mounted; volume = v; is = here; file = found.0; there = found.1 }

    by : (o : Option DiskVolume) → mounted_at volumes n ≡ o → IfSome (option_map (root_of n) o) (HasFileAt disks views)
    by None here = tt
    by (Some v) here = at v here
