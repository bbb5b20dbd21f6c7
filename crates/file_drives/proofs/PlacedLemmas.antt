-- From one drive and what is kept for it to the drives of a machine: the drive of a place is called.
use Rattle.std.proofs.Common.{◌≡◌, ℕ, ◌<◌, ◌∙◌, false, Option, Some, None, List, map, length, get_or, set, slice_get, slice_set, Result, Ok, Err, IfOk, refl, ap, sym, subst, arith}
use Rattle.std.proofs.lemmas.List.{length-map, length-set, get_or_read, get_or-set_same, map-set}
use Rattle.std.proofs.lemmas.Option.{slice_get-get_or}
use Rattle.std.specs.declared.alloc.Global.{Global}
use Rattle.std.specs.declared.dyn_box.DynBox.{DynBox}
use Rattle.os9_outer.specs.declared.drive.BlockDriver.{Ghosts}
use Rattle.rbf_model.specs.File.{DiskFile, is_directory}
use Rattle.rbf_model.specs.Volume.{DiskVolume}
use Rattle.rbf_access.specs.Drive.{MovesCounts}
use Rattle.rbf_access.specs.Mounted.{HasFile, IsMounted}
use Rattle.rbf_access.specs.Mounted as access
use Rattle.rbf_access.specs.Reading.{OnVolumeFile}
use Rattle.rbf_access.specs.declared.faults.FileFault.TheVariants.{Device, NoCluster, TooManyRuns}
use Rattle.rbf_access.specs.declared.volume.Volume.{Volume}
use Rattle.rbf_write.specs.Files.{HasDataFile}
use Rattle.rbf_walk.specs.Walk.{directory_fault}
use Rattle.rbf_walk.specs.declared.error.DirError.{DirError}
use Rattle.rbf_walk.specs.declared.error.DirError.TheVariants.{NotAllowed, BadPath, NotFound, Exists, File}
use Rattle.lock_model.specs.declared.place.FilePlace.{FilePlace}
use Rattle.file_drives.proofs.DriveLemmas.{changes-one, drive-here, lent-is, media-kept, media-there, with_driver}
use Rattle.file_drives.proofs.IdentLemmas.{ident-left}
use Rattle.file_drives.proofs.SlotLemmas.{LeavesMounted, mounted-left, mounted-still}
use Rattle.file_drives.proofs.MountedLemmas.{mounted-below, mounted-set, stay-set}
use Rattle.file_drives.specs.Changed.{AnswersOnDisk, Asked, ChangesVolume}
use Rattle.file_drives.specs.Drives.{DriveView, KeepsIdent, OnlyReadsDrive, boxed_seen, drive_views, media_at, unused_drive}
use Rattle.file_drives.specs.Mounted.{AgreesOnDrive, AreMounted, ArrivesOn, HasFileAt, IsMountedAs, OnDisks, ReadsFile, disk_at, mounted_at, number_arrived}

-- the drive of a file is there, and a place where something is kept for it
drive-there : {Driver : Type 0} (view : Driver → DriveView) (disks : List (Option Volume)) (drivers : List Driver)
    (place : FilePlace) → HasFileAt disks (map view drivers) place → place.drive < length drivers
drive-there view disks drivers place has =
    let below = mounted-below has.volumes place.drive has.volume has.is in
    let many = has.mounted.as_many in
    let same = length-map drivers view in
    omega (arith, below, many, same)

drive-below : (disks : List (Option Volume)) (views : List DriveView) (place : FilePlace) → HasFileAt disks views place → place.drive < 4
drive-below disks views place has =
    let below = mounted-below has.volumes place.drive has.volume has.is in
    let many = has.mounted.as_many in
    let few = has.mounted.few in
    omega (arith, below, many, few)

-- where a walk arrived, on its drive
fault-placed : (result : Result FilePlace DirError) → directory_fault (number_arrived result) ≡ directory_fault result
fault-placed (Ok place) = refl
fault-placed (Err NotAllowed) = refl
fault-placed (Err BadPath) = refl
fault-placed (Err NotFound) = refl
fault-placed (Err Exists) = refl
fault-placed (Err (File (Device number))) = refl
fault-placed (Err (File NoCluster)) = refl
fault-placed (Err (File TooManyRuns)) = refl

-- a walk arrived at a file on its drive
arrives-placed : (drive : ℕ) (result : Result FilePlace DirError) (fact : ℕ → Type 0) (disks : List (Option Volume))
    (views : List DriveView) → IfOk result (λ place. place.drive ≡ drive) → IfOk (number_arrived result) fact
    → ((place : FilePlace) → place.drive ≡ drive → fact place.number → HasFileAt disks views place)
    → IfOk result (ArrivesOn drive disks views)
arrives-placed drive (Ok place) fact disks views at found has = record { drive_is = at; file = has place at found }
arrives-placed drive (Err error) fact disks views at found has = tt

-- the drive of a file after a call
pub view-after : {Driver : Type 0} (view : Driver → DriveView) {disks : List (Option Volume)} (drivers : List Driver)
    {place : FilePlace} (after : Driver) → HasFileAt disks (map view drivers) place
    → slice_get (map view (slice_set drivers place.drive after)) place.drive ≡ Some (view after)
view-after view {disks} drivers {place} after has =
    let inside = drive-there view disks drivers place has in
    drive-here view (slice_set drivers place.drive after) place.drive after
    (subst (λ k. place.drive < k) (sym (length-set drivers place.drive after)) inside)
    (sym (get_or-set_same drivers place.drive after after inside))

-- a state is kept for the drive of a file
pub none-kept : {items disks : List (Option Volume)} {views : List DriveView} {place : FilePlace} {kept : Option Volume}
    → items ≡ disks → length items ≡ 4 → kept ≡ get_or items place.drive kept → HasFileAt disks views place
    → kept ≡ None → ⊥
none-kept {items} {disks} {views} {place} {kept} same four kept_is has none =
    let there : place.drive < length items = subst (λ k. place.drive < k) (sym four) (drive-below disks views place has) in
    let is_none : disk_at disks place.drive ≡ None = ap (λ d. disk_at d place.drive) (sym same) ∙ sym (get_or_read items place.drive kept there kept_is None) ∙ none in
    let below : place.drive < length views = let within = mounted-below has.volumes place.drive has.volume has.is in let many = has.mounted.as_many in omega (arith, within, many) in
    subst (λ k. AgreesOnDrive k (get_or views place.drive unused_drive) (Some has.volume)) is_none
    (subst (λ o. AgreesOnDrive (disk_at disks place.drive) (get_or views place.drive unused_drive) o) has.is
    (has.mounted.each place.drive (get_or views place.drive unused_drive) (slice_get-get_or views place.drive unused_drive below)))

-- a call of the driver that the box of the file's drive lends, on the volume that is kept for the drive
module _ {Table : Type 0} {Driver : Table → Type 0} (members : (drive : (table : Table) × Driver table)
    → Ghosts (Driver drive.0)) {items disks : List (Option Volume)} (drivers : List (DynBox Table Global Driver))
    {place : FilePlace} {kept : Option Volume} {volume : Volume} {box : DynBox Table Global Driver}
    {lent : (table : Table) × Driver table} (same : items ≡ disks) (four : length items ≡ 4)
    (kept_is : kept ≡ get_or items place.drive kept) (is : kept ≡ Some volume)
    (box_is : box ≡ get_or drivers place.drive box) (lent_is : lent ≡ (box.vtable, box.value))
    (has : HasFileAt disks (drive_views (λ b. members (b.vtable, b.value)) drivers) place) where
  abbrev view : DynBox Table Global Driver → DriveView
  view = boxed_seen (λ b. members (b.vtable, b.value))

  abbrev driver : DynBox Table Global Driver
  driver = with_driver box lent

  driver_is : driver ≡ get_or drivers place.drive driver
  driver_is = lent-is drivers place.drive box_is lent_is

  there : place.drive < length items
  there = subst (λ k. place.drive < k) (sym four) (drive-below disks (map view drivers) place has)

  inside : place.drive < length drivers
  inside = drive-there view disks drivers place has

  here : slice_get (map view drivers) place.drive ≡ Some (view driver)
  here = drive-here view drivers place.drive driver inside driver_is

  is_kept : disk_at disks place.drive ≡ Some volume
  is_kept = ap (λ d. disk_at d place.drive) (sym same) ∙ sym (get_or_read items place.drive kept there kept_is None) ∙ is

  mounted-at : (volumes : List (Option DiskVolume)) (v : DiskVolume) → AreMounted disks (map view drivers) volumes
      → mounted_at volumes place.drive ≡ Some v → IsMountedAs volume (view driver).media v
  mounted-at volumes v mounted v_is =
      subst (λ k. AgreesOnDrive k (view driver) (Some v)) is_kept
      (subst (λ o. AgreesOnDrive (disk_at disks place.drive) (view driver) o) v_is (mounted.each place.drive (view driver) here))

  was : IsMountedAs volume (view driver).media has.volume
  was = mounted-at has.volumes has.volume has.mounted has.is

  -- the volume is mounted, and the file is on it
  pub is-mounted : IsMounted volume (view driver).media
  is-mounted = record { content = has.volume; on = was.on; agrees = was.agrees; cached = was.cached }

  pub has-file : HasFile (view driver).media place.number
  has-file = record { content = has.volume; on = was.on; file = has.file; is = has.there }

  -- a file that is no directory
  pub has-data_file : is_directory has.file ≡ false → HasDataFile (view driver).media place.number
  has-data_file data_file = record {
    content = has.volume;
    on = was.on;
    file = has.file;
    is = has.there;
    not_directory = data_file;
  }

  -- what holds of the file on the media holds of it on the machine
  pub on-file : (fact : DiskVolume → DiskFile → Type 0) → OnVolumeFile (view driver).media place.number fact
      → OnDisks disks (map view drivers) place fact
  on-file fact holds volumes v file mounted v_is file_is = holds v file (mounted-at volumes v mounted v_is).on file_is

  -- the drive as it was
  pub view-before : slice_get (map view drivers) place.drive ≡ Some (view driver)
  view-before = here

  -- which volumes are mounted then
  mounted-then : (volumes : List (Option DiskVolume)) (new : Volume) (after : DynBox Table Global Driver)
      (v : DiskVolume) → AreMounted disks (map view drivers) volumes → IsMountedAs new (view after).media v
      → AreMounted (slice_set items place.drive (Some new)) (map view (slice_set drivers place.drive after))
      (slice_set volumes place.drive (Some v))
  mounted-then volumes new after v mounted on =
      subst (λ d. AreMounted (set d place.drive (Some new)) (map view (slice_set drivers place.drive after)) (set volumes place.drive (Some v))) (sym same)
      (subst (λ views. AreMounted (set disks place.drive (Some new)) views (set volumes place.drive (Some v))) (sym (map-set view drivers place.drive after))
      (mounted-set disks (map view drivers) volumes place.drive (Some new) (view after) (Some v)
      (subst (λ d. place.drive < length d) same there) (subst (λ k. place.drive < k)
      (sym (length-map drivers view)) inside) on mounted))

  -- a call that only reads the drive
  pub only-reads : {new : Volume} (after : DynBox Table Global Driver) (fault : Option ℕ) (most : DiskVolume → DiskFile
      → ℕ) → (view after).media ≡ (view driver).media → access.mounted_part new ≡ access.mounted_part volume
      → IsMounted new (view after).media → OnVolumeFile (view driver).media place.number
      (λ v file. MovesCounts fault (most v file) (view driver).counts (view after).counts)
      → ReadsFile place fault most disks (map view drivers) (slice_set items place.drive (Some new))
      (map view (slice_set drivers place.drive after))
  only-reads {new} after fault most media_same kept_same mounted counts = record {
    drive = λ volumes v file are v_is file_is. changes-one view (OnlyReadsDrive fault (most v file)) drivers place.drive driver
        after inside driver_is (record {
          media_kept = media_same;
          counts = counts v file (mounted-at volumes v are v_is).on file_is;
        });
    mounted = λ volumes are.
        subst (λ d. AreMounted (set d place.drive (Some new)) (map view (slice_set drivers place.drive after)) volumes) (sym same)
        (subst (λ views. AreMounted (set disks place.drive (Some new)) views volumes) (sym (map-set view drivers place.drive after))
        (stay-set disks (map view drivers) place.drive (Some new) (view driver) (view after) has.volume (subst (λ d. place.drive < length d) same there) here
        (subst (λ k. AgreesOnDrive k (view driver) (Some has.volume)) (sym is_kept) was)
        (λ w agrees. mounted-still volume new (view driver).media (view after).media w kept_same media_same mounted.cached
        (subst (λ k. AgreesOnDrive k (view driver) (Some w)) is_kept agrees)) volumes are));
  }

  -- a walk, whose answer is the place of the file
  pub walked-placed : (fact : DiskVolume → DiskFile → Result ℕ DirError → Type 0) (arrived : Result ℕ DirError)
      (result : Result FilePlace DirError) → number_arrived result ≡ arrived → OnVolumeFile (view driver).media
      place.number (λ v file. fact v file arrived) → OnDisks disks (map view drivers) place
      (λ v file. fact v file (number_arrived result))
  walked-placed fact arrived result arrives walked volumes v file mounted v_is file_is =
      subst (λ r. fact v file r) (sym arrives) (walked v file (mounted-at volumes v mounted v_is).on file_is)

  pub reads-placed : {new : Volume} (after : DynBox Table Global Driver) (most : DiskVolume → DiskFile → ℕ)
      (arrived : Result ℕ DirError) (result : Result FilePlace DirError) → number_arrived result ≡ arrived
      → (view after).media ≡ (view driver).media → access.mounted_part new ≡ access.mounted_part volume
      → IsMounted new (view after).media → OnVolumeFile (view driver).media place.number
      (λ v file. MovesCounts (directory_fault arrived) (most v file) (view driver).counts (view after).counts)
      → ReadsFile place (directory_fault result) most disks (map view drivers)
      (slice_set items place.drive (Some new)) (map view (slice_set drivers place.drive after))
  reads-placed {new} after most arrived result arrives media_same kept_same mounted counts =
      subst (λ fault. ReadsFile place fault most disks (map view drivers) (slice_set items place.drive (Some new)) (map view (slice_set drivers place.drive after)))
      (ap directory_fault (sym arrives) ∙ fault-placed result)
      (only-reads after (directory_fault arrived) most media_same kept_same mounted counts)

  -- a file at which a walk arrives is on the machine then
  pub arrives-on : {new : Volume} (after : DynBox Table Global Driver) (arrived : Result ℕ DirError)
      (result : Result FilePlace DirError) → number_arrived result ≡ arrived
      → IfOk result (λ to. to.drive ≡ place.drive) → (view after).media ≡ (view driver).media
      → IsMounted new (view after).media → IfOk arrived (HasFile (view driver).media)
      → IfOk result (ArrivesOn place.drive (slice_set items place.drive (Some new))
      (map view (slice_set drivers place.drive after)))
  arrives-on {new} after arrived result arrives at media_same mounted found =
      arrives-placed place.drive result (HasFile (view driver).media) (slice_set items place.drive (Some new)) (map view (slice_set drivers place.drive after)) at
      (subst (λ r. IfOk r (HasFile (view driver).media)) (sym arrives) found) file-at
    where
      file-at : (to : FilePlace) → to.drive ≡ place.drive → HasFile (view driver).media to.number
          → HasFileAt (slice_set items place.drive (Some new)) (map view (slice_set drivers place.drive after)) to
      file-at to at found = record {
        volumes = slice_set has.volumes place.drive (Some found.content);
        mounted = mounted-then has.volumes new after found.content has.mounted (mounted-left new (view after).media found.content mounted
            (record { image = found.on.image; is = media_same ∙ found.on.is; vol = found.on.vol }));
        volume = found.content;
        is =
            ap (λ n. mounted_at (slice_set has.volumes place.drive (Some found.content)) n) at
            ∙ get_or-set_same has.volumes place.drive (Some found.content) None (mounted-below has.volumes place.drive has.volume has.is);
        file = found.file;
        there = found.is;
      }

  -- its media, as it was and as it is then
  media-before : media_at (map view drivers) place.drive ≡ (view driver).media
  media-before = media-there (map view drivers) place.drive (view driver) here

  media-after : (after : DynBox Table Global Driver) → media_at (map view (slice_set drivers place.drive after)) place.drive ≡ (view after).media
  media-after after = media-there (map view (slice_set drivers place.drive after)) place.drive (view after) (view-after view drivers after has)

  -- a call that changes the volume
  pub changes-volume : {new : Volume} (after : DynBox Table Global Driver) (asked : Asked) (answer : Result ℕ DirError)
      (most : DiskVolume → DiskFile → DiskVolume → ℕ) → ((v : DiskVolume) (file : DiskFile)
      → IsMountedAs volume (view driver).media v → v.files place.number ≡ Some file → LeavesMounted asked answer
      (most v file) v file (view driver) new (view after)) → ChangesVolume place asked answer most disks
      (map view drivers) (slice_set items place.drive (Some new)) (map view (slice_set drivers place.drive after))
  changes-volume {new} after asked answer most leaves volumes v file mounted v_is file_is =
      let before = mounted-at volumes v mounted v_is in
      let it = leaves v file before file_is in
      record {
        left = it.left;
        answers = it.answers;
        mounted = mounted-then volumes new after it.left mounted it.on;
        moves = changes-one view (λ old now. MovesCounts (directory_fault answer) (most v file it.left) old.counts now.counts) drivers place.drive driver after inside driver_is it.counts;
        refused = λ h. media-kept view drivers place.drive driver after inside driver_is (it.refused h);
        disk =
            subst (λ media. AnswersOnDisk asked.change asked.user asked.now v file answer media (media_at (map view (slice_set drivers place.drive after)) place.drive)) (sym media-before)
            (subst (λ media. AnswersOnDisk asked.change asked.user asked.now v file answer (view driver).media media) (sym (media-after after)) it.disk);
        ident =
            subst (λ media. KeepsIdent media (media_at (map view (slice_set drivers place.drive after)) place.drive)) (sym media-before)
            (subst (λ media. KeepsIdent (view driver).media media) (sym (media-after after))
            (ident-left asked v file it.left answer (view driver).media (view after).media before.on it.on.on it.answers));
      }
