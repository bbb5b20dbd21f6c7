-- What a walk comes to, in the words of the calls on files.
use Rattle.std.proofs.Common.{◌≡◌, ◌∙◌, ℕ, Option, Some, None, Result, Ok, Err, List, slice_get, refl, ap, sym}
use Rattle.os9_base.specs.declared.errors.TheConstants.{E_FNA, E_MNF, E_PNNF}
use Rattle.rbf_model.specs.File.{DiskFile}
use Rattle.rbf_model.specs.Volume.{DiskVolume}
use Rattle.rbf_model.specs.Walk.{WalkEnd, arrives, not_allowed, not_found, walk}
use Rattle.rbf_access.specs.declared.faults.FileFault.TheVariants.{Device, NoCluster, TooManyRuns}
use Rattle.rbf_access.specs.declared.volume.Volume.{Volume}
use Rattle.rbf_walk.specs.Walk.{AnswersWalk}
use Rattle.rbf_walk.specs.declared.error.DirError.{DirError}
use Rattle.rbf_walk.specs.declared.error.DirError.TheVariants.{NotAllowed, BadPath, NotFound, Exists, File}
use Rattle.file_rules.specs.Files.{Asker, Files, volume_at}
use Rattle.file_rules.specs.Step.{Step, refused, reaches, needs, drive_of}
use Rattle.file_rules.specs.Route.{Found, walk_ends, walks}
use Rattle.lock_model.specs.declared.place.FilePlace.{FilePlace}
use Rattle.file_drives.specs.Drives.{DriveView}
use Rattle.file_drives.specs.Mounted.{AgreesOnDrive, AreMounted, HasFileAt, disk_at, mounted_at, number_arrived}
use Rattle.file_routes.specs.Reached.{HasWalkEnd, FindsFilePlace}
use Rattle.file_routes.specs.Walks.{WalksAlongNames}
use Rattle.file_routes.specs.declared.walk.Walker.{Walker}
use Rattle.file_routes.proofs.VolumeLemmas.{agrees-at, file-there, view-there}

-- what a walk comes to, by its result
abbrev pub WalkComes : Walker → Files → FilePlace → List (List ℕ) → Result FilePlace DirError → Type 0
WalkComes walker files from names (Ok place) = FindsFilePlace walker files from names place
WalkComes walker files from names (Err NotAllowed) = HasWalkEnd walker files from names not_allowed
WalkComes walker files from names (Err BadPath) = ⊥
WalkComes walker files from names (Err NotFound) = HasWalkEnd walker files from names not_found
WalkComes walker files from names (Err Exists) = ⊥
WalkComes walker files from names (Err (File (Device number))) =
    (v : DiskVolume) × (volume_at files from.drive ≡ Some v)
WalkComes walker files from names (Err (File NoCluster)) = ⊥
WalkComes walker files from names (Err (File TooManyRuns)) = ⊥

-- ---- the volume of a file that is there

-- where a volume is mounted, one is mounted whichever volumes are
some-agrees : (kept : Option Volume) (view : DriveView) (v : DiskVolume) (other : Option DiskVolume)
    → AgreesOnDrive kept view (Some v) → AgreesOnDrive kept view other → (w : DiskVolume) × (other ≡ Some w)
some-agrees None view v other on agrees = absurd on
some-agrees (Some volume) view v None on agrees = absurd agrees
some-agrees (Some volume) view v (Some w) on agrees = (w, refl)

pub volume-there : (disks : List (Option Volume)) (views : List DriveView) (place : FilePlace)
    (volumes : List (Option DiskVolume)) → HasFileAt disks views place → AreMounted disks views volumes
    → (v : DiskVolume) × (mounted_at volumes place.drive ≡ Some v)
volume-there disks views place volumes has mounted =
    let there : (view : DriveView) × (slice_get views place.drive ≡ Some view) = view-there disks views has.volumes place.drive has.volume has.mounted has.is in
    some-agrees (disk_at disks place.drive) there.0 has.volume (mounted_at volumes place.drive)
    (agrees-at disks views has.volumes place.drive has.volume there.0 has.mounted has.is there.1)
    (mounted.each place.drive there.0 there.1)

-- ---- what it comes to

module _ (walker : Walker) (files : Files) (from : FilePlace) (names : List (List ℕ)) (disks : List (Option Volume))
    (before : List DriveView) (new : List (Option Volume)) (after : List DriveView) (has : HasFileAt disks before
    from) (mounted : AreMounted disks before files.volumes) where
  there : (v : DiskVolume) × (mounted_at files.volumes from.drive ≡ Some v)
  there = volume-there disks before from files.volumes has mounted

  answered : (result : Result FilePlace DirError) → WalksAlongNames walker from names result disks before new after
      → AnswersWalk (walk there.0.files walker.by.user walker.by.execute from.number names) (number_arrived result)
  answered result walks = walks.walked files.volumes there.0 has.file mounted there.1 (file-there disks before from has files.volumes there.0 mounted there.1)

  pub walk-comes : (result : Result FilePlace DirError) → WalksAlongNames walker from names result disks before new after → WalkComes walker files from names result
  walk-comes (Ok place) walks =
      let at = walks.file in
      let now = walks.drive.mounted files.volumes mounted in
      record {
        found = record { place = place; volume = there.0; file = at.file.file };
        place_is = refl;
        drive_is = at.drive_is;
        volume_is = there.1;
        end_is = answered (Ok place) walks;
        file_is = file-there new after place at.file files.volumes there.0 now (ap (mounted_at files.volumes) at.drive_is ∙ there.1);
      }
  walk-comes (Err NotAllowed) walks = record { volume = there.0; volume_is = there.1; end_is = answered (Err NotAllowed) walks }
  walk-comes (Err BadPath) walks = answered (Err BadPath) walks
  walk-comes (Err NotFound) walks = record { volume = there.0; volume_is = there.1; end_is = answered (Err NotFound) walks }
  walk-comes (Err Exists) walks = answered (Err Exists) walks
  walk-comes (Err (File (Device number))) walks = there
  walk-comes (Err (File NoCluster)) walks = answered (Err (File NoCluster)) walks
  walk-comes (Err (File TooManyRuns)) walks = answered (Err (File TooManyRuns)) walks

-- ---- how a call goes on

module _ {E : Type 0} (asker : Asker) (walker : Walker) (files : Files) (from : FilePlace) (names : List (List ℕ)) (user : asker.user ≡ walker.by.user) (next : Found → Step E) where
  on-volume : (v : DiskVolume) (end : WalkEnd) → volume_at files from.drive ≡ Some v → walk v.files walker.by.user
      walker.by.execute from.number names ≡ end → walks asker files walker.by.execute from names next ≡ reaches from.drive
      (walk_ends from.drive v end next)
  on-volume v end is ends =
      ap (λ (volume : Option DiskVolume). needs volume E_MNF (λ v. reaches from.drive (walk_ends from.drive v (walk v.files asker.user walker.by.execute from.number names) next))) is
      ∙ ap (λ (user : ℕ). reaches from.drive (walk_ends from.drive v (walk v.files user walker.by.execute from.number names) next)) user
      ∙ ap (λ (end : WalkEnd). reaches from.drive (walk_ends from.drive v end next)) ends

  -- with the file that is found
  pub walks-found : (place : FilePlace) (it : FindsFilePlace walker files from names place) → walks asker files walker.by.execute from names next ≡ reaches from.drive (next it.found)
  walks-found place it =
      on-volume it.found.volume (arrives place.number) it.volume_is it.end_is
      ∙ ap (λ (file : Option DiskFile). reaches from.drive
      (needs file E_PNNF (λ file. next (record {
        place = record { drive = from.drive; number = place.number };
        volume = it.found.volume;
        file = file;
      })))) it.file_is
      ∙ ap (λ (at : FilePlace). reaches from.drive (next (record { place = at; volume = it.found.volume; file = it.found.file }))) same
    where
      same : record { drive = from.drive; number = place.number } ≡ it.found.place
      same = ap (λ (drive : ℕ). let at : FilePlace = record { drive = drive; number = place.number } in at) (sym it.drive_is) ∙ sym it.place_is

  -- or it is refused
  pub walks-forbidden : HasWalkEnd walker files from names not_allowed → walks asker files walker.by.execute from names next ≡ reaches from.drive (refused E_FNA)
  walks-forbidden it = on-volume it.volume not_allowed it.volume_is it.end_is

  pub walks-unfound : HasWalkEnd walker files from names not_found → walks asker files walker.by.execute from names next ≡ reaches from.drive (refused E_PNNF)
  walks-unfound it = on-volume it.volume not_found it.volume_is it.end_is

  -- or its drive is reached
  pub walks-reaches : (v : DiskVolume) → volume_at files from.drive ≡ Some v → drive_of (walks asker files walker.by.execute from names next) ≡ Some from.drive
  walks-reaches v is =
      ap drive_of (on-volume v (walk v.files walker.by.user walker.by.execute from.number names) is refl)
