-- The drives hold the volumes of a state that a kernel and its devices represent.
use Rattle.std.proofs.Common.{◌≡◌, ℕ, ◌<◌, Option, Some, None, List, length, get_or, slice_get, sym, subst, arith}
use Rattle.std.proofs.lemmas.Option.{same_Some, slice_get-get_or}
use Rattle.rbf_model.specs.Volume.{DiskVolume}
use Rattle.rbf_access.specs.Mounted.{RepresentsVolume as MediaRepresents}
use Rattle.rbf_access.specs.declared.volume.Volume.{Volume}
use Rattle.file_drives.specs.Drives.{DriveView, drive_states, unused_drive}
use Rattle.file_drives.specs.Mounted.{AgreesOnDrive, AreMounted, DriveHolds, disk_at, mounted_at}
use Rattle.file_drives.proofs.MountedLemmas.{mounted-below}
use Rattle.machine_model.specs.State.{State}
use Rattle.os9_kernel.specs.Outside.{Outside}
use Rattle.os9_kernel.specs.Tie.{Represents}
use Rattle.os9_kernel.specs.Volumes.{HoldsVolumes}
use Rattle.os9_kernel.specs.declared.kernel.Kernel.{Kernel}

-- what is mounted on a drive is on its media
on-drive : (kept : Option Volume) (view : DriveView) (mounted : Option DiskVolume) (v : DiskVolume) → mounted ≡ Some v → AgreesOnDrive kept view mounted → MediaRepresents view.media v
on-drive None view None v is agrees = cc is
on-drive None view (Some w) v is agrees = absurd agrees
on-drive (Some volume) view None v is agrees = absurd agrees
on-drive (Some volume) view (Some w) v is agrees =
    subst (λ w. MediaRepresents view.media w) (same_Some w v is) agrees.on

drive-holds : (disks : List (Option Volume)) (views : List DriveView) (volumes : List (Option DiskVolume)) → AreMounted disks views volumes → (n : ℕ) (v : DiskVolume)
    → mounted_at volumes n ≡ Some v → DriveHolds views n v
drive-holds disks views volumes mounted n v is =
    let within : n < length views = omega (arith, mounted-below volumes n v is, mounted.as_many) in
    let view = get_or views n unused_drive in
    let there : slice_get views n ≡ Some view = slice_get-get_or views n unused_drive within in
    record {
      view = view;
      is = there;
      on = on-drive (disk_at disks n) view (mounted_at volumes n) v is (mounted.each n view there);
    }

-- a state whose volumes are mounted on the drives
pub holds-mounted : (s : State) (views : List DriveView) → s.files.drives ≡ drive_states views → (disks : List (Option Volume)) → AreMounted disks views s.files.volumes → HoldsVolumes s views
holds-mounted s views counts disks mounted =
    record { counts = counts; volumes = λ drive v is. drive-holds disks views s.files.volumes mounted drive v is }

module _ (kernel : Kernel) (devices : Outside) (s : State) (tied : Represents kernel devices s) where
  pub holds-volumes : HoldsVolumes s devices.drives
  holds-volumes = record {
    counts = tied.files.drives;
    volumes = λ drive v is. drive-holds kernel.machine.files.disks devices.drives s.files.volumes tied.files.mounted drive v is;
  }

  -- also where the drives are as they were
  pub holds-still : (after : Outside) → after.drives ≡ devices.drives → HoldsVolumes s after.drives
  holds-still after same = subst (λ (views : List DriveView). HoldsVolumes s views) (sym same) holds-volumes
