-- An attempt to mount the volume of a drive of a machine.
use Rattle.std.proofs.Common.{◌≡◌, ℕ, ◌+◌, ◌<◌, ◌≤◌, ◌∙◌, Err, IsErrOf, Option, Some, None, List, map, length, get_or, set, slice_get, slice_set, refl, sym, subst}
use Rattle.std.proofs.lemmas.List.{length-map, map-set, set-get_or}
use Rattle.std.proofs.lemmas.Option.{same_Some}
use Rattle.std.specs.declared.alloc.Global.{Global}
use Rattle.std.specs.declared.dyn_box.DynBox.{DynBox}
use Rattle.os9_outer.specs.declared.drive.BlockDriver.{Ghosts}
use Rattle.rbf_model.specs.Volume.{DiskVolume}
use Rattle.rbf_access.specs.Cached.{IsCacheOf}
use Rattle.rbf_access.specs.Drive.{MovesCounts}
use Rattle.rbf_access.specs.Faults.{volume_fault}
use Rattle.rbf_access.specs.Mounted.{HoldsVolume, IsVolumeOf, RepresentsVolume, media_calls}
use Rattle.rbf_access.specs.declared.faults.VolFault.{VolFault}
use Rattle.rbf_access.specs.declared.faults.VolFault.TheVariants.{Device, NotRbf, OutOfMemory}
use Rattle.rbf_access.specs.declared.volume.Volume.{Volume}
use Rattle.file_drives.proofs.ChangeLemmas.{refusal_counts}
use Rattle.file_drives.proofs.DriveLemmas.{changes-one, drive-here, lent-is, with_driver}
use Rattle.file_drives.proofs.MountedLemmas.{mounted-set}
use Rattle.file_drives.proofs.SlotLemmas.{mounted-still, mounts-as}
use Rattle.file_drives.specs.Drives.{ChangesOneDrive, DriveView, boxed_seen}
use Rattle.file_drives.specs.Mounted.{AgreesOnDrive, AreMounted, Mounts, ReadsToMount, StayMounted, disk_at, mounted_at}

-- what agrees with a drive agrees where its media stayed
agrees-still : (kept : Option Volume) (before after : DriveView) (o : Option DiskVolume) → after.media ≡ before.media → AgreesOnDrive kept before o → AgreesOnDrive kept after o
agrees-still None before after None same agrees = agrees
agrees-still None before after (Some v) same agrees = agrees
agrees-still (Some volume) before after None same agrees = agrees
agrees-still (Some volume) before after (Some v) same agrees = mounted-still volume volume before.media after.media v refl same (subst (λ m. IsCacheOf m volume.cache) (sym same) agrees.cached) agrees

-- an attempt that fails has only read the drive, and at most once if it holds no volume
pub reads-in-vain : (fault : VolFault) (before after : DriveView) → after.media ≡ before.media
    → MovesCounts (volume_fault {A = Volume} (Err fault)) (media_calls before.media) before.counts after.counts
    → (IsErrOf {T = Volume} (Err fault) NotRbf → after.counts.calls ≤ before.counts.calls + 1)
    → (IsErrOf {T = Volume} (Err fault) NotRbf → ¬ HoldsVolume before.media) → ReadsToMount (Err fault) before after
reads-in-vain (Device number) before after same counts few none = record { reads = record { media_kept = same; counts = counts }; holds = tt; not_rbf = λ is. absurd (cc is) }
reads-in-vain NotRbf before after same counts few none = record {
  reads = record { media_kept = same; counts = refusal_counts _ before.counts after.counts (few refl) counts };
  holds = tt;
  not_rbf = λ is. none refl;
}
reads-in-vain OutOfMemory before after same counts few none = record { reads = record { media_kept = same; counts = counts }; holds = tt; not_rbf = λ is. absurd (cc is) }

-- an attempt to mount the volume of a drive, by the driver that its box lends
module _ {Table : Type 0} {Driver : Table → Type 0} (members : (drive : (table : Table) × Driver table)
    → Ghosts (Driver drive.0)) {items disks : List (Option Volume)} (drivers : List (DynBox Table Global Driver))
    (n : ℕ) {box : DynBox Table Global Driver} {lent : (table : Table) × Driver table} (same : items ≡ disks)
    (there : n < length items) (inside : n < length drivers) (box_is : box ≡ get_or drivers n box)
    (lent_is : lent ≡ (box.vtable, box.value)) where
  abbrev view : DynBox Table Global Driver → DriveView
  view = boxed_seen (λ b. members (b.vtable, b.value))

  abbrev driver : DynBox Table Global Driver
  driver = with_driver box lent

  driver_is : driver ≡ get_or drivers n driver
  driver_is = lent-is drivers n box_is lent_is

  here : slice_get (map view drivers) n ≡ Some (view driver)
  here = drive-here view drivers n driver inside driver_is

  -- another state is kept for the drive then
  mounted-then : (after : DynBox Table Global Driver) (new : Option Volume) (volumes : List (Option DiskVolume))
      (left : Option DiskVolume) → AgreesOnDrive new (view after) left → AreMounted disks (map view drivers) volumes
      → AreMounted (slice_set disks n new) (map view (slice_set drivers n after)) (slice_set volumes n left)
  mounted-then after new volumes left agrees mounted =
      subst (λ views. AreMounted (set disks n new) views (set volumes n left)) (sym (map-set view drivers n after))
      (mounted-set disks (map view drivers) volumes n new (view after) left (subst (λ d. n < length d) same there) (subst (λ k. n < k) (sym (length-map drivers view)) inside) agrees mounted)

  -- the volume that was found is mounted
  pub mounts : (after : DynBox Table Global Driver) (volume : Volume) → (view after).media ≡ (view driver).media
      → IsVolumeOf (view after).media volume → Mounts n disks (map view drivers) (slice_set items n (Some volume))
      (map view (slice_set drivers n after))
  mounts after volume media_same found volumes v mounted holds =
      let view_same : holds.view ≡ view driver = same_Some holds.view (view driver) (sym holds.is ∙ here) in
      subst (λ d. AreMounted (set d n (Some volume)) (map view (slice_set drivers n after)) (set volumes n (Some v))) (sym same)
      (mounted-then after (Some volume) volumes (Some v)
      (mounts-as volume (view driver).media (view after).media v media_same found
      (subst (λ (w : DriveView). RepresentsVolume w.media v) view_same holds.on)) mounted)

  -- the volumes that were mounted stay so
  pub stays : (after : DynBox Table Global Driver) → (view after).media ≡ (view driver).media → StayMounted disks
      (map view drivers) disks (map view (slice_set drivers n after))
  stays after media_same volumes mounted =
      subst (λ d. AreMounted d (map view (slice_set drivers n after)) volumes) (set-get_or disks n None)
      (subst (λ vs. AreMounted (set disks n (disk_at disks n)) (map view (slice_set drivers n after)) vs) (set-get_or volumes n None)
      (mounted-then after (disk_at disks n) volumes (mounted_at volumes n)
      (agrees-still (disk_at disks n) (view driver) (view after) (mounted_at volumes n) media_same (mounted.each n (view driver) here)) mounted))

  -- the drive was read
  pub reads-to-mount : (after : DynBox Table Global Driver) (change : DriveView → DriveView → Type 0)
      → change (view driver) (view after) → ChangesOneDrive change n (map view drivers) (map view (slice_set drivers n after))
  reads-to-mount after change changed = changes-one view change drivers n driver after inside driver_is changed
