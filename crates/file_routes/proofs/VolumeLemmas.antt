-- Drives that were only read, and what is mounted on them.
use Rattle.std.proofs.Common.{◌≡◌, ◌∙◌, ℕ, ◌+◌, ◌<◌, ◌≤◌, Option, Some, None, List, length, get_or, slice_get, slice_set, refl, ap, sym, subst, arith}
use Rattle.std.proofs.lemmas.List.{get_or-set_same, set-get_or, set-set}
use Rattle.std.proofs.lemmas.Option.{slice_get-get_or, slice_get_within, get_or_from_slice_get}
use Rattle.rbf_model.specs.Volume.{DiskVolume}
use Rattle.rbf_access.specs.Drive.{MovesCounts}
use Rattle.rbf_access.specs.declared.volume.Volume.{Volume}
use Rattle.rbf_access.proofs.Counting.{no_calls, counts_most, counts_then}
use Rattle.rbf_walk.proofs.Stepping.{same_content}
use Rattle.lock_model.specs.declared.place.FilePlace.{FilePlace}
use Rattle.file_drives.specs.Drives.{DriveView, ReadsDrive}
use Rattle.file_drives.specs.Mounted.{AgreesOnDrive, AreMounted, HasFileAt, disk_at, mounted_at}
use Rattle.file_drives.proofs.MountedLemmas.{mounted-below}

-- ---- which volume is mounted

agree-same : (kept : Option Volume) (view : DriveView) (v w : DiskVolume) → AgreesOnDrive kept view (Some v) → AgreesOnDrive kept view (Some w) → v ≡ w
agree-same None view v w one other = absurd one
agree-same (Some volume) view v w one other = same_content view.media v w one.on other.on

no_view : DriveView
no_view = record { media = None; counts = record { faults = 0; last = None; calls = 0 } }

-- the drive of a volume that is mounted is there
pub view-there : (disks : List (Option Volume)) (views : List DriveView) (volumes : List (Option DiskVolume)) (n : ℕ)
    (v : DiskVolume) → AreMounted disks views volumes → mounted_at volumes n ≡ Some v → (view : DriveView) ×
    (slice_get views n ≡ Some view)
view-there disks views volumes n v mounted is =
    let within : n < length views = omega (arith, mounted-below volumes n v is, mounted.as_many) in
    (_, slice_get-get_or views n no_view within)

pub agrees-at : (disks : List (Option Volume)) (views : List DriveView) (volumes : List (Option DiskVolume)) (n : ℕ)
    (v : DiskVolume) (view : DriveView) → AreMounted disks views volumes → mounted_at volumes n ≡ Some v
    → slice_get views n ≡ Some view → AgreesOnDrive (disk_at disks n) view (Some v)
agrees-at disks views volumes n v view mounted is there =
    subst (λ (o : Option DiskVolume). AgreesOnDrive (disk_at disks n) view o) is (mounted.each n view there)

-- one volume alone is mounted on a drive
pub same-volume : (disks : List (Option Volume)) (views : List DriveView) (volumes others : List (Option DiskVolume))
    (n : ℕ) (v w : DiskVolume) → AreMounted disks views volumes → AreMounted disks views others → mounted_at volumes n
    ≡ Some v → mounted_at others n ≡ Some w → v ≡ w
same-volume disks views volumes others n v w mounted other_mounted is other_is =
    let there = view-there disks views volumes n v mounted is in
    agree-same (disk_at disks n) there.0 v w (agrees-at disks views volumes n v there.0 mounted is there.1) (agrees-at disks views others n w there.0 other_mounted other_is there.1)

-- the file at a place is that of the volume that is mounted
pub file-there : (disks : List (Option Volume)) (views : List DriveView) (place : FilePlace)
    (has : HasFileAt disks views place) (volumes : List (Option DiskVolume)) (v : DiskVolume) → AreMounted disks views
    volumes → mounted_at volumes place.drive ≡ Some v → v.files place.number ≡ Some has.file
file-there disks views place has volumes v mounted is =
    ap (λ (w : DiskVolume). w.files place.number) (same-volume disks views volumes has.volumes place.drive v has.volume mounted has.mounted is has.is) ∙ has.there

-- ---- drives that were read

-- none was
pub reads-none : (n : ℕ) (views : List DriveView) (view : DriveView) → slice_get views n ≡ Some view → ReadsDrive None 0 n views views
reads-none n views view is = (
  view,
  view,
  is,
  sym (ap (slice_set views n) (sym (get_or_from_slice_get views n view view is)) ∙ set-get_or views n view),
  record { media_kept = refl; counts = no_calls view.counts },
)

pub reads-most : (fault : Option ℕ) (a b n : ℕ) (before after : List DriveView) → a ≤ b → ReadsDrive fault a n before after → ReadsDrive fault b n before after
reads-most fault a b n before after more (old, new, is, after_is, reads) =
    (old, new, is, after_is, record { media_kept = reads.media_kept; counts = counts_most fault a b old.counts new.counts more reads.counts })

-- one after another
pub reads-then : (fault : Option ℕ) (a b n : ℕ) (before mid after : List DriveView) → ReadsDrive None a n before mid → ReadsDrive fault b n mid after → ReadsDrive fault (a + b) n before after
reads-then fault a b n before mid after (old, between, is, mid_is, first) (same, new, there, after_is, second) =
    let within : n < length before = slice_get_within before n old is in
    let here : same ≡ between =
    sym (get_or_from_slice_get mid n same same there) ∙ ap (λ (views : List DriveView). get_or_view views) mid_is ∙ get_or-set_same before n between same within in (
      old,
      new,
      is,
      after_is ∙ ap (λ (views : List DriveView). slice_set views n new) mid_is ∙ set-set before n between new,
      record {
        media_kept = second.media_kept ∙ ap (λ (view : DriveView). view.media) here ∙ first.media_kept;
        counts = counts_then fault a b old.counts between.counts new.counts first.counts (subst (λ (view : DriveView). MovesCounts fault b view.counts new.counts) here second.counts);
      },
    )
  where
    get_or_view : List DriveView → DriveView
    get_or_view views = get_or views n same
