-- What is mounted on the drives, when one of them and what is kept for it are replaced.
use Rattle.std.proofs.Common.{◌≡◌, ◌≢◌, ℕ, ◌<◌, ◌≤◌, ◌∙◌, Option, Some, None, List, length, set, slice_get, refl, sym, subst, ⊎_elim, arith}
use Rattle.std.proofs.lemmas.Bool.{cases_eq, cases_lt}
use Rattle.std.proofs.lemmas.List.{length-set, get_or-set_same, get_or-set_other, get_or_past, set-get_or}
use Rattle.std.proofs.lemmas.Option.{slice_get_read, slice_get_within, get_or_from_slice_get, none-some}
use Rattle.rbf_model.specs.Volume.{DiskVolume}
use Rattle.rbf_access.specs.declared.volume.Volume.{Volume}
use Rattle.file_drives.specs.Drives.{DriveView}
use Rattle.file_drives.specs.Mounted.{AgreesOnDrive, AreMounted, StayMounted, disk_at, mounted_at}

-- a volume is mounted on a drive that is there
pub mounted-below : (volumes : List (Option DiskVolume)) (n : ℕ) (v : DiskVolume) → mounted_at volumes n ≡ Some v → n < length volumes
mounted-below volumes n v is =
    ⊎_elim (λ below. below)
    (λ past. absurd (none-some v (sym (get_or_past volumes n None past) ∙ is)))
    (cases_lt n (length volumes))

-- an element behind a write to another place
pub read-other : {X : Type 0} (xs : List X) (n m : ℕ) (new x : X) → m ≢ n → slice_get (set xs n new) m ≡ Some x → slice_get xs m ≡ Some x
read-other xs n m new x apart is =
    let inside : m < length (set xs n new) = slice_get_within (set xs n new) m x is in
    slice_get_read xs (length xs) m x refl (subst (λ k. m < k) (length-set xs n new) inside)
    (sym (sym (get_or-set_other xs n m new x apart) ∙ get_or_from_slice_get (set xs n new) m x x is))

-- and of that place
pub read-same : {X : Type 0} (xs : List X) (n : ℕ) (new x : X) → slice_get (set xs n new) n ≡ Some x → x ≡ new
read-same xs n new x is =
    let inside : n < length (set xs n new) = slice_get_within (set xs n new) n x is in
    sym (get_or_from_slice_get (set xs n new) n x x is) ∙ get_or-set_same xs n new x (subst (λ k. n < k) (length-set xs n new) inside)

-- another volume is mounted on a drive
pub mounted-set : (disks : List (Option Volume)) (views : List DriveView) (volumes : List (Option DiskVolume)) (n : ℕ)
    (new : Option Volume) (after : DriveView) (left : Option DiskVolume) → n < length disks → n < length views
    → AgreesOnDrive new after left → AreMounted disks views volumes → AreMounted (set disks n new) (set views n after)
    (set volumes n left)
mounted-set disks views volumes n new after left there inside agrees mounted = record {
  few = subst (λ k. k ≤ 4) (sym (length-set views n after)) mounted.few;
  as_many = length-set volumes n left ∙ mounted.as_many ∙ sym (length-set views n after);
  each = each;
  none_behind = λ m behind.
      let past : length views ≤ m = subst (λ k. k ≤ m) (length-set views n after) behind in
      get_or-set_other disks n m new None (λ same. omega (arith, past, inside, same)) ∙ mounted.none_behind m past;
}
  where
    within : n < length volumes
    within = omega (arith, inside, mounted.as_many)

    at_n : (view : DriveView) → slice_get (set views n after) n ≡ Some view → AgreesOnDrive (disk_at (set disks n new) n) view (mounted_at (set volumes n left) n)
    at_n view is =
        subst (λ k. AgreesOnDrive k view (mounted_at (set volumes n left) n)) (sym (get_or-set_same disks n new None there))
        (subst (λ o. AgreesOnDrive new view o) (sym (get_or-set_same volumes n left None within))
        (subst (λ w. AgreesOnDrive new w left) (sym (read-same views n after view is)) agrees))

    elsewhere : (m : ℕ) (view : DriveView) → m ≢ n → slice_get (set views n after) m ≡ Some view → AgreesOnDrive (disk_at (set disks n new) m) view (mounted_at (set volumes n left) m)
    elsewhere m view apart is =
        subst (λ k. AgreesOnDrive k view (mounted_at (set volumes n left) m)) (sym (get_or-set_other disks n m new None apart))
        (subst (λ o. AgreesOnDrive (disk_at disks m) view o) (sym (get_or-set_other volumes n m left None apart))
        (mounted.each m view (read-other views n m after view apart is)))

    each : (m : ℕ) (view : DriveView) → slice_get (set views n after) m ≡ Some view → AgreesOnDrive (disk_at (set disks n new) m) view (mounted_at (set volumes n left) m)
    each m view is =
        ⊎_elim
        (λ same. subst (λ k. AgreesOnDrive (disk_at (set disks n new) k) view (mounted_at (set volumes n left) k))
        (sym same) (at_n view (subst (λ k. slice_get (set views n after) k ≡ Some view) same is)))
        (λ apart. elsewhere m view apart is)
        (cases_eq m n)

-- where a volume is mounted, something is mounted whichever volumes are
same_kind : (kept : Option Volume) (view : DriveView) (v : DiskVolume) → AgreesOnDrive kept view None → AgreesOnDrive kept view (Some v) → ⊥
same_kind None view v none some = some
same_kind (Some volume) view v none some = none

-- what was mounted on a drive is mounted still, and so on all
pub stay-set : (disks : List (Option Volume)) (views : List DriveView) (n : ℕ) (new : Option Volume)
    (before after : DriveView) (v : DiskVolume) → n < length disks → slice_get views n ≡ Some before
    → AgreesOnDrive (disk_at disks n) before (Some v) → ((w : DiskVolume) → AgreesOnDrive (disk_at disks n) before
    (Some w) → AgreesOnDrive new after (Some w)) → StayMounted disks views (set disks n new) (set views n after)
stay-set disks views n new before after v there is on stays volumes mounted =
    subst (λ vs. AreMounted (set disks n new) (set views n after) vs) (set-get_or volumes n None)
    (mounted-set disks views volumes n new after (mounted_at volumes n) there (slice_get_within views n before is) (still (mounted_at volumes n) (mounted.each n before is)) mounted)
  where
    still : (o : Option DiskVolume) → AgreesOnDrive (disk_at disks n) before o → AgreesOnDrive new after o
    still None agrees = absurd (same_kind (disk_at disks n) before v agrees on)
    still (Some w) agrees = stays w agrees
