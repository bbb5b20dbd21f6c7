-- Drives that are only read, once and again, and the faults that end it.
use Rattle.std.proofs.Common.{◌≡◌, ◌≢◌, ℕ, ◌+◌, ◌<◌, ◌≤◌, ◌∙◌, Option, Some, None, List, set, slice_get, slice_index_or, eqb, Result, Ok, Err, refl, ap, sym, subst, ⊎_elim, arith}
use Rattle.std.proofs.lemmas.Bool.{cases_eq, cond-true, eq-eqb}
use Rattle.std.proofs.lemmas.List.{length-set, get_or-set_same, get_or-set_other, set-set}
use Rattle.std.proofs.lemmas.Option.{slice_get_within, get_or_from_slice_get}
use Rattle.rbf_model.specs.File.{DiskFile}
use Rattle.rbf_model.specs.Volume.{DiskVolume}
use Rattle.rbf_access.specs.Drive.{MovesCounts}
use Rattle.rbf_access.specs.Faults.{volume_fault}
use Rattle.rbf_access.specs.Mounted.{media_calls}
use Rattle.rbf_access.specs.declared.faults.VolFault.{VolFault}
use Rattle.rbf_access.specs.declared.volume.Volume.{Volume}
use Rattle.rbf_access.proofs.Counting.{counts_most, counts_then}
use Rattle.file_rules.specs.Files.{KeepsDriveFaults}
use Rattle.lock_model.specs.declared.place.FilePlace.{FilePlace}
use Rattle.file_drives.proofs.DriveLemmas.{changes-weaker, none-failed, one-failed}
use Rattle.file_drives.proofs.MountedLemmas.{read-same}
use Rattle.file_drives.specs.Drives.{ChangesOneDrive, DriveView, OneDriveMoves, OnlyReadsDrive, ReadsDrive, drive_states, media_at, unused_drive}
use Rattle.file_drives.specs.Mounted.{ReadsFile, ReadsToMount, mounting_calls}
use Rattle.file_state.proofs.ReachedLemmas.{moved-then}
use Rattle.file_state.specs.Counted.{calls_at}
use Rattle.cold_start.specs.Start.{FailsAmong, IsFaultOfDrive, ReadUpTo, StartMoves, only_drive, start_fault}
use Rattle.cold_start.specs.declared.fault.StartFault.{StartFault}
use Rattle.cold_start.specs.declared.fault.StartFault.TheVariants.{OutOfMemory, Drive}

-- ---- reads of one drive

-- more calls may be allowed
pub drive-more : (fault : Option ℕ) (few most n : ℕ) (before after : List DriveView) → few ≤ most → ReadsDrive fault few n before after → ReadsDrive fault most n before after
drive-more fault few most n before after more read =
    changes-weaker (OnlyReadsDrive fault few) (OnlyReadsDrive fault most) n before after (λ old new reads. record {
      media_kept = reads.media_kept;
      counts = counts_most fault few most old.counts new.counts more reads.counts;
    }) read

-- reads that did not fail, and then reads
pub drive-then : (fault : Option ℕ) (first then n : ℕ) (before mid after : List DriveView) → ReadsDrive None first n
    before mid → ReadsDrive fault then n mid after → ReadsDrive fault (first + then) n before after
drive-then fault first then n before mid after (old, new, is, mid_is, one) (there, left, at, after_is, two) =
    let same : there ≡ new = read-same before n new there (subst (λ views. slice_get views n ≡ Some there) mid_is at) in (
      old,
      left,
      is,
      after_is ∙ ap (λ views. set views n left) mid_is ∙ set-set before n new left,
      record {
        media_kept = two.media_kept ∙ ap (λ (view : DriveView). view.media) same ∙ one.media_kept;
        counts = counts_then fault first then old.counts new.counts left.counts one.counts (subst (λ (view : DriveView). MovesCounts fault then view.counts left.counts) same two.counts);
      },
    )

pub moves-of : (fault : Option ℕ) (most n : ℕ) (before after : List DriveView) → ReadsDrive fault most n before after → OneDriveMoves fault most n before after
moves-of fault most n before after read =
    changes-weaker (OnlyReadsDrive fault most) (λ old new. MovesCounts fault most old.counts new.counts) n before after (λ old new reads. reads.counts) read

-- ---- reads of a file

pub file-more : (place : FilePlace) (fault : Option ℕ) (few most : DiskVolume → DiskFile → ℕ)
    (disks new : List (Option Volume)) (before after : List DriveView) → ((v : DiskVolume) (file : DiskFile)
    → few v file ≤ most v file) → ReadsFile place fault few disks before new after → ReadsFile place fault most disks
    before new after
file-more place fault few most disks new before after more read = record {
  drive = λ volumes v file mounted is there. drive-more fault (few v file) (most v file) place.drive before after (more v file) (read.drive volumes v file mounted is there);
  mounted = read.mounted;
}

pub file-then : (place : FilePlace) (fault : Option ℕ) (first then : DiskVolume → DiskFile → ℕ)
    (disks mid new : List (Option Volume)) (before views after : List DriveView) → ReadsFile place None first disks
    before mid views → ReadsFile place fault then mid views new after → ReadsFile place fault
    (λ v file. first v file + then v file) disks before new after
file-then place fault first then disks mid new before views after one two = record {
  drive = λ volumes v file mounted is there. drive-then fault (first v file) (then v file) place.drive before views
      after (one.drive volumes v file mounted is there) (two.drive volumes v file (one.mounted volumes mounted) is
      there);
  mounted = λ volumes mounted. two.mounted volumes (one.mounted volumes mounted);
}

-- ---- all drives

pub read-none : (most : ℕ → ℕ) (views : List DriveView) → ReadUpTo most views views
read-none most views = record { as_many = refl; media = λ n. refl; calls = λ n. omega arith }

pub read-more : (few most : ℕ → ℕ) (before after : List DriveView) → ((n : ℕ) → few n ≤ most n) → ReadUpTo few before after → ReadUpTo most before after
read-more few most before after more read = record {
  as_many = read.as_many;
  media = read.media;
  calls = λ n. let made = read.calls n in let room = more n in omega (arith, made, room);
}

pub read-then : (first then : ℕ → ℕ) (before mid after : List DriveView) → ReadUpTo first before mid → ReadUpTo then mid after → ReadUpTo (λ n. first n + then n) before after
read-then first then before mid after one two = record {
  as_many = two.as_many ∙ one.as_many;
  media = λ n. two.media n ∙ one.media n;
  calls = λ n. let made = one.calls n in let more = two.calls n in omega (arith, made, more);
}

-- one drive was read, and no other
pub read-one : (fault : Option ℕ) (most n : ℕ) (before after : List DriveView) → ReadsDrive fault most n before after → ReadUpTo (only_drive n most) before after
read-one fault most n before after (old, new, is, after_is, reads) =
    subst (λ views. ReadUpTo (only_drive n most) before views) (sym after_is) (record {
      as_many = length-set before n new;
      media = λ m. ⊎_elim (media-here m) (λ apart. ap (λ (view : DriveView). view.media) (other m apart)) (cases_eq m n);
      calls = λ m. ⊎_elim (calls-here m) (calls-other m) (cases_eq m n);
    })
  where
    was : (m : ℕ) → m ≡ n → slice_index_or before m unused_drive ≡ old
    was m same = ap (λ k. slice_index_or before k unused_drive) same ∙ get_or_from_slice_get before n old unused_drive is

    now : (m : ℕ) → m ≡ n → slice_index_or (set before n new) m unused_drive ≡ new
    now m same =
        ap (λ k. slice_index_or (set before n new) k unused_drive) same ∙ get_or-set_same before n new unused_drive (slice_get_within before n old is)

    other : (m : ℕ) → m ≢ n → slice_index_or (set before n new) m unused_drive ≡ slice_index_or before m unused_drive
    other m apart = get_or-set_other before n m new unused_drive apart

    media-here : (m : ℕ) → m ≡ n → media_at (set before n new) m ≡ media_at before m
    media-here m same =
        ap (λ (view : DriveView). view.media) (now m same) ∙ reads.media_kept ∙ sym (ap (λ (view : DriveView). view.media) (was m same))

    calls-here : (m : ℕ) → m ≡ n → calls_at (set before n new) m ≤ calls_at before m + only_drive n most m
    calls-here m same =
        let made = reads.counts.calls_made in
        let first : calls_at before m ≡ old.counts.calls = ap (λ (view : DriveView). view.counts.calls) (was m same) in
        let last : calls_at (set before n new) m ≡ new.counts.calls = ap (λ (view : DriveView). view.counts.calls) (now m same) in
        let all : only_drive n most m ≡ most = cond-true (eqb m n) most 0 (eq-eqb m n same) in
        omega (arith, made, first, last, all)

    calls-other : (m : ℕ) → m ≢ n → calls_at (set before n new) m ≤ calls_at before m + only_drive n most m
    calls-other m apart =
        let same : calls_at (set before n new) m ≡ calls_at before m = ap (λ (view : DriveView). view.counts.calls) (other m apart) in
        omega (arith, same)

-- the volume of a drive was mounted, or was to be
pub mount-read : (result : Result (Unit {0}) VolFault) (n : ℕ) (before after : List DriveView)
    → ((media : Option (List ℕ)) → mounting_calls result media ≡ media_calls media)
    → ChangesOneDrive (ReadsToMount result) n before after → ReadsDrive (volume_fault result)
    (media_calls (media_at before n)) n before after
mount-read result n before after all (old, new, is, after_is, mount) = (
  old,
  new,
  is,
  after_is,
  subst (λ most. OnlyReadsDrive (volume_fault result) most old new) (all old.media ∙ ap media_calls
      (ap (λ (view : DriveView). view.media) (sym (get_or_from_slice_get before n old unused_drive is)))) mount.reads,
)

-- the same where a fault ended it
pub mount-broken : (fault wanted : VolFault) (n : ℕ) (before after : List DriveView) → fault ≡ wanted
    → ((media : Option (List ℕ)) → mounting_calls (Err wanted) media ≡ media_calls media)
    → ChangesOneDrive (ReadsToMount (Err fault)) n before after
    → ReadsDrive (volume_fault {A = Unit {0}} (Err wanted)) (media_calls (media_at before n)) n before after
mount-broken fault wanted n before after is all mount =
    mount-read (Err wanted) n before after all (subst (λ (f : VolFault). ChangesOneDrive (ReadsToMount (Err f)) n before after) is mount)

-- ---- faults

pub start-moves : {A : Type 0} (result : Result A StartFault) (most n : ℕ) (before after : List DriveView)
    → IsFaultOfDrive n result → OneDriveMoves (start_fault result) most n before after → StartMoves result before after
start-moves (Ok a) most n before after fails moved = none-failed most n before after moved
start-moves (Err OutOfMemory) most n before after fails moved = none-failed most n before after moved
start-moves (Err (Drive drive number)) most n before after fails moved =
    subst (λ d. StartMoves {A = Unit {0}} (Err (Drive d number)) before after) (sym fails) (one-failed number most n before after moved)

-- the drive is one of the first, if it is below so many
pub fails-among : {A : Type 0} (result : Result A StartFault) (n drives : ℕ) → n < drives → IsFaultOfDrive n result → FailsAmong drives result
fails-among (Ok a) n drives inside fails = tt
fails-among (Err OutOfMemory) n drives inside fails = tt
fails-among (Err (Drive drive number)) n drives inside fails = omega (arith, inside, fails)

-- behind what did not fail
pub moves-then : {A : Type 0} (result : Result A StartFault) (before mid after : List DriveView)
    → KeepsDriveFaults (drive_states before) (drive_states mid) → StartMoves result mid after → StartMoves result before
    after
moves-then (Ok a) before mid after none moves = moves ∙ none
moves-then (Err OutOfMemory) before mid after none moves = moves ∙ none
moves-then (Err (Drive drive number)) before mid after none moves =
    moved-then (Some number) drive (drive_states before) (drive_states mid) (drive_states after) none moves
