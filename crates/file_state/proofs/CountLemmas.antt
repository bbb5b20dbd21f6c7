-- How often drives are called, by calls of one drive and by calls one after another.
use Rattle.std.proofs.Common.{◌≡◌, ◌≢◌, ℕ, ◌+◌, ◌≤◌, ◌∙◌, Option, Some, List, set, Result, refl, ap, sym, subst, ⊎_elim, arith}
use Rattle.std.proofs.lemmas.Bool.{cases_eq}
use Rattle.std.proofs.lemmas.List.{length-set, get_or-set_same, get_or-set_other}
use Rattle.std.proofs.lemmas.Option.{slice_get_within, get_or_from_slice_get}
use Rattle.rbf_model.specs.File.{DiskFile}
use Rattle.rbf_model.specs.Volume.{DiskVolume}
use Rattle.rbf_access.specs.Drive.{MovesCounts}
use Rattle.rbf_walk.specs.Walk.{directory_fault}
use Rattle.rbf_walk.specs.declared.error.DirError.{DirError}
use Rattle.file_rules.specs.Files.{Files, volume_at}
use Rattle.lock_model.specs.declared.place.FilePlace.{FilePlace}
use Rattle.file_drives.proofs.DriveLemmas.{changes-weaker}
use Rattle.file_drives.specs.Changed.{Asked, ChangesVolume}
use Rattle.file_drives.specs.Drives.{DriveView, OneDriveMoves, OnlyReadsDrive, ReadsDrive, unused_drive}
use Rattle.file_drives.specs.Mounted.{ReadsFile}
use Rattle.file_state.proofs.ReachedLemmas.{HasChanged, has-changed}
use Rattle.file_state.specs.Counted.{CalledAtMost, calls_at}
use Rattle.file_state.specs.Tie.{RepresentsFiles}
use Rattle.file_state.specs.declared.state.FileState.{FileState}

-- a change with its result, and the number of drive calls for it, by the volume that it left
pub record HasChangedIn (most : DiskVolume → ℕ) (asked : Asked) (answer : Result ℕ DirError) (drive : ℕ)
    (v : DiskVolume) (file : DiskFile) (files : Files) (new : FileState) (before after : List DriveView) : Type 0 where
  pub changed : HasChanged asked answer drive v file files new before after
  pub calls : CalledAtMost (most changed.left) before after

-- no call
pub called-none : (views : List DriveView) → CalledAtMost 0 views views
called-none views = record { as_many = refl; each = λ n. omega arith }

-- more may be allowed
pub called-more : (few most : ℕ) (before after : List DriveView) → few ≤ most → CalledAtMost few before after → CalledAtMost most before after
called-more few most before after more called = record {
  as_many = called.as_many;
  each = λ n. let at = called.each n in omega (arith, at, more);
}

-- one after another
pub called-then : (first then : ℕ) (before mid after : List DriveView) → CalledAtMost first before mid → CalledAtMost then mid after → CalledAtMost (first + then) before after
called-then first then before mid after was is = record {
  as_many = is.as_many ∙ was.as_many;
  each = λ n. let one = was.each n in let other = is.each n in omega (arith, one, other);
}

-- calls of one drive
pub called-one : (fault : Option ℕ) (most n : ℕ) (before after : List DriveView) → OneDriveMoves fault most n before after → CalledAtMost most before after
called-one fault most n before after (old, new, is, after_is, moved) =
    subst (λ views. CalledAtMost most before views) (sym after_is) (record {
      as_many = length-set before n new;
      each = λ m. ⊎_elim (here m) (elsewhere m) (cases_eq m n);
    })
  where
    was : calls_at before n ≡ old.counts.calls
    was = ap (λ (view : DriveView). view.counts.calls) (get_or_from_slice_get before n old unused_drive is)

    now : calls_at (set before n new) n ≡ new.counts.calls
    now = ap (λ (view : DriveView). view.counts.calls) (get_or-set_same before n new unused_drive (slice_get_within before n old is))

    here : (m : ℕ) → m ≡ n → calls_at (set before n new) m ≤ calls_at before m + most
    here m same =
        let made = moved.calls_made in
        subst (λ k. calls_at (set before n new) k ≤ calls_at before k + most) (sym same) (omega (arith, was, now, made))

    elsewhere : (m : ℕ) → m ≢ n → calls_at (set before n new) m ≤ calls_at before m + most
    elsewhere m apart =
        let stays : calls_at (set before n new) m ≡ calls_at before m = ap (λ (view : DriveView). view.counts.calls) (get_or-set_other before n m new unused_drive apart) in
        omega (arith, stays)

-- a read of a file, by the volume and the file
pub called-read : (state new : FileState) (views now : List DriveView) (files : Files) (place : FilePlace)
    (v : DiskVolume) (file : DiskFile) (fault : Option ℕ) (most : DiskVolume → DiskFile → ℕ) → RepresentsFiles state views
    files → volume_at files place.drive ≡ Some v → v.files place.number ≡ Some file → ReadsFile place fault most
    state.disks views new.disks now → CalledAtMost (most v file) views now
called-read state new views now files place v file fault most stands is there read =
    let calls = most v file in
    let drive : ReadsDrive fault calls place.drive views now = read.drive files.volumes v file stands.mounted is there in
    called-one fault calls place.drive views now (changes-weaker (OnlyReadsDrive fault calls) (λ old new. MovesCounts fault
    calls old.counts new.counts) place.drive views now (λ old new reads. reads.counts) drive)

-- a change of a volume, as has-changed has it, and the calls that it made
pub has-changed-in : (state new : FileState) (views now : List DriveView) (files : Files) (place : FilePlace)
    (v : DiskVolume) (file : DiskFile) (asked : Asked) (answer : Result ℕ DirError) (most : DiskVolume → DiskFile
    → DiskVolume → ℕ) → RepresentsFiles state views files → volume_at files place.drive ≡ Some v → v.files place.number ≡
    Some file → new.io ≡ state.io → new.directories ≡ state.directories → new.records ≡ state.records
    → ChangesVolume place asked answer most state.disks views new.disks now → HasChangedIn (most v file) asked answer
    place.drive v file files new views now
unfolding has-changed
has-changed-in state new views now files place v file asked answer most stands is there io directories records changes =
    let it = has-changed state new views now files place v file asked answer most stands is there io directories records changes in
    let made : OneDriveMoves (directory_fault answer) (most v file it.left) place.drive views now = (changes files.volumes v file stands.mounted is there).moves in
    record { changed = it; calls = called-one (directory_fault answer) (most v file it.left) place.drive views now made }
