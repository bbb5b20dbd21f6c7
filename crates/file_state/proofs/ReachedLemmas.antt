-- From calls of one drive, as the mounted volumes have them, to the words of the calls on files. A call on files takes
-- `has-read` after each read and `has-changed` after a change, puts them together by `has-read-then` and
-- `has-changed-then`, and ends by the lemmas of EndLemmas and KeepLemmas.
use Rattle.std.proofs.Common.{◌≡◌, ◌⊎◌, ℕ, ◌∙◌, true, Option, Some, None, option_and_then, List, slice_get, slice_set, Result, refl, ap, sym, subst, inl, inr}
use Rattle.std.proofs.lemmas.List.{set-get_or}
use Rattle.std.proofs.lemmas.Option.{none-some}
use Rattle.rbf_model.specs.File.{DiskFile}
use Rattle.rbf_model.specs.Volume.{DiskVolume}
use Rattle.rbf_access.specs.Drive.{MovesCounts}
use Rattle.rbf_walk.specs.Walk.{directory_fault}
use Rattle.rbf_walk.specs.declared.error.DirError.{DirError}
use Rattle.file_rules.specs.Files.{DriveState, Files, KeepsDriveFaults, OneFailed, file_in, volume_at, with_drives, with_volume}
use Rattle.lock_model.specs.declared.place.FilePlace.{FilePlace}
use Rattle.file_drives.proofs.DriveLemmas.{changes-weaker, none-failed, one-failed}
use Rattle.file_drives.specs.Changed.{AnswersOnDisk, Asked, ChangesVolume, AnswersChange, IsRefusedChange, is_refused}
use Rattle.file_drives.specs.Drives.{DriveView, KeepsIdent, OneDriveMoves, OnlyReadsDrive, ReadsDrive, drive_states, media_at, media_of}
use Rattle.file_drives.specs.Mounted.{HasFileAt, ReadsFile}
use Rattle.file_state.proofs.MediaLemmas.{media-read, media-same, others-none, others-one, others-then}
use Rattle.file_state.specs.Reached.{DrivesMove, HasReadDrive, OthersStay}
use Rattle.file_state.specs.Tie.{RepresentsFiles}
use Rattle.file_state.specs.declared.state.FileState.{FileState}

-- a change of the volume `v` of the drive was asked for, with this result; `file` is the file to change, or the
-- directory in which a file was to be made or deleted
pub record HasChanged (asked : Asked) (answer : Result ℕ DirError) (drive : ℕ) (v : DiskVolume) (file : DiskFile)
    (files : Files) (new : FileState) (before now : List DriveView) : Type 0 where
  pub left : DiskVolume
  pub answers : AnswersChange asked v file left answer
  pub moved : DrivesMove (directory_fault answer) drive files.drives (drive_states now)
  pub stands : RepresentsFiles new now (with_drives (with_volume files drive left) (drive_states now))
  pub others : OthersStay drive before now
  -- if it is refused, or had to be when the drive failed, the media are unchanged
  pub refused : IsRefusedChange answer ⊎ (is_refused asked v file ≡ true) → media_of now ≡ media_of before
  -- the media of the drive is as the disk's own call leaves it
  pub disk : AnswersOnDisk asked.change asked.user asked.now v file answer (media_at before drive) (media_at now drive)
  pub ident : KeepsIdent (media_at before drive) (media_at now drive)

-- ---- where a file is

-- the volume of a file that is there
pub record OnVolume (files : Files) (place : FilePlace) (file : DiskFile) : Type 0 where
  pub volume : DiskVolume
  pub is : volume_at files place.drive ≡ Some volume
  pub there : volume.files place.number ≡ Some file

pub on-volume : (files : Files) (place : FilePlace) (file : DiskFile) → file_in files place ≡ Some file → OnVolume files place file
on-volume files place file there = by (volume_at files place.drive) refl there
  where
    by : (o : Option DiskVolume) → volume_at files place.drive ≡ o → option_and_then (λ (v : DiskVolume). v.files place.number) o ≡ Some file → OnVolume files place file
    by None at there = absurd (none-some file there)
    by (Some v) at there = record { volume = v; is = at; there = there }

-- and back
pub file-there : (files : Files) (place : FilePlace) (v : DiskVolume) (file : DiskFile) → volume_at files place.drive ≡ Some v → v.files place.number ≡ Some file → file_in files place ≡ Some file
file-there files place v file is there =
    ap (option_and_then (λ (v : DiskVolume). v.files place.number)) is ∙ there

-- it is there on the mounted volumes
pub has-file : (state : FileState) (views : List DriveView) (files : Files) (place : FilePlace) (file : DiskFile)
    → RepresentsFiles state views files → file_in files place ≡ Some file → HasFileAt state.disks views place
has-file state views files place file stands there =
    let on = on-volume files place file there in
    record { volumes = files.volumes; mounted = stands.mounted; volume = on.volume; is = on.is; file = file; there = on.there }

-- ---- how the drives move

pub drives-move : (fault : Option ℕ) (most n : ℕ) (before after : List DriveView) → OneDriveMoves fault most n before after → DrivesMove fault n (drive_states before) (drive_states after)
drives-move None most n before after moved = none-failed most n before after moved
drives-move (Some number) most n before after moved = one-failed number most n before after moved

-- calls behind calls that did not fail
pub moved-then : (fault : Option ℕ) (drive : ℕ) (before mid now : List DriveState) → KeepsDriveFaults before mid → DrivesMove fault drive mid now → DrivesMove fault drive before now
moved-then None drive before mid now none moved = moved ∙ none
moved-then (Some number) drive before mid now none moved = subst (λ drives. OneFailed drive number drives now) none moved

-- ---- the files

-- no drive was read
pub read-none : (drive : ℕ) (state : FileState) (views : List DriveView) (files : Files) → RepresentsFiles state views files → HasReadDrive None drive files state views views
read-none drive state views files stands = record {
  moved = subst (λ drives. KeepsDriveFaults drives (drive_states views)) (sym stands.drives) refl;
  stands = record { io = stands.io; directories = stands.directories; records = stands.records; drives = refl; mounted = stands.mounted };
  media_kept = refl;
  others = others-none drive views;
}

-- a drive was read
pub has-read : (state new : FileState) (views now : List DriveView) (files : Files) (place : FilePlace)
    (file : DiskFile) (fault : Option ℕ) (most : DiskVolume → DiskFile → ℕ) → RepresentsFiles state views files
    → file_in files place ≡ Some file → new.io ≡ state.io → new.directories ≡ state.directories
    → new.records ≡ state.records → ReadsFile place fault most state.disks views new.disks now
    → HasReadDrive fault place.drive files new views now
has-read state new views now files place file fault most stands there io directories records read =
    let on = on-volume files place file there in
    let calls = most on.volume file in
    let drive : ReadsDrive fault calls place.drive views now = read.drive files.volumes on.volume file stands.mounted on.is on.there in
    let moved = changes-weaker (OnlyReadsDrive fault calls) (λ old new. MovesCounts fault calls old.counts new.counts) place.drive views now (λ old new reads. reads.counts) drive in
    record {
      moved = subst (λ drives. DrivesMove fault place.drive drives (drive_states now)) (sym stands.drives) (drives-move fault calls place.drive views now moved);
      stands = record {
        io = stands.io ∙ sym io;
        directories = stands.directories ∙ sym directories;
        records = stands.records ∙ sym records;
        drives = refl;
        mounted = read.mounted files.volumes stands.mounted;
      };
      media_kept = media-read fault calls place.drive views now drive;
      others = others-one (OnlyReadsDrive fault calls) place.drive views now drive;
    }

-- a volume was changed, or was to be
unfoldable pub has-changed : (state new : FileState) (views now : List DriveView) (files : Files) (place : FilePlace)
    (v : DiskVolume) (file : DiskFile) (asked : Asked) (answer : Result ℕ DirError) (most : DiskVolume → DiskFile
    → DiskVolume → ℕ) → RepresentsFiles state views files → volume_at files place.drive ≡ Some v → v.files place.number ≡
    Some file → new.io ≡ state.io → new.directories ≡ state.directories → new.records ≡ state.records
    → ChangesVolume place asked answer most state.disks views new.disks now → HasChanged asked answer place.drive v
    file files new views now
has-changed state new views now files place v file asked answer most stands is there io directories records changes =
    let it = changes files.volumes v file stands.mounted is there in
    record {
      left = it.left;
      answers = it.answers;
      moved = subst (λ drives. DrivesMove (directory_fault answer) place.drive drives (drive_states now))
          (sym stands.drives) (drives-move (directory_fault answer) (most v file it.left) place.drive views now
          it.moves);
      stands = record {
        io = stands.io ∙ sym io;
        directories = stands.directories ∙ sym directories;
        records = stands.records ∙ sym records;
        drives = refl;
        mounted = it.mounted;
      };
      others = others-one (λ old new. MovesCounts (directory_fault answer) (most v file it.left) old.counts new.counts) place.drive views now it.moves;
      refused = it.refused;
      disk = it.disk;
      ident = it.ident;
    }

-- ---- one after another

-- what was read of one drive, or of none, stands for what was read of another
pub read-at : (first drive : ℕ) (files : Files) (mid : FileState) (before views : List DriveView) → (first ≡ drive) ⊎
    (views ≡ before) → HasReadDrive None first files mid before views → HasReadDrive None drive files mid before views
read-at first drive files mid before views (inl same) was = subst (λ (n : ℕ). HasReadDrive None n files mid before views) same was
read-at first drive files mid before views (inr same) was = record {
  moved = was.moved;
  stands = was.stands;
  media_kept = was.media_kept;
  others = λ n apart. ap (λ views. slice_get views n) same;
}

-- a read behind reads of the same drive that did not fail
pub has-read-then : (fault : Option ℕ) (drive : ℕ) (files : Files) (mid new : FileState)
    (before views now : List DriveView) → HasReadDrive None drive files mid before views → HasReadDrive fault drive
    (with_drives files (drive_states views)) new views now → HasReadDrive fault drive files new before now
has-read-then fault drive files mid new before views now was is = record {
  moved = moved-then fault drive files.drives (drive_states views) (drive_states now) was.moved is.moved;
  stands = is.stands;
  media_kept = is.media_kept ∙ was.media_kept;
  others = others-then drive before views now was.others is.others;
}

-- and a change
pub has-changed-then : (asked : Asked) (answer : Result ℕ DirError) (drive : ℕ) (v : DiskVolume) (file : DiskFile)
    (files : Files) (mid new : FileState) (before views now : List DriveView) → HasReadDrive None drive files mid before
    views → HasChanged asked answer drive v file (with_drives files (drive_states views)) new views now
    → HasChanged asked answer drive v file files new before now
has-changed-then asked answer drive v file files mid new before views now was is =
    let same : media_at views drive ≡ media_at before drive = media-same before views drive was.media_kept in
    record {
      left = is.left;
      answers = is.answers;
      moved = moved-then (directory_fault answer) drive files.drives (drive_states views) (drive_states now) was.moved is.moved;
      stands = is.stands;
      others = others-then drive before views now was.others is.others;
      refused = λ quiet. is.refused quiet ∙ was.media_kept;
      disk = subst (λ media. AnswersOnDisk asked.change asked.user asked.now v file answer media (media_at now drive)) same is.disk;
      ident = subst (λ media. KeepsIdent media (media_at now drive)) same is.ident;
    }

-- a volume that is as it was
pub same-volume : (files : Files) (drive : ℕ) (v : DiskVolume) → volume_at files drive ≡ Some v → with_volume files drive v ≡ files
same-volume files drive v is =
    ap (λ volumes. record files { volumes = volumes }) (ap (λ o. slice_set files.volumes drive o) (sym is) ∙ set-get_or files.volumes drive None)
