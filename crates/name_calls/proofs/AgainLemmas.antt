-- A drive that was read before, and is reached again at the file that was found.
use Rattle.std.proofs.Common.{◌≡◌, ◌⊎◌, ◌∙◌, ℕ, ◌≤◌, true, Option, Some, None, option_and_then, List, Result, ap, subst}
use Rattle.rbf_model.specs.File.{DiskFile}
use Rattle.rbf_model.specs.Volume.{DiskVolume}
use Rattle.rbf_access.specs.declared.volume.Volume.{Volume}
use Rattle.rbf_walk.specs.Walk.{directory_fault}
use Rattle.rbf_walk.specs.declared.error.DirError.{DirError}
use Rattle.file_rules.specs.Files.{Files, file_in, volume_at, with_drives, with_volume}
use Rattle.lock_model.specs.declared.place.FilePlace.{FilePlace}
use Rattle.file_drives.specs.Changed.{Asked, ChangesVolume, IsRefusedChange, is_refused}
use Rattle.file_drives.specs.Drives.{DriveView, drive_states}
use Rattle.file_drives.specs.Mounted.{HasFileAt, OnDisks, ReadsFile}
use Rattle.file_state.proofs.CountLemmas.{called-more, called-one, called-read}
use Rattle.file_state.proofs.ReachedLemmas as reached
use Rattle.file_state.specs.Counted.{CalledAtMost}
use Rattle.file_state.specs.Reached.{HasReadDrive}
use Rattle.file_state.proofs.ReachedLemmas.{HasChanged}
use Rattle.file_state.specs.Tie.{RepresentsFiles}
use Rattle.file_state.specs.declared.state.FileState.{FileState}

module _ (files : Files) (place : FilePlace) (v : DiskVolume) (file : DiskFile) (volume_is : volume_at files
    place.drive ≡ Some v) (file_is : v.files place.number ≡ Some file) (mid new : FileState)
    (before views now : List DriveView) (was : HasReadDrive None place.drive files mid before views) where
  file-there : file_in (with_drives files (drive_states views)) place ≡ Some file
  file-there = ap (option_and_then (λ (v : DiskVolume). v.files place.number)) volume_is ∙ file_is

  -- what was read is of that file
  pub of-found : (fact : DiskVolume → DiskFile → Type 0) → OnDisks mid.disks views place fact → fact v file
  of-found fact holds = holds files.volumes v file was.stands.mounted volume_is file_is

  pub read-again : (fault : Option ℕ) (most : DiskVolume → DiskFile → ℕ) → new.io ≡ mid.io → new.directories ≡
      mid.directories → new.records ≡ mid.records → ReadsFile place fault most mid.disks views new.disks now
      → HasReadDrive fault place.drive files new before now
  read-again fault most io directories records reads =
      reached.has-read-then fault place.drive files mid new before views now was
      (reached.has-read mid new views now (with_drives files (drive_states views)) place file fault most was.stands file-there io directories records reads)

  pub changed-again : (asked : Asked) (answer : Result ℕ DirError) (most : DiskVolume → DiskFile → DiskVolume → ℕ)
      → new.io ≡ mid.io → new.directories ≡ mid.directories → new.records ≡ mid.records → ChangesVolume place asked
      answer most mid.disks views new.disks now → HasChanged asked answer place.drive v file files new before now
  changed-again asked answer most io directories records changes =
      reached.has-changed-then asked answer place.drive v file files mid new before views now was
      (reached.has-changed mid new views now (with_drives files (drive_states views)) place v file asked answer most was.stands volume_is file_is io directories records changes)

  -- how often the drive was called for it
  pub read-calls : (fault : Option ℕ) (most : DiskVolume → DiskFile → ℕ) → ReadsFile place fault most mid.disks views new.disks now → CalledAtMost (most v file) views now
  read-calls fault most reads = called-read mid new views now (with_drives files (drive_states views)) place v file fault most was.stands volume_is file_is reads

  pub change-calls : (asked : Asked) (answer : Result ℕ DirError) (most : DiskVolume → DiskFile → DiskVolume → ℕ)
      (bound : ℕ) → ((left : DiskVolume) → most v file left ≤ bound) → ChangesVolume place asked answer most mid.disks
      views new.disks now → CalledAtMost bound views now
  change-calls asked answer most bound within changes =
      let it = changes files.volumes v file was.stands.mounted volume_is file_is in
      called-more (most v file it.left) bound views now (within it.left) (called-one (directory_fault answer) (most v file it.left) place.drive views now it.moves)

-- a file that is there is there still where what was mounted is mounted still
pub still-there : (place : FilePlace) (fault : Option ℕ) (most : DiskVolume → DiskFile → ℕ)
    (disks new : List (Option Volume)) (views now : List DriveView) → HasFileAt disks views place
    → ReadsFile place fault most disks views new now → HasFileAt new now place
still-there place fault most disks new views now has reads = record {
  volumes = has.volumes;
  mounted = reads.mounted has.volumes has.mounted;
  volume = has.volume;
  is = has.is;
  file = has.file;
  there = has.there;
}

-- where the change is refused, or was to be when the drive failed, the drive was only read
pub unchanged : (asked : Asked) (answer : Result ℕ DirError) (drive : ℕ) (v : DiskVolume) (file : DiskFile)
    (files : Files) (new : FileState) (before now : List DriveView) → volume_at files drive ≡ Some v
    → (it : HasChanged asked answer drive v file files new before now) → IsRefusedChange answer ⊎
    (is_refused asked v file ≡ true) → it.left ≡ v → HasReadDrive (directory_fault answer) drive files new before now
unchanged asked answer drive v file files new before now is it quiet same = record {
  moved = it.moved;
  stands = subst (λ (f : Files). RepresentsFiles new now (with_drives f (drive_states now)))
      (ap (λ (left : DiskVolume). with_volume files drive left) same ∙ reached.same-volume files drive v is)
      it.stands;
  media_kept = it.refused quiet;
  others = it.others;
}
