-- How an attempt ends that looked for a name and its directory, by what it found there.
use Rattle.std.proofs.Common.{◌≡◌, ◌∙◌, ℕ, ◌≤◌, Bool, true, false, Option, Some, None, List, slice_get, Result, Ok, Err, inl, inr, ap, sym, subst}
use Rattle.os9_base.specs.declared.call.CallEnd.TheVariants.{Error}
use Rattle.rbf_model.specs.File.{DiskFile}
use Rattle.rbf_model.specs.Volume.{DiskVolume, Vol}
use Rattle.rbf_access.specs.declared.faults.FileFault.TheVariants.{Device}
use Rattle.rbf_access.specs.declared.volume.Volume.{Volume}
use Rattle.rbf_walk.specs.declared.error.DirError.TheVariants.{File}
use Rattle.file_rules.specs.Files.{Asker, Files, volume_at, with_drives, with_volume}
use Rattle.file_rules.specs.Step.{FileDoes, FileEffect, FileStep, Step, VolumeChange, refused, comes, reaches, changes, deed_of, drive_of, leaves, leaves_so, refuses, refuses_so, with_drives_after, with_volume_after}
use Rattle.file_drives.specs.Drives.{DriveView, drive_states}
use Rattle.file_drives.specs.Mounted.{AgreesOnDrive, AreMounted, disk_at, mounted_at}
use Rattle.file_state.proofs.EndLemmas.{WritesNothing, asked_of, breaks-before, breaks-change, goes-well, is-made}
use Rattle.file_state.proofs.CountLemmas.{called-more}
use Rattle.file_state.proofs.KeepLemmas.{ReachesAtMost, error-keeps, keeps-broken, keeps-made, keeps-read}
use Rattle.file_state.proofs.ReachedLemmas as reached
use Rattle.file_state.specs.Counted.{CalledAtMost, calls_of}
use Rattle.file_state.specs.Media.{file_changed}
use Rattle.file_state.specs.Reached.{HasReadDrive}
use Rattle.file_state.proofs.ReachedLemmas.{HasChanged}
use Rattle.file_state.specs.declared.state.FileState.{FileState}
use Rattle.file_routes.proofs.VolumeLemmas.{agrees-at, view-there}
use Rattle.file_routes.specs.Routes.{next_step}
use Rattle.name_calls.proofs.ListCallLemmas.{calls-more, calls-next, calls-reached}
use Rattle.name_calls.proofs.LookLemmas.{deed-on, deed-refused, drive-on, reaches-next}
use Rattle.name_calls.specs.Looks.{AnswersBy, Looks, SearchHasResult, answer_of}
use Rattle.name_calls.specs.Tries.{TriesNameCall, end_by}

-- one step, said in two ways
pub tries-same : (one two : FileStep) (few most : ℕ) (asker : Asker) (files : Files) (result : Result ℕ ℕ)
    (new : FileState) (before now : List DriveView) → one ≡ two → few ≡ most → TriesNameCall one few asker files result new
    before now → TriesNameCall two most asker files result new before now
tries-same one two few most asker files result new before now same as_often it =
    subst (λ (step : FileStep). TriesNameCall step most asker files result new before now) same
    (subst (λ (n : ℕ). TriesNameCall one n asker files result new before now) as_often it)

-- more calls may be allowed
pub tries-more : (step : FileStep) (few most : ℕ) (asker : Asker) (files : Files) (result : Result ℕ ℕ)
    (new : FileState) (before now : List DriveView) → few ≤ most → TriesNameCall step few asker files result new before now
    → TriesNameCall step most asker files result new before now
tries-more step few most asker files result new before now more it = record {
  left = it.left;
  does = it.does;
  stands = it.stands;
  calls = called-more (calls_of step few) (calls_of step most) before now (calls-more step few most more) it.calls;
  drives = it.drives;
}

-- ---- what writes nothing of itself

pub refuses-quiet : (test : Bool) (number : ℕ) (step : FileStep) (files : Files) → WritesNothing (deed_of step files) → WritesNothing (deed_of (refuses test number step) files)
refuses-quiet true number step files quiet = tt
refuses-quiet false number step files quiet = quiet

next-quiet : {A : Type 0} (look : Step A) (next : A → FileStep) (files : Files) → ((it : A) → WritesNothing (deed_of (next it) files)) → WritesNothing (deed_of (next_step look next) files)
next-quiet (refused number) next files quiet = tt
next-quiet (comes it) next files quiet = quiet it
next-quiet (reaches drive look) next files quiet = next-quiet look next files quiet

-- ---- the image of a volume

image-of : (kept : Option Volume) (view : DriveView) (v : DiskVolume) → AgreesOnDrive kept view (Some v) → (image : List ℕ) × Vol image v
image-of None view v on = absurd on
image-of (Some volume) view v on = (on.on.image, on.on.vol)

image-there : (disks : List (Option Volume)) (views : List DriveView) (volumes : List (Option DiskVolume)) (n : ℕ)
    (v : DiskVolume) → AreMounted disks views volumes → mounted_at volumes n ≡ Some v → (image : List ℕ) × Vol image v
image-there disks views volumes n v mounted is =
    let there : (view : DriveView) × (slice_get views n ≡ Some view) = view-there disks views volumes n v mounted is in
    image-of (disk_at disks n) there.0 v (agrees-at disks views volumes n v there.0 mounted is there.1)

-- ---- no volume was changed

module _ (step : FileStep) (most : ℕ) (asker : Asker) (files : Files) (new : FileState) (before now : List DriveView) (calls : CalledAtMost (calls_of step most) before now) where
  -- refused, and no drive failed
  goes-refused : (number drive : ℕ) → ReachesAtMost step drive before now → HasReadDrive None drive files new before now
      → deed_of step files ≡ leaves_so (refuses_so number files) → TriesNameCall step most asker files (Err number) new before
      now
  goes-refused number drive reached read deed = record {
    left = with_drives files (drive_states now);
    does = λ terms. goes-well step asker files (refuses_so number files) (drive_states now) terms deed read.moved;
    stands = read.stands;
    calls = calls;
    drives = keeps-read step asker files (Error number) drive before now reached (error-keeps (deed_of step files) number) None new read;
  }

  -- a drive failed, and the volume is as it was
  goes-broken : (number drive : ℕ) (v : DiskVolume) → drive_of step ≡ Some drive → volume_at files drive ≡ Some v
      → WritesNothing (deed_of step files) → HasReadDrive (Some number) drive files new before now → TriesNameCall step most asker
      files (Err number) new before now
  goes-broken number drive v at is quiet read =
      let image : (image : List ℕ) × Vol image v = image-there new.disks now files.volumes drive v read.stands.mounted is in
      record {
        left = with_drives files (drive_states now);
        does = λ terms.
            subst (λ (f : Files). FileDoes step asker files (refuses_so number (with_drives f (drive_states now))) terms terms) (reached.same-volume files drive v is)
            (breaks-before step asker files drive number v image.0 (drive_states now) terms at quiet is image.1 read.moved);
        stands = read.stands;
        calls = calls;
        drives = keeps-read step asker files (Error number) drive before now (inl at) (error-keeps (deed_of step files) number) (Some number) new read;
      }

-- nothing was found
module _ {A R : Type 0} (fact : A → R → Type 0) (look : Step A) (next : A → FileStep) (most : ℕ) (asker : Asker)
    (files : Files) (number : ℕ) (new : FileState) (before now : List DriveView) (quiet : (it : A)
    → WritesNothing (deed_of (next it) files)) where
  abbrev whole : FileStep
  whole = next_step look next

  unfound-by : CalledAtMost (calls_of whole most) before now → (answer : Result A ℕ) → AnswersBy {R = R} fact answer
      (Err number) → Looks look answer files new before now → TriesNameCall whole most asker files (Err number) new before now
  unfound-by calls (Ok it) is looks = absurd is
  unfound-by calls (Err other) is looks = elim looks [
    | inl well ↦
        goes-refused whole most asker files new before now calls number well.drive (reaches-next look next well.drive before now well.reached) well.read
        (deed-refused look next files other (sym well.is) ∙ ap (λ (n : ℕ). leaves_so (refuses_so n files)) is)
    | inr broken ↦
        let fault : number ≡ broken.number = let e = broken.answer_is in cc in
        goes-broken whole most asker files new before now calls number broken.drive broken.volume (drive-on look next broken.drive broken.reached) broken.is (next-quiet look next files quiet)
        (subst (λ (n : ℕ). HasReadDrive (Some n) broken.drive files new before now) (sym fault) broken.read)
  ]

  pub tries-unfound : SearchHasResult fact look most (Err number) files new before now → TriesNameCall whole most asker files (Err number) new before now
  tries-unfound it = unfound-by (called-more (calls_of look most) (calls_of whole most) before now (calls-next look next most) it.calls) it.answer it.is it.looks

-- ---- by what was found

module _ {A : Type 0} (look : Step A) (next : A → FileStep) (most : ℕ) (asker : Asker) (files : Files) (it : A)
    (found : answer_of look ≡ Ok it) (new : FileState) (before now : List DriveView) (called : CalledAtMost most
    before now) where
  deed : deed_of (next_step look next) files ≡ deed_of (next it) files
  deed = deed-on look next files it found

  module _ (drive : ℕ) (at : drive_of look ≡ Some drive) where
    reached-on : drive_of (next_step look next) ≡ Some drive
    reached-on = drive-on look next drive at

    calls : CalledAtMost (calls_of (next_step look next) most) before now
    calls = called-more most (calls_of (next_step look next) most) before now (calls-reached (next_step look next) drive most reached-on) called

    -- it is refused
    pub tries-refused : (number : ℕ) → HasReadDrive None drive files new before now → deed_of (next it) files ≡ leaves_so
        (refuses_so number files) → TriesNameCall (next_step look next) most asker files (Err number) new before now
    tries-refused number read is = goes-refused (next_step look next) most asker files new before now calls number drive (inl reached-on) read (deed ∙ is)

    -- the drive failed, and the volume is as it was
    pub tries-broken : (v : DiskVolume) → volume_at files drive ≡ Some v → (number : ℕ)
        → WritesNothing (deed_of (next it) files) → HasReadDrive (Some number) drive files new before now
        → TriesNameCall (next_step look next) most asker files (Err number) new before now
    tries-broken v volume_is number quiet read = goes-broken (next_step look next) most asker files new before now calls number drive v reached-on volume_is (subst WritesNothing (sym deed) quiet) read

  module _ (change : VolumeChange) (v : DiskVolume) (file : DiskFile) (at : drive_of look ≡ Some change.drive)
      (volume_is : volume_at files change.drive ≡ Some v) (there : v.files (file_changed change.change) ≡ Some file)
      (is : deed_of (next it) files ≡ changes change) where
    -- the change is made
    pub tries-changed : (n end : ℕ) → change.effect n ≡ leaves (end_by asker.caller.regs (Ok end)) files
        → HasChanged (asked_of change asker) (Ok n) change.drive v file files new before now
        → TriesNameCall (next_step look next) most asker files (Ok end) new before now
    tries-changed n end effect_is changed = record {
      left = with_drives (with_volume files change.drive changed.left) (drive_states now);
      does = λ terms.
          subst (λ (effect : FileEffect). FileDoes (next_step look next) asker files (with_drives_after (with_volume_after effect change.drive changed.left) (drive_states now)) terms terms) effect_is
          (is-made (next_step look next) asker files change v changed.left file n (drive_states now) terms (deed ∙ is) volume_is changed.answers changed.moved);
      stands = changed.stands;
      calls = calls change.drive at;
      drives = keeps-made (next_step look next) asker files change v file new before now (reached-on change.drive at) (deed ∙ is) volume_is there n changed;
    }

    -- the drive failed in it
    pub tries-broken-change : (number : ℕ) → files.drives ≡ drive_states before → HasChanged (asked_of change asker)
        (Err (File (Device number))) change.drive v file files new before now → TriesNameCall (next_step look next) most asker
        files (Err number) new before now
    tries-broken-change number drives changed = record {
      left = with_drives (with_volume files change.drive changed.left) (drive_states now);
      does = λ terms. breaks-change (next_step look next) asker files change number v changed.left file
          (drive_states now) terms (reached-on change.drive at) (deed ∙ is) volume_is changed.answers changed.moved;
      stands = changed.stands;
      calls = calls change.drive at;
      drives = keeps-broken (next_step look next) asker files change v file new before now (reached-on change.drive at) (deed ∙ is) volume_is there number drives changed;
    }
