-- What an attempt of a call on files leaves of the drives, by what calls of its drive came to. An attempt that changes
-- no volume ends by `keeps-same`, `keeps-read` or `keeps-refused`, one that changes one by `keeps-made` or
-- `keeps-broken`.
use Rattle.std.proofs.Common.{◌≡◌, ◌≢◌, ◌⊎◌, ◌∙◌, ℕ, true, Option, Some, List, length, slice_get, Result, Ok, Err, refl, ap, sym, subst, inl, inr, ⊎_elim}
use Rattle.std.proofs.lemmas.Bool.{cases_eq}
use Rattle.os9_base.specs.declared.call.CallEnd.{CallEnd}
use Rattle.os9_base.specs.declared.call.CallEnd.TheVariants.{Done, Error, NoMemory}
use Rattle.os9_base.specs.declared.registers.TimePacket.{TimePacket}
use Rattle.os9_outer.specs.TerminalState.{TerminalState}
use Rattle.rbf_model.specs.File.{DiskFile}
use Rattle.rbf_model.specs.Volume.{DiskVolume}
use Rattle.rbf_access.specs.declared.faults.FileFault.TheVariants.{Device}
use Rattle.rbf_walk.specs.declared.error.DirError.{DirError}
use Rattle.rbf_walk.specs.declared.error.DirError.TheVariants.{File}
use Rattle.proc_model.specs.Processes.{Processes}
use Rattle.file_rules.specs.Attempts.{asker_of, file_step, files_after, files_kept, io_effect}
use Rattle.file_rules.specs.Files.{Asker, DriveState, Files, OneFailed, volume_at}
use Rattle.file_rules.specs.Step.{Deed, FileStep, Step, VolumeChange, as_io, changes, deed_of, drive_of, leaves_so}
use Rattle.file_rules.specs.declared.path_call.PathCall.{PathCall}
use Rattle.io_model.specs.Attempts.{result_of}
use Rattle.io_model.specs.Step.{IoEnd, answers, fails, keeps}
use Rattle.lock_model.specs.Records.{Records}
use Rattle.file_rules.specs.Locking.{records_after}
use Rattle.file_drives.specs.Changed.{Asked, IsRefusedChange, is_refused}
use Rattle.file_drives.specs.Drives.{DriveView, KeepsIdent, drive_states, media_at, media_of}
use Rattle.file_state.proofs.EndLemmas.{asked_of, stands-settled}
use Rattle.file_state.proofs.MediaLemmas.{ident-same, media-of_same, media-same}
use Rattle.file_state.specs.Attempt.{MachineOnDrives}
use Rattle.file_state.specs.Counted.{AttemptsIn}
use Rattle.file_state.specs.Ends.{EndsFileAttempt, EndsUnentered}
use Rattle.file_state.specs.Lacks.{LacksItsEntry}
use Rattle.file_state.specs.Media.{ChangesDisk, KeepsDrives, MediaAfter, MediaAfterChange, file_changed}
use Rattle.file_state.specs.Reached.{HasReadDrive, OthersStay}
use Rattle.file_state.proofs.ReachedLemmas.{HasChanged}
use Rattle.file_state.specs.declared.state.FileState.{FileState}

-- ---- all media are as they were

-- it changes no volume, or it ends with an error
abbrev pub MayKeepAll : Deed → CallEnd → Type 0
MayKeepAll (leaves_so it) end = Unit {0}
MayKeepAll (as_io step) end = Unit {0}
MayKeepAll (changes it) end = (number : ℕ) × (end ≡ Error number)

-- each attempt that is refused or that a fault ends may
pub error-keeps : (deed : Deed) (number : ℕ) → MayKeepAll deed (Error number)
error-keeps (leaves_so it) number = tt
error-keeps (as_io step) number = tt
error-keeps (changes it) number = (number, refl)

media-stays : (deed : Deed) (asker : Asker) (files : Files) (end : CallEnd) (before after : List DriveView)
    → MayKeepAll deed end → media_of after ≡ media_of before → MediaAfter deed asker files end before after
media-stays (leaves_so it) asker files end before after may same = same
media-stays (as_io step) asker files end before after may same = same
media-stays (changes it) asker files end before after (number, is) same =
    subst (λ e. MediaAfterChange it asker files e before after) (sym is) (inl same)

-- the step reaches this drive, or no drive was called
abbrev pub ReachesAtMost : {E : Type 0} → Step E → ℕ → List DriveView → List DriveView → Type 0
ReachesAtMost step drive before after = (drive_of step ≡ Some drive) ⊎ (after ≡ before)

pub others-reached : {E : Type 0} (step : Step E) (drive : ℕ) (before after : List DriveView) → ReachesAtMost step
    drive before after → OthersStay drive before after → (n : ℕ) → drive_of step ≢ Some n → slice_get after n ≡
    slice_get before n
others-reached step drive before after (inl reached) stay n other =
    stay n (λ same. other (subst (λ k. drive_of step ≡ Some k) (sym same) reached))
others-reached step drive before after (inr same) stay n other = ap (λ views. slice_get views n) same

module _ (step : FileStep) (asker : Asker) (files : Files) (end : CallEnd) where
  -- no drive was called
  pub keeps-same : (views : List DriveView) → MayKeepAll (deed_of step files) end → KeepsDrives step asker files end views views
  keeps-same views may = record {
    others = λ n other. refl;
    media = media-stays (deed_of step files) asker files end views views may refl;
    ident = λ n. ident-same (media_at views n) (media_at views n) refl;
  }

  module _ (drive : ℕ) (before after : List DriveView) (reached : ReachesAtMost step drive before after) (may : MayKeepAll (deed_of step files) end) where
    keeps-media : OthersStay drive before after → media_of after ≡ media_of before → KeepsDrives step asker files end before after
    keeps-media stay same = record {
      others = others-reached step drive before after reached stay;
      media = media-stays (deed_of step files) asker files end before after may same;
      ident = λ n. ident-same (media_at before n) (media_at after n) (media-same before after n same);
    }

    -- the drive was only read
    pub keeps-read : (fault : Option ℕ) (new : FileState) → HasReadDrive fault drive files new before after → KeepsDrives step asker files end before after
    keeps-read fault new read = keeps-media read.others read.media_kept

    -- a change was refused, or was to be when the drive failed
    pub keeps-refused : (asked : Asked) (answer : Result ℕ DirError) (v : DiskVolume) (file : DiskFile)
        (new : FileState) → HasChanged asked answer drive v file files new before after → IsRefusedChange answer ⊎
        (is_refused asked v file ≡ true) → KeepsDrives step asker files end before after
    keeps-refused asked answer v file new changed quiet = keeps-media changed.others (changed.refused quiet)

-- ---- a volume is changed

module _ (step : FileStep) (asker : Asker) (files : Files) (it : VolumeChange) (v : DiskVolume) (file : DiskFile) (new : FileState) (before after : List DriveView)
    (reached : drive_of step ≡ Some it.drive) (deed : deed_of step files ≡ changes it) (is : volume_at files it.drive ≡ Some v) (there : v.files (file_changed it.change) ≡ Some file) where
  on-disk : (answer : Result ℕ DirError) → HasChanged (asked_of it asker) answer it.drive v file files new before after → ChangesDisk it asker files answer before after
  on-disk answer changed = record { volume = v; is = is; file = file; there = there; disk = changed.disk }

  ident-all : (answer : Result ℕ DirError) → HasChanged (asked_of it asker) answer it.drive v file files new before after → (n : ℕ) → KeepsIdent (media_at before n) (media_at after n)
  ident-all answer changed n =
      ⊎_elim
      (λ same. subst (λ k. KeepsIdent (media_at before k) (media_at after k)) (sym same) changed.ident)
      (λ apart. ident-same (media_at before n) (media_at after n) (media-of_same before after n (changed.others n apart)))
      (cases_eq n it.drive)

  keeps-changed : (end : CallEnd) (answer : Result ℕ DirError) → HasChanged (asked_of it asker) answer it.drive v file
      files new before after → MediaAfterChange it asker files end before after → KeepsDrives step asker files end
      before after
  keeps-changed end answer changed media = record {
    others = others-reached step it.drive before after (inl reached) changed.others;
    media = subst (λ d. MediaAfter d asker files end before after) (sym deed) media;
    ident = ident-all answer changed;
  }

  -- it has been made
  pub keeps-made : (n : ℕ) → HasChanged (asked_of it asker) (Ok n) it.drive v file files new before after → KeepsDrives step asker files Done before after
  keeps-made n changed = keeps-changed Done (Ok n) changed (n, on-disk (Ok n) changed)

  -- and memory was wanting for its entry in the history
  pub keeps-unentered : (n : ℕ) → HasChanged (asked_of it asker) (Ok n) it.drive v file files new before after → KeepsDrives step asker files NoMemory before after
  keeps-unentered n changed = keeps-changed NoMemory (Ok n) changed (n, on-disk (Ok n) changed)

  -- the drive failed in it
  pub keeps-broken : (number : ℕ) → files.drives ≡ drive_states before → HasChanged (asked_of it asker)
      (Err (File (Device number))) it.drive v file files new before after → KeepsDrives step asker files
      (Error number) before after
  keeps-broken number drives changed =
      keeps-changed (Error number) (Err (File (Device number))) changed
      (inr
      (record {
        failed = subst (λ (was : List DriveState). OneFailed it.drive number was (drive_states after)) drives changed.moved;
        left = on-disk (Err (File (Device number))) changed;
      }))

-- ---- a whole call

pub ends-attempt : (most : ℕ) (call : PathCall) (m : Processes) (was : Files) (now : TimePacket) (p : ℕ) (end : CallEnd)
    (terms : List TerminalState) (before after : MachineOnDrives)
    → EndsFileAttempt (file_step call (asker_of m p now) was (length terms)) most m was now p end after.processes after.files
    before.views after.views terms → AttemptsIn most call m was now p end terms terms before after
ends-attempt most call m was now p end terms before after ends = record {
  attempts = record {
    result = result_of m p (io_effect ends.effect);
    left = files_after p ends.effect;
    attempt = record { effect = ends.effect; does = ends.does; result_is = refl; state = refl };
    comes = ends.comes;
    stands =
        stands-settled m p (io_effect ends.effect) ends.effect.end end after.processes after.files after.views (files_kept p ends.effect) ends.comes ends.stands;
  };
  calls = ends.calls;
  drives = ends.drives;
}

-- a request that is kept no longer leaves the history as it is
settled-history : (end : IoEnd) (records : Records) (p : ℕ) → (records_after end records p).history ≡ records.history
settled-history (answers regs) records p = refl
settled-history (fails number) records p = refl
settled-history (keeps kept) records p = refl

-- or memory was wanting for its entry
pub lacks-attempt : (most : ℕ) (call : PathCall) (m : Processes) (was : Files) (now : TimePacket) (p : ℕ) (end : CallEnd)
    (terms : List TerminalState) (before after : MachineOnDrives) → EndsUnentered (file_step call (asker_of m p now) was
    (length terms)) most m was now p end after.files before.views after.views terms → LacksItsEntry most call m was
    now p end terms terms before after
lacks-attempt most call m was now p end terms before after it = record {
  done = files_after p it.effect;
  lacks = record {
    result = result_of m p (io_effect it.effect);
    attempts = record { effect = it.effect; does = it.does; result_is = refl; state = refl };
    enters = record {
      entry = it.enters.entry;
      is = settled-history it.effect.end it.effect.files.records p ∙ it.enters.is;
      no_end = it.enters.no_end;
    };
  };
  drives = it.drives;
  mounted = it.mounted;
  calls = it.calls;
  images = it.images;
}
