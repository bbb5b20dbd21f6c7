-- How an attempt of a call on files ends, by what calls of its drive came to.
use Rattle.std.proofs.Common.{◌≡◌, ℕ, false, Some, None, List, length, Ok, Err, inl, inr, refl, sym, ap, subst, ◌∙◌}
use Rattle.os9_base.specs.declared.errors.TheConstants.{E_SLF}
use Rattle.os9_base.specs.declared.registers.TimePacket.{TimePacket}
use Rattle.os9_outer.specs.TerminalState.{TerminalState}
use Rattle.rbf_model.specs.File.{DiskFile}
use Rattle.rbf_model.specs.Volume.{DiskVolume, Vol}
use Rattle.rbf_access.specs.declared.faults.FileFault.TheVariants.{Device, TooManyRuns}
use Rattle.rbf_walk.specs.declared.error.DirError.TheVariants.{File}
use Rattle.rbf_change.specs.Faults as ends
use Rattle.proc_model.specs.Processes.{Processes}
use Rattle.os9_base.specs.declared.call.CallEnd.{CallEnd}
use Rattle.std.proofs.lemmas.Option.{none-some}
use Rattle.io_model.specs.declared.pending.PendingCall.{PendingCall}
use Rattle.lock_model.specs.Records.{Records, with_waiting}
use Rattle.io_model.specs.Attempts.{HasIoEffect, result_by, result_of}
use Rattle.io_model.specs.Step.{IoEffect, IoEnd, IoStep, answers, fails, keeps}
use Rattle.proc_state.specs.Tie.{ReturnsCallEnd}
use Rattle.proc_state.specs.declared.state.ProcState.{ProcState}
use Rattle.file_rules.specs.Attempts.{FileAttempts, asker_of, file_step, files_after, io_effect}
use Rattle.file_rules.specs.Change.{Change, writes, sizes, sets_attributes, creates, makes_directory, deletes, MayBeTooLong, ChangeMayLeave}
use Rattle.file_rules.specs.Files.{DriveState, Files, Asker, KeepsDriveFaults, OneFailed, volume_at, with_drives, with_records, with_volume}
use Rattle.file_rules.specs.Step.{Deed, DoesDeed, FileDoes, FileEffect, FileStep, IsChanged, IsTooLong, MayBeLeft, VolumeChange, as_io, changes, deed_of, drive_of, leaves_so, on_files, refuses_so, with_drives_after, with_volume_after}
use Rattle.file_rules.specs.declared.path_call.PathCall.{PathCall}
use Rattle.file_rules.specs.Locking.{records_after}
use Rattle.file_drives.specs.Changed.{AnswersChange, Asked, has_full_list}
use Rattle.file_drives.specs.Drives.{DriveView}
use Rattle.file_state.specs.Attempt.{settled, unrequested, without_request}
use Rattle.file_state.specs.Ends.{StandsAfter}
use Rattle.file_state.specs.Tie.{RepresentsFiles}
use Rattle.file_state.specs.declared.state.FileState.{FileState}
use Rattle.file_state.proofs.StateLemmas.{stands-with_records}

-- the change of a step, as it is asked for
abbrev pub asked_of : VolumeChange → Asker → Asked
asked_of it asker = record { change = it.change; user = asker.user; now = asker.now }

-- ---- no drive failed

-- the attempt leaves this, and changes no volume; so it is too where it is refused
pub goes-well : (step : FileStep) (asker : Asker) (files : Files) (it : FileEffect) (drives : List DriveState)
    (terms : List TerminalState) → deed_of step files ≡ leaves_so it → KeepsDriveFaults files.drives drives
    → FileDoes step asker files (with_drives_after it drives) terms terms
goes-well step asker files it drives terms deed none = inl (record {
  it = it;
  does = subst (λ d. DoesDeed d asker files it terms terms) (sym deed) (refl, refl);
  drives = drives;
  none_failed = none;
  effect_is = refl;
})

-- the change is made
pub is-made : (step : FileStep) (asker : Asker) (files : Files) (it : VolumeChange) (v left : DiskVolume)
    (file : DiskFile) (n : ℕ) (drives : List DriveState) (terms : List TerminalState) → deed_of step files ≡ changes
    it → volume_at files it.drive ≡ Some v → AnswersChange (asked_of it asker) v file left (Ok n)
    → KeepsDriveFaults files.drives drives → FileDoes step asker files
    (with_drives_after (with_volume_after (it.effect n) it.drive left) drives) terms terms
is-made step asker files it v left file n drives terms deed is made none =
    let changed : IsChanged it asker files (with_volume_after (it.effect n) it.drive left) = record { old = v; is = is; new = left; number = n; makes = made.makes; effect_is = refl } in
    inl (record {
      it = with_volume_after (it.effect n) it.drive left;
      does = subst (λ d. DoesDeed d asker files (with_volume_after (it.effect n) it.drive left) terms terms) (sym deed) (inl changed, refl);
      drives = drives;
      none_failed = none;
      effect_is = refl;
    })

-- a cluster that was chosen found no place: E$SLF, where the list of a directory is not full
pub is-too-long : (step : FileStep) (asker : Asker) (files : Files) (it : VolumeChange) (v left : DiskVolume)
    (file : DiskFile) (drives : List DriveState) (terms : List TerminalState) → deed_of step files ≡ changes it
    → volume_at files it.drive ≡ Some v → has_full_list it.change v file ≡ false → AnswersChange (asked_of it asker) v
    file left (Err (File TooManyRuns)) → KeepsDriveFaults files.drives drives → FileDoes step asker files
    (with_drives_after (refuses_so E_SLF files) drives) terms terms
is-too-long step asker files it v left file drives terms deed is list long none =
    let found : MayBeTooLong it.change v = elim (long.full) [
      | inl full ↦ absurd (let e = sym list ∙ full in cc)
      | inr may ↦ may
    ] in
    let too_long : IsTooLong it files (refuses_so E_SLF files) = record { old = v; is = is; too_long = found; effect_is = refl } in
    inl (record {
      it = refuses_so E_SLF files;
      does = subst (λ d. DoesDeed d asker files (refuses_so E_SLF files) terms terms) (sym deed) (inr too_long, refl);
      drives = drives;
      none_failed = none;
      effect_is = refl;
    })

-- ---- a drive failed

pub breaks : (step : FileStep) (asker : Asker) (files : Files) (drive number : ℕ) (old left : DiskVolume)
    (drives : List DriveState) (terms : List TerminalState) → drive_of step ≡ Some drive → volume_at files drive ≡
    Some old → MayBeLeft (deed_of step files) asker old left → OneFailed drive number files.drives drives
    → FileDoes step asker files (refuses_so number (with_drives (with_volume files drive left) drives)) terms terms
breaks step asker files drive number old left drives terms reached is may failed = inr (
  record {
    drive = drive;
    reached = reached;
    number = number;
    drives = drives;
    failed = failed;
    old = old;
    is = is;
    left = left;
    may_be = may;
    effect_is = refl;
  },
  refl,
)

-- in the change
pub breaks-change : (step : FileStep) (asker : Asker) (files : Files) (it : VolumeChange) (number : ℕ)
    (v left : DiskVolume) (file : DiskFile) (drives : List DriveState) (terms : List TerminalState)
    → drive_of step ≡ Some it.drive → deed_of step files ≡ changes it → volume_at files it.drive ≡ Some v
    → AnswersChange (asked_of it asker) v file left (Err (File (Device number))) → OneFailed it.drive number
    files.drives drives → FileDoes step asker files (refuses_so number (with_drives (with_volume files it.drive left)
    drives)) terms terms
breaks-change step asker files it number v left file drives terms reached deed is broken failed =
    breaks step asker files it.drive number v left drives terms reached is (subst (λ d. MayBeLeft d asker v left) (sym deed) broken.may_be) failed

-- in what changes no volume
pub breaks-nothing : (step : FileStep) (asker : Asker) (files : Files) (it : FileEffect) (drive number : ℕ)
    (v : DiskVolume) (drives : List DriveState) (terms : List TerminalState) → drive_of step ≡ Some drive
    → deed_of step files ≡ leaves_so it → volume_at files drive ≡ Some v → OneFailed drive number files.drives drives
    → FileDoes step asker files (refuses_so number (with_drives (with_volume files drive v) drives)) terms terms
breaks-nothing step asker files it drive number v drives terms reached deed is failed =
    breaks step asker files drive number v v drives terms reached is (subst (λ d. MayBeLeft d asker v v) (sym deed) refl) failed

-- ---- a fault that came before a change may leave the volume as it was

-- no bytes are to be written
abbrev pub IsNoWrite : Change → Type 0
IsNoWrite (writes n at bytes) = ⊥
IsNoWrite (sizes n size) = Unit {0}
IsNoWrite (sets_attributes n attributes) = Unit {0}
IsNoWrite (creates d name attributes) = Unit {0}
IsNoWrite (makes_directory d name attributes) = Unit {0}
IsNoWrite (deletes d n name) = Unit {0}

abbrev pub WritesNothing : Deed → Type 0
WritesNothing (leaves_so it) = Unit {0}
WritesNothing (as_io step) = Unit {0}
WritesNothing (changes it) = IsNoWrite it.change

pub may-stay : (change : Change) (user : ℕ) (now : TimePacket) (v : DiskVolume) (image : List ℕ) → Vol image v → IsNoWrite change → ChangeMayLeave change user now v v
may-stay (writes n at bytes) user now v image vol none = absurd none
may-stay (sizes n size) user now v image vol none = (image, vol, ends.before refl)
may-stay (sets_attributes n attributes) user now v image vol none = refl
may-stay (creates d name attributes) user now v image vol none = ends.before refl
may-stay (makes_directory d name attributes) user now v image vol none = ends.before refl
may-stay (deletes d n name) user now v image vol none = (image, vol, ends.before refl)

pub deed-may-stay : (deed : Deed) (asker : Asker) (v : DiskVolume) (image : List ℕ) → Vol image v → WritesNothing deed → MayBeLeft deed asker v v
deed-may-stay (leaves_so it) asker v image vol none = refl
deed-may-stay (as_io step) asker v image vol none = refl
deed-may-stay (changes it) asker v image vol none = may-stay it.change asker.user asker.now v image vol none

-- a fault before a change: the volume is as it was
pub breaks-before : (step : FileStep) (asker : Asker) (files : Files) (drive number : ℕ) (v : DiskVolume)
    (image : List ℕ) (drives : List DriveState) (terms : List TerminalState) → drive_of step ≡ Some drive
    → WritesNothing (deed_of step files) → volume_at files drive ≡ Some v → Vol image v → OneFailed drive number
    files.drives drives → FileDoes step asker files (refuses_so number (with_drives (with_volume files drive v)
    drives)) terms terms
breaks-before step asker files drive number v image drives terms reached none is vol failed =
    breaks step asker files drive number v v drives terms reached is (deed-may-stay (deed_of step files) asker v image vol none) failed

-- ---- calls on terminals and pipes

-- what they do is done in the state of files
pub goes-as-io : (step : FileStep) (asker : Asker) (files : Files) (deed : IoStep) (it : IoEffect)
    (before after : List TerminalState) → deed_of step files ≡ as_io deed → HasIoEffect deed asker.caller files.io it before
    after → FileDoes step asker files (on_files asker.caller.process.0 files it) before after
goes-as-io step asker files deed it before after is does = inl (record {
  it = on_files asker.caller.process.0 files it;
  does = subst (λ d. DoesDeed d asker files (on_files asker.caller.process.0 files it) before after) (sym is) (it, does, refl);
  drives = files.drives;
  none_failed = refl;
  effect_is = refl;
})

-- an attempt that comes to this effect
pub attempts : (call : PathCall) (m : Processes) (files : Files) (now : TimePacket) (p : ℕ) (effect : FileEffect)
    (before after : List TerminalState) → FileDoes (file_step call (asker_of m p now) files (length before))
    (asker_of m p now) files effect before after → FileAttempts call m files now p (result_of m p (io_effect effect))
    (files_after p effect) before after
attempts call m files now p effect before after does = record { effect = effect; does = does; result_is = refl; state = refl }

-- ---- requests

-- files that stand for those of the machine do so without a request
stands-without : (p : ℕ) (state : FileState) (views : List DriveView) (files : Files) → RepresentsFiles state views files → RepresentsFiles (without_request p state) views (unrequested p files)
stands-without p state views files stands =
    stands-with_records state views files (with_waiting files.records p None) (with_waiting state.records p None) (ap (λ (records : Records). with_waiting records p None) stands.records) stands

-- an attempt that has come to an end
pub stands-settled : (m : Processes) (p : ℕ) (effect : IoEffect) (end : IoEnd) (came : CallEnd) (processes : ProcState)
    (state : FileState) (views : List DriveView) (files : Files) → ReturnsCallEnd m p (result_by end m p effect) came processes
    → StandsAfter p end state views files → RepresentsFiles (settled p came state) views
    (with_records files (records_after end files.records p))
stands-settled m p effect end came processes state views files comes stands = by_end end comes stands
  where
    dropped : IoEnd → Type 0
    dropped end = StandsAfter p end state views files

    over : (end : IoEnd) → dropped end → RepresentsFiles (without_request p state) views (unrequested p files)
    over end (inl stands) = stands-without p state views files stands
    over end (inr (none, stands)) = stands

    waits : (pending : PendingCall) → dropped (keeps pending) → RepresentsFiles state views files
    waits pending (inl stands) = stands
    waits pending (inr (none, stands)) = absurd (none-some pending (sym none))

    by_end : (end : IoEnd) → ReturnsCallEnd m p (result_by end m p effect) came processes → dropped end
        → RepresentsFiles (settled p came state) views (with_records files (records_after end files.records p))
    by_end (answers regs) comes stands =
        subst (λ (came : CallEnd). RepresentsFiles (settled p came state) views (with_records files (with_waiting files.records p None))) (sym comes.0) (over (answers regs) stands)
    by_end (fails number) comes stands =
        subst (λ (came : CallEnd). RepresentsFiles (settled p came state) views (with_records files (with_waiting files.records p None))) (sym comes.0) (over (fails number) stands)
    by_end (keeps pending) comes stands =
        subst (λ (came : CallEnd). RepresentsFiles (settled p came state) views files) (sym comes.0) (waits pending stands)
