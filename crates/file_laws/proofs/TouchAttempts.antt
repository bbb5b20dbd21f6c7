-- An attempt of a call on files is one on a terminal or a pipe, or it touches none: by its step, where no drive fails and
-- where one does.
use Rattle.std.proofs.Common.{◌≡◌, ◌≢◌, ◌⊎◌, ℕ, true, false, Option, Some, None, List, length, refl, sym, ap, ◌∙◌, subst, inl, inr}
use Rattle.std.specs.Prelude.{slice_set}
use Rattle.std.proofs.lemmas.Bool.{false≢true}
use Rattle.std.proofs.lemmas.List.{set-get_or}
use Rattle.std.proofs.lemmas.Option.{none-some}
use Rattle.os9_base.specs.declared.registers.Regs.{Regs}
use Rattle.os9_base.specs.declared.registers.TimePacket.{TimePacket}
use Rattle.os9_outer.specs.TerminalState.{TerminalState}
use Rattle.proc_model.specs.CallResult.{CallResult}
use Rattle.proc_model.specs.Processes.{Processes}
use Rattle.lock_model.specs.Records.{Records, with_waiting}
use Rattle.rbf_model.specs.Volume.{DiskVolume}
use Rattle.io_model.specs.Attempts.{HasIoEffect, pending_in, result_by, result_of}
use Rattle.io_model.specs.Io.{Io, with_call, with_paths}
use Rattle.io_model.specs.Step.{IoEffect, IoEnd, IoStep, answers, fails, keeps}
use Rattle.file_rules.specs.Locking.{records_after}
use Rattle.file_rules.specs.Attempts.{FileAttempts, asker_of, file_step, files_after, io_effect}
use Rattle.file_rules.specs.Files.{Files, Asker, DriveState, KeepsDriveFaults, OneFailed, directories_at, volume_at, with_drives, with_volume}
use Rattle.file_rules.specs.Step.{FileEffect, FileStep, Deed, leaves_so, as_io, changes, deed_of, drive_of, refuses_so, on_files, with_drives_after, with_volume_after, DoesDeed, IsBroken, FileDoes, MayBeLeft}
use Rattle.file_rules.specs.declared.path_call.PathCall.{PathCall}
use Rattle.file_rules.specs.declared.path_call.PathCall.TheVariants as Call
use Rattle.io_model.specs.declared.io_call.IoCall.TheVariants as Device
use Rattle.file_laws.specs.Devices.{DeviceAttempted, IsOnNoFile, LocksStay}
use Rattle.file_laws.specs.Recorded.{RecordsCome}
use Rattle.file_laws.specs.Touch.{IsFinalResult, TouchesNoDevice, NoVolumeChanges, OneDriveFails, OneVolumeChanges, PathsMove, RefusalLeaves, WaitsForRecord, made_by, may_change_volume}
use Rattle.file_laws.proofs.Requests.{KeepsOthers, device-requested, device-settled, forgets-again, freed-settled, keeps-forgotten, keeps-same, over-drops, over-requested}
use Rattle.file_laws.proofs.Claimed.{effect-comes}
use Rattle.file_laws.proofs.Splits.{ClosesLock, EndsSo, IsAsDevice, IsDeviceStep, Leaves, Splits, StepSplits, WaitsSo, device-splits, not-refused, refused-leaves, with_records_after}
use Rattle.file_laws.proofs.OnNumbers.{close-split, getstt-split, perr-split, read-split, readln-split, seek-split, setstt-split, write-split, writln-split}
use Rattle.file_laws.proofs.OnNames.{chgdir-split, create-split, delete-split, deletx-split, makdir-split, open-split}

-- ---- what the step of each call comes to

pub step-splits : (call : PathCall) (asker : Asker) (files : Files) (terms : ℕ) → StepSplits call asker files terms (file_step call asker files terms)
step-splits Call.Dup asker files terms = device-splits Call.Dup asker files terms Device.Dup refl tt
step-splits Call.Create asker files terms = create-split asker files terms
step-splits Call.Open asker files terms = open-split asker files terms
step-splits Call.MakDir asker files terms = makdir-split asker files terms
step-splits Call.ChgDir asker files terms = chgdir-split asker files terms
step-splits Call.Delete asker files terms = delete-split asker files terms
step-splits Call.DeletX asker files terms = deletx-split asker files terms
step-splits Call.Seek asker files terms = seek-split asker files terms
step-splits Call.Read asker files terms = read-split asker files terms
step-splits Call.Write asker files terms = write-split asker files terms
step-splits Call.ReadLn asker files terms = readln-split asker files terms
step-splits Call.WritLn asker files terms = writln-split asker files terms
step-splits Call.GetStt asker files terms = getstt-split asker files terms
step-splits Call.SetStt asker files terms = setstt-split asker files terms
step-splits Call.Close asker files terms = close-split asker files terms
step-splits Call.PErr asker files terms = perr-split asker files terms

-- ---- how it ends

pub ends-refused : (end : IoEnd) (processes : Processes) (p : ℕ) (effect : IoEffect) (number : ℕ) → result_by end processes p effect ≡ CallResult.refused number → end ≡ fails number
ends-refused (answers regs) processes p effect number is = absurd cc
ends-refused (fails other) processes p effect number is = cc
ends-refused (keeps pending) processes p effect number is = absurd cc

ends-over : (end : IoEnd) (processes : Processes) (p : ℕ) (effect : IoEffect) → pending_in end ≡ None → IsFinalResult processes p (result_by end processes p effect)
ends-over (answers regs) processes p effect over =
    inl (record { regs = regs; at = effect.at; bytes = effect.bytes; is = refl })
ends-over (fails number) processes p effect over = inr (number, refl)
ends-over (keeps pending) processes p effect over = absurd (none-some pending (sym over))

-- ---- what an effect leaves

module _ (call : PathCall) (asker : Asker) (files : Files) (reached : Option ℕ) where
  -- the records without a request of the process
  abbrev forgotten : Files → Records
  forgotten new = with_waiting new.records asker.caller.process.0 None

  -- the drive that was reached has failed, and this is the number that is answered
  record FailsSo (effect : FileEffect) : Type 0 where
    pub drive : ℕ
    pub reaches : reached ≡ Some drive
    pub number : ℕ
    pub failed : OneFailed drive number files.drives effect.files.drives
    pub answer : effect.end ≡ fails number
    pub old : DiskVolume
    pub was : volume_at files drive ≡ Some old
    pub left : DiskVolume
    pub is : effect.files.volumes ≡ slice_set files.volumes drive (Some left)

  record RefusedLeft (effect : FileEffect) : Type 0 where
    pub io : effect.files.io ≡ files.io
    pub directories : effect.files.directories ≡ files.directories
    pub records : forgotten effect.files ≡ forgotten files
    pub volumes : NoVolumeChanges files effect.files ⊎ FailsSo effect

  record Left (effect : FileEffect) : Type 0 where
    pub over : pending_in effect.end ≡ None
    pub paths : PathsMove call asker files effect.files.io.paths
    pub rest : effect.files.io ≡ with_paths files.io effect.files.io.paths
    pub directories : (q : ℕ) → q ≢ asker.caller.process.0 → directories_at effect.files q ≡ directories_at files q
    pub own : call ≢ Call.ChgDir → effect.files.directories ≡ files.directories
    pub requests : KeepsOthers asker.caller.process.0 files.records effect.files.records
    pub still : may_change_volume call ≡ false → effect.files.volumes ≡ files.volumes
    pub volumes : NoVolumeChanges files effect.files ⊎ OneVolumeChanges reached files effect.files ⊎ FailsSo effect
    pub refusal : (number : ℕ) → effect.end ≡ fails number → RefusedLeft effect

  module _ (drives : List DriveState) (none : KeepsDriveFaults files.drives drives) where
    left-so : (it : FileEffect) → Leaves call asker files it → Left (with_drives_after it drives)
    left-so it left = record {
      over = left.over;
      paths = left.paths;
      rest = left.rest;
      directories = left.directories;
      own = left.own;
      requests = keeps-same asker.caller.process.0 files.records it.files.records left.requests;
      still = λ no. left.volumes;
      volumes = inl (record { volumes = left.volumes; none_failed = none });
      refusal = λ number is. record {
        io = ap (λ (f : Files). f.io) (left.refusal number is);
        directories = ap (λ (f : Files). f.directories) (left.refusal number is);
        records = ap forgotten (left.refusal number is);
        volumes = inl (record { volumes = left.volumes; none_failed = none });
      };
    }

    left-changed : (it : FileEffect) → Leaves call asker files it → (regs : Regs) → it.end ≡ answers regs
        → may_change_volume call ≡ true → (drive : ℕ) → reached ≡ Some drive → (old v : DiskVolume)
        → volume_at files drive ≡ Some old → Left (with_drives_after (with_volume_after it drive v) drives)
    left-changed it left regs answered may drive reaches old v was = record {
      over = left.over;
      paths = left.paths;
      rest = left.rest;
      directories = left.directories;
      own = left.own;
      requests = keeps-same asker.caller.process.0 files.records it.files.records left.requests;
      still = λ no. absurd (false≢true (sym no ∙ may));
      volumes = inr (inl (record {
        drive = drive;
        reaches = reaches;
        old = old;
        was = was;
        changed = v;
        is = ap (λ (volumes : List (Option DiskVolume)). slice_set volumes drive (Some v)) left.volumes;
        none_failed = none;
      }));
      refusal = λ number is. absurd (not-refused regs number (sym answered ∙ is));
    }

    left-still : (it : IoEffect) → pending_in it.end ≡ None → it.io ≡ files.io → Left (with_drives_after (on_files asker.caller.process.0 files it) drives)
    left-still it over same = record {
      over = over;
      paths = inl (ap (λ (io : Io). io.paths) same);
      rest = subst (λ (io : Io). io ≡ with_paths files.io io.paths) (sym same) refl;
      directories = λ q differ. refl;
      own = λ differ. refl;
      requests = keeps-forgotten asker.caller.process.0 files.records;
      still = λ no. refl;
      volumes = inl (record { volumes = refl; none_failed = none });
      refusal =
          λ number is. record { io = same; directories = refl; records = forgets-again asker.caller.process.0 files.records; volumes = inl (record { volumes = refl; none_failed = none }) };
    }

  -- a fault leaves the volume, where the call changes none
  fault-still : (terms : ℕ) (deed : Deed) → Splits call asker files terms reached deed → (old left : DiskVolume) → MayBeLeft deed asker old left → may_change_volume call ≡ false → left ≡ old
  fault-still terms (leaves_so it) splits old left may_be changes_none = may_be
  fault-still terms (as_io step) splits old left may_be changes_none = may_be
  fault-still terms (changes it) splits old left may_be changes_none = absurd (false≢true (sym changes_none ∙ splits.may))

  put-back : (drive : ℕ) (old left : DiskVolume) → volume_at files drive ≡ Some old → left ≡ old → slice_set files.volumes drive (Some left) ≡ files.volumes
  put-back drive old left was same =
      ap (λ (v : DiskVolume). slice_set files.volumes drive (Some v)) same
      ∙ ap (slice_set files.volumes drive) (sym was) ∙ set-get_or files.volumes drive None

  left-broken : (step : FileStep) → reached ≡ drive_of step → (effect : FileEffect) (broken : IsBroken step asker
      files effect) → (may_change_volume call ≡ false → broken.left ≡ broken.old) → Left effect
  left-broken step reached_is effect broken same = subst Left (sym broken.effect_is) (record {
    over = refl;
    paths = inl refl;
    rest = refl;
    directories = λ q differ. refl;
    own = λ differ. refl;
    requests = λ q differ. refl;
    still = λ no. put-back broken.drive broken.old broken.left broken.is (same no);
    volumes = inr (inr fails_so);
    refusal = λ number is. record { io = refl; directories = refl; records = refl; volumes = inr fails_so };
  })
    where
      fails_so : FailsSo (refuses_so broken.number (with_drives (with_volume files broken.drive broken.left) broken.drives))
      fails_so = record {
        drive = broken.drive;
        reaches = reached_is ∙ broken.reached;
        number = broken.number;
        failed = broken.failed;
        answer = refl;
        old = broken.old;
        was = broken.is;
        left = broken.left;
        is = refl;
      }

-- ---- an attempt

module _ (call : PathCall) (processes : Processes) (files : Files) (now : TimePacket) (p : ℕ) (old new : List TerminalState) where
  abbrev asker : Asker
  asker = asker_of processes p now

  abbrev step : FileStep
  step = file_step call asker files (length old)

  abbrev reached : Option ℕ
  reached = drive_of step

  abbrev Leaving : FileEffect → Type 0
  Leaving effect = Left call asker files reached effect

  -- what the attempt makes of the records
  abbrev Recorded : FileEffect → Type 0
  Recorded effect = RecordsCome (made_by call processes files now p (length old)) (files_after p effect).records

  abbrev Touching : FileEffect → Type 0
  Touching effect = Recorded effect → TouchesNoDevice call processes files now p (result_of processes p (io_effect effect)) (files_after p effect) old new

  -- what is left by an attempt that ends with the effect
  left-devices : (effect : FileEffect) → Leaving effect → new ≡ old → Touching effect
  left-devices effect left same come = record {
    over = ends-over effect.end processes p (io_effect effect) left.over;
    paths = left.paths;
    rest = call_gone left.rest;
    terminals = same;
    requests =
        over-requested effect.end p files (files_after p effect) effect.files.records left.over left.requests refl;
    records = come;
    directories = left.directories;
    own = left.own;
    still = left.still;
    volumes = by_volumes left.volumes;
    refusal = λ number is. refused (left.refusal number (ends-refused effect.end processes p (io_effect effect) number is));
  }
    where
      call_gone : {io : Io} → effect.files.io ≡ io → with_call effect.files.io p (pending_in effect.end) ≡ with_call io p None
      call_gone is =
          ap (λ (io : Io). with_call io p (pending_in effect.end)) is ∙ ap (with_call _ p) left.over

      same_volumes : NoVolumeChanges files effect.files → NoVolumeChanges files (files_after p effect)
      same_volumes it = record { volumes = it.volumes; none_failed = it.none_failed }

      one_fails : FailsSo call asker files reached effect → OneDriveFails reached files (result_of processes p (io_effect effect)) (files_after p effect)
      one_fails it = record {
        drive = it.drive;
        reaches = it.reaches;
        number = it.number;
        failed = it.failed;
        answer = ap (λ (end : IoEnd). result_by end processes p (io_effect effect)) it.answer;
        old = it.old;
        was = it.was;
        left = it.left;
        is = it.is;
      }

      by_volumes : NoVolumeChanges files effect.files ⊎ OneVolumeChanges reached files effect.files ⊎ FailsSo call
          asker files reached effect → NoVolumeChanges files (files_after p effect) ⊎ OneVolumeChanges reached files
          (files_after p effect) ⊎ OneDriveFails reached files (result_of processes p (io_effect effect))
          (files_after p effect)
      by_volumes (inl stay) = inl (same_volumes stay)
      by_volumes (inr (inl one)) =
          inr (inl (record { drive = one.drive; reaches = one.reaches; old = one.old; was = one.was; changed = one.changed; is = one.is; none_failed = one.none_failed }))
      by_volumes (inr (inr broken)) = inr (inr (one_fails broken))

      by_refusal : NoVolumeChanges files effect.files ⊎ FailsSo call asker files reached effect
          → NoVolumeChanges files (files_after p effect) ⊎ OneDriveFails reached files
          (result_of processes p (io_effect effect)) (files_after p effect)
      by_refusal (inl stay) = inl (same_volumes stay)
      by_refusal (inr broken) = inr (one_fails broken)

      refused : RefusedLeft call asker files reached effect → RefusalLeaves reached files p (result_of processes p (io_effect effect)) (files_after p effect)
      refused it = record {
        io = call_gone it.io;
        directories = it.directories;
        records =
            over-drops effect.end effect.files.records p left.over ∙ it.records;
        volumes = by_refusal it.volumes;
      }

  -- it is on a terminal or a pipe, and on no file
  abbrev OnIt : FileEffect → Type 0
  OnIt effect = DeviceAttempted call processes files p (result_of processes p (io_effect effect)) (files_after p effect) old new × IsOnNoFile call asker files (length old)

  -- it waits for a record
  abbrev Waiting : FileEffect → Type 0
  Waiting effect = WaitsForRecord call processes files now p (result_of processes p (io_effect effect)) (files_after p effect) old new

  abbrev Comes : FileEffect → Type 0
  Comes effect = OnIt effect ⊎ Touching effect ⊎ Waiting effect

  -- a call on a terminal or a pipe
  pub on-device : (io : IoStep) (it : IoEffect) (drives : List DriveState) → KeepsDriveFaults files.drives drives
      → IsDeviceStep call asker files (length old) io → HasIoEffect io asker.caller files.io it old new
      → DeviceAttempted call processes files p (result_of processes p it) (files_after p (with_drives_after (on_files p files it)
      drives)) old new
  on-device io it drives none on does = record {
    device = on.device;
    device_is = on.device_is;
    attempted = record {
      effect = it;
      does = subst (λ (io : IoStep). HasIoEffect io asker.caller files.io it old new) on.is does;
      result_is = refl;
      state = refl;
    };
    directories = refl;
    volumes = refl;
    none_failed = none;
    requests =
        device-requested it.end p files (files_after p (with_drives_after (on_files p files it) drives)) refl;
    locks = LocksStay.stay (device-settled it.end p files.records);
  }

  -- the lock of a path that is closed ends, or all stay
  locks-so : (end : IoEnd) (records : Records) → pending_in end ≡ None → (records ≡ files.records) ⊎ ClosesLock call
      asker files (length old) records → LocksStay call files p asker.caller.regs.a (records_after end records p)
  locks-so end records over (inl same) =
      LocksStay.stay (over-drops end records p over ∙ ap (λ (records : Records). with_waiting records p None) same)
  locks-so end records over (inr closes) =
      LocksStay.ends closes.opened closes.close closes.named
      (over-drops end records p over ∙ ap (λ (records : Records). with_waiting records p None) closes.is ∙ freed-settled files.records closes.opened.path.0 p)

  -- what a call on a terminal or a pipe does, but for records
  as-device : (it : FileEffect) (drives : List DriveState) → KeepsDriveFaults files.drives drives → IsAsDevice call asker files (length old) it → new ≡ old → OnIt (with_drives_after it drives)
  as-device it drives none device same =
      subst (λ (it : FileEffect). OnIt (with_drives_after it drives)) (sym device.same) (
        record {
          device = device.device;
          device_is = device.device_is;
          attempted = record {
            effect = device.effect;
            does = subst (λ (step : IoStep). HasIoEffect step asker.caller files.io device.effect old new) (sym device.is) (refl, same);
            result_is = refl;
            state = refl;
          };
          directories = refl;
          volumes = refl;
          none_failed = none;
          requests =
              over-requested device.effect.end p files (files_after p (with_drives_after (with_records_after (on_files p files device.effect) device.records) drives)) device.records device.over
              (keeps-same p files.records device.records device.requests) refl;
          locks = locks-so device.effect.end device.records device.over device.ends;
        },
        device.on,
      )

  waits-so : (it : FileEffect) (drives : List DriveState) → KeepsDriveFaults files.drives drives → WaitsSo call asker files (length old) it → new ≡ old → Waiting (with_drives_after it drives)
  waits-so it drives none waits same =
      subst (λ (it : FileEffect). Waiting (with_drives_after it drives)) (sym waits.same) (record {
        request = waits.request;
        requests = waits.requests;
        answer = waits.answer;
        result_is = refl;
        io = refl;
        records = refl;
        directories = refl;
        volumes = refl;
        none_failed = none;
        terminals = same;
      })

  by-end : (effect : FileEffect) (drives : List DriveState) → KeepsDriveFaults files.drives drives → EndsSo call asker files (length old) effect → new ≡ old → Comes (with_drives_after effect drives)
  by-end effect drives none (inl left) same =
      inr (inl (left-devices (with_drives_after effect drives) (left-so call asker files reached drives none effect left) same))
  by-end effect drives none (inr (inl device)) same = inl (as-device effect drives none device same)
  by-end effect drives none (inr (inr waits)) same = inr (inr (waits-so effect drives none waits same))

  by-deed : (deed : Deed) (it : FileEffect) (drives : List DriveState) → KeepsDriveFaults files.drives drives
      → Splits call asker files (length old) reached deed → DoesDeed deed asker files it old new
      → Comes (with_drives_after it drives)
  by-deed (leaves_so effect) it drives none ends (is, same) =
      subst (λ (it : FileEffect). Comes (with_drives_after it drives)) (sym is) (by-end effect drives none ends same)
  by-deed (as_io io) it drives none (inl on) (effect, does, is) =
      inl (subst (λ (it : FileEffect). OnIt (with_drives_after it drives)) (sym is) (on-device io effect drives none on.0 does, on.1))
  by-deed (as_io io) it drives none (inr still) (effect, does, is) =
      let nothing = still effect old new does in
      inr (inl (subst (λ (it : FileEffect). Touching (with_drives_after it drives)) (sym is)
      (left-devices (with_drives_after (on_files p files effect) drives) (left-still call asker files reached
      drives none effect nothing.over nothing.io) nothing.terminals)))
  by-deed (changes change) it drives none answer (inl changed, same) =
      let (regs, answered) = answer.answer changed.number in
      inr (inl (subst (λ (it : FileEffect). Touching (with_drives_after it drives)) (sym changed.effect_is)
      (left-devices (with_drives_after (with_volume_after (change.effect changed.number) change.drive changed.new)
      drives) (left-changed call asker files reached drives none (change.effect changed.number)
      (answer.left changed.number) regs answered answer.may change.drive answer.reaches changed.old changed.new
      changed.is) same)))
  by-deed (changes change) it drives none answer (inr long, same) =
      inr (inl (subst (λ (it : FileEffect). Touching (with_drives_after it drives)) (sym long.effect_is)
      (left-devices (with_drives_after (refuses_so _ files) drives) (left-so call asker files reached drives none
      (refuses_so _ files) (refused-leaves call asker files (length old) _)) same)))

  does-comes : (effect : FileEffect) → FileDoes step asker files effect old new → Comes effect
  does-comes effect (inl well) =
      subst Comes (sym well.effect_is) (by-deed (deed_of step files) well.it well.drives well.none_failed (step-splits call asker files (length old)) well.does)
  does-comes effect (inr (broken, same)) =
      inr (inl (left-devices effect (left-broken call asker files reached step refl effect broken
      (fault-still call asker files reached (length old) (deed_of step files) (step-splits call asker files
      (length old)) broken.old broken.left broken.may_be)) same))

  pub does-so : (effect : FileEffect) → FileDoes step asker files effect old new → OnIt effect ⊎ TouchesNoDevice call
      processes files now p (result_of processes p (io_effect effect)) (files_after p effect) old new ⊎ Waiting effect
  does-so effect does = by_case (does-comes effect does)
    where
      by_case : Comes effect → OnIt effect ⊎ TouchesNoDevice call processes files now p (result_of processes p (io_effect effect)) (files_after p effect) old new ⊎ Waiting effect
      by_case (inl on) = inl on
      by_case (inr (inl left)) = inr (inl (left (effect-comes call asker files effect old new does)))
      by_case (inr (inr waits)) = inr (inr waits)

module _ (call : PathCall) (processes : Processes) (files : Files) (now : TimePacket) (p : ℕ) (result : CallResult)
    (new : Files) (before after : List TerminalState) (it : FileAttempts call processes files now p result new before
    after) where
  -- it is on a terminal or a pipe, on no file, or it touches none, or it waits for a record
  pub attempt-splits : DeviceAttempted call processes files p result new before after × IsOnNoFile call (asker_of processes p now)
      files (length before) ⊎ TouchesNoDevice call processes files now p result new before after ⊎ WaitsForRecord call processes
      files now p result new before after
  attempt-splits =
      subst (λ (result : CallResult). DeviceAttempted call processes files p result new before after × IsOnNoFile call
      (asker_of processes p now) files (length before) ⊎ TouchesNoDevice call processes files now p result new before after
      ⊎ WaitsForRecord call processes files now p result new before after) (sym it.result_is)
      (subst (λ (new : Files). DeviceAttempted call processes files p (result_of processes p (io_effect it.effect)) new before
      after × IsOnNoFile call (asker_of processes p now) files (length before) ⊎ TouchesNoDevice call processes files now p
      (result_of processes p (io_effect it.effect)) new before after ⊎ WaitsForRecord call processes files now p
      (result_of processes p (io_effect it.effect)) new before after) (sym it.state)
      (does-so call processes files now p before after it.effect it.does))

  pub attempt-comes : DeviceAttempted call processes files p result new before after ⊎ TouchesNoDevice call processes files now p
      result new before after ⊎ WaitsForRecord call processes files now p result new before after
  attempt-comes = by_case attempt-splits
    where
      by_case : DeviceAttempted call processes files p result new before after × IsOnNoFile call (asker_of processes p now) files
          (length before) ⊎ TouchesNoDevice call processes files now p result new before after ⊎ WaitsForRecord call processes
          files now p result new before after → DeviceAttempted call processes files p result new before after ⊎ TouchesNoDevice
          call processes files now p result new before after ⊎ WaitsForRecord call processes files now p result new before
          after
      by_case (inl on) = inl on.0
      by_case (inr left) = inr left
