-- What a refused call on a file or a directory leaves, whether its drive failed or not.
use Rattle.std.proofs.Common.{◌≡◌, ◌⊎◌, ℕ, ◌<◌, Option, Some, None, List, length, refl, sym, ap, ◌∙◌, subst, inl, inr}
use Rattle.std.proofs.lemmas.Bool.{cases_lt}
use Rattle.std.proofs.lemmas.List.{get_or-set_same, get_or-set_other, get_or_past}
use Rattle.std.proofs.lemmas.Option.{none-some}
use Rattle.os9_base.specs.declared.errors.TheConstants.{E_SLF}
use Rattle.os9_base.specs.declared.registers.TimePacket.{TimePacket}
use Rattle.proc_model.specs.CallResult.{CallResult, refused}
use Rattle.rbf_model.specs.Volume.{DiskVolume}
use Rattle.io_model.specs.Attempts.{result_of}
use Rattle.io_model.specs.Step.{fails}
use Rattle.io_model.specs.declared.io_call.IoCall.TheVariants as Device
use Rattle.file_rules.specs.Attempts.{FileAttempts, asker_of, file_step, files_after, io_effect}
use Rattle.file_rules.specs.Files.{Asker, DriveState, Files, KeepsDriveFaults, OneFailed, volume_at, with_drives, with_volume}
use Rattle.file_rules.specs.Step.{Deed, DoesDeed, FileEffect, GoesWell, IsBroken, as_io, changes, deed_of, leaves_so, refuses_so, with_drives_after}
use Rattle.file_rules.specs.declared.path_call.PathCall.{PathCall}
use Rattle.file_rules.specs.declared.path_call.PathCall.TheVariants as Call
use Rattle.file_laws.specs.Causes.{FileCause, finds_no_segment}
use Rattle.file_laws.specs.Devices.{DeviceAttempted, IsOnNoFile}
use Rattle.file_laws.specs.Touch.{NoVolumeChanges}
use Rattle.file_laws.proofs.TouchAttempts.{ends-refused, on-device, step-splits}
use Rattle.file_laws.proofs.Caused.{Caused, StepCaused}
use Rattle.file_laws.proofs.CausedDeletes.{delete-caused, deletx-caused}
use Rattle.file_laws.proofs.CausedNames.{chgdir-caused, create-caused, makdir-caused, open-caused}
use Rattle.file_laws.proofs.CausedNumbers.{close-caused, getstt-caused, made, perr-caused, read-caused, readln-caused, seek-caused, setstt-caused, write-caused, writln-caused}
use Rattle.file_laws.proofs.Splits.{EndsSo, Splits, not-refused}
use Rattle.machine_model.specs.State.{State}
use Rattle.call_laws.specs.RefusedEvents.{FailsOnDrive, made_by, step_of}

step-caused : (call : PathCall) (asker : Asker) (files : Files) (terms : ℕ) → StepCaused (made call asker files terms) (file_step call asker files terms)
step-caused Call.Dup asker files terms = inl (record { device = Device.Dup; device_is = refl; is = refl }, tt)
step-caused Call.Create asker files terms = create-caused asker files terms
step-caused Call.Open asker files terms = open-caused asker files terms
step-caused Call.MakDir asker files terms = makdir-caused asker files terms
step-caused Call.ChgDir asker files terms = chgdir-caused asker files terms
step-caused Call.Delete asker files terms = delete-caused asker files terms
step-caused Call.DeletX asker files terms = deletx-caused asker files terms
step-caused Call.Seek asker files terms = seek-caused asker files terms
step-caused Call.Read asker files terms = read-caused asker files terms
step-caused Call.Write asker files terms = write-caused asker files terms
step-caused Call.ReadLn asker files terms = readln-caused asker files terms
step-caused Call.WritLn asker files terms = writln-caused asker files terms
step-caused Call.GetStt asker files terms = getstt-caused asker files terms
step-caused Call.SetStt asker files terms = setstt-caused asker files terms
step-caused Call.Close asker files terms = close-caused asker files terms
step-caused Call.PErr asker files terms = perr-caused asker files terms

same-fails : (n m : ℕ) → fails n ≡ fails m → n ≡ m
same-fails n m is = cc

mounted-within : (files : Files) (drive : ℕ) (v : DiskVolume) → volume_at files drive ≡ Some v → drive < length files.volumes
mounted-within files drive v was =
    elim (cases_lt drive (length files.volumes)) [
      | inl within ↦ within
      | inr past ↦ absurd (none-some v (sym (get_or_past files.volumes drive None past) ∙ was))
    ]

module _ (s t : State) (p : ℕ) (now : TimePacket) (call : PathCall) (number : ℕ) where
  abbrev asker : Asker
  asker = asker_of s.processes p now

  abbrev On : FileEffect → Type 0
  On effect = DeviceAttempted call s.processes s.files p (result_of s.processes p (io_effect effect)) (files_after p effect) s.terms t.terms × IsOnNoFile call asker s.files (length s.terms)

  -- no volume has changed, and the number has its cause
  abbrev Why : Files → Type 0
  Why new = NoVolumeChanges s.files new × FileCause (made_by s p now call) number

  -- ---- where no drive fails

  module _ (drives : List DriveState) (none : KeepsDriveFaults s.files.drives drives) where
    why-so : (it : FileEffect) → it.files.volumes ≡ s.files.volumes → FileCause (made_by s p now call) number → Why (files_after p (with_drives_after it drives))
    why-so it volumes cause = (record { volumes = volumes; none_failed = none }, cause)

    ends-volumes : (it : FileEffect) → EndsSo call asker s.files (length s.terms) it → it.files.volumes ≡ s.files.volumes
    ends-volumes it (inl left) = left.volumes
    ends-volumes it (inr (inl device)) = ap (λ (it : FileEffect). it.files.volumes) device.same
    ends-volumes it (inr (inr waiting)) = ap (λ (it : FileEffect). it.files.volumes) waiting.same

    by-deed : (deed : Deed) → deed_of (step_of s p now call) s.files ≡ deed → (reached : Option ℕ) → Splits call asker
        s.files (length s.terms) reached deed → Caused (made_by s p now call) deed → (it : FileEffect)
        → DoesDeed deed asker s.files it s.terms t.terms → it.end ≡ fails number → On (with_drives_after it drives) ⊎
        Why (files_after p (with_drives_after it drives))
    by-deed (leaves_so effect) deed_is reached splits caused it (is, same) ended =
        inr (why-so it (ap (λ (it : FileEffect). it.files.volumes) is ∙ ends-volumes effect splits) (caused number (sym (ap (λ (it : FileEffect). it.end) is) ∙ ended)))
    by-deed (as_io io) deed_is reached splits (inl on) it (effect, does, is) ended =
        inl (subst (λ (it : FileEffect). On (with_drives_after it drives)) (sym is) (on-device call s.processes s.files now p s.terms t.terms io effect drives none on.0 does, on.1))
    by-deed (as_io io) deed_is reached splits (inr why) it (effect, does, is) ended =
        inr (why-so it (ap (λ (it : FileEffect). it.files.volumes) is) (why effect s.terms t.terms number does (sym (ap (λ (it : FileEffect). it.end) is) ∙ ended)))
    by-deed (changes change) deed_is reached splits answer it (inl changed, same) ended =
        let (regs, answered) = answer changed.number in
        absurd (not-refused regs number (sym answered ∙ sym (ap (λ (it : FileEffect). it.end) changed.effect_is) ∙ ended))
    by-deed (changes change) deed_is reached splits answer it (inr long, same) ended =
        inr (why-so it (ap (λ (it : FileEffect). it.files.volumes) long.effect_is)
        (finds_no_segment (sym (same-fails E_SLF number (sym (ap (λ (it : FileEffect). it.end) long.effect_is) ∙
        ended))) (record { it = change; is = deed_is; v = long.old; mounted = long.is; full = long.too_long })))

  goes-well : (effect : FileEffect) (well : GoesWell (step_of s p now call) asker s.files effect s.terms t.terms) → effect.end ≡ fails number → On effect ⊎ Why (files_after p effect)
  goes-well effect well ended =
      subst (λ (effect : FileEffect). On effect ⊎ Why (files_after p effect)) (sym well.effect_is)
      (by-deed well.drives well.none_failed (deed_of (step_of s p now call) s.files) refl _
      (step-splits call asker s.files (length s.terms)) (step-caused call asker s.files (length s.terms)) well.it
      well.does (sym (ap (λ (it : FileEffect). it.end) well.effect_is) ∙ ended))

  -- ---- where its drive fails

  breaks : (effect : FileEffect) (broken : IsBroken (step_of s p now call) asker s.files effect) → effect.end ≡ fails number → t.files ≡ files_after p effect → FailsOnDrive s p now call number t
  breaks effect broken ended state =
      let left_is : t.files ≡ files_after p (refuses_so broken.number (with_drives (with_volume s.files broken.drive broken.left) broken.drives)) = state ∙ ap (files_after p) broken.effect_is in
      let number_is : broken.number ≡ number = same-fails broken.number number (sym (ap (λ (it : FileEffect). it.end) broken.effect_is) ∙ ended) in
      let volumes : t.files.volumes ≡ (with_volume s.files broken.drive broken.left).volumes = ap (λ (files : Files). files.volumes) left_is in
      let at : (other : ℕ) → volume_at t.files other ≡ volume_at (with_volume s.files broken.drive broken.left) other = λ other. ap (λ (files : Files). volume_at files other) left_is in
      record {
        drive = broken.drive;
        reaches = broken.reached;
        failed =
            subst (λ (number : ℕ). OneFailedIn number) number_is (subst (λ (files : Files). OneFailedTo broken.number files) (sym left_is) broken.failed);
        old = broken.old;
        was = broken.is;
        left = broken.left;
        may_be = broken.may_be;
        volumes = volumes;
        mounted =
            at broken.drive ∙ get_or-set_same s.files.volumes broken.drive (Some broken.left) None (mounted-within s.files broken.drive broken.old broken.is);
        others =
            λ other differ. at other ∙ get_or-set_other s.files.volumes broken.drive other (Some broken.left) None differ;
      }
    where
      OneFailedTo : ℕ → Files → Type 0
      OneFailedTo number files = OneFailed broken.drive number s.files.drives files.drives

      OneFailedIn : ℕ → Type 0
      OneFailedIn number = OneFailedTo number t.files

  -- ---- an attempt

  module _ (it : FileAttempts call s.processes s.files now p (refused number) t.files s.terms t.terms) where
    ended : it.effect.end ≡ fails number
    ended = ends-refused it.effect.end s.processes p (io_effect it.effect) number (sym it.result_is)

    -- it is on a terminal or a pipe, on no file; or its drive failed; or it has its cause
    pub file-refused : DeviceAttempted call s.processes s.files p (refused number) t.files s.terms t.terms × IsOnNoFile call
        asker s.files (length s.terms) ⊎ FailsOnDrive s p now call number t ⊎ NoVolumeChanges s.files t.files ×
        FileCause (made_by s p now call) number
    file-refused = by_end it.does
      where
        by_case : On it.effect ⊎ Why (files_after p it.effect) → DeviceAttempted call s.processes s.files p (refused number)
            t.files s.terms t.terms × IsOnNoFile call asker s.files (length s.terms) ⊎ FailsOnDrive s p now call
            number t ⊎ Why t.files
        by_case (inl (on, none)) =
            inl (
              subst (λ (result : CallResult). DeviceAttempted call s.processes s.files p result t.files s.terms t.terms)
                  (sym it.result_is) (subst (λ (new : Files). DeviceAttempted call s.processes s.files p
                  (result_of s.processes p (io_effect it.effect)) new s.terms t.terms) (sym it.state) on),
              none,
            )
        by_case (inr why) = inr (inr (subst Why (sym it.state) why))

        by_end : GoesWell (step_of s p now call) asker s.files it.effect s.terms t.terms ⊎
            (IsBroken (step_of s p now call) asker s.files it.effect × (t.terms ≡ s.terms)) → DeviceAttempted call s.processes
            s.files p (refused number) t.files s.terms t.terms × IsOnNoFile call asker s.files (length s.terms) ⊎
            FailsOnDrive s p now call number t ⊎ Why t.files
        by_end (inl well) = by_case (goes-well it.effect well ended)
        by_end (inr (broken, same)) = inr (inl (breaks it.effect broken ended it.state))
