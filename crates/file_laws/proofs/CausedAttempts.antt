-- Why an attempt of a call on files is refused.
use Rattle.std.proofs.Common.{◌≡◌, ◌⊎◌, ℕ, Option, List, length, refl, sym, ap, ◌∙◌, subst, inl, inr}
use Rattle.os9_base.specs.declared.errors.TheConstants.{E_SLF}
use Rattle.os9_base.specs.declared.registers.TimePacket.{TimePacket}
use Rattle.os9_outer.specs.TerminalState.{TerminalState}
use Rattle.proc_model.specs.CallResult.{CallResult}
use Rattle.proc_model.specs.Processes.{Processes}
use Rattle.io_model.specs.Attempts.{result_of}
use Rattle.io_model.specs.Step.{fails}
use Rattle.io_model.specs.declared.io_call.IoCall.TheVariants as Device
use Rattle.file_rules.specs.Attempts.{FileAttempts, asker_of, file_step, files_after, io_effect}
use Rattle.file_rules.specs.Files.{Asker, DriveState, Files, KeepsDriveFaults}
use Rattle.file_rules.specs.Step.{Deed, DoesDeed, FileDoes, FileEffect, FileStep, as_io, changes, deed_of, leaves_so, with_drives_after}
use Rattle.file_rules.specs.declared.path_call.PathCall.{PathCall}
use Rattle.file_rules.specs.declared.path_call.PathCall.TheVariants as Call
use Rattle.file_laws.specs.Causes.{FileCause, finds_no_segment}
use Rattle.file_laws.specs.Devices.{DeviceAttempted, IsOnNoFile}
use Rattle.file_laws.specs.Touch.{OneDriveFails, drive_reached}
use Rattle.file_laws.proofs.TouchAttempts.{ends-refused, on-device}
use Rattle.file_laws.proofs.Caused.{Caused, StepCaused}
use Rattle.file_laws.proofs.CausedDeletes.{delete-caused, deletx-caused}
use Rattle.file_laws.proofs.CausedNames.{chgdir-caused, create-caused, makdir-caused, open-caused}
use Rattle.file_laws.proofs.CausedNumbers.{close-caused, getstt-caused, made, perr-caused, read-caused, readln-caused, seek-caused, setstt-caused, write-caused, writln-caused}
use Rattle.file_laws.proofs.Splits.{not-refused}

step-caused : (call : PathCall) (asker : Asker) (files : Files) (terms : ℕ) → StepCaused (made call asker files terms) (file_step call asker files terms)
step-caused Call.Dup asker files terms = inl (record { device = Device.Dup; device_is = refl; is = refl }, tt)
step-caused Call.Create asker files terms = create-caused asker files terms
step-caused Call.Open asker files terms = open-caused asker files terms
step-caused Call.MakDir asker files terms = makdir-caused asker files terms
step-caused Call.ChgDir asker files terms = chgdir-caused asker files terms
step-caused Call.Delete asker files terms = delete-caused asker files terms
step-caused Call.DeletX asker files terms = deletx-caused asker files terms
step-caused Call.Seek asker files terms = seek-caused asker files terms
step-caused Call.Read asker files terms = read-caused asker files terms
step-caused Call.Write asker files terms = write-caused asker files terms
step-caused Call.ReadLn asker files terms = readln-caused asker files terms
step-caused Call.WritLn asker files terms = writln-caused asker files terms
step-caused Call.GetStt asker files terms = getstt-caused asker files terms
step-caused Call.SetStt asker files terms = setstt-caused asker files terms
step-caused Call.Close asker files terms = close-caused asker files terms
step-caused Call.PErr asker files terms = perr-caused asker files terms

same-fails : (n m : ℕ) → fails n ≡ fails m → n ≡ m
same-fails n m is = cc

module _ (call : PathCall) (processes : Processes) (files : Files) (now : TimePacket) (p : ℕ) (old new : List TerminalState) (number : ℕ) where
  abbrev step : FileStep
  step = file_step call (asker_of processes p now) files (length old)

  abbrev On : FileEffect → Type 0
  On effect = DeviceAttempted call processes files p (result_of processes p (io_effect effect)) (files_after p effect) old new × IsOnNoFile call (asker_of processes p now) files (length old)

  abbrev Why : Type 0
  Why = FileCause (made call (asker_of processes p now) files (length old)) number

  by-deed : (deed : Deed) → deed_of step files ≡ deed → (it : FileEffect) (drives : List DriveState)
      → KeepsDriveFaults files.drives drives → Caused (made call (asker_of processes p now) files (length old)) deed
      → DoesDeed deed (asker_of processes p now) files it old new → it.end ≡ fails number
      → On (with_drives_after it drives) ⊎ Why
  by-deed (leaves_so effect) deed_is it drives none caused (is, same) ended =
      inr (caused number (sym (ap (λ (it : FileEffect). it.end) is) ∙ ended))
  by-deed (as_io io) deed_is it drives none (inl on) (effect, does, is) ended =
      inl (subst (λ (it : FileEffect). On (with_drives_after it drives)) (sym is) (on-device call processes files now p old new io effect drives none on.0 does, on.1))
  by-deed (as_io io) deed_is it drives none (inr why) (effect, does, is) ended =
      inr (why effect old new number does (sym (ap (λ (it : FileEffect). it.end) is) ∙ ended))
  by-deed (changes change) deed_is it drives none answer (inl changed, same) ended =
      let (regs, answered) = answer changed.number in
      absurd (not-refused regs number (sym answered ∙ sym (ap (λ (it : FileEffect). it.end) changed.effect_is) ∙ ended))
  by-deed (changes change) deed_is it drives none answer (inr long, same) ended =
      inr (finds_no_segment (sym (same-fails E_SLF number (sym (ap (λ (it : FileEffect). it.end) long.effect_is) ∙
      ended))) (record { it = change; is = deed_is; v = long.old; mounted = long.is; full = long.too_long }))

  abbrev reached : Option ℕ
  reached = drive_reached call (asker_of processes p now) files (length old)

  abbrev Comes : FileEffect → Type 0
  Comes effect = On effect ⊎ OneDriveFails reached files (result_of processes p (io_effect effect)) (files_after p effect) ⊎ Why

  comes-of : (effect : FileEffect) → FileDoes step (asker_of processes p now) files effect old new → effect.end ≡ fails number → Comes effect
  comes-of effect (inl well) ended =
      subst Comes (sym well.effect_is) (by_case (by-deed (deed_of step files) refl well.it well.drives
      well.none_failed (step-caused call (asker_of processes p now) files (length old)) well.does
      (sym (ap (λ (it : FileEffect). it.end) well.effect_is) ∙ ended)))
    where
      by_case : On (with_drives_after well.it well.drives) ⊎ Why → Comes (with_drives_after well.it well.drives)
      by_case (inl on) = inl on
      by_case (inr why) = inr (inr why)
  comes-of effect (inr (broken, same)) ended = inr
      (inl (subst (λ (effect : FileEffect). OneDriveFails reached files (result_of processes p (io_effect effect))
      (files_after p effect)) (sym broken.effect_is) (record {
        drive = broken.drive;
        reaches = broken.reached;
        number = broken.number;
        failed = broken.failed;
        answer = refl;
        old = broken.old;
        was = broken.is;
        left = broken.left;
        is = refl;
      })))

module _ (call : PathCall) (processes : Processes) (files : Files) (now : TimePacket) (p : ℕ) (before after : List TerminalState) (number : ℕ) where
  -- it is on a terminal or a pipe, on no file; or the drive that it reached failed; or it has its cause
  abbrev Has : CallResult → Files → Type 0
  Has result new =
      DeviceAttempted call processes files p result new before after × IsOnNoFile call (asker_of processes p now) files (length before)
      ⊎ OneDriveFails (drive_reached call (asker_of processes p now) files (length before)) files result new
      ⊎ FileCause (made call (asker_of processes p now) files (length before)) number

  pub refusal-caused : (result : CallResult) (new : Files) → FileAttempts call processes files now p result new before after → result ≡ CallResult.refused number → Has result new
  refusal-caused result new it refused =
      subst (λ (result : CallResult). Has result new) (sym it.result_is)
      (subst (Has (result_of processes p (io_effect it.effect))) (sym it.state)
      (comes-of call processes files now p before after number it.effect it.does (ends-refused it.effect.end processes p (io_effect it.effect) number (sym it.result_is ∙ refused))))
