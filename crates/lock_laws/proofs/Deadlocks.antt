-- E$DeadLk is answered to a call on paths and files exactly at a first attempt whose request would close a cycle, and
-- E$Lock exactly to one whose request conflicts and does not wait.
use Rattle.std.proofs.Common.{◌≡◌, ◌⊎◌, ℕ, true, false, Option, Some, None, List, length, refl, sym, ap, ◌∙◌, subst, inl, inr}
use Rattle.std.proofs.lemmas.Bool.{false≢true}
use Rattle.std.proofs.lemmas.Option.{same_Some}
use Rattle.os9_base.specs.declared.errors.TheConstants.{E_BMODE, E_BPADDR, E_BPNAM, E_BPNUM, E_DEADLK, E_EOF, E_LOCK, E_MNF, E_NOTRDY, E_PNNF, E_PTHFUL, E_UNKSVC, E_WRITE}
use Rattle.os9_base.specs.declared.registers.TimePacket.{TimePacket}
use Rattle.os9_outer.specs.TerminalState.{TerminalState}
use Rattle.time_rules.proofs.Days.{same-packet}
use Rattle.proc_model.specs.Records.{IsLiving}
use Rattle.proc_model.specs.Attempts.{after_attempt}
use Rattle.proc_model.specs.CallResult.{CallResult}
use Rattle.proc_model.specs.Ready.{Act, act_of, attempts}
use Rattle.lock_model.specs.declared.lock.Grant.TheVariants.{Deadlock, Locked}
use Rattle.lock_model.specs.declared.lock.TheConstants.{LOCK_PROCESSES}
use Rattle.io_model.specs.Attempts.{HasIoEffect, IoAttempts, io_after, result_by}
use Rattle.io_model.specs.Io.{Io, OpenPath, open_path}
use Rattle.io_model.specs.Step.{Caller, IoEffect, IoEnd, IoStep, done as io_done, fails, needs}
use Rattle.io_model.specs.declared.io_call.IoCall.{IoCall}
use Rattle.file_rules.specs.Attempts.{file_step, io_effect}
use Rattle.file_rules.specs.Files.{Asker, Files, OneFailed}
use Rattle.file_rules.specs.Seek.{seeks_nothing}
use Rattle.file_rules.specs.Step.{Deed, DoesDeed, FileDoes, FileEffect, FileStep, as_io, deed_of, drive_of}
use Rattle.file_rules.specs.declared.path_call.PathCall.{PathCall}
use Rattle.time_rules.specs.Clock.{seconds_since}
use Rattle.file_laws.specs.Attempt.{Attempt, ReportsDriveFault, asker_in, made_in}
use Rattle.file_laws.proofs.TouchAttempts.{ends-refused}
use Rattle.file_laws.proofs.Splits.{IsDeviceStep, not-refused}
use Rattle.machine_model.specs.declared.ends.EventEnd.{EventEnd}
use Rattle.machine_model.specs.Event.{Acts, Event}
use Rattle.machine_model.specs.Services.{CallAttempted, Serves, Service, on_paths, service_of}
use Rattle.machine_model.specs.State.{Rest, State, rest_of, with_rest}
use Rattle.call_laws.specs.Causes.{StatedCause, bad_address, bad_mode, bad_path_name, bad_path_number, no_module, not_found, not_ready, path_table_full, unknown_service}
use Rattle.call_laws.specs.RefusedEvents.{IsAttemptRefused}
use Rattle.call_laws.proofs.Refusing.{Comes, refusal}
use Rattle.lock_laws.specs.Answered.{DoesAsDevice, IsAnsweredSo}
use Rattle.file_laws.specs.Claims.{ClosesCycle, IsLockedOut, MadePathCall}
use Rattle.lock_laws.proofs.Answers.{deadlock-only, deadlock-refuses, fault-number, lock-only}
use Rattle.file_laws.proofs.Claimed.{claimed}
use Rattle.lock_laws.proofs.Cycles.{answered-so, closes-so}
use Rattle.file_laws.proofs.ClaimSteps.{Claimed, is_of_lock}
use Rattle.file_laws.proofs.LockCauses.{locked-out}
use Rattle.lock_laws.specs.Cycles.{AttemptsSo, ClosesCycleIn, IsFaulted, IsLockedOutIn}
use Rattle.lock_laws.specs.Locked.{IsAgreed}
use Rattle.lock_laws.proofs.LockedOut.{locked-refuses}
use Rattle.lock_laws.proofs.OtherCalls.{lock-on-paths}
use Rattle.lock_laws.proofs.VolumeEvents.{attempt_by}

module _ (error : ℕ) (of_lock : is_of_lock error ≡ true) where
  -- ---- numbers of terminals and pipes

  other : (one : ℕ) → is_of_lock one ≡ false → (number : ℕ) → number ≡ one → number ≡ error → ⊥
  other one none number is same =
      false≢true (sym none ∙ ap is_of_lock (sym is ∙ same) ∙ of_lock)

  stated-other : (call : IoCall) (caller : Caller) (io : Io) (drives terms number : ℕ) → StatedCause call caller io drives terms number → number ≡ error → ⊥
  stated-other call caller io drives terms number (path_table_full is cause) = other E_PTHFUL refl number is
  stated-other call caller io drives terms number (bad_path_number is cause) = other E_BPNUM refl number is
  stated-other call caller io drives terms number (bad_mode is cause) = other E_BMODE refl number is
  stated-other call caller io drives terms number (unknown_service is cause) = other E_UNKSVC refl number is
  stated-other call caller io drives terms number (bad_address is cause) = other E_BPADDR refl number is
  stated-other call caller io drives terms number (bad_path_name is cause) = other E_BPNAM refl number is
  stated-other call caller io drives terms number (not_found is cause) = other E_PNNF refl number is
  stated-other call caller io drives terms number (no_module is cause) = other E_MNF refl number is
  stated-other call caller io drives terms number (not_ready is cause) = other E_NOTRDY refl number is

  comes-other : (call : IoCall) (caller : Caller) (io : Io) (drives number : ℕ) (new : Io)
      (before after : List TerminalState) → Comes call caller io drives number new before after → number ≡ error → ⊥
  comes-other call caller io drives number new before after (inl (cause, nothing)) =
      stated-other call caller io drives (length before) number cause
  comes-other call caller io drives number new before after (inr (inl (is, left))) = other E_EOF refl number is
  comes-other call caller io drives number new before after (inr (inr (is, left))) = other E_WRITE refl number is

  -- I$Seek on a terminal or a pipe
  seeks-other : (caller : Caller) (io : Io) (effect : IoEffect) (before after : List TerminalState) → HasIoEffect (seeks_nothing caller io) caller io effect before after → effect.end ≡ fails error → ⊥
  seeks-other caller io effect before after = by_path (open_path io caller.process.0 caller.regs.a)
    where
      same-number : fails E_BPNUM ≡ fails error → error ≡ E_BPNUM
      same-number is = cc

      by_path : (path : Option OpenPath) → HasIoEffect (needs path E_BPNUM (λ opened. io_done caller.regs io)) caller io effect before after → effect.end ≡ fails error → ⊥
      by_path None (is, same) ends =
          other E_BPNUM refl error (same-number (sym (ap (λ (effect : IoEffect). effect.end) is) ∙ ends)) refl
      by_path (Some path) (is, same) ends =
          not-refused caller.regs error (sym (ap (λ (effect : IoEffect). effect.end) is) ∙ ends)

  -- ---- an attempt

  module _ (it : Attempt) (refused : it.result ≡ CallResult.refused error) where
    abbrev asker : Asker
    asker = asker_in it

    abbrev step : FileStep
    step = file_step it.call asker it.files (length it.before)

    ends : it.attempted.effect.end ≡ fails error
    ends =
        ends-refused it.attempted.effect.end it.processes it.process (io_effect it.attempted.effect) error (sym it.attempted.result_is ∙ refused)

    -- a call on a terminal or a pipe
    device-other : (io : IoStep) → IsDeviceStep it.call asker it.files (length it.before) io → (effect : IoEffect)
        → HasIoEffect io asker.caller it.files.io effect it.before it.after → effect.end ≡ fails error → ⊥
    device-other io on effect does over =
        comes-other on.device asker.caller it.files.io (length it.files.drives) error (io_after it.process effect) it.before it.after
        (refusal on.device it.processes it.files.io (io_after it.process effect) (length it.files.drives) it.process error it.before it.after attempted) refl
      where
        attempted : IoAttempts on.device it.processes it.files.io (length it.files.drives) it.process (CallResult.refused error) (io_after it.process effect) it.before it.after
        attempted = record {
          effect = effect;
          does = subst (λ (io : IoStep). HasIoEffect io asker.caller it.files.io effect it.before it.after) on.is does;
          result_is = sym (ap (λ (end : IoEnd). result_by end it.processes it.process effect) over);
          state = refl;
        }

    as-io-other : (io : IoStep) → deed_of step it.files ≡ as_io io → ⊥
    as-io-other io deed = by_does it.attempted.does
      where
        step-is : Claimed it.call asker it.files (length it.before) (drive_of step) (as_io io)
        step-is =
            subst (Claimed it.call asker it.files (length it.before) (drive_of step)) deed (claimed it.call asker it.files (length it.before))

        by_step : (effect : IoEffect) → HasIoEffect io asker.caller it.files.io effect it.before it.after → effect.end ≡ fails
            error → IsDeviceStep it.call asker it.files (length it.before) io ⊎ (io ≡ seeks_nothing asker.caller
            it.files.io) → ⊥
        by_step effect does over (inl on) = device-other io on effect does over
        by_step effect does over (inr seeks) =
            seeks-other asker.caller it.files.io effect it.before it.after (subst (λ (io : IoStep). HasIoEffect io asker.caller it.files.io effect it.before it.after) seeks does) over

        by_deed : (well : FileEffect) → it.attempted.effect.end ≡ well.end → DoesDeed (as_io io) asker it.files well it.before it.after → ⊥
        by_deed well same (effect, does, is) =
            by_step effect does (sym (ap (λ (it : FileEffect). it.end) is) ∙ sym same ∙ ends) step-is

        same-fault : (number : ℕ) → fails number ≡ fails error → error ≡ number
        same-fault number is = cc

        by_does : FileDoes step asker it.files it.attempted.effect it.before it.after → ⊥
        by_does (inl well) =
            by_deed well.it (ap (λ (effect : FileEffect). effect.end) well.effect_is)
            (subst (λ (deed : Deed). DoesDeed deed asker it.files well.it it.before it.after) deed well.does)
        by_does (inr (broken, same)) =
            let number : error ≡ broken.number = same-fault broken.number (sym (ap (λ (effect : FileEffect). effect.end) broken.effect_is) ∙ ends) in
            false≢true (sym (fault-number it _ broken.number broken.failed.last) ∙ ap is_of_lock (sym number) ∙ of_lock)

-- ---- why an attempt is refused so

closes-cycle : (it : Attempt) → length it.files.records.locks.requests ≡ LOCK_PROCESSES → it.result ≡ CallResult.refused E_DEADLK → ClosesCycle (made_in it)
closes-cycle it places refused = by_cause (deadlock-only it refused)
  where
    by_cause : DoesAsDevice it ⊎ IsAnsweredSo Deadlock it → ClosesCycle (made_in it)
    by_cause (inl (io, deed)) = absurd (as-io-other E_DEADLK refl it refused io deed)
    by_cause (inr so) = closes-so it places so

is-out : (it : Attempt) → it.result ≡ CallResult.refused E_LOCK → IsLockedOut (made_in it)
is-out it refused = by_cause (lock-only it refused)
  where
    by_cause : DoesAsDevice it ⊎ IsAnsweredSo Locked it → IsLockedOut (made_in it)
    by_cause (inl (io, deed)) = absurd (as-io-other E_LOCK refl it refused io deed)
    by_cause (inr so) = locked-out (made_in it) so.request so.requests so.answer

-- ---- an event

-- of each attempt in a state that is refused with this number something is so
abbrev IsSoIfRefused : (MadePathCall → Type 0) → ℕ → State → Type 0
IsSoIfRefused IsSo number s =
    (it : Attempt) → it.files ≡ s.files → it.result ≡ CallResult.refused number → IsSo (made_in it)

module _ (IsSo : MadePathCall → Type 0) (error : ℕ) (of_lock : is_of_lock error ≡ true) (s t : State) (only : IsSoIfRefused IsSo error s) (code : ℕ) (it : IsAttemptRefused s code error t) where
  -- a call on paths and files
  path-alone : (call : PathCall) → service_of code ≡ on_paths call → AttemptsSo IsSo s
  path-alone call serves =
      let (now, is_now, served) = it.attempt in
      let (attempted, clock) = subst (λ (service : Service). Serves service s now it.process (CallResult.refused error) (rest_of t)) serves served in
      record {
        process = it.process;
        chosen = it.chosen;
        code = code;
        attempted = it.attempted;
        call = call;
        serves = serves;
        now = now;
        is_now = is_now;
        so = only (attempt_by s it.process now call (CallResult.refused error) (rest_of t) attempted) refl refl;
      }

  refused-alone : AttemptsSo IsSo s
  refused-alone = (let (call, serves) = lock-on-paths error of_lock s t code it in path-alone call serves)

pub alone : (s t : State) (code : ℕ) → IsAgreed s → IsAttemptRefused s code E_DEADLK t → ClosesCycleIn s
alone s t code agreed it = refused-alone ClosesCycle E_DEADLK refl s t only code it
  where
    only : IsSoIfRefused ClosesCycle E_DEADLK s
    only attempt same refused =
        closes-cycle attempt (ap (λ (files : Files). length files.records.locks.requests) same ∙ agreed.agreed.records.locks.processes) refused

pub alone-locked : (s t : State) (code : ℕ) → IsAttemptRefused s code E_LOCK t → IsLockedOutIn s
alone-locked s t code it =
    refused-alone IsLockedOut E_LOCK refl s t (λ attempt same refused. is-out attempt refused) code it

-- each attempt in a state of which something is so is refused with this number, or a drive fails in it
abbrev IsRefusedSo : (MadePathCall → Type 0) → ℕ → State → Type 0
IsRefusedSo IsSo number s =
    (it : Attempt) → it.files ≡ s.files → IsSo (made_in it) → (it.result ≡ CallResult.refused number) ⊎ ReportsDriveFault it

module _ (IsSo : MadePathCall → Type 0) (error : ℕ) (s t : State) (end : EventEnd) (refuses : IsRefusedSo IsSo error s) (it : AttemptsSo IsSo s) where
  -- the attempt of which it is so
  module _ (lives : IsLiving s.processes.records it.process) (result : CallResult) (rest : Rest)
      (attempted : CallAttempted it.code s it.process result rest) (is : t ≡ with_rest s (after_attempt s.processes it.process
      result) rest) where
    rest-is : rest_of t ≡ rest
    rest-is = ap rest_of is

    refused-so : (number : ℕ) → result ≡ CallResult.refused number → IsAttemptRefused s it.code number t
    refused-so number same = record {
      process = it.process;
      chosen = it.chosen;
      lives = lives;
      attempted = it.attempted;
      attempt =
          subst (λ (result : CallResult). CallAttempted it.code s it.process result (rest_of t)) same
          (subst (λ (rest : Rest). CallAttempted it.code s it.process result rest) (sym rest-is) attempted);
      now =
          is ∙ ap (λ (result : CallResult). with_rest s (after_attempt s.processes it.process result) rest) same
          ∙ ap (with_rest s (after_attempt s.processes it.process (CallResult.refused number))) (sym rest-is);
    }

    attempt-refuses : IsAttemptRefused s it.code error t ⊎ IsFaulted s it.code t
    attempt-refuses =
        let (now, is_now, served) = attempted in
        let same : now ≡ it.now = same-packet s.clock.from (seconds_since s.clock s.processes.tick) now it.now is_now it.is_now in
        by_attempt (subst (λ (now : TimePacket). Serves (on_paths it.call) s now it.process result rest) same
        (subst (λ (service : Service). Serves service s now it.process result rest) it.serves served))
      where
        by_attempt : Serves (on_paths it.call) s it.now it.process result rest → IsAttemptRefused s it.code error t ⊎ IsFaulted s it.code t
        by_attempt (does, clock) =
            by_end (refuses attempt refl it.so)
          where
            attempt : Attempt
            attempt = attempt_by s it.process it.now it.call result rest does

            by_end : (result ≡ CallResult.refused error) ⊎ ReportsDriveFault attempt → IsAttemptRefused s it.code error t ⊎ IsFaulted s it.code t
            by_end (inl same) = inl (refused-so error same)
            by_end (inr fault) =
                inr (record {
                  drive = fault.drive;
                  number = fault.number;
                  failed =
                      subst (λ (files : Files). OneFailed fault.drive fault.number s.files.drives files.drives) (sym (ap (λ (t : State). t.files) is)) fault.failed;
                  refused = refused-so fault.number fault.answer;
                })

  event-refuses : Event s end t → IsAttemptRefused s it.code error t ⊎ IsFaulted s it.code t
  event-refuses (p, chosen, lives, acts) =
      let same : p ≡ it.process = same_Some p it.process (sym chosen ∙ it.chosen) in
      let here : Acts (act_of s.processes it.process) s it.process end t = subst (λ (p : ℕ). Acts (act_of s.processes p) s p end t) same acts in
      by_acts (subst (IsLiving s.processes.records) same lives) (subst (λ (act : Act). Acts act s it.process end t) it.attempted here)
    where
      by_acts : IsLiving s.processes.records it.process → Acts (attempts it.code) s it.process end t → IsAttemptRefused s it.code error t ⊎ IsFaulted s it.code t
      by_acts lives (result, rest, attempted, over, is) = attempt-refuses lives result rest attempted is

pub always : (s t : State) (end : EventEnd) → IsAgreed s → Event s end t → (it : ClosesCycleIn s) → IsAttemptRefused s it.code E_DEADLK t ⊎ IsFaulted s it.code t
always s t end agreed event it = event-refuses ClosesCycle E_DEADLK s t end refuses it event
  where
    refuses : IsRefusedSo ClosesCycle E_DEADLK s
    refuses attempt same closes =
        deadlock-refuses attempt
        (answered-so attempt (ap (λ (files : Files). length files.records.locks.requests) same ∙ agreed.agreed.records.locks.processes) closes)

pub always-locked : (s t : State) (end : EventEnd) → Event s end t → (it : IsLockedOutIn s) → IsAttemptRefused s it.code E_LOCK t ⊎ IsFaulted s it.code t
always-locked s t end event it =
    event-refuses IsLockedOut E_LOCK s t end (λ attempt same out. locked-refuses attempt out) it event
