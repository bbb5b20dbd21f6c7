-- A process that waits does so in a call, of which something is kept if it is one on paths: after what it does.
use Rattle.std.proofs.Common.{◌≤◌, ◌≡◌, ℕ, ◌-◌, ◌<◌, ◌==◌, not, Bool, true, false, Option, Some, None, IsSome, is_some, Result, Ok, Err, List, length, map, refl, sym, ap, ◌∙◌, subst, arith}
use Rattle.std.specs.Option.{option_map_or}
use Rattle.std.specs.Prelude.{if◌then◌else◌}
use Rattle.std.proofs.lemmas.Bool.{false≢true}
use Rattle.std.proofs.lemmas.List.{get_or-set_same, length-set}
use Rattle.std.proofs.lemmas.Option.{none-some}
use Rattle.os9_base.specs.declared.errors.TheConstants.{E_PRCABT}
use Rattle.os9_base.specs.declared.registers.Regs.{Regs}
use Rattle.os9_outer.specs.TerminalState.{TerminalState}
use Rattle.cpu_model.specs.Step.{Outcome, Done, Calls, Aborts}
use Rattle.proc_model.specs.declared.module.ModId.{ModId}
use Rattle.proc_model.specs.declared.record.Intercept.{Intercept}
use Rattle.proc_model.specs.declared.record.Life.TheVariants.{Running, Ended}
use Rattle.proc_model.specs.declared.record.Record.{Record}
use Rattle.proc_model.specs.Ends.{after_exit, ended_record, orphaned}
use Rattle.proc_model.specs.Records.{IsLiving, has_ended, is_waiting, record_at, record_passes, with_record, with_regs, with_waiting}
use Rattle.proc_model.specs.Signals.{with_signal}
use Rattle.proc_model.specs.declared.proc_call.ProcCall.{ProcCall}
use Rattle.proc_model.specs.Attempts.{after_attempt, goes_on}
use Rattle.proc_model.specs.CallResult.{CallResult, done, refused, waits, ends}
use Rattle.proc_model.specs.Codes.{call_of}
use Rattle.proc_model.specs.Delivery.{after_delivery, delivered, has_no_room, interrupted_regs, routine_begun, stack_top, with_frame}
use Rattle.proc_model.specs.End.{ended, without_process}
use Rattle.proc_model.specs.Processes.{Processes, own_at, regs_at, with_regs_of}
use Rattle.proc_model.specs.ModuleLinks.{without_module_link}
use Rattle.proc_model.specs.Ready.{attempts, executes, act_of, next_act}
use Rattle.io_model.specs.declared.pending.PendingCall.{PendingCall}
use Rattle.io_model.specs.Attempts.{IoAttempts, pending_in, result_by, with_stored}
use Rattle.io_model.specs.Codes.{io_call_of}
use Rattle.io_model.specs.Io.{Io, pending_at, with_call}
use Rattle.io_model.specs.Step.{IoEffect, IoEnd, answers, fails, keeps}
use Rattle.io_model.specs.declared.io_call.IoCall.{IoCall}
use Rattle.machine_model.specs.ProcessEvent.{after_instruction, broken_off}
use Rattle.call_laws.proofs.OthersKept.{living-within, record-put}
use Rattle.call_laws.specs.Pending.{AreInCalls, WaitsInCall}
use Rattle.call_laws.proofs.CallCodes.{not-both}
use Rattle.call_laws.proofs.Codes.{attempts-code}
use Rattle.call_laws.proofs.WaitsMade.{HasItsCall}

-- ---- who waits

-- a process lives and waits
abbrev pub IsWaiting : List (Option Record) → ℕ → Type 0
IsWaiting records p = IsLiving records p × (is_waiting (record_at records p).life ≡ true)

pub waits-runs : is_waiting Running ≡ true → ⊥
waits-runs is = false≢true is

-- its record has a place
put-within : (records : List (Option Record)) (p : ℕ) (r : Record) → IsLiving (with_record records p r) p → p < length records
put-within records p r lives =
    subst (λ (n : ℕ). p < n) (length-set records p (Some r)) (living-within (with_record records p r) p lives)

-- a process whose record was put lives as the record says
pub put-waits : (records : List (Option Record)) (p : ℕ) (r : Record) → IsWaiting (with_record records p r) p → is_waiting r.life ≡ true
put-waits records p r waiting =
    sym (ap (λ (r : Record). is_waiting r.life) (record-put records p r (put-within records p r waiting.0))) ∙ waiting.1

-- a process that runs does not wait
going-waits : (records : List (Option Record)) (p : ℕ) → IsWaiting (with_waiting records p false) p → ⊥
going-waits records p waiting = waits-runs (put-waits records p (record (record_at records p) { life = Running }) waiting)

-- a process that goes on does not wait
pub on-waits : (m : Processes) (p : ℕ) (regs : Regs) → IsWaiting (goes_on m p regs).records p → ⊥
on-waits m p regs waiting = going-waits (with_regs m.records p regs) p waiting

-- a process that ends does not live
exit-waits : (records : List (Option Record)) (p status : ℕ) → IsLiving (after_exit records p status) p → ⊥
exit-waits records p status lives =
    let within : p < length (map (orphaned p) records) = subst (λ (n : ℕ). p < n)
    (length-set (map (orphaned p) records) p (ended_record (record_at records p) status))
    (living-within (after_exit records p status) p lives) in
    by_parent ((record_at records p).parent.0 == 0)
    (sym (ap (record_passes (λ r. not (has_ended r.life))) (get_or-set_same (map (orphaned p) records) p
    (ended_record (record_at records p) status) None within)) ∙ lives)
  where
    by_parent : (none : Bool) → record_passes (λ r. not (has_ended r.life)) (if none then None else Some (record (record_at records p) { life = Ended status })) ≡ true → ⊥
    by_parent true is = false≢true is
    by_parent false is = false≢true is

-- nor where it gives up its primary module first
ended-waits : (m : Processes) (p status : ℕ) → IsLiving (ended m p status).records p → ⊥
ended-waits m p status = by_primary (own_at m p).primary
  where
    by_primary : (primary : Option ModId) → IsLiving (without_process (option_map_or (λ (id : ModId). without_module_link m id.0) primary m) p status).records p → ⊥
    by_primary None lives = exit-waits m.records p status lives
    by_primary (Some id) lives = exit-waits m.records p status lives

-- ---- the process itself

module _ (m : Processes) (old : Io) (p : ℕ) (in_calls : AreInCalls m old) (lives : IsLiving m.records p) (places : length m.records ≤ length old.calls) where
  -- where it waits then, it waits in a call
  abbrev pub In : Processes → Io → Type 0
  In n io = IsWaiting n.records p → WaitsInCall n io p

  -- ---- an instruction

  -- a process that executes an instruction does not wait
  executes-waits : act_of m p ≡ executes → is_waiting (record_at m.records p).life ≡ true → ⊥
  executes-waits next held = by_call (own_at m p).call (is_waiting (record_at m.records p).life) (record_at m.records p).signal next it.made
    where
      it : WaitsInCall m old p
      it = in_calls p lives held

      by_call : (call : Option ℕ) (held : Bool) (signal : Option ℕ) → next_act call held signal ≡ executes → call ≡ Some it.code → ⊥
      by_call None held signal is made = none-some it.code made
      by_call (Some code) false signal is made = cc
      by_call (Some code) true None is made = cc
      by_call (Some code) true (Some signal) is made = cc

  pub in-instruction : act_of m p ≡ executes → (outcome : Outcome) (io : Io) → In (after_instruction m p outcome) io
  in-instruction next (Done effect) io waiting =
      absurd (executes-waits next (put-waits m.records p (record (record_at m.records p) { regs = effect.regs }) waiting))
  in-instruction next (Calls code regs) io waiting =
      absurd (executes-waits next (put-waits m.records p (record (record_at m.records p) { regs = regs }) waiting))
  in-instruction next (Aborts status) io waiting = absurd (ended-waits m p status waiting.0)

  -- ---- the delivery of a signal

  -- where the process has other records of its own
  module _ (signal : ℕ) (records : List (Option Record)) where
    abbrev found : Processes
    found = record m { records = records }

    abbrev taken : Processes
    taken = record found { records = with_signal records p None }

    frame-waits : (intercept : Intercept) (regs interrupted : Regs) (frame : ℕ) (held : Bool)
        → is_waiting (record_at records p).life ≡ held
        → IsWaiting (with_frame (if held then goes_on taken p interrupted else taken) p intercept signal regs
        frame).records p → ⊥
    frame-waits intercept regs interrupted frame true held waiting =
        let gone : List (Option Record) = with_regs taken.records p interrupted in
        let within : p < length (with_waiting gone p false) = put-within (with_waiting gone p false) p _ waiting.0 in
        let before : p < length gone = subst (λ (n : ℕ). p < n) (length-set gone p (Some (record (record_at gone p) { life = Running }))) within in
        waits-runs (sym (ap (λ (r : Record). is_waiting r.life) (record-put gone p (record (record_at gone p) { life = Running }) before)) ∙ put-waits (with_waiting gone p false) p _ waiting)
    frame-waits intercept regs interrupted frame false held waiting =
        let within : p < length taken.records = put-within taken.records p _ waiting.0 in
        let before : p < length records = subst (λ (n : ℕ). p < n) (length-set records p (Some (record (record_at records p) { signal = None }))) within in
        false≢true (sym held ∙ (sym (ap (λ (r : Record). is_waiting r.life) (record-put records p (record (record_at records p) { signal = None }) before)) ∙ put-waits taken.records p _ waiting))

    abbrev Quiet : Result Processes ℕ → Type 0
    Quiet result = IsWaiting (after_delivery found p result).records p → ⊥

    routine-waits : (intercept : Intercept) → Quiet (routine_begun found p intercept signal)
    routine-waits intercept = by_room (has_no_room found p (stack_top (regs_at found p).s)) (is_waiting (record_at records p).life) refl
      where
        by_room : (none held : Bool) → is_waiting (record_at records p).life ≡ held
            → Quiet (if none then Err E_PRCABT else Ok
            (with_frame (if held then goes_on taken p (interrupted_regs found p signal) else taken) p intercept signal
            (interrupted_regs found p signal) (stack_top (regs_at found p).s - 12)))
        by_room true held is waiting = ended-waits found p E_PRCABT waiting.0
        by_room false held is waiting =
            frame-waits intercept (interrupted_regs found p signal) (interrupted_regs found p signal) (stack_top (regs_at found p).s - 12) held is waiting

    delivery-waits : Quiet (delivered found p signal)
    delivery-waits = by_intercept (record_at records p).intercept
      where
        answer : Option Intercept → Result Processes ℕ
        answer None = Err signal
        answer (Some intercept) = if signal == 0 then Err signal else routine_begun found p intercept signal

        by_zero : (intercept : Intercept) (zero : Bool) → Quiet (if zero then Err signal else routine_begun found p intercept signal)
        by_zero intercept true waiting = ended-waits found p signal waiting.0
        by_zero intercept false waiting = routine-waits intercept waiting

        by_intercept : (intercept : Option Intercept) → Quiet (answer intercept)
        by_intercept None waiting = ended-waits found p signal waiting.0
        by_intercept (Some intercept) waiting = by_zero intercept (signal == 0) waiting

  pub in-delivery : (signal : ℕ) (count : Option ℕ) (io : Io) → In (after_delivery (broken_off m p count) p (delivered (broken_off m p count) p signal)) io
  in-delivery signal None io waiting = absurd (delivery-waits signal m.records waiting)
  in-delivery signal (Some count) io waiting =
      absurd (delivery-waits signal (with_regs m.records p (record (regs_at m p) { y = count })) waiting)

  -- ---- a call on processes and modules

  pub in-call : (code : ℕ) (call : ProcCall) (result : CallResult) (io : Io) → act_of m p ≡ attempts code → call_of code ≡ Some call → HasItsCall m p result → In (after_attempt m p result) io
  in-call code call (done t) io next coded has waiting = absurd (on-waits t p _ waiting)
  in-call code call (refused number) io next coded has waiting = absurd (on-waits m p _ waiting)
  in-call code call (ends status) io next coded has waiting = absurd (ended-waits m p status waiting.0)
  in-call code call (waits t) io next coded has waiting = record {
    code = code;
    made = has ∙ attempts-code m p code next;
    kept = λ some. absurd (by_other (io_call_of code) refl some);
  }
    where
      by_other : (other : Option IoCall) → io_call_of code ≡ other → IsSome other → ⊥
      by_other None is some = false≢true some
      by_other (Some other) is some = not-both code call other coded is

  -- ---- a call on paths

  put-kept : (before io : Io) (pending : PendingCall) → io ≡ with_call before p (Some pending) → length io.calls ≡ length old.calls → IsSome (pending_at io p)
  put-kept before io pending is long =
      let many : length io.calls ≡ length before.calls = ap (λ (io : Io). length io.calls) is ∙ length-set before.calls p (Some pending) in
      let here : p < length m.records = living-within m.records p lives in
      let within : p < length before.calls = omega (arith, many, long, here, places) in
      ap is_some (ap (λ (io : Io). pending_at io p) is ∙ get_or-set_same before.calls p (Some pending) None within)

  pub in-end : (code : ℕ) (effect : IoEffect) (end : IoEnd) (io : Io) → act_of m p ≡ attempts code
      → io ≡ with_call effect.io p (pending_in end) → length io.calls ≡ length old.calls
      → In (after_attempt m p (result_by end m p effect)) io
  in-end code effect (answers regs) io next is long waiting =
      absurd (on-waits (with_regs_of (with_stored m p effect) p regs) p _ waiting)
  in-end code effect (fails number) io next is long waiting = absurd (on-waits m p _ waiting)
  in-end code effect (keeps pending) io next is long waiting =
      record { code = code; made = attempts-code m p code next; kept = λ some. put-kept effect.io io pending is long }

  pub in-io : (code : ℕ) (call : IoCall) (drives : ℕ) (result : CallResult) (io : Io)
      (before after : List TerminalState) → act_of m p ≡ attempts code → length io.calls ≡ length old.calls
      → IoAttempts call m old drives p result io before after → In (after_attempt m p result) io
  in-io code call drives result io before after next long attempt =
      subst (λ (result : CallResult). In (after_attempt m p result) io) (sym attempt.result_is)
      (in-end code attempt.effect attempt.effect.end io next attempt.state long)
