-- A process that goes on after an event comes nearer to an instruction.
use Rattle.std.proofs.Common.{◌≡◌, ◌⊎◌, ℕ, zero, ◌-◌, ◌<◌, ◌≤◌, ◌==◌, not, Bool, true, false, Option, Some, None, Result, Ok, Err, List, length, slice_set, refl, sym, ap, ◌∙◌, subst, inl, inr, arith}
use Rattle.std.specs.Prelude.{slice_index_or, if◌then◌else◌}
use Rattle.std.proofs.lemmas.Bool.{cases_lt, false≢true}
use Rattle.std.proofs.lemmas.List.{get_or-set_same, get_or_past, length-set}
use Rattle.os9_base.specs.declared.errors.TheConstants.{E_PRCABT}
use Rattle.os9_base.specs.declared.registers.Regs.{Regs}
use Rattle.cpu_model.specs.Step.{Outcome, Done, Calls, Aborts}
use Rattle.proc_model.specs.declared.own.Own.{Own}
use Rattle.proc_model.specs.declared.record.Intercept.{Intercept}
use Rattle.proc_model.specs.declared.record.Record.{Record}
use Rattle.proc_model.specs.Records.{IsLiving, record_at, record_passes, has_ended, is_waiting, with_record, with_regs}
use Rattle.proc_model.specs.Signals.{with_signal}
use Rattle.proc_model.specs.Attempts.{goes_on}
use Rattle.proc_model.specs.Delivery.{delivered, after_delivery, has_no_room, interrupted_regs, routine_begun, stack_top, with_frame}
use Rattle.proc_model.specs.Processes.{Processes, no_own, own_at, regs_at, with_own, with_records}
use Rattle.proc_model.specs.Ready.{Act, attempts, delivers, executes, act_of, next_act}
use Rattle.call_laws.proofs.OthersKept.{living-within, record-put}
use Rattle.machine_model.specs.ProcessEvent.{after_instruction, broken_off, delivery_end, instruction_end}
use Rattle.machine_model.specs.Run.{is_going}
use Rattle.call_laws.proofs.KeptEvents.{lives-runs}

-- ---- what a process does after an event, if it goes on

-- events without an instruction that may come before the next instruction, at most
abbrev pub rank : Act → ℕ
rank (attempts code) = 2
rank (delivers signal) = 1
rank executes = 0

rank-none : (held : Bool) (signal : Option ℕ) → rank (next_act None held signal) ≤ 1
rank-none held None = omega arith
rank-none held (Some signal) = omega arith

no-call : (m : Processes) (p : ℕ) (own : Own) → own.call ≡ None → (own_at (with_own m p own) p).call ≡ None
no-call m p own none =
    elim (cases_lt p (length m.own)) [
      | inl within ↦ ap (λ (own : Own). own.call) (get_or-set_same m.own p own no_own within) ∙ none
      | inr past ↦ ap (λ (own : Own). own.call) (get_or_past (slice_set m.own p own) p no_own (rw length-set past))
    ]

-- a record that does not say that its process has ended
put-lives : (records : List (Option Record)) (p : ℕ) (r : Record) → p < length records → has_ended r.life ≡ false → IsLiving (with_record records p r) p
put-lives records p r within runs =
    ap (λ place. record_passes (λ r. not (has_ended r.life)) place) (get_or-set_same records p (Some r) None within) ∙ ap not runs

-- a process goes on from one event to the next: it lives, and an instruction comes nearer
pub record GoesOn (m : Processes) (p : ℕ) (n : Processes) : Type 0 where
  pub lives : IsLiving n.records p
  pub nearer : (act_of m p ≡ executes) ⊎ (rank (act_of n p) < rank (act_of m p))

pub after-call-lives : (n : Processes) (p : ℕ) (regs : Regs) → p < length (goes_on n p regs).records → IsLiving (goes_on n p regs).records p
after-call-lives n p regs within =
    put-lives (with_regs n.records p regs) p _ (simp length-set (simp length-set at within)) refl

pub after-call-acts : (n : Processes) (p : ℕ) (regs : Regs) → rank (act_of (goes_on n p regs) p) ≤ 1
after-call-acts n p regs =
    let none : (own_at (goes_on n p regs) p).call ≡ None = no-call (with_records n (goes_on n p regs).records) p _ refl in
    subst (λ call. rank (next_act call (is_waiting (record_at (goes_on n p regs).records p).life) (record_at (goes_on n p regs).records p).signal) ≤ 1) (sym none)
    (rank-none (is_waiting (record_at (goes_on n p regs).records p).life) (record_at (goes_on n p regs).records p).signal)

-- ---- an instruction, and the delivery of a signal

module _ (m : Processes) (p : ℕ) (lives : IsLiving m.records p) where
  within : p < length m.records
  within = living-within m.records p lives

  pub instruction-goes : act_of m p ≡ executes → (outcome : Outcome) → is_going (instruction_end outcome) ≡ true → GoesOn m p (after_instruction m p outcome)
  instruction-goes next (Done effect) going =
      record { lives = put-lives m.records p _ within (lives-runs m.records p lives); nearer = inl next }
  instruction-goes next (Calls code regs) going =
      record { lives = put-lives m.records p _ within (lives-runs m.records p lives); nearer = inl next }
  instruction-goes next (Aborts status) going = absurd (false≢true going)

  -- a delivery, where the call of the process was broken off before
  module _ (signal : ℕ) (next : act_of m p ≡ delivers signal) (found : Processes) (own : found.own ≡ m.own)
      (place : p < length found.records) (found_lives : IsLiving found.records p)
      (life : (record_at found.records p).life ≡ (record_at m.records p).life) where
    abbrev taken : Processes
    taken = with_records found (with_signal found.records p None)

    abbrev interrupted-by : Bool → Processes
    interrupted-by held = if held then goes_on taken p (interrupted_regs found p signal) else taken

    -- a process that does not wait has no call where a signal is delivered
    no-call-there : is_waiting (record_at found.records p).life ≡ false → (own_at found p).call ≡ None
    no-call-there runs =
        ap (λ (owns : List Own). (slice_index_or owns p no_own).call) own ∙ by_call (own_at m p).call
        (record_at m.records p).signal
        (sym (ap (λ held. next_act (own_at m p).call held (record_at m.records p).signal)
        (sym (ap is_waiting life) ∙ runs)) ∙ next)
      where
        by_call : (call signal_there : Option ℕ) → next_act call false signal_there ≡ delivers signal → call ≡ None
        by_call None signal_there is = refl
        by_call (Some code) signal_there is = cc

    put-signal : (records : List (Option Record)) (r : Record) → p < length records → (record_at (with_record records p r) p).signal ≡ r.signal
    put-signal records r within = ap (λ (r : Record). r.signal) (record-put records p r within)

    taken-signal : (record_at taken.records p).signal ≡ None
    taken-signal = put-signal found.records _ place

    -- nothing comes before the next instruction then
    executes-then : (n : Processes) → (own_at n p).call ≡ None → (record_at n.records p).signal ≡ None → rank (act_of n p) < rank (act_of m p)
    executes-then n none signalled =
        let acts : act_of n p ≡ executes = (λ i. next_act (none i) (is_waiting (record_at n.records p).life) (signalled i)) in
        let now : rank (act_of n p) ≡ 0 = ap rank acts in
        let before : rank (act_of m p) ≡ 1 = ap rank next in
        omega arith

    frame-goes : (intercept : Intercept) (regs : Regs) (frame : ℕ) (held : Bool)
        → is_waiting (record_at found.records p).life ≡ held → GoesOn m p (with_frame (interrupted-by held) p
        intercept signal regs frame)
    frame-goes intercept regs frame true is =
        let after = goes_on taken p (interrupted_regs found p signal) in
        let place_then : p < length after.records = simp length-set place in
        record {
          lives =
              put-lives after.records p _ place_then (lives-runs after.records p (after-call-lives taken p (interrupted_regs found p signal) place_then));
          nearer =
              inr (executes-then (with_frame after p intercept signal regs frame)
              (no-call (with_records taken after.records) p _ refl)
              (put-signal after.records _ place_then ∙ put-signal
              (with_regs taken.records p (interrupted_regs found p signal)) _ (simp length-set place) ∙ put-signal
              taken.records _ (simp length-set place) ∙ taken-signal));
        }
    frame-goes intercept regs frame false is =
        let place_then : p < length taken.records = simp length-set place in
        record {
          lives =
              put-lives taken.records p _ place_then (lives-runs taken.records p (put-lives found.records p _ place (lives-runs found.records p found_lives)));
          nearer =
              inr (executes-then (with_frame taken p intercept signal regs frame) (no-call-there is)
              (put-signal taken.records _ place_then ∙ taken-signal));
        }

    routine-goes : (intercept : Intercept) → is_going (delivery_end (routine_begun found p intercept signal)) ≡ true → GoesOn m p (after_delivery found p (routine_begun found p intercept signal))
    routine-goes intercept =
        by_room (has_no_room found p (stack_top (regs_at found p).s)) (is_waiting (record_at found.records p).life) refl
      where
        by_room : (none held : Bool) → is_waiting (record_at found.records p).life ≡ held
            → is_going (delivery_end (if none then Err E_PRCABT else Ok (with_frame (interrupted-by held) p intercept
            signal (interrupted_regs found p signal) (stack_top (regs_at found p).s - 12)))) ≡ true
            → GoesOn m p (after_delivery found p (if none then Err E_PRCABT else Ok (with_frame (interrupted-by held)
            p intercept signal (interrupted_regs found p signal) (stack_top (regs_at found p).s - 12))))
        by_room true held is going = absurd (false≢true going)
        by_room false held is going =
            frame-goes intercept (interrupted_regs found p signal) (stack_top (regs_at found p).s - 12) held is

    delivered-goes : is_going (delivery_end (delivered found p signal)) ≡ true → GoesOn m p (after_delivery found p (delivered found p signal))
    delivered-goes = by_intercept (record_at found.records p).intercept
      where
        answer : Option Intercept → Result Processes ℕ
        answer None = Err signal
        answer (Some intercept) = if signal == 0 then Err signal else routine_begun found p intercept signal

        by_zero : (intercept : Intercept) (zero : Bool)
            → is_going (delivery_end (if zero then Err signal else routine_begun found p intercept signal)) ≡ true
            → GoesOn m p (after_delivery found p (if zero then Err signal else routine_begun found p intercept
            signal))
        by_zero intercept true going = absurd (false≢true going)
        by_zero intercept false going = routine-goes intercept going

        by_intercept : (intercept : Option Intercept) → is_going (delivery_end (answer intercept)) ≡ true → GoesOn m p (after_delivery found p (answer intercept))
        by_intercept None going = absurd (false≢true going)
        by_intercept (Some intercept) going = by_zero intercept (signal == 0) going

  -- what a signal finds
  pub broken-goes : (signal : ℕ) → act_of m p ≡ delivers signal → (count : Option ℕ)
      → is_going (delivery_end (delivered (broken_off m p count) p signal)) ≡ true
      → GoesOn m p (after_delivery (broken_off m p count) p (delivered (broken_off m p count) p signal))
  broken-goes signal next None = delivered-goes signal next m refl within lives refl
  broken-goes signal next (Some count) =
      let r : Record = record (record_at m.records p) { regs = record (regs_at m p) { y = count } } in
      delivered-goes signal next (broken_off m p (Some count)) refl (simp length-set within)
      (put-lives m.records p r within (lives-runs m.records p lives)) (ap (λ (r : Record). r.life) (record-put m.records p r within))
