-- What is left of a call and a signal when the routine of an intercept has begun.
use Rattle.std.proofs.Common.{◌≡◌, ◌≢◌, ℕ, ◌-◌, ◌<◌, ◌==◌, Bool, true, false, Option, Some, None, Result, Ok, Err, List, length, refl, sym, ap, ◌∙◌, subst, arith}
use Rattle.std.specs.Prelude.{if◌then◌else◌}
use Rattle.std.proofs.lemmas.List.{get_or-set_same, length-set}
use Rattle.os9_base.specs.declared.call.CallEnd.{CallEnd}
use Rattle.os9_base.specs.declared.errors.TheConstants.{E_PRCABT}
use Rattle.os9_base.specs.declared.registers.Regs.{Regs}
use Rattle.proc_model.specs.declared.record.Intercept.{Intercept}
use Rattle.proc_model.specs.declared.own.Own.{Own}
use Rattle.proc_model.specs.declared.record.Life.TheVariants.{Running}
use Rattle.proc_model.specs.declared.record.Record.{Record}
use Rattle.proc_model.specs.Records.{record_at, is_waiting, with_regs}
use Rattle.proc_model.specs.Signals.{with_signal}
use Rattle.proc_model.specs.Attempts.{goes_on}
use Rattle.proc_model.specs.Delivery.{delivered, after_delivery, interrupted, routine_regs, interrupted_regs, with_frame, routine_begun, has_no_room, stack_top}
use Rattle.proc_model.specs.Processes.{Processes, no_own, own_at, regs_at, with_records}
use Rattle.proc_model.specs.Ready.{next_act, delivers}
use Rattle.proc_state.specs.Delivery.{delivery_end as call_end}
use Rattle.file_rules.specs.Files.{Files}
use Rattle.file_rules.specs.Locking.{files_interrupted}
use Rattle.file_rules.specs.Processes.{files_ended}
use Rattle.machine_model.specs.declared.ends.EventEnd.TheVariants.{Ran, Ended}
use Rattle.machine_model.specs.ProcessEvent.{broken_off, delivery_end}
use Rattle.machine_model.specs.Event.{files_after_delivery}
use Rattle.os9_kernel.proofs.Columns.{record-put}
use Rattle.machine_model.proofs.Ticks.{ended-tick}

-- ---- how a delivery ends

pub ends-so : (d : Result Processes ℕ) (end : CallEnd) → end ≡ call_end d → end ≡ CallEnd.Ended → Ended ≡ delivery_end d
ends-so (Ok t) end is ended = let no : CallEnd.Done ≡ CallEnd.Ended = sym is ∙ ended in cc
ends-so (Err status) end is ended = refl

pub goes-so : (d : Result Processes ℕ) (end : CallEnd) → end ≡ call_end d → end ≢ CallEnd.Ended → Ran ≡ delivery_end d
goes-so (Ok t) end is other = refl
goes-so (Err status) end is other = absurd (other is)

pub done-so : (d : Result Processes ℕ) (end : CallEnd) → end ≡ call_end d → end ≢ CallEnd.Ended → (end ≡ CallEnd.Done) × ((t : Processes) × (d ≡ Ok t))
done-so (Ok t) end is other = (is, (t, refl))
done-so (Err status) end is other = absurd (other is)

-- files where the process has ended
pub files-ended-so : (d : Result Processes ℕ) (end : CallEnd) → end ≡ call_end d → end ≡ CallEnd.Ended → (files : Files) (p : ℕ) → files_ended files p ≡ files_after_delivery files p d
files-ended-so (Ok t) end is ended files p = let no : CallEnd.Done ≡ CallEnd.Ended = sym is ∙ ended in cc
files-ended-so (Err status) end is ended files p = refl

-- and where its routine has begun
pub files-goes-so : (d : Result Processes ℕ) (end : CallEnd) → end ≡ call_end d → end ≢ CallEnd.Ended → (files : Files) (p : ℕ) → files_interrupted files p ≡ files_after_delivery files p d
files-goes-so (Ok t) end is other files p = refl
files-goes-so (Err status) end is other files p = absurd (other is)

-- ---- a call that is broken off

module _ (m : Processes) (p : ℕ) where
  pub broken-tick : (count : Option ℕ) → (broken_off m p count).tick ≡ m.tick
  broken-tick None = refl
  broken-tick (Some count) = refl

  pub broken-own : (count : Option ℕ) → (broken_off m p count).own ≡ m.own
  broken-own None = refl
  broken-own (Some count) = refl

  -- of the process only its registers change
  pub broken-record : (count : Option ℕ) → p < length m.records → (regs : Regs) × (record_at (broken_off m p count).records p ≡ record (record_at m.records p) { regs = regs })
  broken-record None within = (regs_at m p, refl)
  broken-record (Some count) within =
      let regs : Regs = record (regs_at m p) { y = count } in
      (regs, record-put m.records p (record (record_at m.records p) { regs = regs }) within)

-- ---- what is pending

-- the signal that is delivered is pending
pub signal-is : (call signal : Option ℕ) (waits : Bool) (sig : ℕ) → next_act call waits signal ≡ delivers sig → signal ≡ Some sig
signal-is None None waits sig is = cc
signal-is None (Some other) waits sig is = cc
signal-is (Some code) None true sig is = cc
signal-is (Some code) None false sig is = cc
signal-is (Some code) (Some other) true sig is = cc
signal-is (Some code) (Some other) false sig is = cc

-- a process that does not wait has no call then
pub call-is : (call signal : Option ℕ) (waits : Bool) (sig : ℕ) → next_act call waits signal ≡ delivers sig → waits ≡ false → call ≡ None
call-is None signal waits sig is not = refl
call-is (Some code) None true sig is not = cc
call-is (Some code) None false sig is not = cc
call-is (Some code) (Some other) true sig is not = cc
call-is (Some code) (Some other) false sig is not = cc

-- a process has neither a call nor a signal
pub record Quiet (m : Processes) (p : ℕ) : Type 0 where
  pub call : (own_at m p).call ≡ None
  pub signal : (record_at m.records p).signal ≡ None
  pub within : p < length m.records

module _ (m : Processes) (p : ℕ) (within : p < length m.records) (inside : p < length m.own) (no_call : is_waiting (record_at m.records p).life ≡ false → (own_at m p).call ≡ None) where
  abbrev taken : Processes
  taken = with_records m (with_signal m.records p None)

  taken-signal : (record_at taken.records p).signal ≡ None
  taken-signal = ap (λ (r : Record). r.signal) (record-put m.records p (record (record_at m.records p) { signal = None }) within)

  taken-within : p < length taken.records
  taken-within = omega (arith, within, length-set m.records p (Some (record (record_at m.records p) { signal = None })))

  after-wait : (regs : Regs) → Quiet (goes_on taken p regs) p
  after-wait regs =
      let set : List (Option Record) = with_regs taken.records p regs in
      let put = record-put taken.records p (record (record_at taken.records p) { regs = regs }) taken-within in
      let set_within : p < length set = omega (arith, taken-within, length-set taken.records p (Some (record (record_at taken.records p) { regs = regs }))) in
      let last : Record = record (record_at set p) { life = Running } in
      record {
        call = ap (λ (o : Own). o.call) (get_or-set_same m.own p (record (own_at taken p) { call = None; until = None; woken = false }) no_own inside);
        signal = ap (λ (r : Record). r.signal) (record-put set p last set_within) ∙ ap (λ (r : Record). r.signal) put ∙ taken-signal;
        within = omega (arith, set_within, length-set set p (Some last));
      }

  interrupted-quiet : (signal : ℕ) → Quiet (interrupted m p signal) p
  interrupted-quiet signal = by_waits (is_waiting (record_at m.records p).life) refl
    where
      by_waits : (waits : Bool) → is_waiting (record_at m.records p).life ≡ waits → Quiet (if waits then goes_on taken p (interrupted_regs m p signal) else taken) p
      by_waits true is = after-wait (interrupted_regs m p signal)
      by_waits false is = record { call = no_call is; signal = taken-signal; within = taken-within }

  framed-quiet : (s : Processes) (intercept : Intercept) (signal : ℕ) (regs : Regs) (frame : ℕ) → Quiet s p → Quiet (with_frame s p intercept signal regs frame) p
  framed-quiet s intercept signal regs frame quiet =
      let last : Record = record (record_at s.records p) { regs = routine_regs regs intercept signal frame } in
      record {
        call = quiet.call;
        signal = ap (λ (r : Record). r.signal) (record-put s.records p last quiet.within) ∙ quiet.signal;
        within = omega (arith, quiet.within, length-set s.records p (Some last));
      }

  begun-quiet : (intercept : Intercept) (signal : ℕ) (t : Processes) → routine_begun m p intercept signal ≡ Ok t → Quiet t p
  begun-quiet intercept signal t is = by_room (has_no_room m p (stack_top (regs_at m p).s)) is
    where
      begun : Processes
      begun = with_frame (interrupted m p signal) p intercept signal (interrupted_regs m p signal) (stack_top (regs_at m p).s - 12)

      by_room : (full : Bool) → (if full then Err E_PRCABT else Ok begun) ≡ Ok t → Quiet t p
      by_room true is = cc
      by_room false is =
          let same : begun ≡ t = cc in
          subst (λ (x : Processes). Quiet x p) same (framed-quiet (interrupted m p signal) intercept signal (interrupted_regs m p signal) (stack_top (regs_at m p).s - 12) (interrupted-quiet signal))

  pub delivered-quiet : (signal : ℕ) (t : Processes) → delivered m p signal ≡ Ok t → Quiet t p
  delivered-quiet signal t is = by_intercept (record_at m.records p).intercept is
    where
      by_zero : (intercept : Intercept) (zero : Bool) → (if zero then Err signal else routine_begun m p intercept signal) ≡ Ok t → Quiet t p
      by_zero intercept true is = cc
      by_zero intercept false is = begun-quiet intercept signal t is

      of_intercept : Option Intercept → Result Processes ℕ
      of_intercept None = Err signal
      of_intercept (Some intercept) = if signal == 0 then Err signal else routine_begun m p intercept signal

      by_intercept : (intercept : Option Intercept) → of_intercept intercept ≡ Ok t → Quiet t p
      by_intercept None is = cc
      by_intercept (Some intercept) is = by_zero intercept (signal == 0) is

-- ---- the tick

interrupted-tick : (m : Processes) (p signal : ℕ) → (interrupted m p signal).tick ≡ m.tick
interrupted-tick m p signal = by_waits (is_waiting (record_at m.records p).life)
  where
    by_waits : (waits : Bool) → (if waits then goes_on (with_records m (with_signal m.records p None)) p (interrupted_regs m p signal) else with_records m (with_signal m.records p None)).tick ≡ m.tick
    by_waits true = refl
    by_waits false = refl

-- a delivery leaves the tick
pub delivery-tick : (m : Processes) (p signal : ℕ) → (after_delivery m p (delivered m p signal)).tick ≡ m.tick
delivery-tick m p signal = by_intercept (record_at m.records p).intercept
  where
    begun : Intercept → Processes
    begun intercept = with_frame (interrupted m p signal) p intercept signal (interrupted_regs m p signal) (stack_top (regs_at m p).s - 12)

    by_room : (intercept : Intercept) (full : Bool) → (after_delivery m p (if full then Err E_PRCABT else Ok (begun intercept))).tick ≡ m.tick
    by_room intercept true = ended-tick m p E_PRCABT
    by_room intercept false = interrupted-tick m p signal

    by_zero : (intercept : Intercept) (zero : Bool) → (after_delivery m p (if zero then Err signal else routine_begun m p intercept signal)).tick ≡ m.tick
    by_zero intercept true = ended-tick m p signal
    by_zero intercept false = by_room intercept (has_no_room m p (stack_top (regs_at m p).s))

    of_intercept : Option Intercept → Result Processes ℕ
    of_intercept None = Err signal
    of_intercept (Some intercept) = if signal == 0 then Err signal else routine_begun m p intercept signal

    by_intercept : (intercept : Option Intercept) → (after_delivery m p (of_intercept intercept)).tick ≡ m.tick
    by_intercept None = ended-tick m p signal
    by_intercept (Some intercept) = by_zero intercept (signal == 0)
