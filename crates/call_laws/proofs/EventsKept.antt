-- What an instruction and the delivery of a signal leave of the other processes.
use Rattle.std.proofs.Common.{◌≡◌, ◌≢◌, ℕ, ◌-◌, ◌==◌, Bool, true, false, Option, Some, None, Result, Ok, Err, List, length, refl, ◌∙◌, inl}
use Rattle.std.specs.Prelude.{if◌then◌else◌}
use Rattle.std.proofs.lemmas.List.{length-set}
use Rattle.os9_base.specs.declared.errors.TheConstants.{E_PRCABT}
use Rattle.os9_base.specs.declared.registers.Regs.{Regs}
use Rattle.cpu_model.specs.Step.{Outcome, Done, Calls, Aborts, step_of}
use Rattle.proc_model.specs.MemoryChanges.{written, stored, writes_from}
use Rattle.proc_model.specs.declared.record.Intercept.{Intercept}
use Rattle.proc_model.specs.declared.record.Record.{Record}
use Rattle.proc_model.specs.Records.{record_of, record_at, is_waiting, with_regs}
use Rattle.proc_model.specs.Signals.{with_signal}
use Rattle.proc_model.specs.Attempts.{goes_on}
use Rattle.proc_model.specs.Delivery.{delivered, after_delivery, has_no_room, interrupted_regs, frame_bytes, routine_begun, stack_top, with_frame}
use Rattle.proc_model.specs.Processes.{Processes, regs_at, cells_at, with_records}
use Rattle.machine_model.specs.declared.ends.EventEnd.TheVariants.{Ran}
use Rattle.machine_model.specs.ProcessEvent.{after_instruction, broken_off, delivery_end, instruction_end, next_instruction}
use Rattle.call_laws.proofs.MemoryKept.{itself-written, kept-written}
use Rattle.call_laws.proofs.OthersKept.{changed-self, record-other, own-other}
use Rattle.call_laws.proofs.CallsKept.{Left, left-by, ended-left, ended-from, regs-changed, same}

-- ---- an instruction

pub instruction-left : (m : Processes) (p : ℕ) (outcome : Outcome) → Left m p (instruction_end outcome) (after_instruction m p outcome)
instruction-left m p (Done effect) =
    left-by m p Ran _ (regs-changed m p Ran (written m.memory p effect.writes) effect.regs
    (record { kept = kept-written m.memory p effect.writes; itself = itself-written m.memory p effect.writes })
    refl)
instruction-left m p (Calls code regs) =
    left-by m p Ran _ (changed-self m p Ran m.memory _ _ (same m p).kept (same m p).itself (inl refl)
    (λ q differ. record-other m.records p _ q differ) (λ q differ. own-other m p _ q differ) (simp length-set))
instruction-left m p (Aborts status) = ended-left m p status

-- ---- the delivery of a signal

-- where the process has other records of its own
module _ (m : Processes) (p signal : ℕ) (records : List (Option Record)) (same : (q : ℕ) → q ≢ p → record_of records q ≡ record_of m.records q) (places : length records ≡ length m.records) where
  abbrev found : Processes
  found = with_records m records

  abbrev taken : Processes
  taken = with_records found (with_signal records p None)

  frame-left : (intercept : Intercept) (regs interrupted : Regs) (frame : ℕ) (waits : Bool)
      → Left m p Ran (with_frame (if waits then goes_on taken p interrupted else taken) p intercept signal regs frame)
  frame-left intercept regs interrupted frame true =
      left-by m p Ran _ (changed-self m p Ran (stored m.memory p frame (frame_bytes regs)) _ _
      (kept-written m.memory p (writes_from frame (frame_bytes regs)))
      (itself-written m.memory p (writes_from frame (frame_bytes regs))) (inl refl)
      (λ q differ. record-other _ p _ q differ ∙ record-other _ p _ q differ ∙ record-other _ p _ q differ ∙ record-other records p _ q differ ∙ same q differ)
      (λ q differ. own-other m p _ q differ) (simp length-set places))
  frame-left intercept regs interrupted frame false =
      left-by m p Ran _ (changed-self m p Ran (stored m.memory p frame (frame_bytes regs)) _ m.own
      (kept-written m.memory p (writes_from frame (frame_bytes regs)))
      (itself-written m.memory p (writes_from frame (frame_bytes regs))) (inl refl)
      (λ q differ. record-other _ p _ q differ ∙ record-other records p _ q differ ∙ same q differ)
      (λ q differ. refl) (simp length-set places))

  abbrev DeliveryLeft : Result Processes ℕ → Type 0
  DeliveryLeft result = Left m p (delivery_end result) (after_delivery found p result)

  routine-left : (intercept : Intercept) → DeliveryLeft (routine_begun found p intercept signal)
  routine-left intercept =
      by_room (has_no_room found p (stack_top (regs_at found p).s)) (is_waiting (record_at records p).life)
    where
      by_room : (none waits : Bool) → DeliveryLeft (if none then Err E_PRCABT else Ok
          (with_frame (if waits then goes_on taken p (interrupted_regs found p signal) else taken) p intercept signal
          (interrupted_regs found p signal) (stack_top (regs_at found p).s - 12)))
      by_room true waits = ended-from m p E_PRCABT records same places
      by_room false waits =
          frame-left intercept (interrupted_regs found p signal) (interrupted_regs found p signal) (stack_top (regs_at found p).s - 12) waits

  delivery-left : DeliveryLeft (delivered found p signal)
  delivery-left = by_intercept (record_at records p).intercept
    where
      answer : Option Intercept → Result Processes ℕ
      answer None = Err signal
      answer (Some intercept) = if signal == 0 then Err signal else routine_begun found p intercept signal

      by_zero : (intercept : Intercept) (zero : Bool) → DeliveryLeft (if zero then Err signal else routine_begun found p intercept signal)
      by_zero intercept true = ended-from m p signal records same places
      by_zero intercept false = routine-left intercept

      by_intercept : (intercept : Option Intercept) → DeliveryLeft (answer intercept)
      by_intercept None = ended-from m p signal records same places
      by_intercept (Some intercept) = by_zero intercept (signal == 0)

-- the count of a call that is broken off is answered first
pub broken-left : (m : Processes) (p signal : ℕ) (count : Option ℕ)
    → Left m p (delivery_end (delivered (broken_off m p count) p signal)) (after_delivery (broken_off m p count) p
    (delivered (broken_off m p count) p signal))
broken-left m p signal None = delivery-left m p signal m.records (λ q differ. refl) refl
broken-left m p signal (Some count) =
    delivery-left m p signal (with_regs m.records p (record (regs_at m p) { y = count })) (λ q differ. record-other m.records p _ q differ) (simp length-set)

-- an instruction depends on the registers and on the bytes that the process sees
pub instruction-same : (m n : Processes) (p q : ℕ) → ((at : ℕ) → cells_at m p at ≡ cells_at n q at) → regs_at m p ≡ regs_at n q → next_instruction m p ≡ next_instruction n q
instruction-same m n p q cells regs = λ i. step_of (λ at. cells at i) (regs i)
