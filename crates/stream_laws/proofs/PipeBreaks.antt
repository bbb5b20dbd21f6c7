-- What a process is told whose call on a pipe a signal breaks off.
use Rattle.std.proofs.Common.{◌≡◌, ◌⊎◌, ℕ, ◌-◌, ◌==◌, Bool, true, false, Option, Some, None, Result, Ok, Err, refl, sym, ap, ◌∙◌, subst, inl, inr}
use Rattle.std.specs.Prelude.{option_and_then, if◌then◌else◌}
use Rattle.std.proofs.lemmas.Bool.{eqb-true}
use Rattle.std.proofs.lemmas.Option.{same_Some}
use Rattle.os9_base.specs.declared.calls.TheConstants.{I_READ}
use Rattle.os9_base.specs.declared.errors.TheConstants.{E_PRCABT}
use Rattle.os9_base.specs.declared.registers.Regs.{Regs}
use Rattle.proc_model.specs.MemoryChanges.{stored}
use Rattle.proc_model.specs.declared.record.Intercept.{Intercept}
use Rattle.proc_model.specs.declared.record.Record.{Record}
use Rattle.proc_model.specs.Records.{IsLiving, is_waiting, record_at}
use Rattle.proc_model.specs.Signals.{with_signal}
use Rattle.proc_model.specs.Attempts.{goes_on, refused_regs}
use Rattle.proc_model.specs.Delivery.{after_delivery, delivered, frame_bytes, has_no_room, routine_begun, stack_top, with_frame}
use Rattle.proc_model.specs.Processes.{Processes, regs_at, with_records, with_regs_of}
use Rattle.proc_model.specs.Ready.{Act, delivers, act_of}
use Rattle.io_model.specs.declared.pending.PendingCall.{PendingCall}
use Rattle.io_model.specs.Io.{target_of}
use Rattle.io_model.specs.Waiting.{count_by, interrupted_count}
use Rattle.machine_model.specs.declared.ends.EventEnd.{EventEnd}
use Rattle.machine_model.specs.declared.ends.EventEnd.TheVariants.{Ended}
use Rattle.machine_model.specs.ProcessEvent.{broken_off, delivery_end}
use Rattle.call_laws.proofs.OthersKept.{living-within, record-put}
use Rattle.machine_model.specs.Event.{Acts, Event, before_delivery}
use Rattle.machine_model.specs.State.{State}
use Rattle.stream_laws.specs.Flow.{IsBrokenOff, TellsMoved, pushed_regs, with_y}

module _ (m : Processes) (p signal moved : ℕ) (lives : IsLiving m.records p) where
  -- the processes as the signal finds them
  abbrev found : Processes
  found = with_regs_of m p (record (regs_at m p) { y = moved })

  abbrev taken : Processes
  taken = with_records found (with_signal found.records p None)

  found-regs : regs_at found p ≡ record (regs_at m p) { y = moved }
  found-regs =
      ap (λ (r : Record). r.regs) (record-put m.records p (record (record_at m.records p) { regs = record (regs_at m p) { y = moved } }) (living-within m.records p lives))

  -- it waits as it did
  waits-still : is_waiting (record_at found.records p).life ≡ is_waiting (record_at m.records p).life
  waits-still =
      ap (λ (r : Record). is_waiting r.life) (record-put m.records p (record (record_at m.records p) { regs = record (regs_at m p) { y = moved } }) (living-within m.records p lives))

  abbrev Tells : Result Processes ℕ → Type 0
  Tells result = (delivery_end result ≡ Ended) ⊎ TellsMoved m p signal moved (after_delivery found p result)

  -- the frame, by the registers that the process had
  frame-at : (waits : Bool) → is_waiting (record_at found.records p).life ≡ waits → stored m.memory p
      (stack_top (regs_at found p).s - 12) (frame_bytes (if waits then refused_regs (regs_at found p) signal else
      regs_at found p)) ≡ stored m.memory p (stack_top (regs_at m p).s - 12)
      (frame_bytes (pushed_regs m p signal moved))
  frame-at waits is =
      ap (λ (regs : Regs). stored m.memory p (stack_top regs.s - 12) (frame_bytes (if waits then refused_regs regs signal else regs))) found-regs
      ∙ ap (λ (waits : Bool). stored m.memory p (stack_top (regs_at m p).s - 12) (frame_bytes (if waits then refused_regs (with_y m p moved) signal else with_y m p moved))) (sym is ∙ waits-still)

  routine-tells : (intercept : Intercept) → Tells (routine_begun found p intercept signal)
  routine-tells intercept =
      by_room (has_no_room found p (stack_top (regs_at found p).s)) (is_waiting (record_at found.records p).life) refl
    where
      by_room : (none waits : Bool) → is_waiting (record_at found.records p).life ≡ waits
          → Tells (if none then Err E_PRCABT else Ok
          (with_frame (if waits then goes_on taken p (if waits then refused_regs (regs_at found p) signal else regs_at
          found p) else taken) p intercept signal (if waits then refused_regs (regs_at found p) signal else regs_at
          found p) (stack_top (regs_at found p).s - 12)))
      by_room true waits is = inl refl
      by_room false true is = inr (record { frame = frame-at true is })
      by_room false false is = inr (record { frame = frame-at false is })

  delivery-tells : Tells (delivered found p signal)
  delivery-tells = by_intercept (record_at found.records p).intercept
    where
      answer : Option Intercept → Result Processes ℕ
      answer None = Err signal
      answer (Some intercept) = if signal == 0 then Err signal else routine_begun found p intercept signal

      by_zero : (intercept : Intercept) (zero : Bool) → Tells (if zero then Err signal else routine_begun found p intercept signal)
      by_zero intercept true = inl refl
      by_zero intercept false = routine-tells intercept

      by_intercept : (intercept : Option Intercept) → Tells (answer intercept)
      by_intercept None = inl refl
      by_intercept (Some intercept) = by_zero intercept (signal == 0)

pub broken-tells : (s t : State) (end : EventEnd) (n p : ℕ) (pending : PendingCall) → Event s end t → (it : IsBrokenOff n s p pending) → (end ≡ Ended)
    ⊎ TellsMoved s.processes p it.signal.0 pending.moved t.processes
broken-tells s t end n p pending (q, chosen, living, acts) it =
    by_delivery (subst (λ (act : Act). Acts act s p end t) it.signal.1 (subst (λ (q : ℕ). Acts (act_of s.processes q) s q end t) same acts))
  where
    same : q ≡ p
    same = same_Some q p (sym chosen ∙ it.chosen)

    counted : (read : Bool) → (pending.code == I_READ) ≡ read → (if read then None else Some pending.moved) ≡ Some pending.moved
    counted true is = absurd (it.counts (eqb-true pending.code I_READ is))
    counted false is = refl

    count : interrupted_count s.files.io p ≡ Some pending.moved
    count =
        ap (λ (place : Option PendingCall). option_and_then (λ (pending : PendingCall). count_by pending (target_of s.files.io pending.path)) place) it.call
        ∙ ap (count_by pending) it.on ∙ counted (pending.code == I_READ) refl

    Came : Processes → Type 0
    Came m =
        (delivery_end (delivered m p it.signal.0) ≡ Ended) ⊎ TellsMoved s.processes p it.signal.0 pending.moved (after_delivery m p (delivered m p it.signal.0))

    came : Came (before_delivery s p)
    came =
        subst Came (sym (ap (broken_off s.processes p) count)) (delivery-tells s.processes p it.signal.0 pending.moved (subst (IsLiving s.processes.records) same living))

    by_came : end ≡ delivery_end (delivered (before_delivery s p) p it.signal.0) → t.processes ≡ after_delivery
        (before_delivery s p) p (delivered (before_delivery s p) p it.signal.0) → Came (before_delivery s p)
        → (end ≡ Ended) ⊎ TellsMoved s.processes p it.signal.0 pending.moved t.processes
    by_came over is (inl ended_it) = inl (over ∙ ended_it)
    by_came over is (inr tells) = inr (subst (TellsMoved s.processes p it.signal.0 pending.moved) (sym is) tells)

    by_delivery : Acts (delivers it.signal.0) s p end t → (end ≡ Ended) ⊎ TellsMoved s.processes p it.signal.0 pending.moved t.processes
    by_delivery (over, is) = by_came over (ap (λ (t : State). t.processes) is) came
