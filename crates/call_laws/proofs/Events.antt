-- An event keeps what holds of a state of a run.
use Rattle.std.proofs.Common.{◌≡◌, ℕ, ◌-◌, ◌==◌, Bool, true, false, Option, Some, None, Result, Ok, Err, refl, sym, ap, ◌∙◌, subst}
use Rattle.std.specs.Prelude.{if◌then◌else◌}
use Rattle.os9_base.specs.declared.errors.TheConstants.{E_PRCABT}
use Rattle.cpu_model.specs.Step.{Aborts, Calls, Done, Outcome}
use Rattle.proc_model.specs.declared.record.Intercept.{Intercept}
use Rattle.proc_model.specs.Records.{IsLiving, is_waiting, record_at}
use Rattle.proc_model.specs.Signals.{with_signal}
use Rattle.proc_model.specs.Attempts.{goes_on}
use Rattle.proc_model.specs.Delivery.{after_delivery, delivered, has_no_room, interrupted, interrupted_regs, routine_begun, stack_top, with_frame}
use Rattle.proc_model.specs.Processes.{Processes, regs_at, with_records}
use Rattle.proc_model.specs.Ready.{Act, act_of, attempts, delivers, executes}
use Rattle.io_model.specs.Io.{Io}
use Rattle.io_model.specs.Waiting.{interrupted_count}
use Rattle.file_rules.specs.Files.{Files}
use Rattle.file_laws.specs.Kinds.{AreKinds}
use Rattle.file_laws.proofs.Starts.{kinds-ended, kinds-interrupted}
use Rattle.machine_model.specs.declared.ends.EventEnd.{EventEnd}
use Rattle.machine_model.proofs.Ticks.{ended-tick}
use Rattle.time_rules.specs.Clock.{IsClock}
use Rattle.machine_model.specs.Event.{Acts, Event, before_delivery, files_after_delivery, files_after_instruction}
use Rattle.machine_model.specs.State.{State}
use Rattle.call_laws.specs.Running.{AreRequested, IsRunning}
use Rattle.call_laws.proofs.Requested.{RequestsStay, ended-stay, interrupted-stay, none-ended, none-interrupted, none-then, same-stay}
use Rattle.file_rules.specs.Locking.{files_interrupted}
use Rattle.file_rules.specs.Processes.{files_ended}
use Rattle.machine_model.specs.ProcessEvent.{after_instruction, broken_off, delivery_end, instruction_end, next_instruction}
use Rattle.std.specs.Prelude.{length}
use Rattle.std.proofs.lemmas.Option.{none-some}
use Rattle.io_model.specs.Processes.{io_ended}
use Rattle.io_model.specs.Io.{pending_at}
use Rattle.call_laws.proofs.EventsKept.{broken-left, instruction-left}
use Rattle.machine_model.proofs.Gains.{event-gains}
use Rattle.call_laws.proofs.Aside.{IoAside, left-aside}
use Rattle.call_laws.proofs.Attempts.{attempt-runs, io-broken, io-closed, io-same, next-running}
use Rattle.call_laws.proofs.InCalls.{in-delivery, in-instruction}
use Rattle.call_laws.proofs.KeptEvents.{ended-none, executes-none, interrupted-none, no-call}
use Rattle.call_laws.proofs.RunningLaws.{zip-length}

-- ---- the tick

broken-tick : (m : Processes) (p : ℕ) (count : Option ℕ) → (broken_off m p count).tick ≡ m.tick
broken-tick m p None = refl
broken-tick m p (Some count) = refl

interrupted-tick : (m : Processes) (p signal : ℕ) → (interrupted m p signal).tick ≡ m.tick
interrupted-tick m p signal = by_waits (is_waiting (record_at m.records p).life)
  where
    by_waits : (waits : Bool) → (if waits then goes_on (with_records m (with_signal m.records p None)) p (interrupted_regs m p signal) else with_records m (with_signal m.records p None)).tick ≡ m.tick
    by_waits true = refl
    by_waits false = refl

delivery-tick : (m : Processes) (p signal : ℕ) → (after_delivery m p (delivered m p signal)).tick ≡ m.tick
delivery-tick m p signal = by_intercept (record_at m.records p).intercept
  where
    begun : Intercept → Processes
    begun intercept =
        with_frame (interrupted m p signal) p intercept signal (interrupted_regs m p signal) (stack_top (regs_at m p).s - 12)

    by_room : (intercept : Intercept) (full : Bool) → (after_delivery m p (if full then Err E_PRCABT else Ok (begun intercept))).tick ≡ m.tick
    by_room intercept true = ended-tick m p E_PRCABT
    by_room intercept false = interrupted-tick m p signal

    by_zero : (intercept : Intercept) (zero : Bool) → (after_delivery m p (if zero then Err signal else routine_begun m p intercept signal)).tick ≡ m.tick
    by_zero intercept true = ended-tick m p signal
    by_zero intercept false = by_room intercept (has_no_room m p (stack_top (regs_at m p).s))

    of_intercept : Option Intercept → Result Processes ℕ
    of_intercept None = Err signal
    of_intercept (Some intercept) = if signal == 0 then Err signal else routine_begun m p intercept signal

    by_intercept : (intercept : Option Intercept) → (after_delivery m p (of_intercept intercept)).tick ≡ m.tick
    by_intercept None = ended-tick m p signal
    by_intercept (Some intercept) = by_zero intercept (signal == 0)

instruction-tick : (m : Processes) (p : ℕ) (outcome : Outcome) → (after_instruction m p outcome).tick ≡ m.tick
instruction-tick m p (Done effect) = refl
instruction-tick m p (Calls code regs) = refl
instruction-tick m p (Aborts status) = ended-tick m p status

-- ---- files

instruction-stay : (files : Files) (p : ℕ) (outcome : Outcome) → RequestsStay p files.records (files_after_instruction files p outcome).records
instruction-stay files p (Done effect) = same-stay p files.records files.records refl
instruction-stay files p (Calls code regs) = same-stay p files.records files.records refl
instruction-stay files p (Aborts status) = ended-stay files p

delivery-stay : (files : Files) (p : ℕ) (result : Result Processes ℕ) → RequestsStay p files.records (files_after_delivery files p result).records
delivery-stay files p (Ok t) = interrupted-stay files p
delivery-stay files p (Err status) = ended-stay files p

module _ (files : Files) (p : ℕ) (kinds : AreKinds files) where
  instruction-kinds : (outcome : Outcome) → AreKinds (files_after_instruction files p outcome)
  instruction-kinds (Done effect) = kinds
  instruction-kinds (Calls code regs) = kinds
  instruction-kinds (Aborts status) = kinds-ended files kinds p

  delivery-kinds : (result : Result Processes ℕ) → AreKinds (files_after_delivery files p result)
  delivery-kinds (Ok t) = kinds-interrupted files p kinds
  delivery-kinds (Err status) = kinds-ended files kinds p

-- ---- one event

module _ (s : State) (p : ℕ) (running : IsRunning s) (lives : IsLiving s.processes.records p) where
  -- the others keep their input and output, and the process waits in no call on paths
  abbrev Beside : Io → Type 0
  Beside new = IoAside s.processes.records (length s.terms) p s.files.io new × (pending_at new p ≡ None)

  ended : Beside (io_ended s.files.io p)
  ended = (io-closed s.processes.records (length s.terms) p s.files.io, ended-none s.files.io p)

  instruction-beside : pending_at s.files.io p ≡ None → (outcome : Outcome) → Beside (files_after_instruction s.files p outcome).io
  instruction-beside none (Done effect) = (io-same s.processes.records (length s.terms) p s.files.io, none)
  instruction-beside none (Calls code regs) = (io-same s.processes.records (length s.terms) p s.files.io, none)
  instruction-beside none (Aborts status) = ended

  delivery-beside : (result : Result Processes ℕ) → Beside (files_after_delivery s.files p result).io
  delivery-beside (Ok t) = (io-broken s.processes.records (length s.terms) p s.files.io, interrupted-none s.files.io p)
  delivery-beside (Err status) = ended

  instruction-requested : (outcome : Outcome) → IoAside s.processes.records (length s.terms) p s.files.io
      (files_after_instruction s.files p outcome).io → AreRequested (files_after_instruction s.files p outcome)
  instruction-requested (Done effect) io = running.requested
  instruction-requested (Calls code regs) io = running.requested
  instruction-requested (Aborts status) io =
      none-then p s.files (files_ended s.files p) io.calls running.requested (none-ended s.files p)

  delivery-requested : (result : Result Processes ℕ) → IoAside s.processes.records (length s.terms) p s.files.io
      (files_after_delivery s.files p result).io → AreRequested (files_after_delivery s.files p result)
  delivery-requested (Ok t) io =
      none-then p s.files (files_interrupted s.files p) io.calls running.requested (none-interrupted s.files p)
  delivery-requested (Err status) io =
      none-then p s.files (files_ended s.files p) io.calls running.requested (none-ended s.files p)

  acts-run : (act : Act) (end : EventEnd) (t : State) → act_of s.processes p ≡ act → length t.terms ≡ length s.terms → Acts act s p end t → IsRunning t
  acts-run executes end t next long (over, is) =
      let outcome = next_instruction s.processes p in
      let io = instruction-beside (no-call s.processes s.files.io p running.kept lives (executes-none s.processes s.files.io p running.kept lives next)) outcome in
      subst IsRunning (sym is) (next-running s p (record s { processes = after_instruction s.processes p outcome; files = files_after_instruction s.files p outcome }) running
      (left-aside s.processes p (instruction_end outcome) (after_instruction s.processes p outcome) (instruction-left s.processes p outcome))
      io.0 (λ kept there. absurd (none-some kept (sym io.1 ∙ there)))
      (in-instruction s.processes s.files.io p running.in_calls lives running.places next outcome _)
      refl (instruction-requested outcome io.0) (instruction-stay s.files p outcome)
      (λ kept there. absurd (none-some kept (sym io.1 ∙ there)))
      (instruction-kinds s.files p running.kinds outcome) (subst (IsClock s.clock) (sym (instruction-tick s.processes p outcome)) running.clock))
  acts-run (delivers signal) end t next long (over, is) =
      let found = before_delivery s p in
      let result = delivered found p signal in
      let io = delivery-beside result in
      let tick : (after_delivery found p result).tick ≡ s.processes.tick = delivery-tick found p signal ∙ broken-tick s.processes p (interrupted_count s.files.io p) in
      subst IsRunning (sym is) (next-running s p (record s { processes = after_delivery found p result; files = files_after_delivery s.files p result }) running
      (left-aside s.processes p (delivery_end result) (after_delivery found p result) (broken-left s.processes p signal (interrupted_count s.files.io p)))
      io.0 (λ kept there. absurd (none-some kept (sym io.1 ∙ there)))
      (in-delivery s.processes s.files.io p running.in_calls lives running.places signal (interrupted_count s.files.io p) _)
      refl (delivery-requested result io.0) (delivery-stay s.files p result)
      (λ kept there. absurd (none-some kept (sym io.1 ∙ there))) (delivery-kinds s.files p running.kinds result) (subst (IsClock s.clock) (sym tick) running.clock))
  acts-run (attempts code) end t next long (result, rest, attempted, over, is) =
      subst IsRunning (sym is) (attempt-runs s p code running lives next result rest (sym (ap (λ (t : State). length t.terms) is) ∙ long) attempted)

pub event-running : (s t : State) (end : EventEnd) → Event s end t → IsRunning s → IsRunning t
event-running s t end (p, chosen, lives, acts) running =
    acts-run s p running lives (act_of s.processes p) end t refl (zip-length s.terms t.terms (event-gains s t end (p, chosen, lives, acts)).terminals) acts
