-- A tick lets a call go on only if keys arrive at its terminal, or if the ticks of its request are over.
use Rattle.std.proofs.Common.{◌≡◌, ◌⊎◌, ℕ, zero, suc, ◌+◌, ◌&&◌, ◌||◌, not, Bool, true, false, Option, Some, None, List, length, refl, sym, ap, ◌∙◌, subst, inl, inr}
use Rattle.std.proofs.lemmas.Bool.{false≢true}
use Rattle.os9_sched.specs.declared.member.Cause.{Cause}
use Rattle.io_model.specs.Path.{PathTable, desc_of, holds_path}
use Rattle.io_model.specs.Pipe.{held_bytes}
use Rattle.io_model.specs.declared.pending.PendingCall.{PendingCall}
use Rattle.io_model.specs.Alone.{is_in_wait}
use Rattle.io_model.specs.Arrivals.{ArrivesFrom, Desk}
use Rattle.io_model.specs.Io.{Io, pending_at, terminal_at}
use Rattle.io_model.specs.Waiting.{io_may_go, may_read_terminal}
use Rattle.lock_model.specs.Conflict.{conflicts}
use Rattle.lock_model.specs.Locks.{request_of}
use Rattle.lock_model.specs.Records.{Records}
use Rattle.lock_model.specs.Waits.{is_late, lock_may_go, request_may_go}
use Rattle.lock_model.specs.declared.lock.Request.{Request}
use Rattle.file_rules.specs.Locking.{call_of, files_may_go}
use Rattle.machine_model.specs.Run.{Tick, desk_of}
use Rattle.machine_model.specs.State.{State}
use Rattle.call_laws.proofs.RunningLaws.{arrivals-left}
use Rattle.lock_laws.specs.Locked.{IsRunLocked}
use Rattle.lock_laws.proofs.OnFiles.{tick-locked}
use Rattle.lock_laws.specs.Touches.{TerminalGainsKeys, MayGo, TicksAreOver, HasWaitCause}
use Rattle.lock_laws.proofs.Events.{request-idle, waits-device}
use Rattle.lock_laws.proofs.Looked.{StaysFor, WaitsOn, io-same, waits-on}

-- keys that arrive leave the pipes
arrivals-pipes : (tick n count : ℕ) (old new : Desk) → ArrivesFrom tick n count old new → new.io.pipes ≡ old.io.pipes
arrivals-pipes tick n zero old new is = ap (λ (desk : Desk). desk.io.pipes) is
arrivals-pipes tick n (suc count) old new (between, here, later) =
    arrivals-pipes tick (n + 1) count between new later ∙ ap (λ (io : Io). io.pipes) here.io

left-true : (x y : Bool) → (x || y) ≡ true → x ≡ false → y ≡ true
left-true true y is none = absurd (false≢true (sym none))
left-true false y is none = is

both-false : (x y : Bool) → (x || y) ≡ false → (x ≡ false) × (y ≡ false)
both-false true y is = absurd (false≢true (sym is))
both-false false y is = (refl, is)

or-comm : (x y : Bool) → (x || y) ≡ true → (y || x) ≡ true
or-comm true true is = refl
or-comm true false is = refl
or-comm false true is = refl
or-comm false false is = is

same-terminal : (n m : ℕ) → Cause.Term n ≡ Cause.Term m → n ≡ m
same-terminal n m is = cc

module _ (s t : State) (q : ℕ) (cause : Cause) (it : IsRunLocked s) (ticks : Tick s t) (waits : HasWaitCause s q cause) (goes : MayGo t q)
    (stood : files_may_go s.files s.processes.tick q ≡ false) where
  records : t.files.records ≡ s.files.records
  records = by_tick ticks
    where
      by_tick : Tick s t → t.files.records ≡ s.files.records
      by_tick (desk, arrives, is) = ap (λ (t : State). t.files.records) is

  paths : t.files.io.paths ≡ s.files.io.paths
  paths = by_tick ticks
    where
      by_tick : Tick s t → t.files.io.paths ≡ s.files.io.paths
      by_tick (desk, arrives, is) =
          ap (λ (t : State). t.files.io.paths) is ∙ (arrivals-left (s.processes.tick + 1) 0 (length s.terms) (desk_of s) desk arrives).paths

  calls : t.files.io.calls ≡ s.files.io.calls
  calls = by_tick ticks
    where
      by_tick : Tick s t → t.files.io.calls ≡ s.files.io.calls
      by_tick (desk, arrives, is) =
          ap (λ (t : State). t.files.io.calls) is ∙ (arrivals-left (s.processes.tick + 1) 0 (length s.terms) (desk_of s) desk arrives).calls

  pipes : t.files.io.pipes ≡ s.files.io.pipes
  pipes = by_tick ticks
    where
      by_tick : Tick s t → t.files.io.pipes ≡ s.files.io.pipes
      by_tick (desk, arrives, is) =
          ap (λ (t : State). t.files.io.pipes) is ∙ arrivals-pipes (s.processes.tick + 1) 0 (length s.terms) (desk_of s) desk arrives

  kept-same : (r : ℕ) → pending_at t.files.io r ≡ pending_at s.files.io r
  kept-same r = ap (λ (calls : List (Option PendingCall)). pending_at (record s.files.io { calls = calls }) r) calls

  -- ---- on a terminal or a pipe

  -- nothing lets the call go on but keys
  stays : ((n : ℕ) → cause ≡ Cause.Term n → terminal_at t.files.io n ≡ terminal_at s.files.io n) → StaysFor cause s.files.io t.files.io
  stays same = record {
    terminal = λ n r is. ap (may_read_terminal r) (same n is);
    pipe = λ k is. ap (λ (pipes : List (Option (List ℕ))). held_bytes pipes k) pipes;
    there = λ path it direction r.
        ap (λ (paths : PathTable). holds_path paths r path && not (is_in_wait path direction (pending_at t.files.io r))) paths
        ∙ ap (λ (pending : Option PendingCall). holds_path s.files.io.paths r path && not (is_in_wait path direction pending)) (kept-same r);
  }

  device-stood : request_of s.files.records.locks q ≡ None → ((n : ℕ) → cause ≡ Cause.Term n → terminal_at t.files.io n ≡ terminal_at s.files.io n) → ⊥
  device-stood none same = false≢true (sym (both-false (io_may_go s.files.io q) _ stood).0 ∙ sym still ∙ io_goes)
    where
      on : WaitsOn cause s.files.io q
      on = waits-on cause s.files.io q (waits-device s.files.io s.files.records.locks q cause none waits)

      still : io_may_go t.files.io q ≡ io_may_go s.files.io q
      still =
          io-same cause s.files.io t.files.io q (stays same) on (kept-same q)
          (ap (λ (paths : PathTable). desc_of paths on.pending.path.0) paths ∙ on.path.there)

      no_request : lock_may_go t.files.records.locks t.processes.tick q ≡ false
      no_request = ap (request_may_go t.files.records.locks t.processes.tick) (ap (λ (records : Records). request_of records.locks q) records ∙ none)

      io_goes : io_may_go t.files.io q ≡ true
      io_goes = left-true (lock_may_go t.files.records.locks t.processes.tick q) (io_may_go t.files.io q) (or-comm
          (io_may_go t.files.io q) (lock_may_go t.files.records.locks t.processes.tick q) goes) no_request

  -- ---- for a record

  record-late : (request : Request) → request_of s.files.records.locks q ≡ Some request → TicksAreOver t q
  record-late request is = (request, then_is, late)
    where
      then_is : request_of t.files.records.locks q ≡ Some request
      then_is = ap (λ (records : Records). request_of records.locks q) records ∙ is

      later : IsRunLocked t
      later = tick-locked s t ticks it

      idle : io_may_go t.files.io q ≡ false
      idle =
          request-idle t.files.io q (call_of request) (later.state.running.requested q request then_is).kept request.lock.file (later.on.asked q request then_is).on

      opposed : not (conflicts s.files.records.locks request.lock) ≡ false
      opposed =
          (both-false (not (conflicts s.files.records.locks request.lock)) (is_late s.processes.tick request)
          (sym (ap (request_may_go s.files.records.locks s.processes.tick) is) ∙ (both-false (io_may_go s.files.io q) (lock_may_go s.files.records.locks s.processes.tick q) stood).1)).0

      late : is_late t.processes.tick request ≡ true
      late =
          left-true (not (conflicts t.files.records.locks request.lock)) (is_late t.processes.tick request)
          (sym (ap (request_may_go t.files.records.locks t.processes.tick) then_is) ∙ left-true (io_may_go t.files.io q) (lock_may_go t.files.records.locks t.processes.tick q) goes idle)
          (ap (λ (records : Records). not (conflicts records.locks request.lock)) records ∙ opposed)

tick-goes : (s t : State) (q : ℕ) (cause : Cause) → IsRunLocked s → Tick s t → HasWaitCause s q cause → MayGo t q → files_may_go s.files s.processes.tick q ≡ false → TerminalGainsKeys s t cause
    ⊎ TicksAreOver t q
tick-goes s t q cause it ticks waits goes stood = by_request (request_of s.files.records.locks q) refl
  where
    by_cause : (cause : Cause) → HasWaitCause s q cause → request_of s.files.records.locks q ≡ None → TerminalGainsKeys s t cause ⊎ TicksAreOver t q
    by_cause (Cause.Term n) waits none =
        inl (
          n,
          refl,
          λ same. device-stood s t q (Cause.Term n) it ticks waits goes stood none
              (λ m is. subst (λ (m : ℕ). terminal_at t.files.io m ≡ terminal_at s.files.io m) (same-terminal n m is) same),
        )
    by_cause Cause.Child waits none = absurd (device-stood s t q Cause.Child it ticks waits goes stood none (λ m is. absurd cc))
    by_cause Cause.Sleep waits none = absurd (device-stood s t q Cause.Sleep it ticks waits goes stood none (λ m is. absurd cc))
    by_cause (Cause.Pipe k) waits none =
        absurd (device-stood s t q (Cause.Pipe k) it ticks waits goes stood none (λ m is. absurd cc))
    by_cause (Cause.Lock drive number) waits none =
        absurd (device-stood s t q (Cause.Lock drive number) it ticks waits goes stood none (λ m is. absurd cc))

    by_request : (place : Option Request) → request_of s.files.records.locks q ≡ place → TerminalGainsKeys s t cause ⊎ TicksAreOver t q
    by_request None none = by_cause cause waits none
    by_request (Some request) is = inr (record-late s t q cause it ticks waits goes stood request is)

pub tick-lets : (s t : State) (q : ℕ) (cause : Cause) → IsRunLocked s → Tick s t → HasWaitCause s q cause → MayGo t q → MayGo s q ⊎ (TerminalGainsKeys s t cause ⊎ TicksAreOver t q)
tick-lets s t q cause it ticks waits goes = by_goes (files_may_go s.files s.processes.tick q) refl
  where
    by_goes : (went : Bool) → files_may_go s.files s.processes.tick q ≡ went → MayGo s q ⊎ (TerminalGainsKeys s t cause ⊎ TicksAreOver t q)
    by_goes true is = inl is
    by_goes false is = inr (tick-goes s t q cause it ticks waits goes is)
