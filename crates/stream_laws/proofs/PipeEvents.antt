-- What each event moves through a pipe.
use Rattle.std.proofs.Common.{◌≡◌, ◌⊎◌, ℕ, Option, Some, None, IsSome, Result, Ok, Err, List, [], ◌++◌, length, refl, sym, ap, ◌∙◌, subst, inl, inr}
use Rattle.std.specs.Prelude.{unwrap_or}
use Rattle.std.proofs.lemmas.Option.{same_Some}
use Rattle.cpu_model.specs.Step.{Outcome, Done, Calls, Aborts}
use Rattle.proc_model.specs.MemoryChanges.{stored}
use Rattle.proc_model.specs.Attempts.{after_attempt}
use Rattle.proc_model.specs.CallResult.{CallResult}
use Rattle.proc_model.specs.Delivery.{delivered}
use Rattle.proc_model.specs.Processes.{Processes, regs_at}
use Rattle.proc_model.specs.Ready.{Act, attempts, delivers, executes, act_of}
use Rattle.io_model.specs.Pipe.{IsPipe, In, Out, pipe_of}
use Rattle.io_model.specs.declared.path.Target.{Target}
use Rattle.io_model.specs.Attempts.{IoAttempts, caller_of, io_after, step_of}
use Rattle.io_model.specs.Codes.{io_call_of}
use Rattle.io_model.specs.Io.{Io, pipe_bytes}
use Rattle.io_model.specs.Step.{IoEnd}
use Rattle.io_model.specs.declared.io_call.Direction.{Direction}
use Rattle.io_model.specs.declared.io_call.IoCall.{IoCall}
use Rattle.file_rules.specs.Files.{place_of_target}
use Rattle.machine_model.specs.ProcessEvent.{next_instruction}
use Rattle.machine_model.specs.declared.ends.EventEnd.{EventEnd}
use Rattle.stream_laws.specs.Flow.{MovesNone, ReadCounts, WriteCounts, moved_before, stored_from, AttemptsOn, AttemptWithEnd, IsNew, Passes}
use Rattle.stream_laws.proofs.CallCodes.{none-delivering, none-executing, same-code}
use Rattle.stream_laws.proofs.PipeAttempts.{does-fresh, does-moves, ended-left, interrupted-left, stores-none, stores-them}
use Rattle.stream_laws.proofs.PipeSteps.{IsAbsent, IsStoring, Moved, PipeLeft, StaysEmpty, left-empty, left-held, no-pipe, step-moves}
use Rattle.machine_model.specs.Event.{Acts, Event, before_delivery, files_after_delivery, files_after_instruction}
use Rattle.machine_model.specs.Services.{service_of}
use Rattle.machine_model.specs.State.{Rest, State, with_rest}
use Rattle.stream_laws.proofs.Aside.{AttemptsNoMove, IsAside, IsOnDevice, StaysOrEnds, none-moves, served}
use Rattle.stream_laws.proofs.Asked.{device-asked}

-- ---- what a process does beside

module _ (s : State) (p n : ℕ) where
  after-instruction : (outcome : Outcome) → PipeLeft n s.files.io (files_after_instruction s.files p outcome).io
  after-instruction (Done effect) = inl refl
  after-instruction (Calls code regs) = inl refl
  after-instruction (Aborts status) = ended-left n s.files.io p

  after-delivery : (result : Result Processes ℕ) → PipeLeft n s.files.io (files_after_delivery s.files p result).io
  after-delivery (Ok t) = interrupted-left n s.files.io p
  after-delivery (Err status) = ended-left n s.files.io p

  after-call : (result : CallResult) (io : Io) → StaysOrEnds s p result io → PipeLeft n s.files.io io
  after-call result io (inl (stays, goes)) = inl (ap (λ (pipes : List (Option (List ℕ))). pipe_of pipes n) stays.pipes)
  after-call result io (inr (status, is, gone)) = subst (PipeLeft n s.files.io) (sym gone) (ended-left n s.files.io p)

module _ (s : State) (p n : ℕ) (chosen : s.chosen ≡ Some p) (lives : IsPipe s.files.io.pipes n) where
  -- nothing moves
  unmoved : (t : State) → AttemptsNoMove s p → pipe_bytes t.files.io n ≡ pipe_bytes s.files.io n → Passes n s t
  unmoved t none same = (None, record { held = same; attempt = attempts_none })
    where
      attempts_none : (q : ℕ) (call : IoCall) (way : Direction) → s.chosen ≡ Some q → AttemptsOn s q n call way → AttemptWithEnd s q (MovesNone (caller_of s.processes q)) t
          × (t.processes.memory ≡ s.processes.memory)
      attempts_none q call way chosen_is on =
          let same_process : q ≡ p = same_Some q p (sym chosen_is ∙ chosen) in
          let here : AttemptsOn s p n call way = subst (λ (q : ℕ). AttemptsOn s q n call way) same_process on in
          absurd (none here.attempted.0 call here.attempted.1 here.attempted.2 (way, here.way_is, here.path.0, here.path.1, ap (λ (target : Target). place_of_target target) here.path.2))

  module _ (code : ℕ) (call : IoCall) (result : CallResult) (rest : Rest) (next : act_of s.processes p ≡ attempts code)
      (coded : io_call_of code ≡ Some call) (attempt : IoAttempts call s.processes s.files.io (length s.files.drives) p
      result rest.files.io s.terms rest.terms) (still : IsPipe rest.files.io.pipes n) where
    abbrev last : State
    last = with_rest s (after_attempt s.processes p result) rest

    held-then : pipe_bytes rest.files.io n ≡ pipe_bytes attempt.effect.io n
    held-then = ap (λ (io : Io). pipe_bytes io n) attempt.state

    ends-in : (Counts : IoEnd → Type 0) → Counts attempt.effect.end → AttemptWithEnd s p Counts last
    ends-in Counts counts = record {
      effect = attempt.effect;
      processes = ap (after_attempt s.processes p) attempt.result_is;
      io = attempt.state;
      counts = counts;
    }

    memory-then : IsStoring attempt.effect.end → (after_attempt s.processes p result).memory ≡ stored s.processes.memory p attempt.effect.at attempt.effect.bytes
    memory-then storing =
        ap (λ (result : CallResult). (after_attempt s.processes p result).memory) attempt.result_is ∙ stores-them s.processes p attempt.effect attempt.effect.end storing

    memory-same : attempt.effect.bytes ≡ [] → (after_attempt s.processes p result).memory ≡ s.processes.memory
    memory-same none =
        ap (λ (result : CallResult). (after_attempt s.processes p result).memory) attempt.result_is ∙ stores-none s.processes p attempt.effect attempt.effect.end none

    by_moved : Moved call (caller_of s.processes p) s.files.io n attempt.effect → Passes n s last
    by_moved (inl it) = (None, record { held = held-then ∙ it.held; attempt = attempted_on })
      where
        here : (other : IoCall) (way : Direction) → AttemptsOn s p n other way → AttemptWithEnd s p (MovesNone (caller_of s.processes p)) last × (last.processes.memory ≡ s.processes.memory)
        here other way on =
            let same_code : on.attempted.0 ≡ code = same-code on.attempted.0 code (sym on.attempted.1 ∙ next) in
            let same_call : other ≡ call = same_Some other call (sym on.attempted.2 ∙ ap io_call_of same_code ∙ coded) in
            let this : AttemptsOn s p n call way = subst (λ (call : IoCall). AttemptsOn s p n call way) same_call on in
            let ends = it.ends way this.way_is this.path in
            (ends-in (MovesNone (caller_of s.processes p)) ends.0, memory-same ends.1)

        attempted_on : (q : ℕ) (other : IoCall) (way : Direction) → s.chosen ≡ Some q → AttemptsOn s q n other way
            → AttemptWithEnd s q (MovesNone (caller_of s.processes q)) last × (last.processes.memory ≡ s.processes.memory)
        attempted_on q other way chosen_is on =
            let same : q ≡ p = same_Some q p (sym chosen_is ∙ chosen) in
            subst (λ (q : ℕ). AttemptWithEnd s q (MovesNone (caller_of s.processes q)) last ×
            (last.processes.memory ≡ s.processes.memory)) (sym same)
            (here other way (subst (λ (q : ℕ). AttemptsOn s q n other way) same on))
    by_moved (inr (inl it)) = (
      Some (Out it.bytes),
      record {
        process = p;
        chosen = chosen;
        call = call;
        attempt = record { attempted = (code, next, coded); way_is = it.way; path = it.path };
        front = it.front ∙ ap (λ (held : List ℕ). it.bytes ++ held) (sym held-then);
        none = it.none;
        seen = by_seen it.seen;
        counts = ends-in (ReadCounts call (caller_of s.processes p) s.files.io (length it.bytes)) it.counts;
      },
    )
      where
        by_seen : (it.bytes ≡ []) ⊎ (attempt.effect.at ≡ stored_from call (regs_at s.processes p)
            (moved_before s.files.io p)) × IsStoring attempt.effect.end → (after_attempt s.processes p result).memory ≡
            stored s.processes.memory p (stored_from call (regs_at s.processes p) (moved_before s.files.io p)) it.bytes
        by_seen (inl none) =
            memory-same (it.stores_them ∙ none) ∙ sym (ap (stored s.processes.memory p (stored_from call (regs_at s.processes p) (moved_before s.files.io p))) none)
        by_seen (inr (at, storing)) =
            memory-then storing ∙ (λ i. stored s.processes.memory p (at i) (it.stores_them i))
    by_moved (inr (inr it)) = (
      Some (In it.bytes),
      record {
        process = p;
        chosen = chosen;
        call = call;
        attempt = record { attempted = (code, next, coded); way_is = it.way; path = it.path };
        behind = held-then ∙ it.behind;
        sent = it.sent;
        sends = it.sends;
        next = it.next;
        none = it.none;
        memory = memory-same it.stores_none;
        counts = ends-in (WriteCounts call (caller_of s.processes p) s.files.io it.sent (length it.bytes)) it.counts;
      },
    )

    io-passes : Passes n s last
    io-passes =
        by_moved (does-moves call (caller_of s.processes p) s.files.io n (step_of call s.processes p s.files.io
        (length s.files.drives) s.terms) attempt.effect s.terms rest.terms (step-moves call (caller_of s.processes p)
        s.files.io n (length s.files.drives) (length s.terms)) attempt.does lives
        (subst (λ (io : Io). IsPipe io.pipes n) attempt.state still))

  -- ---- the event

  call-passes : (code : ℕ) (result : CallResult) (rest : Rest) → act_of s.processes p ≡ attempts code
      → IsPipe rest.files.io.pipes n → IsOnDevice code s p result rest ⊎ IsAside s p result rest
      → Passes n s (with_rest s (after_attempt s.processes p result) rest)
  call-passes code result rest next still (inl on) =
      io-passes code on.call result rest next on.coded on.attempt still
  call-passes code result rest next still (inr it) =
      unmoved (with_rest s (after_attempt s.processes p result) rest) it.moves (left-held n s.files.io rest.files.io (after-call s p n result rest.files.io it.io) still)

  acts-pass : (act : Act) (end : EventEnd) (t : State) → act_of s.processes p ≡ act → Acts act s p end t → IsPipe t.files.io.pipes n → Passes n s t
  acts-pass executes end t next (over, is) still =
      unmoved t (none-moves s p (none-executing (act_of s.processes p) next)) (left-held n s.files.io t.files.io
      (subst (λ (t : State). PipeLeft n s.files.io t.files.io) (sym is)
      (after-instruction s p n (next_instruction s.processes p))) still)
  acts-pass (delivers signal) end t next (over, is) still =
      unmoved t (none-moves s p (none-delivering (act_of s.processes p) signal next)) (left-held n s.files.io t.files.io
      (subst (λ (t : State). PipeLeft n s.files.io t.files.io) (sym is)
      (after-delivery s p n (delivered (before_delivery s p) p signal))) still)
  acts-pass (attempts code) end t next (result, rest, (now, is_now, it), over, is) still =
      subst (λ (t : State). Passes n s t) (sym is) (call-passes code result rest next
      (subst (λ (t : State). IsPipe t.files.io.pipes n) is still) (served s p code next now rest (service_of code)
      result (device-asked code) it))

pub event-passes : (s t : State) (end : EventEnd) (n : ℕ) → Event s end t → IsPipe s.files.io.pipes n → IsPipe t.files.io.pipes n → Passes n s t
event-passes s t end n (p, chosen, living, acts) lives still =
    acts-pass s p n chosen lives (act_of s.processes p) end t refl acts still

-- ---- a new pipe

module _ (s : State) (p n : ℕ) (absent : (call : IoCall) → IsAbsent call (caller_of s.processes p) s.files.io n) (none : pipe_of s.files.io.pipes n ≡ None) where
  call-fresh : (code : ℕ) (result : CallResult) (rest : Rest) → IsOnDevice code s p result rest ⊎ IsAside s p result rest → StaysEmpty n rest.files.io
  call-fresh code result rest (inl on) =
      subst (StaysEmpty n) (sym on.attempt.state) (by_effect (does-fresh on.call (caller_of s.processes p) s.files.io n
      (step_of on.call s.processes p s.files.io (length s.files.drives) s.terms) on.attempt.effect s.terms rest.terms
      (step-moves on.call (caller_of s.processes p) s.files.io n (length s.files.drives) (length s.terms))
      on.attempt.does (absent on.call)))
    where
      by_effect : StaysEmpty n on.attempt.effect.io → StaysEmpty n (io_after p on.attempt.effect)
      by_effect (inl gone) = inl gone
      by_effect (inr empty) = inr empty
  call-fresh code result rest (inr it) =
      left-empty n s.files.io rest.files.io (after-call s p n result rest.files.io it.io) none

  acts-fresh : (act : Act) (end : EventEnd) (t : State) → act_of s.processes p ≡ act → Acts act s p end t → StaysEmpty n t.files.io
  acts-fresh executes end t next (over, is) =
      subst (λ (t : State). StaysEmpty n t.files.io) (sym is)
      (left-empty n s.files.io (files_after_instruction s.files p (next_instruction s.processes p)).io
      (after-instruction s p n (next_instruction s.processes p)) none)
  acts-fresh (delivers signal) end t next (over, is) =
      subst (λ (t : State). StaysEmpty n t.files.io) (sym is) (left-empty n s.files.io (files_after_delivery s.files p
      (delivered (before_delivery s p) p signal)).io (after-delivery s p n (delivered (before_delivery s p) p
      signal)) none)
  acts-fresh (attempts code) end t next (result, rest, (now, is_now, it), over, is) =
      subst (λ (t : State). StaysEmpty n t.files.io) (sym is) (call-fresh code result rest (served s p code next now rest (service_of code) result (device-asked code) it))

pub new-empty : (s t : State) (end : EventEnd) (n : ℕ) → Event s end t → IsNew n s t → pipe_bytes t.files.io n ≡ []
new-empty s t end n (p, chosen, living, acts) new =
    by_place (acts-fresh s p n (λ call. record { none = new.absent; unused = new.unused p }) new.absent (act_of s.processes p) end t refl acts)
  where
    by_place : StaysEmpty n t.files.io → pipe_bytes t.files.io n ≡ []
    by_place (inl gone) =
        absurd (no-pipe (subst (λ (place : Option (List ℕ)). IsSome place) gone new.lives))
    by_place (inr empty) = ap (λ (place : Option (List ℕ)). unwrap_or place []) empty
