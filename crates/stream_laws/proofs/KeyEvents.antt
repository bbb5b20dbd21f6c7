-- What becomes of the keys of a terminal in an event.
use Rattle.std.proofs.Common.{◌≡◌, ◌⊎◌, ℕ, ◌+◌, ◌≤◌, Some, None, Result, Ok, Err, List, [], ◌++◌, length, refl, sym, ap, ◌∙◌, subst, inl, inr, arith}
use Rattle.std.proofs.lemmas.List.{length-append}
use Rattle.std.proofs.lemmas.Option.{same_Some}
use Rattle.io_model.specs.Read.{read_call}
use Rattle.os9_base.specs.declared.errors.TheConstants.{E_WRITE}
use Rattle.os9_outer.specs.TerminalState.{TerminalState}
use Rattle.cpu_model.specs.Step.{Outcome, Done, Calls, Aborts}
use Rattle.proc_model.specs.MemoryChanges.{stored}
use Rattle.proc_model.specs.Attempts.{after_attempt}
use Rattle.proc_model.specs.CallResult.{CallResult, done, waits, ends}
use Rattle.proc_model.specs.Delivery.{delivered}
use Rattle.proc_model.specs.Processes.{Processes, regs_at}
use Rattle.proc_model.specs.Ready.{Act, attempts, delivers, executes, act_of}
use Rattle.io_model.specs.Edit.{Editing, Typing}
use Rattle.io_model.specs.Terminal.{Terminal, reader, typed}
use Rattle.io_model.specs.declared.path.Target.{Target}
use Rattle.io_model.specs.declared.terminal.ReadKind.{ReadKind}
use Rattle.io_model.specs.declared.terminal.ReadKind.TheVariants.{Bytes, WholeLine}
use Rattle.io_model.specs.declared.terminal.Reading.{Reading}
use Rattle.io_model.specs.Again.{path_number}
use Rattle.io_model.specs.Attempts.{IoAttempts, caller_of, result_by, step_of}
use Rattle.io_model.specs.Codes.{direction_of_call, io_call_of}
use Rattle.io_model.specs.Io.{Io, OpenPath, open_path, terminal_at}
use Rattle.io_model.specs.Processes.{io_ended}
use Rattle.io_model.specs.Step.{IoEnd, answers, fails, keeps}
use Rattle.io_model.specs.Waiting.{io_interrupted, pid}
use Rattle.io_model.specs.declared.io_call.Direction.TheVariants as Way
use Rattle.io_model.specs.declared.io_call.IoCall.{IoCall}
use Rattle.file_rules.specs.Files.{place_of_target}
use Rattle.machine_model.specs.declared.ends.EventEnd.{EventEnd}
use Rattle.machine_model.specs.declared.ends.EventEnd.TheVariants.{Ended, Ran, Waits}
use Rattle.machine_model.specs.ProcessEvent.{call_event_end, delivery_end, instruction_end, next_instruction}
use Rattle.call_laws.proofs.StepWalk.{StepGives, step-gives}
use Rattle.stream_laws.specs.Keys.{KeyMove, LineGoes, LineStays, UsesNone, reading_of, stay, use_up, DropsLine, EventKeys, HasAhead, ReadEnds, ReaderStops, AttemptsTerminalRead, StopsReading, AttemptedWriteFails, ahead_at, keys_to_come}
use Rattle.stream_laws.proofs.CallCodes.{none-delivering, none-executing, same-code}
use Rattle.stream_laws.proofs.KeyAttempts.{AheadLeft, Ends, Failed, IsReader, Moved, TermLeft, WriteRefused, closed-terminals, come_of, does-come, does-moves, ended-drops, ended-left, interrupted-drops, interrupted-left, left-for, left-same, term-for}
use Rattle.stream_laws.proofs.KeyReads.{step-reads}
use Rattle.stream_laws.proofs.KeyWrites.{step-writes}
use Rattle.machine_model.specs.Event.{Acts, Event, before_delivery, files_after_delivery, files_after_instruction}
use Rattle.machine_model.specs.Services.{service_of}
use Rattle.machine_model.specs.State.{Rest, State, with_rest}
use Rattle.stream_laws.specs.Flow.{AttemptWithEnd}
use Rattle.stream_laws.proofs.Aside.{AttemptsNoMove, IsAside, IsOnDevice, StaysOrEnds, none-moves, served}
use Rattle.stream_laws.proofs.Asked.{device-asked}
use Rattle.stream_laws.proofs.GoesOn.{GoesOn}

ran-ended : Ran ≡ Ended → ⊥
ran-ended is = cc

waits-ended : Waits ≡ Ended → ⊥
waits-ended is = cc

attempts-delivers : (code signal : ℕ) → attempts code ≡ delivers signal → ⊥
attempts-delivers code signal is = cc

executes-delivers : (signal : ℕ) → executes ≡ delivers signal → ⊥
executes-delivers signal is = cc

-- a read moves bytes one way
read-way : (kind : ReadKind) → direction_of_call (read_call kind) ≡ Some Way.Reading
read-way Bytes = refl
read-way WholeLine = refl

module _ (s : State) (p n : ℕ) (chosen : s.chosen ≡ Some p) (has : HasAhead n s) where
  -- what an event makes of them
  abbrev Comes : EventEnd → State → Type 0
  Comes end t = (move : KeyMove) × EventKeys n s end move t × HasAhead n t

  -- the terminal is there still, and has no more keys
  has-then : (t : State) → length t.files.io.terminals ≡ length s.files.io.terminals → length (ahead_at t n) ≤ length (ahead_at s n) → HasAhead n t
  has-then t places fewer =
      let within = has.within in
      let few = has.few in
      record { within = omega (arith, places, within); few = omega (arith, fewer, few) }

  abbrev Causes : EventEnd → State → Type 0
  Causes end t = ReaderStops n p s end ⊎ AttemptedWriteFails n p s t

  -- where the process stops reading, its read is dropped
  abbrev Drops : EventEnd → Io → Type 0
  Drops end io = StopsReading n p s end → IsReader s.files.io p n → (terminal_at io n).reading ≡ None

  -- a process that attempts a call, or executes, and does not end, goes on reading
  attempt-reads : (end : EventEnd) (code : ℕ) → act_of s.processes p ≡ attempts code → (end ≡ Ended → ⊥) → StopsReading n p s end → ⊥
  attempt-reads end code next going (inl ended_it) = going ended_it
  attempt-reads end code next going (inr (signal, is, on)) = attempts-delivers code signal (sym next ∙ is)

  instruction-reads : (end : EventEnd) → act_of s.processes p ≡ executes → (end ≡ Ended → ⊥) → StopsReading n p s end → ⊥
  instruction-reads end next going (inl ended_it) = going ended_it
  instruction-reads end next going (inr (signal, is, on)) = executes-delivers signal (sym next ∙ is)

  -- an attempt of a read that uses no key ends as it may
  abbrev Reads_none : State → Type 0
  Reads_none t =
      (q : ℕ) (kind : ReadKind) → s.chosen ≡ Some q → AttemptsTerminalRead s q n kind → AttemptWithEnd s q
      (UsesNone n (caller_of s.processes q) s.files.io) t × (t.processes.memory ≡ s.processes.memory)

  attempts-none : (t : State) → AttemptsNoMove s p → Reads_none t
  attempts-none t none q kind chosen_is it =
      let same : q ≡ p = same_Some q p (sym chosen_is ∙ chosen) in
      let here : AttemptsTerminalRead s p n kind = subst (λ (q : ℕ). AttemptsTerminalRead s q n kind) same it in
      absurd (none here.attempted.0 (read_call kind) here.attempted.1 here.attempted.2 (
        Way.Reading,
        read-way kind,
        here.path.0,
        named kind here.path.0 here.path.1,
        ap (λ (target : Target). place_of_target target)
            here.path.2,
      ))
    where
      named : (kind : ReadKind) (opened : OpenPath) → open_path s.files.io p (regs_at s.processes p).a ≡ Some opened
          → open_path s.files.io p (path_number (read_call kind) (regs_at s.processes p)) ≡ Some opened
      named Bytes opened is = is
      named WholeLine opened is = is

  left : (end : EventEnd) (t : State) → AheadLeft (Causes end t) n s.files.io t.files.io → Drops end t.files.io → keys_to_come t n ≡ keys_to_come s n → Reads_none t → Comes end t
  left end t it drops come reads_none =
      let same : length (ahead_at t n) ≡ length (ahead_at s n) = ap (length {A = ℕ}) it.terminal.ahead in (
        stay,
        record { ahead = it.terminal.ahead; come = come; line = by_line it.terminal.line; over = over; reads = reads_none },
        has-then t it.places (omega (arith, same)),
      )
    where
      by_line : LineStays (terminal_at s.files.io n) (terminal_at t.files.io n) ⊎ Causes end t × LineGoes
          (terminal_at s.files.io n).line (terminal_at t.files.io n) → LineStays (terminal_at s.files.io n)
          (terminal_at t.files.io n) ⊎ DropsLine n s end t
      by_line (inl stays) = inl stays
      by_line (inr (cause, goes)) = inr (record { process = p; chosen = chosen; cause = cause; goes = goes })

      over : (q : ℕ) → s.chosen ≡ Some q → reader (terminal_at s.files.io n) ≡ Some (pid q) → StopsReading n q s end → (terminal_at t.files.io n).reading ≡ None
      over q chosen_is reads_it stops =
          let same : q ≡ p = same_Some q p (sym chosen_is ∙ chosen) in
          drops (subst (λ (q : ℕ). StopsReading n q s end) same stops) (reads_it ∙ ap (λ (k : ℕ). Some (pid k)) same)

  -- the process that reads has stopped
  stopped : (end : EventEnd) (t : State) → AheadLeft (ReaderStops n p s end) n s.files.io t.files.io → Drops end t.files.io → keys_to_come t n ≡ keys_to_come s n → AttemptsNoMove s p → Comes end t
  stopped end t it drops come none =
      left end t (left-for (ReaderStops n p s end) (Causes end t) n s.files.io t.files.io (λ stops. inl stops) it) drops come (attempts-none t none)

  module _ (code : ℕ) (call : IoCall) (result : CallResult) (rest : Rest) (next : act_of s.processes p ≡ attempts code)
      (coded : io_call_of code ≡ Some call) (attempt : IoAttempts call s.processes s.files.io (length s.files.drives) p
      result rest.files.io s.terms rest.terms) (end : EventEnd) (over : end ≡ call_event_end result) where
    abbrev last : State
    last = with_rest s (after_attempt s.processes p result) rest

    terminals-then : rest.files.io.terminals ≡ attempt.effect.io.terminals
    terminals-then = ap (λ (io : Io). io.terminals) attempt.state

    terminal-then : terminal_at rest.files.io n ≡ terminal_at attempt.effect.io n
    terminal-then = ap (λ (io : Io). terminal_at io n) attempt.state

    come-then : keys_to_come last n ≡ keys_to_come s n
    come-then =
        does-come call (caller_of s.processes p) s.files.io n has.within s.terms rest.terms (step_of call s.processes p s.files.io (length s.files.drives) s.terms) attempt.effect attempt.does

    ends-in : (Counts : IoEnd → Type 0) → Counts attempt.effect.end → AttemptWithEnd s p Counts last
    ends-in Counts counts = record {
      effect = attempt.effect;
      processes = ap (after_attempt s.processes p) attempt.result_is;
      io = attempt.state;
      counts = counts;
    }

    goes-then : (line : Editing) → LineGoes line (terminal_at attempt.effect.io n) → LineGoes line (terminal_at rest.files.io n)
    goes-then line goes = record {
      line = ap (λ (t : Terminal). t.line) terminal-then ∙ goes.line;
      reading = ap (λ (t : Terminal). t.reading) terminal-then ∙ goes.reading;
    }

    -- how its read ends
    read-ends : (request : Reading) (made : Typing) (over : IoEnd) → attempt.effect.at ≡ (regs_at s.processes p).x
        → result ≡ result_by over s.processes p attempt.effect → Ends (Failed s.terms rest.terms n) (caller_of s.processes p)
        made request (terminal_at attempt.effect.io n) attempt.effect.bytes over → ReadEnds n s p request made last
        over
    read-ends request made (answers regs) at is (ended, counted, bytes, goes) = (
      ended,
      counted,
      ap (λ (result : CallResult). (after_attempt s.processes p result).memory) is ∙ (λ i. stored s.processes.memory p (at i) (bytes i)),
      goes-then made.line goes,
    )
    read-ends request made (fails number) at is (cause, goes) =
        (cause, goes-then made.line goes, ap (λ (result : CallResult). (after_attempt s.processes p result).memory) is)
    read-ends request made (keeps kept) at is (unfinished, line, reading, ahead, none) = (
      unfinished,
      ap (λ (t : Terminal). t.line) terminal-then ∙ line,
      ap (λ (t : Terminal). t.reading) terminal-then ∙ reading,
      ap (λ (t : Terminal). t.ahead) terminal-then ∙ ahead,
      ap (λ (result : CallResult). (after_attempt s.processes p result).memory) is ∙ ap (stored s.processes.memory p attempt.effect.at) none,
    )

    by_moved : Moved call (caller_of s.processes p) s.files.io n s.terms rest.terms attempt.effect → Comes end last
    by_moved (inl (it, unused)) = left end last (record {
      terminal =
          subst (TermLeft (Causes end last) (terminal_at s.files.io n)) (sym terminal-then)
          (term-for (WriteRefused call (caller_of s.processes p) s.files.io attempt.effect.end s.terms rest.terms n)
          (Causes end last) (terminal_at s.files.io n) (terminal_at attempt.effect.io n) write-fails it.terminal);
      places = ap (length {A = Terminal}) terminals-then ∙ it.places;
    }) (λ stops reads_it. absurd (attempt-reads end code next (goes-on-ended attempt.effect.end attempt.result_is) stops)) come-then reads_none
      where
        memory-then : (over : IoEnd) → result ≡ result_by over s.processes p attempt.effect → attempt.effect.bytes ≡ [] → last.processes.memory ≡ s.processes.memory
        memory-then (answers regs) is none =
            ap (λ (result : CallResult). (after_attempt s.processes p result).memory) is ∙ ap (stored s.processes.memory p attempt.effect.at) none
        memory-then (fails number) is none = ap (λ (result : CallResult). (after_attempt s.processes p result).memory) is
        memory-then (keeps kept) is none =
            ap (λ (result : CallResult). (after_attempt s.processes p result).memory) is ∙ ap (stored s.processes.memory p attempt.effect.at) none

        here : (kind : ReadKind) → AttemptsTerminalRead s p n kind → AttemptWithEnd s p (UsesNone n (caller_of s.processes p) s.files.io) last × (last.processes.memory ≡ s.processes.memory)
        here kind on =
            let same_code : on.attempted.0 ≡ code = same-code on.attempted.0 code (sym on.attempted.1 ∙ next) in
            let same_call : call ≡ read_call kind = same_Some call (read_call kind) (sym coded ∙ ap io_call_of (sym same_code) ∙ on.attempted.2) in
            let it = unused kind same_call on.path in
            (ends-in (UsesNone n (caller_of s.processes p) s.files.io) it.0, memory-then attempt.effect.end attempt.result_is it.1)

        reads_none : Reads_none last
        reads_none q kind chosen_is on =
            let same : q ≡ p = same_Some q p (sym chosen_is ∙ chosen) in
            subst (λ (q : ℕ). AttemptWithEnd s q (UsesNone n (caller_of s.processes q) s.files.io) last ×
            (last.processes.memory ≡ s.processes.memory)) (sym same)
            (here kind (subst (λ (q : ℕ). AttemptsTerminalRead s q n kind) same on))

        goes-on-ended : (it : IoEnd) → result ≡ result_by it s.processes p attempt.effect → end ≡ Ended → ⊥
        goes-on-ended (answers regs) is ended_it = ran-ended (sym (over ∙ ap call_event_end is) ∙ ended_it)
        goes-on-ended (fails number) is ended_it = ran-ended (sym (over ∙ ap call_event_end is) ∙ ended_it)
        goes-on-ended (keeps kept) is ended_it = waits-ended (sym (over ∙ ap call_event_end is) ∙ ended_it)

        write-fails : WriteRefused call (caller_of s.processes p) s.files.io attempt.effect.end s.terms rest.terms n → Causes end last
        write-fails (way, path, refuses_it, failed) = inr (record {
          call = call;
          attempted = (code, next, coded);
          way_is = way;
          path = path;
          ends = ends-in (λ over. over ≡ fails E_WRITE) refuses_it;
          faults = failed;
        })
    by_moved (inr (kind, call_is, path, places, at, (keys, uses))) =
        let front : ahead_at s n ≡ keys ++ ahead_at last n = uses.front ∙ ap (λ (t : Terminal). keys ++ t.ahead) (sym terminal-then) in
        let fewer : length (ahead_at s n) ≡ length keys + length (ahead_at last n) = ap (length {A = ℕ}) front ∙ length-append keys (ahead_at last n) in
        let request : Reading = reading_of kind s.files.io p (regs_at s.processes p) in
        let made : Typing = typed request (terminal_at s.files.io n).line keys in (
          use_up keys,
          record {
            process = p;
            chosen = chosen;
            kind = kind;
            attempt = record { attempted = (code, next, coded ∙ ap Some call_is); path = path };
            request = request;
            request_is = refl;
            alone = uses.alone;
            front = front;
            used = uses.used;
            ends =
                ends-in (ReadEnds n s p request made last) (read-ends request made attempt.effect.end at attempt.result_is uses.ends);
            come = come-then;
          },
          has-then last (ap (length {A = Terminal}) terminals-then ∙ places) (omega (arith, fewer)),
        )

    io-comes : Comes end last
    io-comes =
        by_moved (does-moves call (caller_of s.processes p) s.files.io n has.within s.terms rest.terms (step_of call s.processes p s.files.io (length s.files.drives) s.terms) attempt.effect gives
        (step-reads call (λ (new : Io). new.terminals ≡ s.files.io.terminals) (caller_of s.processes p) s.files.io (length s.files.drives) (length s.terms) gives)
        (step-writes call (λ (new : Io). new.terminals ≡ s.files.io.terminals) (caller_of s.processes p) s.files.io (length s.files.drives) (length s.terms) gives) attempt.does)
      where
        gives : StepGives call (λ (new : Io). new.terminals ≡ s.files.io.terminals) (caller_of s.processes p) s.files.io (step_of call s.processes p s.files.io (length s.files.drives) s.terms)
        gives =
            step-gives call (λ (new : Io). new.terminals ≡ s.files.io.terminals) (caller_of s.processes p) s.files.io
            (length s.files.drives) (length s.terms) (record {
              same = refl;
              pipes = λ pipes. refl;
              dup = refl;
              close = closed-terminals s.files.io p (regs_at s.processes p).a;
              on_terminal = λ terminal there. refl;
              on_pipe = λ pipe free. refl;
            })

  -- ---- by what the process does

  module _ (end : EventEnd) where
    abbrev Leaves : Io → Type 0
    Leaves io = AheadLeft (ReaderStops n p s end) n s.files.io io

    unchanged-by : (io : Io) → io.terminals ≡ s.files.io.terminals → Leaves io
    unchanged-by io same = left-same (ReaderStops n p s end) n s.files.io io same

    ended-by : end ≡ Ended → Leaves (io_ended s.files.io p)
    ended-by over =
        left-for (IsReader s.files.io p n) (ReaderStops n p s end) n s.files.io (io_ended s.files.io p) (λ reads_it. record { reads = reads_it; stops = inl over }) (ended-left n s.files.io p)

    instruction-leaves : (outcome : Outcome) → end ≡ instruction_end outcome → Leaves (files_after_instruction s.files p outcome).io
    instruction-leaves (Done effect) over = unchanged-by s.files.io refl
    instruction-leaves (Calls code regs) over = unchanged-by s.files.io refl
    instruction-leaves (Aborts status) over = ended-by over

    delivery-leaves : (signal : ℕ) → act_of s.processes p ≡ delivers signal → (result : Result Processes ℕ) → end ≡ delivery_end result → Leaves (files_after_delivery s.files p result).io
    delivery-leaves signal next (Ok t) over =
        left-for (IsReader s.files.io p n) (ReaderStops n p s end) n s.files.io (io_interrupted s.files.io p)
        (λ reads_it. record { reads = reads_it; stops = inr (signal, next) }) (interrupted-left n s.files.io p)
    delivery-leaves signal next (Err status) over = ended-by over

    runs-on : (it : EventEnd) → end ≡ it → (it ≡ Ended → ⊥) → end ≡ Ended → ⊥
    runs-on it over going ended_it = going (sym over ∙ ended_it)

    instruction-drops : act_of s.processes p ≡ executes → (outcome : Outcome) → end ≡ instruction_end outcome → Drops end (files_after_instruction s.files p outcome).io
    instruction-drops next (Done effect) over =
        λ stops reads_it. absurd (instruction-reads end next (runs-on Ran over ran-ended) stops)
    instruction-drops next (Calls code regs) over =
        λ stops reads_it. absurd (instruction-reads end next (runs-on Ran over ran-ended) stops)
    instruction-drops next (Aborts status) over = λ stops reads_it. ended-drops n s.files.io p reads_it

    delivery-drops : (result : Result Processes ℕ) → end ≡ delivery_end result → Drops end (files_after_delivery s.files p result).io
    delivery-drops (Ok t) over = by_stop
      where
        by_stop : Drops end (io_interrupted s.files.io p)
        by_stop (inl ended_it) reads_it = absurd (runs-on Ran over ran-ended ended_it)
        by_stop (inr (signal, is, on)) reads_it = interrupted-drops n s.files.io p on reads_it
    delivery-drops (Err status) over = λ stops reads_it. ended-drops n s.files.io p reads_it

    -- a call that goes on ends no process
    going-on : (result : CallResult) → end ≡ call_event_end result → GoesOn result → end ≡ Ended → ⊥
    going-on (done t) over goes = runs-on Ran over ran-ended
    going-on (CallResult.refused number) over goes = runs-on Ran over ran-ended
    going-on (waits t) over goes = runs-on Waits over waits-ended
    going-on (ends status) over goes = absurd goes

    -- an attempt beside terminals and pipes
    aside-comes : (code : ℕ) (result : CallResult) (rest : Rest) → end ≡ call_event_end result → act_of s.processes p ≡
        attempts code → IsAside s p result rest → Comes end (with_rest s (after_attempt s.processes p result) rest)
    aside-comes code result rest over next it =
        stopped end (with_rest s (after_attempt s.processes p result) rest) (leaves it.io) (drops it.io) (ap (λ (terms : List TerminalState). come_of terms n) it.terms) it.moves
      where
        leaves : StaysOrEnds s p result rest.files.io → Leaves rest.files.io
        leaves (inl (stays, goes)) = unchanged-by rest.files.io stays.terminals
        leaves (inr (status, is, gone)) = subst Leaves (sym gone) (ended-by (over ∙ ap call_event_end is))

        drops : StaysOrEnds s p result rest.files.io → Drops end rest.files.io
        drops (inl (stays, goes)) =
            λ stops reads_it. absurd (attempt-reads end code next (going-on result over goes) stops)
        drops (inr (status, is, gone)) =
            subst (Drops end) (sym gone) (λ stops reads_it. ended-drops n s.files.io p reads_it)

    call-comes : (code : ℕ) (result : CallResult) (rest : Rest) → end ≡ call_event_end result → act_of s.processes p ≡
        attempts code → IsOnDevice code s p result rest ⊎ IsAside s p result rest
        → Comes end (with_rest s (after_attempt s.processes p result) rest)
    call-comes code result rest over next (inl on) = io-comes code on.call result rest next on.coded on.attempt end over
    call-comes code result rest over next (inr it) = aside-comes code result rest over next it

    acts-come : (act : Act) (t : State) → act_of s.processes p ≡ act → Acts act s p end t → Comes end t
    acts-come executes t next (over, is) =
        subst (Comes end) (sym is) (stopped end _ (instruction-leaves (next_instruction s.processes p) over)
        (instruction-drops next (next_instruction s.processes p) over) refl
        (none-moves s p (none-executing (act_of s.processes p) next)))
    acts-come (delivers signal) t next (over, is) =
        subst (Comes end) (sym is)
        (stopped end _ (delivery-leaves signal next (delivered (before_delivery s p) p signal) over)
        (delivery-drops (delivered (before_delivery s p) p signal) over) refl
        (none-moves s p (none-delivering (act_of s.processes p) signal next)))
    acts-come (attempts code) t next (result, rest, (now, is_now, it), over, is) =
        subst (Comes end) (sym is) (call-comes code result rest over next (served s p code next now rest (service_of code) result (device-asked code) it))

pub event-keys : (s t : State) (end : EventEnd) (n : ℕ) → Event s end t → HasAhead n s → (move : KeyMove) × EventKeys n s end move t × HasAhead n t
event-keys s t end n (p, chosen, lives, acts) has = acts-come s p n chosen has end (act_of s.processes p) t refl acts
