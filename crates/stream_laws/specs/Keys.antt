-- The use of the keys of a terminal (Level Two manual, SCF).
use Rattle.std.specs.Prelude.{◌≡◌, ◌≢◌, ◌⊎◌, ℕ, ◌-◌, ◌<◌, ◌≤◌, min, true, false, Option, Some, None, List, [], ◌∷◌, ◌++◌, length, slice_get, take}
use Rattle.std.specs.List.{AllByRecursion, filter_map, flat_map}
use Rattle.std.specs.Option.{option_map_or}
use Rattle.io_model.specs.Read.{read_call}
use Rattle.os9_base.specs.Count.{Rose}
use Rattle.os9_base.specs.declared.errors.TheConstants.{E_EOF, E_WRITE}
use Rattle.os9_base.specs.declared.registers.Regs.{Regs}
use Rattle.os9_outer.specs.declared.terminal.Key.{Key}
use Rattle.proc_model.specs.MemoryChanges.{stored}
use Rattle.proc_model.specs.Processes.{regs_at}
use Rattle.proc_model.specs.Ready.{attempts, delivers, act_of}
use Rattle.io_model.specs.Edit.{Editing, Typing, cleared}
use Rattle.io_model.specs.Pipe.{Flows, In, Movement, Out, came_in, went_out}
use Rattle.io_model.specs.Terminal.{Terminal, is_taken, key_bytes, reader, typed, typed_bytes}
use Rattle.io_model.specs.declared.edit.LineEnd.TheVariants.{EndOfFile, Line}
use Rattle.io_model.specs.declared.path.Target.TheVariants.{Term}
use Rattle.io_model.specs.declared.terminal.ReadKind.{ReadKind}
use Rattle.io_model.specs.declared.terminal.Reading.{Reading}
use Rattle.io_model.specs.declared.terminal.TheConstants.{TYPE_AHEAD}
use Rattle.io_model.specs.Again.{path_number}
use Rattle.io_model.specs.Attempts.{caller_of}
use Rattle.io_model.specs.Codes.{direction_of_call, io_call_of}
use Rattle.io_model.specs.Io.{Io, OpenPath, pending_at, open_path, terminal_at}
use Rattle.io_model.specs.Pipes.{count_regs}
use Rattle.io_model.specs.Step.{Caller, IoEnd, answers, fails, keeps}
use Rattle.io_model.specs.Waiting.{pid, wait_target}
use Rattle.io_model.specs.declared.io_call.Direction.TheVariants.{Writing}
use Rattle.io_model.specs.declared.io_call.IoCall.{IoCall}
use Rattle.io_model.specs.declared.io_call.IoCall.TheVariants as Call
use Rattle.machine_model.specs.declared.ends.EventEnd.{EventEnd}
use Rattle.machine_model.specs.declared.ends.EventEnd.TheVariants.{Ended}
use Rattle.stream_laws.specs.Flow.{AttemptWithEnd}
use Rattle.machine_model.specs.Event.{Event}
use Rattle.machine_model.specs.Run.{Tick}
use Rattle.machine_model.specs.State.{State}

-- the keys of a terminal that are still to come
abbrev pub keys_to_come : State → ℕ → List Key
keys_to_come s n = option_map_or (λ terminal. terminal.keys) (slice_get s.terms n) []

-- the number of its failures
abbrev pub faults_at : State → ℕ → ℕ
faults_at s n = option_map_or (λ terminal. terminal.faults) (slice_get s.terms n) 0

-- its type-ahead: the keys that have arrived, and that no read has used
abbrev pub ahead_at : State → ℕ → List ℕ
ahead_at s n = (terminal_at s.files.io n).ahead

-- the kernel has the terminal, and its type-ahead has at most as many keys as it may hold
pub record HasAhead (n : ℕ) (s : State) : Type 0 where
  pub within : n < length s.files.io.terminals
  pub few : length (ahead_at s n) ≤ TYPE_AHEAD

-- the arriving keys that go into the type-ahead: none that sends a signal, and none that finds it full
abbrev pub gained : State → ℕ → List Key → List ℕ
gained s n keys = take (TYPE_AHEAD - length (ahead_at s n)) (typed_bytes (key_bytes keys))

-- ---- the line that is typed

-- it stays, with its reader
pub record LineStays (old new : Terminal) : Type 0 where
  pub line : new.line ≡ old.line
  pub reading : new.reading ≡ old.reading

-- it is dropped, with its read; the last finished line is unchanged
pub record LineGoes (last : Editing) (new : Terminal) : Type 0 where
  pub line : new.line ≡ cleared last
  pub reading : new.reading ≡ None

-- the process whose read is unfinished ends in this event, or a signal is delivered to it
pub record ReaderStops (n p : ℕ) (s : State) (end : EventEnd) : Type 0 where
  pub reads : reader (terminal_at s.files.io n) ≡ Some (pid p)
  pub stops : (end ≡ Ended) ⊎ ((signal : ℕ) × (act_of s.processes p ≡ delivers signal))

-- a process attempts a write on a path that was opened on this terminal, and the write is refused because the terminal
-- failed
pub record AttemptedWriteFails (n p : ℕ) (s t : State) : Type 0 where
  pub call : IoCall
  pub attempted : (code : ℕ) × (act_of s.processes p ≡ attempts code) × (io_call_of code ≡ Some call)
  pub way_is : direction_of_call call ≡ Some Writing
  pub path : (opened : OpenPath) × (open_path s.files.io p (path_number call (regs_at s.processes p)) ≡ Some opened)
      × (opened.desc.target ≡ Term n)
  pub ends : AttemptWithEnd s p (λ end. end ≡ fails E_WRITE) t
  pub faults : Rose (faults_at s n) (faults_at t n)

-- an event of the chosen process drops it, and why
pub record DropsLine (n : ℕ) (s : State) (end : EventEnd) (t : State) : Type 0 where
  pub process : ℕ
  pub chosen : s.chosen ≡ Some process
  pub cause : ReaderStops n process s end ⊎ AttemptedWriteFails n process s t
  pub goes : LineGoes (terminal_at s.files.io n).line (terminal_at t.files.io n)

-- ---- ticks

-- these keys arrive in a tick
pub record KeysArrive (n : ℕ) (s : State) (keys : List Key) (t : State) : Type 0 where
  pub come : keys_to_come s n ≡ keys ++ keys_to_come t n
  pub kept : ahead_at t n ≡ ahead_at s n ++ gained s n keys
  pub line : LineStays (terminal_at s.files.io n) (terminal_at t.files.io n)

-- ---- events

-- the number of bytes that a read of a process with these registers asks for: that of the pending call, or Y at its
-- first attempt
abbrev pub asked_by : Io → ℕ → Regs → ℕ
asked_by io p regs = option_map_or (λ pending. pending.count) (pending_at io p) regs.y

-- its read of this kind, as a terminal has it: it asks for 256 bytes at most
abbrev pub reading_of : ReadKind → Io → ℕ → Regs → Reading
reading_of kind io p regs =
    record { process = pid p; kind = kind; most = min (asked_by io p regs) TYPE_AHEAD }

-- a process attempts a read of this kind, whose path was opened on this terminal
pub record AttemptsTerminalRead (s : State) (p n : ℕ) (kind : ReadKind) : Type 0 where
  pub attempted : (code : ℕ) × (act_of s.processes p ≡ attempts code) × (io_call_of code ≡ Some (read_call kind))
  pub path : (opened : OpenPath) × (open_path s.files.io p (regs_at s.processes p).a ≡ Some opened)
      × (opened.desc.target ≡ Term n)

-- The end of an attempt of a read that used keys, by their effect on its line. If they ended the line, its bytes are
-- stored and the read answers their count. If it is refused, the end of the file was typed or the terminal failed, and
-- the line is dropped. If they did not end it, the line stays with the read, no key is left, and the call waits.
abbrev pub ReadEnds : ℕ → State → ℕ → Reading → Typing → State → IoEnd → Type 0
ReadEnds n s p request made t (answers regs) =
    (made.end ≡ Some Line) × (regs ≡ count_regs (caller_of s.processes p) (length made.line.bytes))
    × (t.processes.memory ≡ stored s.processes.memory p (regs_at s.processes p).x made.line.bytes)
    × LineGoes made.line (terminal_at t.files.io n)
ReadEnds n s p request made t (fails number) =
    ((made.end ≡ Some EndOfFile) × (number ≡ E_EOF) ⊎ (number ≡ E_WRITE) × Rose (faults_at s n) (faults_at t n))
    × LineGoes made.line (terminal_at t.files.io n) × (t.processes.memory ≡ s.processes.memory)
ReadEnds n s p request made t (keeps pending) =
    (made.end ≡ None) × ((terminal_at t.files.io n).line ≡ made.line)
    × ((terminal_at t.files.io n).reading ≡ Some request)
    × (ahead_at t n ≡ []) × (t.processes.memory ≡ s.processes.memory)

-- a read of the chosen process uses these keys, the next ones of the type-ahead: its line is the result of all of them,
-- and none is after its end
pub record UsesKeys (n : ℕ) (s : State) (keys : List ℕ) (t : State) : Type 0 where
  pub process : ℕ
  pub chosen : s.chosen ≡ Some process
  pub kind : ReadKind
  pub attempt : AttemptsTerminalRead s process n kind
  pub request : Reading
  pub request_is : request ≡ reading_of kind s.files.io process (regs_at s.processes process)
  pub alone : is_taken request.process (terminal_at s.files.io n) ≡ false
  pub front : ahead_at s n ≡ keys ++ ahead_at t n
  pub used : (typed request (terminal_at s.files.io n).line keys).left ≡ []
  pub ends : AttemptWithEnd s process (ReadEnds n s process request (typed request (terminal_at s.files.io n).line keys)
      t) t
  pub come : keys_to_come t n ≡ keys_to_come s n

-- the process ends in this event, or a signal is delivered to it and its call waits on this terminal
abbrev pub StopsReading : ℕ → ℕ → State → EventEnd → Type 0
StopsReading n p s end =
    (end ≡ Ended)
    ⊎ ((signal : ℕ) × (act_of s.processes p ≡ delivers signal) × (wait_target s.files.io p ≡ Some (Term n)))

-- The end of an attempt of a read that uses no key: it asks for no byte, and is done at once, with the registers with
-- which it was made; it is refused with neither 211 nor 245; or it waits for the read of another process.
abbrev pub UsesNone : ℕ → Caller → Io → IoEnd → Type 0
UsesNone n caller io (answers regs) = (caller.regs.y ≡ 0) × (regs ≡ caller.regs)
UsesNone n caller io (fails number) = (number ≢ E_EOF) × (number ≢ E_WRITE)
UsesNone n caller io (keeps pending) = is_taken caller.process (terminal_at io n) ≡ true

-- no key arrives, and none is used, so an attempt of a read of this terminal ends as one that uses none; the line
-- stays, or it is dropped for a cause, and it is dropped if the reader stops
pub record KeysStay (n : ℕ) (s : State) (end : EventEnd) (t : State) : Type 0 where
  pub ahead : ahead_at t n ≡ ahead_at s n
  pub come : keys_to_come t n ≡ keys_to_come s n
  pub line : LineStays (terminal_at s.files.io n) (terminal_at t.files.io n) ⊎ DropsLine n s end t
  pub over : (p : ℕ) → s.chosen ≡ Some p → reader (terminal_at s.files.io n) ≡ Some (pid p) → StopsReading n p s end
      → (terminal_at t.files.io n).reading ≡ None
  pub reads : (p : ℕ) (kind : ReadKind) → s.chosen ≡ Some p → AttemptsTerminalRead s p n kind
      → AttemptWithEnd s p (UsesNone n (caller_of s.processes p) s.files.io) t
      × (t.processes.memory ≡ s.processes.memory)

-- what happens to keys in a step of a run
pub data KeyMove : Type 0 where
  -- these arrive
  arrive : List Key → KeyMove
  -- these are used
  use_up : List ℕ → KeyMove
  -- none moves
  stay : KeyMove

-- an event uses keys, or leaves them
abbrev pub EventKeys : ℕ → State → EventEnd → KeyMove → State → Type 0
EventKeys n s end (arrive keys) t = ⊥
EventKeys n s end (use_up keys) t = UsesKeys n s keys t
EventKeys n s end stay t = KeysStay n s end t

-- ---- runs

-- a tick or an event of a run, and what happens to the keys in it
pub record KeyStep : Type 0 where
  pub before : State
  pub move : KeyMove
  pub after : State

abbrev pub IsKeyStep : ℕ → KeyStep → Type 0
IsKeyStep n it =
    ((keys : List Key) × (it.move ≡ arrive keys) × Tick it.before it.after × KeysArrive n it.before keys it.after)
    ⊎ ((end : EventEnd) × Event it.before end it.after × EventKeys n it.before end it.move it.after)

-- the keys that arrive in a step
abbrev pub arrived_by : KeyMove → List Key
arrived_by (arrive keys) = keys
arrived_by (use_up keys) = []
arrived_by stay = []

-- what a step moves through the type-ahead
abbrev pub through_ahead : ℕ → State → KeyMove → Option Movement
through_ahead n s (arrive keys) = Some (In (gained s n keys))
through_ahead n s (use_up keys) = Some (Out keys)
through_ahead n s stay = None

abbrev pub ahead_moves : ℕ → List KeyStep → List Movement
ahead_moves n steps = filter_map (λ it. through_ahead n it.before it.move) steps

-- What a run leaves unchanged from one step to the next: a choice, and the host, who takes the bytes that terminals
-- were given, leave unchanged the kernel's input and output, the keys to come, and all of the processes except the
-- order of choice.
pub record KeepsAllButOrder (m s : State) : Type 0 where
  pub io : s.files.io ≡ m.files.io
  pub come : (n : ℕ) → keys_to_come s n ≡ keys_to_come m n
  pub processes : s.processes ≡ record m.processes { order = s.processes.order }

-- each of these steps begins in the state after the one before it, the first one in s, and t is the state after the
-- last one
abbrev pub KeyStepsFollow : State → List KeyStep → State → Type 0
KeyStepsFollow s [] t = KeepsAllButOrder s t
KeyStepsFollow s (it ∷ steps) t = KeepsAllButOrder s it.before × KeyStepsFollow it.after steps t

-- the state after a step, if that is an event
abbrev pub after_event : KeyMove → State → Option State
after_event (arrive keys) after = None
after_event (use_up keys) after = Some after
after_event stay after = Some after

-- The keys of a terminal from one state to another, by ticks and the events that lead through these states: those that
-- arrive are the next ones to come. All keys that reads use, in order, are the front of the type-ahead and of what has
-- entered it, and the rest is what it has.
pub record KeysPass (n : ℕ) (s : State) (states : List State) (t : State) : Type 0 where
  pub steps : List KeyStep
  pub through : filter_map (λ it. after_event it.move it.after) steps ≡ states
  pub linked : KeyStepsFollow s steps t
  pub each : AllByRecursion (IsKeyStep n) steps
  pub come : keys_to_come s n ≡ flat_map (λ it. arrived_by it.move) steps ++ keys_to_come t n
  pub flow : Flows (ahead_moves n steps) (ahead_at s n) (ahead_at t n)
  pub in_order : ahead_at s n ++ flat_map came_in (ahead_moves n steps)
      ≡ flat_map went_out (ahead_moves n steps) ++ ahead_at t n
