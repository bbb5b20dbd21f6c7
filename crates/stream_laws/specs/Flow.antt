-- What events move through a pipe (Level Two manual, "Pipes").
use Rattle.std.specs.Prelude.{◌≡◌, ◌≢◌, ℕ, ⊤, ◌+◌, ◌-◌, ◌<◌, Option, Some, None, List, [], ◌∷◌, ◌++◌, length, map, take, drop, if◌then◌else◌}
use Rattle.std.specs.List.{AllByRecursion, filter_map, flat_map}
use Rattle.std.specs.Option.{option_map_or}
use Rattle.call_laws.specs.Refusals.{sent_by}
use Rattle.os9_base.specs.declared.calls.TheConstants.{I_READ}
use Rattle.os9_base.specs.declared.registers.Regs.{Regs}
use Rattle.proc_model.specs.MemoryChanges.{stored}
use Rattle.proc_model.specs.Records.{is_waiting, record_at}
use Rattle.proc_model.specs.Attempts.{after_attempt, refused_regs}
use Rattle.proc_model.specs.Delivery.{frame_bytes, stack_top}
use Rattle.proc_model.specs.Processes.{Processes, regs_at}
use Rattle.proc_model.specs.Ready.{attempts, delivers, act_of}
use Rattle.io_model.specs.Pipe.{Flows, IsPipe, Movement, In, Out, came_in, pipe_of, pipe_room, went_out}
use Rattle.io_model.specs.declared.pending.PendingCall.{PendingCall}
use Rattle.io_model.specs.declared.path.Target.TheVariants.{Pipe}
use Rattle.io_model.specs.Again.{path_number}
use Rattle.io_model.specs.Attempts.{caller_of, io_after, result_of}
use Rattle.io_model.specs.Codes.{direction_of_call, io_call_of}
use Rattle.io_model.specs.Io.{Io, OpenPath, pending_at, open_path, pipe_bytes, target_of}
use Rattle.io_model.specs.Pipes.{count_regs}
use Rattle.io_model.specs.Step.{Caller, IoEffect, IoEnd, answers, fails, keeps}
use Rattle.io_model.specs.declared.io_call.Direction.{Direction}
use Rattle.io_model.specs.declared.io_call.Direction.TheVariants.{Reading, Writing}
use Rattle.io_model.specs.declared.io_call.IoCall.{IoCall}
use Rattle.io_model.specs.declared.io_call.IoCall.TheVariants as Call
use Rattle.machine_model.specs.declared.ends.EventEnd.{EventEnd}
use Rattle.machine_model.specs.Event.{Event}
use Rattle.machine_model.specs.State.{State}

-- ---- one attempt

-- the number of bytes that earlier attempts of a call of a process have moved
abbrev pub moved_before : Io → ℕ → ℕ
moved_before io p = option_map_or (λ pending. pending.moved) (pending_at io p) 0

-- the address at which a read stores: I$ReadLn after what it has moved
abbrev pub stored_from : IoCall → Regs → ℕ → ℕ
stored_from Call.ReadLn regs moved = regs.x + moved
stored_from call regs moved = regs.x

-- a process attempts a call that moves bytes this way, whose path was opened on this pipe
pub record AttemptsOn (s : State) (p n : ℕ) (call : IoCall) (way : Direction) : Type 0 where
  pub attempted : (code : ℕ) × (act_of s.processes p ≡ attempts code) × (io_call_of code ≡ Some call)
  pub way_is : direction_of_call call ≡ Some way
  pub path : (opened : OpenPath) × (open_path s.files.io p (path_number call (regs_at s.processes p)) ≡ Some opened)
      × (opened.desc.target ≡ Pipe n)

-- the number of bytes that a call moves in all: that of the pending call, or of its first attempt
abbrev pub in_all : Io → ℕ → ℕ → ℕ
in_all io p first = option_map_or (λ pending. pending.count) (pending_at io p) first

-- the registers of the caller after a finished read that took `count` bytes in this attempt: I$ReadLn adds those of the
-- attempts before
abbrev pub read_answers : IoCall → Caller → Io → ℕ → Regs
read_answers Call.ReadLn caller io count = count_regs caller (moved_before io caller.process.0 + count)
read_answers call caller io count = count_regs caller count

-- the registers of the caller after a finished write that sends `count` bytes in all: F$PErr answers no count
abbrev pub write_answers : IoCall → Caller → ℕ → Regs
write_answers Call.PErr caller count = caller.regs
write_answers call caller count = count_regs caller count

-- the end of a read that took `count` bytes: if it waits it has moved `count` more; if it is done it answers them; and
-- if it is refused it took none
abbrev pub ReadCounts : IoCall → Caller → Io → ℕ → IoEnd → Type 0
ReadCounts call caller io count (answers regs) = regs ≡ read_answers call caller io count
ReadCounts call caller io count (fails number) = count ≡ 0
ReadCounts call caller io count (keeps pending) = pending.moved ≡ moved_before io caller.process.0 + count

-- the end of a write that sends these bytes and put in `count`: if it waits it has moved `count` more; if it is done it
-- has moved all and answers their count; and if one with bytes left is refused, it still has some left
abbrev pub WriteCounts : IoCall → Caller → Io → List ℕ → ℕ → IoEnd → Type 0
WriteCounts call caller io sent count (answers regs) =
    (moved_before io caller.process.0 + count ≡ in_all io caller.process.0 (length sent))
    × (regs ≡ write_answers call caller (length sent))
WriteCounts call caller io sent count (fails number) =
    moved_before io caller.process.0 < in_all io caller.process.0 (length sent)
    → moved_before io caller.process.0 + count ≢ in_all io caller.process.0 (length sent)
WriteCounts call caller io sent count (keeps pending) = pending.moved ≡ moved_before io caller.process.0 + count

-- The end of an attempt on a pipe that moves no byte of it: it is refused; or its call asks for none, and is done at
-- once, with the registers with which it was made. F$PErr always sends a line.
abbrev pub MovesNone : Caller → IoEnd → Type 0
MovesNone caller (answers regs) = (caller.regs.y ≡ 0) × (regs ≡ caller.regs)
MovesNone caller (fails number) = ⊤
MovesNone caller (keeps pending) = ⊥

-- an attempt of a process with this kind of end leads to this state
pub record AttemptWithEnd (s : State) (p : ℕ) (Counts : IoEnd → Type 0) (t : State) : Type 0 where
  pub effect : IoEffect
  pub processes : t.processes ≡ after_attempt s.processes p (result_of s.processes p effect)
  pub io : t.files.io ≡ io_after p effect
  pub counts : Counts effect.end

-- a read takes bytes out of a pipe, from its front, and its process sees them then
pub record TakesOut (n : ℕ) (s : State) (bytes : List ℕ) (t : State) : Type 0 where
  pub process : ℕ
  pub chosen : s.chosen ≡ Some process
  pub call : IoCall
  pub attempt : AttemptsOn s process n call Reading
  pub front : pipe_bytes s.files.io n ≡ bytes ++ pipe_bytes t.files.io n
  -- a read with a byte left to move that takes none finds none
  pub none : bytes ≡ [] → moved_before s.files.io process < in_all s.files.io process (regs_at s.processes process).y
      → pipe_bytes s.files.io n ≡ []
  pub seen : t.processes.memory
      ≡ stored s.processes.memory process
      (stored_from call (regs_at s.processes process) (moved_before s.files.io process)) bytes
  pub counts : AttemptWithEnd s process (ReadCounts call (caller_of s.processes process) s.files.io (length bytes)) t

-- a write puts bytes into a pipe, at its end: the next ones of those that its process sends
pub record PutsIn (n : ℕ) (s : State) (bytes : List ℕ) (t : State) : Type 0 where
  pub process : ℕ
  pub chosen : s.chosen ≡ Some process
  pub call : IoCall
  pub attempt : AttemptsOn s process n call Writing
  pub behind : pipe_bytes t.files.io n ≡ pipe_bytes s.files.io n ++ bytes
  pub sent : List ℕ
  pub sends : sent_by call (caller_of s.processes process) s.files.io ≡ Some sent
  pub next : bytes ≡ take (length bytes) (drop (moved_before s.files.io process) sent)
  -- a write with a byte left to move that puts none in finds no room
  pub none : bytes ≡ [] → moved_before s.files.io process < length sent → pipe_room (pipe_bytes s.files.io n) ≡ 0
  pub memory : t.processes.memory ≡ s.processes.memory
  pub counts : AttemptWithEnd s process (WriteCounts call (caller_of s.processes process) s.files.io sent
      (length bytes)) t

-- ---- events

-- an event leaves a pipe unchanged; if it is an attempt of a call on it, that moves no byte, and stores none
pub record LeavesPipe (n : ℕ) (s t : State) : Type 0 where
  pub held : pipe_bytes t.files.io n ≡ pipe_bytes s.files.io n
  pub attempt : (p : ℕ) (call : IoCall) (way : Direction) → s.chosen ≡ Some p → AttemptsOn s p n call way
      → AttemptWithEnd s p (MovesNone (caller_of s.processes p)) t × (t.processes.memory ≡ s.processes.memory)

-- an event moves this through a pipe, or leaves it unchanged
abbrev pub MovesThrough : ℕ → State → Option Movement → State → Type 0
MovesThrough n s None t = LeavesPipe n s t
MovesThrough n s (Some (In bytes)) t = PutsIn n s bytes t
MovesThrough n s (Some (Out bytes)) t = TakesOut n s bytes t

abbrev pub Passes : ℕ → State → State → Type 0
Passes n s t = (moved : Option Movement) × MovesThrough n s moved t

-- an event of a run, and what it moves
pub record Passing : Type 0 where
  pub before : State
  pub moved : Option Movement
  pub after : State

abbrev pub IsPassing : ℕ → Passing → Type 0
IsPassing n it = (end : EventEnd) × Event it.before end it.after × MovesThrough n it.before it.moved it.after

-- a pipe exists after an event, and did not exist before; no path of a process was opened on it before
pub record IsNew (n : ℕ) (s t : State) : Type 0 where
  pub absent : pipe_of s.files.io.pipes n ≡ None
  pub unused : (p number : ℕ) (opened : OpenPath) → open_path s.files.io p number ≡ Some opened
      → opened.desc.target ≢ Pipe n
  pub lives : IsPipe t.files.io.pipes n

-- ---- signals

-- a signal is delivered to a process whose call, another one than I$Read, waits on this pipe
pub record IsBrokenOff (n : ℕ) (s : State) (p : ℕ) (pending : PendingCall) : Type 0 where
  pub chosen : s.chosen ≡ Some p
  pub signal : (number : ℕ) × (act_of s.processes p ≡ delivers number)
  pub call : pending_at s.files.io p ≡ Some pending
  pub on : target_of s.files.io pending.path ≡ Some (Pipe n)
  pub counts : pending.code ≢ I_READ

-- the registers of a process with this in Y
abbrev pub with_y : Processes → ℕ → ℕ → Regs
with_y processes p y = record (regs_at processes p) { y = y }

-- the registers that are pushed for the routine of its intercept: a pending call ends as refused with the signal
abbrev pub pushed_regs : Processes → ℕ → ℕ → ℕ → Regs
pushed_regs processes p signal y =
    if is_waiting (record_at processes.records p).life then
    refused_regs (with_y processes p y) signal else with_y processes p y

-- a frame is pushed whose Y has the number of bytes that the call has moved
pub record TellsMoved (before : Processes) (p signal moved : ℕ) (after : Processes) : Type 0 where
  pub frame : after.memory
      ≡ stored before.memory p (stack_top (regs_at before p).s - 12) (frame_bytes (pushed_regs before p signal moved))

-- ---- runs

-- What a run leaves unchanged from one event to the next: ticks, choices and the host, who takes the bytes that
-- terminals were given, leave pipes, paths, pending calls, memory and registers unchanged.
pub record KeepsStreams (m s : State) : Type 0 where
  pub pipes : s.files.io.pipes ≡ m.files.io.pipes
  pub paths : s.files.io.paths ≡ m.files.io.paths
  pub calls : s.files.io.calls ≡ m.files.io.calls
  pub memory : s.processes.memory ≡ m.processes.memory
  pub regs : (p : ℕ) → regs_at s.processes p ≡ regs_at m.processes p

-- each of these events begins in the state after the one before it, the first one in s, and t is the state after the
-- last one
abbrev pub Linked : State → List Passing → State → Type 0
Linked s [] t = KeepsStreams s t
Linked s (it ∷ events) t = KeepsStreams s it.before × Linked it.after events t

-- the pipe lives in each of these states
abbrev pub AllLive : ℕ → List State → Type 0
AllLive n states = AllByRecursion (λ (s : State). IsPipe s.files.io.pipes n) states

-- what events that lead through these states move through a pipe, one after another
abbrev pub moved_by : List Passing → List Movement
moved_by events = filter_map (λ it. it.moved) events

-- what passes through a pipe from one state to another, through these: everything read is the front of what was in it
-- and is put in, and the rest is what it holds
pub record PassesThrough (n : ℕ) (s : State) (states : List State) (t : State) : Type 0 where
  pub events : List Passing
  pub through : map (λ it. it.after) events ≡ states
  pub linked : Linked s events t
  pub each : AllByRecursion (IsPassing n) events
  pub flow : Flows (moved_by events) (pipe_bytes s.files.io n) (pipe_bytes t.files.io n)
  pub in_order : pipe_bytes s.files.io n ++ flat_map came_in (moved_by events)
      ≡ flat_map went_out (moved_by events) ++ pipe_bytes t.files.io n
