-- What a refused call on paths leaves (System Programmer's Manual, "I/O service requests"; what remains of a read or a
-- write that has begun is this project's own).
use Rattle.std.specs.Prelude.{◌≡◌, ◌≢◌, ◌⊎◌, ◌<◌, ℕ, min, false, true, Option, Some, None, List, [], ◌∷◌, ◌++◌, length, take, drop}
use Rattle.std.specs.Option.{option_map_or}
use Rattle.os9_base.specs.Count.{Rose}
use Rattle.os9_outer.specs.Stream.{stream_with}
use Rattle.os9_outer.specs.TerminalState.{TerminalState, ChangesOneTerminal}
use Rattle.proc_model.specs.Records.{IsLiving, record_at, record_of}
use Rattle.proc_model.specs.declared.record.Life.TheVariants.{Running}
use Rattle.proc_model.specs.Attempts.{refused_regs}
use Rattle.proc_model.specs.CallResult.{refused}
use Rattle.proc_model.specs.Processes.{Processes, own_at, regs_at}
use Rattle.proc_model.specs.UserBytes.{user_bytes}
use Rattle.io_model.specs.Line.{line_put}
use Rattle.io_model.specs.Pipe.{IsPipe, pipe_room}
use Rattle.io_model.specs.Terminal.{BreaksOffEcho, PutsPart, Terminal, after_reading, is_taken, typed, used_by, without_reading}
use Rattle.io_model.specs.declared.keys.TheConstants.{END_OF_FILE}
use Rattle.io_model.specs.declared.path.SysPath.{SysPath}
use Rattle.io_model.specs.declared.path.Target.TheVariants.{Term, Pipe}
use Rattle.io_model.specs.declared.terminal.ReadKind.{ReadKind}
use Rattle.io_model.specs.declared.terminal.ReadKind.TheVariants.{Bytes, WholeLine}
use Rattle.io_model.specs.declared.terminal.Reading.{Reading}
use Rattle.io_model.specs.declared.terminal.TheConstants.{TYPE_AHEAD}
use Rattle.io_model.specs.Again.{IsAgain}
use Rattle.io_model.specs.Alone.{is_alone}
use Rattle.io_model.specs.Io.{Io, OpenPath, pending_at, pipe_bytes, terminal_at, with_call, with_pipe_bytes, with_terminal}
use Rattle.io_model.specs.Step.{Caller}
use Rattle.io_model.specs.Write.{error_line, line_bytes}
use Rattle.io_model.specs.Attempts.{IoAttempts, caller_of}
use Rattle.io_model.specs.Codes.{direction_of_call}
use Rattle.io_model.specs.declared.io_call.Direction.TheVariants as Way
use Rattle.io_model.specs.declared.io_call.IoCall.{IoCall}
use Rattle.io_model.specs.declared.io_call.IoCall.TheVariants as Call
use Rattle.call_laws.specs.Causes.{IsOn, StatedCause, asked_by}

-- ---- the processes

-- memory is unchanged, and so are the bytes that each process sees and everything else of the processes, except B and
-- the condition codes of the caller, which does not wait any more, and whose call is over
pub record LeavesProcesses (m : Processes) (p number : ℕ) (n : Processes) : Type 0 where
  pub memory : n.memory ≡ m.memory
  pub order : n.order ≡ m.order
  pub tick : n.tick ≡ m.tick
  pub records : (q : ℕ) → q ≢ p → record_of n.records q ≡ record_of m.records q
  pub own : (q : ℕ) → q ≢ p → own_at n q ≡ own_at m q
  pub caller : IsLiving m.records p → record_of n.records p
      ≡ Some (record (record_at m.records p) { regs = refused_regs (regs_at m p) number; life = Running })
  pub call : p < length m.own → own_at n p ≡ record (own_at m p) { call = None; until = None; woken = false }

-- ---- input and output

-- input and output are unchanged, except the pending call of the process, which is removed; the terminals are
-- unchanged
pub record ChangesNothing (p : ℕ) (io new : Io) (before after : List TerminalState) : Type 0 where
  pub now : new ≡ with_call io p None
  pub same : after ≡ before

-- the state with this terminal, or with these bytes in a pipe, and without a pending call
abbrev pub on_terminal : Io → ℕ → Terminal → ℕ → Io
on_terminal io n terminal p = with_call (with_terminal io n terminal) p None

abbrev pub on_pipe : Io → ℕ → List ℕ → ℕ → Io
on_pipe io n bytes p = with_call (with_pipe_bytes io n bytes) p None

-- ---- reads

-- the number of bytes that earlier attempts of a call have moved
abbrev pub moved_before : Caller → Io → ℕ
moved_before caller io = option_map_or (λ pending. pending.moved) (pending_at io caller.process.0) 0

-- the path on which a pending call was made, or a new one is made
abbrev pub path_of : Caller → Io → OpenPath → SysPath
path_of caller io opened = option_map_or (λ pending. pending.path) (pending_at io caller.process.0) opened.path

-- the kind of a read
abbrev pub kind_of : IoCall → Option ReadKind
kind_of Call.Read = Some Bytes
kind_of Call.ReadLn = Some WholeLine
kind_of call = None

-- the call is this read, in the form for a terminal: it asks for 256 bytes at most
pub record IsRequest (call : IoCall) (caller : Caller) (io : Io) (request : Reading) : Type 0 where
  pub kind : kind_of call ≡ Some request.kind
  pub process : request.process ≡ caller.process
  pub most : request.most ≡ min (asked_by caller io) TYPE_AHEAD

-- the terminal was given these bytes, and did not fail
pub record IsGivenBytes (bytes : List ℕ) (old now : TerminalState) : Type 0 where
  pub put : now.put ≡ stream_with old.put bytes
  pub keys : now.keys ≡ old.keys
  pub faults : now.faults ≡ old.faults

-- the terminal failed, and its count of faults rose; its keys to come are unchanged
pub record HasFailed (old now : TerminalState) : Type 0 where
  pub faults : Rose old.faults now.faults
  pub keys : now.keys ≡ old.keys

-- 211 of a terminal: a read that has moved no byte, or whose line is empty, finds the key 1B. It has used the keys up
-- to and including that one, their echo is out, no read is unfinished there, and the caller is the last user.
pub record EndsAtKey (call : IoCall) (caller : Caller) (io new : Io) (before after : List TerminalState) : Type 0 where
  pub terminal : ℕ
  pub on : IsOn call caller io (Term terminal)
  pub request : Reading
  pub request_is : IsRequest call caller io request
  pub turn : is_taken request.process (terminal_at io terminal) ≡ false
  pub front : List ℕ  -- the keys before that one
  pub rest : List ℕ  -- the keys that are not used
  pub keys : (terminal_at io terminal).ahead ≡ front ++ END_OF_FILE ∷ rest
  pub unfinished : (typed request (terminal_at io terminal).line front).end ≡ None
  pub empty : (typed request (terminal_at io terminal).line front).line.bytes ≡ []
  pub now : new ≡ on_terminal io terminal
      (after_reading request (typed request (terminal_at io terminal).line front).line rest) caller.process.0
  pub out : ChangesOneTerminal (IsGivenBytes (typed request (terminal_at io terminal).line front).echo) terminal before
      after

-- 211 of a pipe: a read that has moved no byte of a line finds it empty, and nobody else could end a wait of the
-- caller. Nothing changes.
pub record FindsNoByte (call : IoCall) (caller : Caller) (io new : Io) (before after : List TerminalState)
    : Type 0 where
  pub pipe : ℕ
  pub on : IsOn call caller io (Pipe pipe)
  pub reads : direction_of_call call ≡ Some Way.Reading
  pub empty : pipe_bytes io pipe ≡ []
  pub alone : is_alone io caller.process.0 (path_of caller io on.opened).0 Way.Reading ≡ true
  pub unmoved : call ≡ Call.ReadLn → moved_before caller io ≡ 0
  pub still : new ≡ on_pipe io pipe [] caller.process.0  -- the pipe is as empty as it was
  pub nothing : IsPipe io.pipes pipe → ChangesNothing caller.process.0 io new before after
  pub same : after ≡ before

-- 245 of a read of a terminal: its echo fails. It has used the keys up to the one whose echo failed; no read is
-- unfinished there, and the caller is the last user.
pub record EchoFails (call : IoCall) (caller : Caller) (io new : Io) (before after : List TerminalState) : Type 0 where
  pub terminal : ℕ
  pub on : IsOn call caller io (Term terminal)
  pub request : Reading
  pub request_is : IsRequest call caller io request
  pub turn : is_taken request.process (terminal_at io terminal) ≡ false
  pub left : Terminal
  pub now : new ≡ on_terminal io terminal left caller.process.0
  pub out : ChangesOneTerminal (λ old now. BreaksOffEcho request (terminal_at io terminal) left old now
      × HasFailed old now)
      terminal before after

-- ---- writes

-- the bytes that a write sends in all
abbrev pub sent_by : IoCall → Caller → Io → Option (List ℕ)
sent_by Call.Write caller io = user_bytes caller.cells caller.regs.x caller.regs.y
sent_by Call.WritLn caller io = line_bytes caller (pending_at io caller.process.0)
sent_by Call.PErr caller io = Some (error_line caller.regs.b)
sent_by call caller io = None

-- what a terminal puts of them: a line feed after the carriage return of a line
abbrev pub put_by : IoCall → List ℕ → List ℕ
put_by Call.WritLn bytes = line_put bytes
put_by Call.PErr bytes = line_put bytes
put_by call bytes = bytes

-- 245 of a write to a terminal: a part of the bytes is out, no read is unfinished there, whoever's it was, and the
-- caller is the last user
pub record TerminalWriteFails (call : IoCall) (caller : Caller) (io new : Io) (before after : List TerminalState)
    : Type 0 where
  pub terminal : ℕ
  pub on : IsOn call caller io (Term terminal)
  pub bytes : List ℕ
  pub sends : sent_by call caller io ≡ Some bytes
  pub now : new ≡ on_terminal io terminal (without_reading (used_by caller.process (terminal_at io terminal)))
      caller.process.0
  pub out : ChangesOneTerminal (λ old now. PutsPart (put_by call bytes) old now × HasFailed old now)
      terminal before after

-- the bytes that a write still has to move
abbrev pub left_of : Caller → Io → List ℕ → List ℕ
left_of caller io bytes = drop (moved_before caller io) bytes

-- what a pipe holds after those of them for which it has room were put in
abbrev pub held_then : Caller → Io → ℕ → List ℕ → List ℕ
held_then caller io pipe bytes =
    pipe_bytes io pipe ++ take (pipe_room (pipe_bytes io pipe)) (left_of caller io bytes)

-- 245 of a pipe: nobody else could end a wait of the caller. The bytes for which there was room are in the pipe, and if
-- the pending call is of it, the pipe is full.
pub record FindsNoReader (call : IoCall) (caller : Caller) (io new : Io) (before after : List TerminalState)
    : Type 0 where
  pub pipe : ℕ
  pub on : IsOn call caller io (Pipe pipe)
  pub alone : is_alone io caller.process.0 (path_of caller io on.opened).0 Way.Writing ≡ true
  pub bytes : List ℕ
  pub sends : sent_by call caller io ≡ Some bytes
  pub now : new ≡ on_pipe io pipe (held_then caller io pipe bytes) caller.process.0
  pub full : IsAgain call caller.regs io caller.process.0 → pipe_room (held_then caller io pipe bytes) ≡ 0
  pub same : after ≡ before

-- ---- a refused attempt

-- what is left after 211
abbrev pub LeftAtEnd : IoCall → Caller → Io → Io → List TerminalState → List TerminalState → Type 0
LeftAtEnd call caller io new before after =
    FindsNoByte call caller io new before after ⊎ EndsAtKey call caller io new before after

-- what is left after 245
abbrev pub LeftAtFault : IoCall → Caller → Io → Io → List TerminalState → List TerminalState → Type 0
LeftAtFault call caller io new before after =
    EchoFails call caller io new before after
    ⊎ TerminalWriteFails call caller io new before after
    ⊎ FindsNoReader call caller io new before after

-- an attempt of a call on paths by a process, refused with this number
pub record RefusedAttempt : Type 0 where
  pub call : IoCall
  pub process : ℕ
  pub processes : Processes
  pub io : Io
  pub drives : ℕ
  pub terms : List TerminalState
  pub number : ℕ
  pub new : Io  -- input and output then
  pub left : List TerminalState  -- the terminals then
  pub attempted : IoAttempts call processes io drives process (refused number) new terms left

-- the calling process
abbrev pub caller_in : RefusedAttempt → Caller
caller_in it = caller_of it.processes it.process

-- nothing has changed
abbrev pub KeepsAll : RefusedAttempt → Type 0
KeepsAll it = ChangesNothing it.process it.io it.new it.terms it.left

-- what is left after 211, and after 245
abbrev pub LeavesAtEnd : RefusedAttempt → Type 0
LeavesAtEnd it = LeftAtEnd it.call (caller_in it) it.io it.new it.terms it.left

abbrev pub LeavesAtFault : RefusedAttempt → Type 0
LeavesAtFault it = LeftAtFault it.call (caller_in it) it.io it.new it.terms it.left

-- the number has its cause
abbrev pub HasCause : RefusedAttempt → Type 0
HasCause it = StatedCause it.call (caller_in it) it.io it.drives (length it.terms) it.number
