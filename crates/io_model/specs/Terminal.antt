-- Terminals: keys that arrive, reads and writes (Level Two manual, SCF; the type-ahead is this project's own).
use Rattle.std.specs.Prelude.{◌≡◌, ℕ, ◌+◌, ◌-◌, ◌<◌, ◌≤◌, ◌==◌, ◌^◌, min, Bool, true, false, MatchBool, not, Option, Some, None, IfSome, is_none, option_map, List, [], ◌∷◌, ◌++◌, length, map, take, drop, filter, replicate, slice_get, All, if◌then◌else◌}
use Rattle.std.specs.Option.{option_map_or}
use Rattle.std.specs.List.{filter_map}
use Rattle.os9_base.specs.declared.registers.Pid.{Pid}
use Rattle.os9_base.specs.Count.{Rose}
use Rattle.os9_outer.specs.Stream.{stream_with, GainsPart}
use Rattle.os9_outer.specs.Terminal.{due_byte}
use Rattle.os9_outer.specs.TerminalState.{TerminalState}
use Rattle.os9_outer.specs.declared.terminal.Key.{Key}
use Rattle.io_model.specs.Edit.{Editing, Edited, Typing, typing, edited, copied, cleared, no_line}
use Rattle.io_model.specs.declared.edit.LineEnd.{LineEnd}
use Rattle.io_model.specs.declared.edit.LineEnd.TheVariants.{Line, EndOfFile}
use Rattle.io_model.specs.declared.keys.TheConstants.{INTERRUPT, QUIT, BELL}
use Rattle.io_model.specs.declared.terminal.Arrival.{Arrival}
use Rattle.io_model.specs.declared.terminal.Progress.{Progress}
use Rattle.io_model.specs.declared.terminal.Progress.TheVariants.{Done, Wait, End, Fault, NoMemory}
use Rattle.io_model.specs.declared.terminal.ReadKind.{ReadKind}
use Rattle.io_model.specs.declared.terminal.ReadKind.TheVariants.{Bytes, WholeLine}
use Rattle.io_model.specs.declared.terminal.Reading.{Reading}
use Rattle.io_model.specs.declared.terminal.TheConstants.{TYPE_AHEAD}

-- a terminal as the kernel keeps it
pub record Terminal : Type 0 where
  pub ahead : List ℕ  -- the type-ahead: the keys that no read has used yet
  pub line : Editing  -- the line of the unfinished read, and the last finished line
  pub reading : Option Reading  -- the unfinished read
  pub user : Option Pid  -- the process that last attempted a read or a write

-- a terminal at the start
abbrev pub new_terminal : Terminal
new_terminal = record { ahead = []; line = no_line; reading = None; user = None }

-- the terminal without an unfinished read; the last finished line stays
abbrev pub without_reading : Terminal → Terminal
without_reading t = record t { line = cleared t.line; reading = None }

-- the terminal with this process as its last user
abbrev pub used_by : Pid → Terminal → Terminal
used_by process t = record t { user = Some process }

-- the process of the unfinished read, if there is one
abbrev pub reader : Terminal → Option Pid
reader t = option_map (λ reading. reading.process) t.reading

-- the two are the same process
abbrev pub is_process : Pid → Pid → Bool
is_process p q = p.0 == q.0

-- the terminal without the unfinished read of this process
abbrev pub released : Pid → Terminal → Terminal
released process t = if option_map_or (is_process process) (reader t) false then without_reading t else t

-- the terminal without a trace of this process
abbrev pub forgotten : Pid → Terminal → Terminal
forgotten process t =
    if option_map_or (is_process process) t.user false
    then record (released process t) { user = None } else released process t

-- Keys that arrive.

-- the signal that a key sends to the last user; no other key sends one
abbrev pub signal_of : ℕ → Option ℕ
signal_of key = if key == INTERRUPT then Some 3 else (if key == QUIT then Some 2 else None)

-- the bytes of keys
abbrev pub key_bytes : List Key → List ℕ
key_bytes keys = map (λ key. key.byte) keys

-- the bytes that send no signal
abbrev pub typed_bytes : List ℕ → List ℕ
typed_bytes bytes = filter (λ byte. is_none (signal_of byte)) bytes

-- the signal of the first byte that sends one
abbrev pub first_signal : List ℕ → Option ℕ
first_signal bytes = slice_get (filter_map signal_of bytes) 0

-- the number of these bytes that find the type-ahead full
abbrev pub dropped_count : List ℕ → List ℕ → ℕ
dropped_count ahead bytes = length ahead + length (typed_bytes bytes) - TYPE_AHEAD

-- the count of faults rose at least `times` times, or is at its maximum
pub record RoseTimes (times before now : ℕ) : Type 0 where
  pub rose : min (before + times) (2 ^ 64 - 1) ≤ now
  pub never_falls : before ≤ now
  pub stood : times ≡ 0 → now ≡ before

-- The keys that are due in a tick arrive: they go into the type-ahead as far as they fit, and a bell is put for each
-- key that does not fit. The first key that sends a signal sends it.
pub record Arrives (tick : ℕ) (old new : Terminal) (before now : TerminalState) (answer : Arrival) : Type 0 where
  pub taken : List Key  -- the keys that arrive
  pub bells : ℕ  -- the bells that are put
  pub mute : ℕ  -- the bells that the driver failed to put
  pub broken : ℕ  -- 1 if the driver failed to give a key, which ends the poll, else 0
  pub once : broken ≤ 1
  pub in_order : before.keys ≡ taken ++ now.keys
  pub due : All (λ key. key.tick ≤ tick) taken
  pub kept : new ≡ record old { ahead = take TYPE_AHEAD (old.ahead ++ typed_bytes (key_bytes taken)) }
  pub signal : answer.signal ≡ first_signal (key_bytes taken)
  pub put : now.put ≡ stream_with before.put (replicate bells BELL)
  pub faults : RoseTimes (mute + broken) before.faults now.faults
  pub every_bell : answer.memory ≡ true → bells + mute ≡ dropped_count old.ahead (key_bytes taken)
  pub last_bell : answer.memory ≡ false → bells + mute + 1 ≡ dropped_count old.ahead (key_bytes taken)
  pub all_taken : answer.memory ≡ true → broken ≡ 0 → due_byte now.keys tick ≡ None
  pub unbroken : answer.memory ≡ false → broken ≡ 0  -- memory was out, the driver did not fail

-- the state of a driver with these keys, these put bytes and this count of faults
abbrev pub driver_with : List Key → List ℕ → ℕ → TerminalState
driver_with keys put faults = record { keys = keys; put = Some put; faults = faults }

-- Reads.

-- what a key makes of a line, by the kind of the read and the number of bytes that it asks for
abbrev pub effect_by : ReadKind → ℕ → Editing → ℕ → Edited
effect_by Bytes most = copied most
effect_by WholeLine most = edited most

-- what a key makes of the line of a read
abbrev pub key_effect : Reading → Editing → ℕ → Edited
key_effect request = effect_by request.kind request.most

-- what a list of keys makes of the line of a read
abbrev pub typed : Reading → Editing → List ℕ → Typing
typed request line keys = typing (key_effect request) line keys

-- another process's read is unfinished
abbrev pub is_taken : Pid → Terminal → Bool
is_taken process t = option_map_or (λ other. not (is_process process other)) (reader t) false

-- if the process has an unfinished read, this read is the same call
abbrev pub IsSameCall : Reading → Terminal → Type 0
IsSameCall request t = IfSome t.reading (λ reading. reading.process ≡ request.process → reading ≡ request)

-- the result of an attempt of a read if every byte of its echo is put
pub record ReadAttempt : Type 0 where
  pub answer : Progress
  pub terminal : Terminal
  pub echo : List ℕ
  pub stored : List ℕ  -- the bytes that are stored into the buffer

-- the terminal after an unfinished read that typed these keys
abbrev pub still_reading : Reading → Typing → Terminal
still_reading request it =
    record { ahead = it.left; line = it.line; reading = Some request; user = Some request.process }

-- the terminal after a finished read, with this line and these keys left
abbrev pub after_reading : Reading → Editing → List ℕ → Terminal
after_reading request line left =
    record { ahead = left; line = cleared line; reading = None; user = Some request.process }

-- the attempt of a read, by what its keys made of its line
abbrev pub attempt_by : Option LineEnd → Typing → Reading → ReadAttempt
attempt_by None it request =
    record { answer = Wait; terminal = still_reading request it; echo = it.echo; stored = [] }
attempt_by (Some EndOfFile) it request =
    record { answer = End; terminal = after_reading request it.line it.left; echo = it.echo; stored = [] }
attempt_by (Some Line) it request =
    record {
      answer = Done (length it.line.bytes);
      terminal = after_reading request it.line it.left;
      echo = it.echo;
      stored = it.line.bytes;
    }

-- the attempt of a read that waits for no other process's read
abbrev pub typed_attempt : Reading → Terminal → ReadAttempt
typed_attempt request t =
    attempt_by (typed request t.line t.ahead).end (typed request t.line t.ahead) request

-- the attempt of a read while another process's read is unfinished
abbrev pub kept_waiting : Reading → Terminal → ReadAttempt
kept_waiting request t =
    record { answer = Wait; terminal = used_by request.process t; echo = []; stored = [] }

-- an attempt of a read: it waits for another process's read, or types the keys of the type-ahead
abbrev pub read_attempt : Reading → Terminal → ReadAttempt
read_attempt request t =
    if is_taken request.process t then kept_waiting request t else typed_attempt request t

-- the attempt has this result
pub record Attempted (attempt : ReadAttempt) (answer : Progress) (new : Terminal) (before now : TerminalState)
    : Type 0 where
  pub answer_is : answer ≡ attempt.answer
  pub terminal : new ≡ attempt.terminal
  pub echo : now.put ≡ stream_with before.put attempt.echo

-- what the last of these keys makes of the line of a read, after the keys before it
abbrev pub last_effect : Reading → Editing → List ℕ → ℕ → Edited
last_effect request line front key = key_effect request (typed request line front).line key

-- A read whose echo was refused: it used the keys up to the one whose echo failed and no others. The echo of the keys
-- before that one is out, and a part of its own echo. If that key ended a line, this line is the last finished one.
pub record BreaksOffEcho (request : Reading) (old new : Terminal) (before now : TerminalState) : Type 0 where
  pub front : List ℕ  -- the keys before the one whose echo failed
  pub key : ℕ  -- the key whose echo failed
  pub rest : List ℕ  -- the keys that are not used
  pub count : ℕ  -- the number of bytes of that key's echo that are out
  pub keys : old.ahead ≡ front ++ key ∷ rest
  pub unfinished : (typed request old.line front).end ≡ None
  pub part : count < length (last_effect request old.line front key).echo
  pub echo : now.put ≡ stream_with before.put
      ((typed request old.line front).echo ++ take count (last_effect request old.line front key).echo)
  pub terminal : new ≡ after_reading request (last_effect request old.line front key).line rest

-- a byte was not put
abbrev pub is_refused : Progress → Bool
is_refused (Done count) = false
is_refused Wait = false
is_refused End = false
is_refused Fault = true
is_refused NoMemory = true

-- the driver failed
abbrev pub is_fault : Progress → Bool
is_fault (Done count) = false
is_fault Wait = false
is_fault End = false
is_fault Fault = true
is_fault NoMemory = false

-- what a call leaves of its terminal's driver: its keys, and its count of faults if it did not fail
pub record LeavesDriver (answer : Progress) (before now : TerminalState) : Type 0 where
  pub keys : now.keys ≡ before.keys
  pub never_falls : before.faults ≤ now.faults
  pub faults : MatchBool (is_fault answer) (Rose before.faults now.faults) (now.faults ≡ before.faults)

-- the buffer with these bytes at its start
abbrev pub stored_over : List ℕ → List ℕ → List ℕ
stored_over bytes buffer = bytes ++ drop (length bytes) buffer

-- an attempt of a read had this answer
pub record TerminalReadAttempt (request : Reading) (answer : Progress) (old new : Terminal) (before now : TerminalState)
    : Type 0 where
  pub outcome : MatchBool (is_refused answer) (BreaksOffEcho request old new before now)
      (Attempted (read_attempt request old) answer new before now)
  pub turn : is_refused answer ≡ true → is_taken request.process old ≡ false
  pub driver : LeavesDriver answer before now

-- what a read stores into its buffer: its bytes if it is done, else nothing
abbrev pub stored_bytes : Progress → Reading → Terminal → List ℕ
stored_bytes answer request t = if is_refused answer then [] else (read_attempt request t).stored

-- Writes.

-- the terminal got a part of these bytes: at least one of them was refused
abbrev pub PutsPart : List ℕ → TerminalState → TerminalState → Type 0
PutsPart bytes before now = GainsPart before.put bytes now.put

-- a write was done: these bytes are out, and it returns this count
pub record IsOutputWritten (process : Pid) (bytes : List ℕ) (count : ℕ) (answer : Progress) (old new : Terminal)
    (before now : TerminalState) : Type 0 where
  pub answer_is : answer ≡ Done count
  pub terminal : new ≡ used_by process old
  pub put : now.put ≡ stream_with before.put bytes

-- a byte of a write was refused: a part of the bytes is out, and there is no unfinished read
pub record IsOutputCutShort (process : Pid) (bytes : List ℕ) (old new : Terminal) (before now : TerminalState) : Type 0
  where
    pub terminal : new ≡ without_reading (used_by process old)
    pub part : PutsPart bytes before now

-- a write of these bytes had this answer; if it was done, it returned this count
pub record TerminalWriteAttempt (process : Pid) (bytes : List ℕ) (count : ℕ) (answer : Progress) (old new : Terminal)
    (before now : TerminalState) : Type 0 where
  pub outcome : MatchBool (is_refused answer) (IsOutputCutShort process bytes old new before now)
      (IsOutputWritten process bytes count answer old new before now)
  pub driver : LeavesDriver answer before now
