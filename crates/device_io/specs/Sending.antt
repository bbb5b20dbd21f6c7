-- Writes as a process may attempt them, and what they do on a path that they found.
use Rattle.std.specs.Prelude.{◌≡◌, ℕ, ◌==◌, ⊤, IfSome, Some, None, List, length, if◌then◌else◌}
use Rattle.os9_base.specs.Cells.{Cells}
use Rattle.os9_base.specs.declared.call.CallEnd.{CallEnd}
use Rattle.os9_base.specs.declared.call.CallEnd.TheVariants as End
use Rattle.os9_base.specs.declared.calls.TheConstants.{I_WRITE, I_WRITLN, F_PERR}
use Rattle.os9_base.specs.declared.errors.TheConstants.{E_WRITE}
use Rattle.os9_base.specs.declared.registers.Pid.{Pid}
use Rattle.os9_base.specs.declared.registers.Regs.{Regs}
use Rattle.os9_outer.specs.TerminalState.{TerminalState, ChangesOneTerminal}
use Rattle.io_model.specs.Line.{line_length, line_put}
use Rattle.io_model.specs.Terminal.{TerminalWriteAttempt}
use Rattle.io_model.specs.declared.pending.PendingCall.{PendingCall}
use Rattle.io_model.specs.declared.path.Target.{Target}
use Rattle.io_model.specs.declared.path.Target.TheVariants.{Pipe}
use Rattle.io_model.specs.declared.terminal.Progress.{Progress}
use Rattle.io_model.specs.Again.{IsAgain, path_number}
use Rattle.io_model.specs.Attempts.{HasIoEffect, pending_in}
use Rattle.io_model.specs.Io.{Io, OpenPath, pending_at, terminal_at, with_call, with_terminal}
use Rattle.io_model.specs.Modes.{can_write}
use Rattle.io_model.specs.Step.{Caller, IoEnd, IoStep, done, leaves, writes}
use Rattle.io_model.specs.Transfer.{call_now, on_path}
use Rattle.io_model.specs.Write.{Sending, sent_bytes, sent_line, writes_target}
use Rattle.io_model.specs.declared.io_call.IoCall.{IoCall}
use Rattle.io_model.specs.declared.io_call.IoCall.TheVariants as Call
use Rattle.io_state.specs.Sound.{MayWait, target_at}
use Rattle.io_state.specs.declared.requester.Requester.{Requester}
use Rattle.device_io.specs.Leaving.{IsTold}
use Rattle.device_io.specs.Streams.{Streams}
use Rattle.io_model.specs.Memory.{WantsMemory}
use Rattle.device_io.specs.declared.sending.WriteKind.{WriteKind}
use Rattle.device_io.specs.declared.sending.WriteKind.TheVariants.{Bytes, Line, ErrorLine}

-- the call for this kind of write, and its code
abbrev pub write_call : WriteKind → IoCall
write_call Bytes = Call.Write
write_call Line = Call.WritLn
write_call ErrorLine = Call.PErr

abbrev pub write_code : WriteKind → ℕ
write_code Bytes = I_WRITE
write_code Line = I_WRITLN
write_code ErrorLine = F_PERR

-- what it sends of these bytes
abbrev pub sent : WriteKind → Caller → List ℕ → Sending
sent Bytes caller bytes = sent_bytes caller bytes
sent Line caller bytes = sent_line caller bytes
sent ErrorLine caller bytes = record { bytes = bytes; put = line_put bytes; regs = caller.regs }

-- what a terminal puts of them
abbrev pub put_of : WriteKind → List ℕ → List ℕ
put_of Bytes bytes = bytes
put_of Line bytes = line_put bytes
put_of ErrorLine bytes = line_put bytes

-- the number of them that a terminal takes: no byte after the first carriage return of a line
abbrev pub put_count : WriteKind → List ℕ → ℕ
put_count Bytes bytes = length bytes
put_count Line bytes = line_length bytes
put_count ErrorLine bytes = line_length bytes

-- the registers if it is done with `count` of them
abbrev pub regs_done : WriteKind → Regs → ℕ → Regs
regs_done Bytes regs count = record regs { y = count }
regs_done Line regs count = record regs { y = count }
regs_done ErrorLine regs count = regs

-- if a line is written, the bytes are a line: a terminal takes all of them
abbrev pub IsLineOf : WriteKind → List ℕ → Type 0
IsLineOf kind bytes = put_count kind bytes ≡ length bytes

-- the first attempt of a line write moves a line
abbrev pub IsLineFirst : WriteKind → Io → ℕ → List ℕ → Type 0
IsLineFirst kind io p bytes = pending_at io p ≡ None → IsLineOf kind bytes

-- a process may attempt this kind of write of `count` bytes: its pending call, if it has one, is this write
pub record MaySend (kind : WriteKind) (by : Requester) (io : Io) (count : ℕ) : Type 0 where
  pub again : IsAgain (write_call kind) by.regs io by.p.0
  pub same : IfSome (pending_at io by.p.0) (λ pending. pending.count ≡ count)

-- a process may attempt a write of `count` bytes in this call, on this target: on a pipe it may wait in it
pub record MayWriteTarget (io : Io) (p : ℕ) (target : Target) (call : PendingCall) (count : ℕ) : Type 0 where
  pub on : target_at io.paths call.path.0 ≡ Some target
  pub may : (pipe : ℕ) → target ≡ Pipe pipe → MayWait io.paths p call
  pub all : count ≡ call.count

-- ---- steps

-- a caller with these registers and these cells
abbrev pub sender : Pid → Regs → Cells → Caller
sender p regs cells = record { process = p; regs = regs; cells = cells }

-- an attempt on a terminal, which leaves its process these registers when it is done
abbrev pub put_on : WriteKind → ℕ → List ℕ → Regs → IoStep
put_on kind n bytes told = writes (record { terminal = n; put = put_of kind bytes; count = length bytes; regs = told })

-- an attempt on the target of its path
unfoldable pub write_on : WriteKind → PendingCall → Target → Caller → Io → List ℕ → IoStep
write_on kind call target caller io bytes = writes_target (sent kind caller bytes) caller io call target

-- an attempt on a path that may be written
unfoldable pub write_open : WriteKind → OpenPath → Caller → Io → List ℕ → IoStep
write_open kind opened caller io bytes =
    if length bytes == 0 then done (sent kind caller bytes).regs io
    else write_on kind (call_now caller io (write_code kind) opened (length bytes)) opened.desc.target caller io bytes

-- an attempt whose bytes are in named slots
unfoldable pub write_named : WriteKind → Caller → Io → List ℕ → IoStep
write_named kind caller io bytes =
    on_path caller io (path_number (write_call kind) caller.regs) can_write
    (λ opened. write_open kind opened caller io bytes)

-- ---- the result of an attempt before its process gets it

-- an attempt does this, and stores nothing: the result for its process, with these registers if it is done, and the
-- state and the terminals after it
pub record Tells (step : IoStep) (caller : Caller) (io : Io) (regs : Regs) (end : CallEnd) (new : Io)
    (before after : List TerminalState) : Type 0 where
  pub it : IoEnd
  pub between : Io
  pub does : HasIoEffect step caller io (leaves it between) before after
  pub told : IsTold it regs end
  pub state : new ≡ with_call between caller.process.0 (pending_in it)

-- an attempt ends in this way, or is out of memory
abbrev pub Sends : IoStep → Caller → Io → Regs → CallEnd → Io → List TerminalState → List TerminalState → Type 0
Sends step caller io regs End.Done new before after = Tells step caller io regs End.Done new before after
Sends step caller io regs (End.Error number) new before after =
    Tells step caller io regs (End.Error number) new before after
Sends step caller io regs End.Wait new before after = Tells step caller io regs End.Wait new before after
Sends step caller io regs End.Ended new before after = Tells step caller io regs End.Ended new before after
Sends step caller io regs End.NoMemory new before after = WantsMemory step caller io before after

-- this kind of write, with this step and these bytes, ends in this way with any cells
abbrev pub SendsFrom : WriteKind → (Caller → Io → List ℕ → IoStep) → Requester → List ℕ → CallEnd → Streams → Streams
    → Type 0
SendsFrom kind step by bytes end before after =
    (cells : Cells) → Sends (step (sender by.p by.regs cells) before.io bytes) (sender by.p by.regs cells) before.io
    (regs_done kind by.regs (length bytes)) end after.io before.terms after.terms

-- a terminal gives this answer to this kind of write of these bytes, and the call is not pending
pub record IsPut (kind : WriteKind) (p : Pid) (n : ℕ) (bytes : List ℕ) (answer : Progress) (before after : Streams)
    : Type 0 where
  pub device : ChangesOneTerminal
      (TerminalWriteAttempt p (put_of kind bytes) (put_count kind bytes) answer (terminal_at before.io n)
      (terminal_at after.io n)) n
      before.terms after.terms
  pub io : after.io ≡ with_call (with_terminal before.io n (terminal_at after.io n)) p.0 None

-- how a write of a terminal ends after this answer; it never waits, and finds no end of the file
abbrev pub PutEnds : Progress → CallEnd → Type 0
PutEnds (Progress.Done count) end = end ≡ End.Done
PutEnds Progress.Wait end = ⊥
PutEnds Progress.End end = ⊥
PutEnds Progress.Fault end = end ≡ End.Error E_WRITE
PutEnds Progress.NoMemory end = end ≡ End.NoMemory

-- a write of a terminal may have this answer
abbrev pub IsPutAnswer : Progress → Type 0
IsPutAnswer (Progress.Done count) = ⊤
IsPutAnswer Progress.Wait = ⊥
IsPutAnswer Progress.End = ⊥
IsPutAnswer Progress.Fault = ⊤
IsPutAnswer Progress.NoMemory = ⊤
