-- Attempts of the calls on paths: each call by its code, and what an attempt leaves (System Programmer's Manual, "I/O
-- service requests").
use Rattle.std.specs.Prelude.{◌≡◌, ℕ, Option, Some, None, List, length}
use Rattle.os9_base.specs.declared.call.CallEnd.{CallEnd}
use Rattle.os9_base.specs.declared.call.CallEnd.TheVariants.{Done, Error, Wait}
use Rattle.os9_base.specs.declared.registers.Regs.{Regs}
use Rattle.os9_outer.specs.TerminalState.{TerminalState}
use Rattle.proc_model.specs.MemoryChanges.{stored}
use Rattle.proc_model.specs.CallResult.{CallResult}
use Rattle.proc_model.specs.Processes.{Processes, regs_at, cells_at, with_memory, with_regs_of}
use Rattle.io_model.specs.declared.pending.PendingCall.{PendingCall}
use Rattle.io_model.specs.Close.{i_close}
use Rattle.io_model.specs.Dup.{i_dup}
use Rattle.io_model.specs.Io.{Io, with_call}
use Rattle.io_model.specs.Open.{i_open, i_create}
use Rattle.io_model.specs.Read.{i_read, i_readln}
use Rattle.io_model.specs.Status.{i_getstt, i_setstt}
use Rattle.io_model.specs.Step.{Caller, IoEnd, answers, fails, keeps, IoEffect, IoStep, refused, comes, reads, writes, leaves}
use Rattle.io_model.specs.Terminals.{ReadsTerminal, WritesTerminal}
use Rattle.io_model.specs.Write.{i_write, i_writln, f_perr}
use Rattle.io_model.specs.declared.io_call.IoCall.{IoCall}
use Rattle.io_model.specs.declared.io_call.IoCall.TheVariants as Call

-- what an attempt of a call does, on a machine with `drives` drives and `terms` terminals
abbrev pub io_step : IoCall → Caller → Io → ℕ → ℕ → IoStep
io_step Call.Dup caller io drives terms = i_dup caller io
io_step Call.Create caller io drives terms = i_create caller io drives terms
io_step Call.Open caller io drives terms = i_open caller io drives terms
io_step Call.Close caller io drives terms = i_close caller io
io_step Call.Read caller io drives terms = i_read caller io
io_step Call.ReadLn caller io drives terms = i_readln caller io
io_step Call.Write caller io drives terms = i_write caller io
io_step Call.WritLn caller io drives terms = i_writln caller io
io_step Call.GetStt caller io drives terms = i_getstt caller io
io_step Call.SetStt caller io drives terms = i_setstt caller io
io_step Call.PErr caller io drives terms = f_perr caller io

-- this step has this effect, and leaves the terminals in this way
abbrev pub HasIoEffect : IoStep → Caller → Io → IoEffect → List TerminalState → List TerminalState → Type 0
HasIoEffect (refused number) caller io effect before after = (effect ≡ leaves (fails number) io) × (after ≡ before)
HasIoEffect (comes it) caller io effect before after = (effect ≡ it) × (after ≡ before)
HasIoEffect (reads read) caller io effect before after = ReadsTerminal caller io read effect before after
HasIoEffect (writes write) caller io effect before after = WritesTerminal caller io write effect before after

-- the pending call after an attempt with this end
abbrev pub pending_in : IoEnd → Option PendingCall
pending_in (answers regs) = None
pending_in (fails number) = None
pending_in (keeps pending) = Some pending

-- the state after an attempt of a process
abbrev pub io_after : ℕ → IoEffect → Io
io_after p effect = with_call effect.io p (pending_in effect.end)

-- ---- by the caller's registers and cells

-- how an attempt ends
abbrev pub end_of : IoEnd → CallEnd
end_of (answers regs) = Done
end_of (fails number) = Error number
end_of (keeps pending) = Wait

-- the registers of the caller after an attempt with this end
abbrev pub regs_after : IoEnd → Regs → Regs
regs_after (answers regs) before = regs
regs_after (fails number) before = before
regs_after (keeps pending) before = before

-- ---- by the state of the processes

-- the process that calls
abbrev pub caller_of : Processes → ℕ → Caller
caller_of processes p = record { process = record { 0 = p }; regs = regs_at processes p; cells = cells_at processes p }

-- the processes after an attempt stored its bytes
abbrev pub with_stored : Processes → ℕ → IoEffect → Processes
with_stored processes p effect = with_memory processes (stored processes.memory p effect.at effect.bytes)

-- the result of the call
abbrev pub result_by : IoEnd → Processes → ℕ → IoEffect → CallResult
result_by (answers regs) processes p effect = CallResult.done (with_regs_of (with_stored processes p effect) p regs)
result_by (fails number) processes p effect = CallResult.refused number
result_by (keeps pending) processes p effect = CallResult.waits (with_stored processes p effect)

abbrev pub result_of : Processes → ℕ → IoEffect → CallResult
result_of processes p effect = result_by effect.end processes p effect

-- what an attempt of a call by a process does
abbrev pub step_of : IoCall → Processes → ℕ → Io → ℕ → List TerminalState → IoStep
step_of call processes p io drives terms = io_step call (caller_of processes p) io drives (length terms)

-- an attempt of a call by a process on a machine with `drives` drives: its result, and the state and the terminals
-- after it
pub record IoAttempts (call : IoCall) (processes : Processes) (io : Io) (drives p : ℕ) (result : CallResult) (new : Io)
    (before after : List TerminalState) : Type 0 where
  pub effect : IoEffect
  pub does : HasIoEffect (step_of call processes p io drives before) (caller_of processes p) io effect before after
  pub result_is : result ≡ result_of processes p effect
  pub state : new ≡ io_after p effect
