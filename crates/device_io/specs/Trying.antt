-- What an attempt of a read or a write leaves, also if it is out of memory.
use Rattle.std.specs.Prelude.{◌≡◌, ◌≢◌, ℕ, Option, Some, None, List}
use Rattle.os9_base.specs.declared.call.CallEnd.{CallEnd}
use Rattle.os9_base.specs.declared.call.CallEnd.TheVariants.{Done, Error, Wait, Ended, NoMemory}
use Rattle.os9_outer.specs.TerminalState.{TerminalState}
use Rattle.proc_model.specs.Processes.{Processes}
use Rattle.io_model.specs.Attempts.{HasIoEffect, caller_of, io_after, result_by, result_of, step_of}
use Rattle.io_model.specs.Io.{Io}
use Rattle.io_model.specs.Memory.{WantsMemory}
use Rattle.io_model.specs.Step.{Caller, IoEffect, IoEnd, IoStep, stores}
use Rattle.io_model.specs.declared.io_call.IoCall.{IoCall}
use Rattle.io_state.specs.Attempt.{IoAttempted}
use Rattle.proc_state.specs.Tie.{ReturnsCallEnd, RepresentsProcesses}
use Rattle.proc_state.specs.declared.state.ProcState.{ProcState}
use Rattle.io_state.specs.declared.requester.Requester.{Requester}
use Rattle.device_io.specs.Streams.{Streams}

-- an attempt of a process does this: its end, and the processes, the state and the terminals after it
pub record Takes (step : IoStep) (m : Processes) (io : Io) (p : ℕ) (end : CallEnd) (processes : ProcState) (new : Io)
    (before after : List TerminalState) : Type 0 where
  pub effect : IoEffect
  pub does : HasIoEffect step (caller_of m p) io effect before after
  pub comes : ReturnsCallEnd m p (result_of m p effect) end processes
  pub state : new ≡ io_after p effect

-- an attempt of a process ends in this way, with these processes, this state and these terminals after it
abbrev pub TriesIoStep : IoStep → Processes → Io → ℕ → CallEnd → ProcState → Io → List TerminalState
    → List TerminalState
    → Type 0
TriesIoStep step m io p Done processes new before after = Takes step m io p Done processes new before after
TriesIoStep step m io p (Error number) processes new before after =
    Takes step m io p (Error number) processes new before after
TriesIoStep step m io p Wait processes new before after = Takes step m io p Wait processes new before after
TriesIoStep step m io p Ended processes new before after = Takes step m io p Ended processes new before after
TriesIoStep step m io p NoMemory processes new before after = WantsMemory step (caller_of m p) io before after

-- the result of a call that ends in this way and stores these bytes at an address; without an end it is out of memory
abbrev pub EndsBy : Option IoEnd → ℕ → List ℕ → Processes → ℕ → CallEnd → ProcState → Type 0
EndsBy None at bytes m p end processes = end ≡ NoMemory
EndsBy (Some it) at bytes m p end processes =
    (io : Io) → ReturnsCallEnd m p (result_by it m p (stores at bytes it io)) end processes

-- ---- from any state that the kernel's processes represent

-- an attempt that does this ends in this way
abbrev pub TriesIoStepFrom : (Caller → Io → IoStep) → Requester → CallEnd → ProcState → ProcState → Streams → Streams
    → Type 0
TriesIoStepFrom step by end old new before after =
    (m : Processes) → RepresentsProcesses old m
    → TriesIoStep (step (caller_of m by.p.0) before.io) m before.io by.p.0 end new after.io before.terms after.terms

-- an attempt of a call, on a machine with `drives` drives, has this result, unless it is out of memory
abbrev pub IoAttemptedFrom : IoCall → ℕ → ℕ → CallEnd → ProcState → ProcState → Streams → Streams → Type 0
IoAttemptedFrom call drives p end old new before after =
    (m : Processes) → RepresentsProcesses old m → end ≢ NoMemory
    → IoAttempted call m before.io drives p end new after.io before.terms after.terms

-- if this attempt is out of memory, its terminal is as the call left it, and no other terminal has changed
abbrev pub WantsMemoryFrom : IoCall → ℕ → ℕ → CallEnd → ProcState → Streams → Streams → Type 0
WantsMemoryFrom call drives p end old before after =
    (m : Processes) → RepresentsProcesses old m → end ≡ NoMemory
    → WantsMemory (step_of call m p before.io drives before.terms) (caller_of m p) before.io before.terms after.terms
