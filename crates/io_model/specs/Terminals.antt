-- Attempts on a terminal (Level Two manual, SCF).
use Rattle.std.specs.Prelude.{◌≡◌, min, Option, Some, None, List}
use Rattle.os9_base.specs.declared.errors.TheConstants.{E_EOF, E_WRITE}
use Rattle.os9_outer.specs.TerminalState.{TerminalState, ChangesOneTerminal}
use Rattle.io_model.specs.Terminal.{Terminal, TerminalReadAttempt, TerminalWriteAttempt, stored_bytes}
use Rattle.io_model.specs.declared.terminal.Progress.{Progress}
use Rattle.io_model.specs.declared.terminal.Progress.TheVariants.{Done, Wait, End, Fault, NoMemory}
use Rattle.io_model.specs.declared.terminal.Reading.{Reading}
use Rattle.io_model.specs.declared.terminal.TheConstants.{TYPE_AHEAD}
use Rattle.io_model.specs.Io.{Io, terminal_at, with_terminal}
use Rattle.io_model.specs.Pipes.{count_regs}
use Rattle.io_model.specs.Step.{Caller, IoEnd, answers, fails, keeps, IoEffect, leaves, stores, TerminalRead, TerminalWrite}

-- a read as the terminal has it: it asks for at most 256 bytes
abbrev pub request_of : Caller → TerminalRead → Reading
request_of caller read =
    record { process = caller.process; kind = read.kind; most = min read.call.count TYPE_AHEAD }

-- how a read ends, by the terminal's answer; out of memory is not an end
abbrev pub read_ends : Caller → TerminalRead → Progress → Option IoEnd
read_ends caller read (Done count) = Some (answers (count_regs caller count))
read_ends caller read Wait = Some (keeps read.call)
read_ends caller read End = Some (fails E_EOF)
read_ends caller read Fault = Some (fails E_WRITE)
read_ends caller read NoMemory = None

-- what a read leaves: its bytes are stored if it is done
abbrev pub read_leaves : Caller → Io → TerminalRead → Progress → Terminal → IoEnd → IoEffect
read_leaves caller io read answer new end =
    stores caller.regs.x (stored_bytes answer (request_of caller read) (terminal_at io read.terminal)) end
    (with_terminal io read.terminal new)

-- an attempt of a read of a terminal has this effect; no other terminal changes
pub record ReadsTerminal (caller : Caller) (io : Io) (read : TerminalRead) (effect : IoEffect)
    (before after : List TerminalState) : Type 0 where
  pub answer : Progress
  pub new : Terminal
  pub end : IoEnd
  pub device : ChangesOneTerminal (TerminalReadAttempt (request_of caller read) answer (terminal_at io read.terminal)
      new)
      read.terminal before after
  pub ends : read_ends caller read answer ≡ Some end
  pub effect_is : effect ≡ read_leaves caller io read answer new end

-- how a write ends, by the terminal's answer; it never waits, and no write finds an end of the file
abbrev pub write_ends : TerminalWrite → Progress → Option IoEnd
write_ends write (Done count) = Some (answers write.regs)
write_ends write Wait = None
write_ends write End = None
write_ends write Fault = Some (fails E_WRITE)
write_ends write NoMemory = None

-- an attempt of a write to a terminal has this effect; no other terminal changes
pub record WritesTerminal (caller : Caller) (io : Io) (write : TerminalWrite) (effect : IoEffect)
    (before after : List TerminalState) : Type 0 where
  pub answer : Progress
  pub new : Terminal
  pub end : IoEnd
  pub device : ChangesOneTerminal
      (TerminalWriteAttempt caller.process write.put write.count answer (terminal_at io write.terminal) new)
      write.terminal before after
  pub ends : write_ends write answer ≡ Some end
  pub effect_is : effect ≡ leaves end (with_terminal io write.terminal new)
