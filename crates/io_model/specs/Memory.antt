-- What an attempt leaves if there is no memory for a byte of a terminal (this project's own).
use Rattle.std.specs.Prelude.{List}
use Rattle.os9_outer.specs.TerminalState.{TerminalState, ChangesOneTerminal}
use Rattle.io_model.specs.Terminal.{Terminal, TerminalReadAttempt, TerminalWriteAttempt}
use Rattle.io_model.specs.declared.terminal.Progress.TheVariants as Answer
use Rattle.io_model.specs.Io.{Io, terminal_at}
use Rattle.io_model.specs.Step.{Caller, IoStep, refused, comes, reads, writes}
use Rattle.io_model.specs.Terminals.{request_of}

-- A byte that an attempt put on a terminal found no memory: its terminal is as the read or the write left it, and no
-- other terminal has changed.
abbrev pub WantsMemory : IoStep → Caller → Io → List TerminalState → List TerminalState → Type 0
WantsMemory (refused number) caller io before after = ⊥
WantsMemory (comes effect) caller io before after = ⊥
WantsMemory (reads read) caller io before after =
    (new : Terminal) × ChangesOneTerminal
    (TerminalReadAttempt (request_of caller read) Answer.NoMemory (terminal_at io read.terminal) new) read.terminal
    before
    after
WantsMemory (writes write) caller io before after =
    (new : Terminal) × ChangesOneTerminal
    (TerminalWriteAttempt caller.process write.put write.count Answer.NoMemory (terminal_at io write.terminal) new)
    write.terminal
    before after
