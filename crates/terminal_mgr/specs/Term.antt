-- The terminal that a `Term` keeps.
use Rattle.std.specs.Prelude.{◌≡◌, ℕ, ◌<◌, ◌≤◌, Option, MatchOption, List, [], length}
use Rattle.os9_base.specs.declared.registers.Pid.{Pid}
use Rattle.os9_outer.specs.TerminalState.{TerminalState, terminal_state}
use Rattle.os9_outer.specs.declared.terminal.CharDriver.{Ghosts}
use Rattle.io_model.specs.Edit.{Editing}
use Rattle.io_model.specs.Terminal.{Terminal}
use Rattle.io_model.specs.declared.terminal.ReadKind.{ReadKind}
use Rattle.io_model.specs.declared.terminal.Reading.{Reading}

-- the state of a lent terminal, as `lent_terminal_state CharDriver-dyn d.old`
abbrev pub lent_terminal_state : {Table : Type 0} {Driver : Table → Type 0}
    → ((terminal : (table : Table) × Driver table) → Ghosts (Driver terminal.0)) → (table : Table) × Driver table
    → TerminalState
lent_terminal_state members terminal = terminal_state (members terminal) terminal.1

-- this process's read of this kind, of at most `most` bytes
abbrev pub read_of : Pid → ReadKind → ℕ → Reading
read_of process kind most = record { process = process; kind = kind; most = most }

-- a terminal by its parts
abbrev pub terminal_of : List ℕ → Editing → Option Reading → Option Pid → Terminal
terminal_of ahead line reading user =
    record { ahead = ahead; line = line; reading = reading; user = user }

-- the line has room for a byte that the read asks for
pub record HasRoomForRead (line : Editing) (reading : Reading) : Type 0 where
  pub most : reading.most ≤ 256
  pub room : length line.bytes < reading.most

-- a line exists only for a read
abbrev pub HasLine : Editing → Option Reading → Type 0
HasLine line reading = MatchOption reading (line.bytes ≡ []) (HasRoomForRead line)

-- the invariant of a terminal: the type-ahead is within its limit, and so is the line
pub record IsTerminal (t : Terminal) : Type 0 where
  pub ahead : length t.ahead ≤ 256
  pub line : HasLine t.line t.reading
