-- The keys that arrive in a tick (Level Two manual, SCF; when keys arrive is this project's own).
use Rattle.std.specs.Prelude.{◌≡◌, ℕ, zero, suc, ◌+◌, true, Option, Some, None, List, length}
use Rattle.os9_base.specs.declared.registers.Pid.{Pid}
use Rattle.os9_outer.specs.TerminalState.{TerminalState, ChangesOneTerminal}
use Rattle.proc_model.specs.Signals.{after_send}
use Rattle.proc_model.specs.Processes.{Processes, with_records}
use Rattle.io_model.specs.Terminal.{Terminal, Arrives}
use Rattle.io_model.specs.declared.terminal.Arrival.{Arrival}
use Rattle.io_model.specs.Io.{Io, terminal_at, with_terminal}

-- what arriving keys may change
pub record Desk : Type 0 where
  pub processes : Processes
  pub io : Io
  pub terms : List TerminalState  -- TERM, T1, T2, T3

-- the superuser, who may signal every process
abbrev pub every_user : ℕ
every_user = 0

-- the processes after a signal was sent to a process; it is dropped if that process has a pending signal
abbrev pub after_signal_to : Processes → Pid → ℕ → Processes
after_signal_to processes process signal =
    with_records processes (after_send processes.records every_user process.0 signal)

-- the processes after the signal of a terminal was sent to its last user, if it has both
abbrev pub after_key_signal : Processes → Option Pid → Option ℕ → Processes
after_key_signal processes None signal = processes
after_key_signal processes (Some process) None = processes
after_key_signal processes (Some process) (Some signal) = after_signal_to processes process signal

-- the keys of a terminal that are due in this tick arrive, and then its signal is sent
pub record ArrivesAt (tick n : ℕ) (old new : Desk) : Type 0 where
  pub answer : Arrival
  pub terminal : Terminal
  pub memory : answer.memory ≡ true
  pub device : ChangesOneTerminal
      (λ before after. Arrives tick (terminal_at old.io n) terminal before after answer) n old.terms new.terms
  pub io : new.io ≡ with_terminal old.io n terminal
  pub signal : new.processes ≡ after_key_signal old.processes terminal.user answer.signal

-- the same for `count` terminals from terminal n on, one after another
abbrev pub ArrivesFrom : ℕ → ℕ → ℕ → Desk → Desk → Type 0
ArrivesFrom tick n zero old new = new ≡ old
ArrivesFrom tick n (suc count) old new =
    (between : Desk) × ArrivesAt tick n old between × ArrivesFrom tick (n + 1) count between new

-- the keys that are due in this tick arrive at all terminals: TERM, T1, T2 and T3, in this order
abbrev pub Arrivals : ℕ → Desk → Desk → Type 0
Arrivals tick old new = ArrivesFrom tick 0 (length old.terms) old new
