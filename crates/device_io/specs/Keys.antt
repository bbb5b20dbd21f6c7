-- Keys that arrive: the part of the kernel's processes and of its state of input and output.
use Rattle.std.specs.Prelude.{◌≡◌, ℕ, false, List}
use Rattle.os9_outer.specs.TerminalState.{TerminalState, ChangesOneTerminal}
use Rattle.proc_model.specs.Processes.{Processes}
use Rattle.io_model.specs.Terminal.{Terminal, Arrives}
use Rattle.io_model.specs.declared.terminal.Arrival.{Arrival}
use Rattle.io_model.specs.Arrivals.{Desk, Arrivals, ArrivesAt, ArrivesFrom}
use Rattle.io_model.specs.Io.{Io, terminal_at, with_terminal}
use Rattle.proc_state.specs.Tie.{RepresentsProcesses}
use Rattle.proc_state.specs.declared.state.ProcState.{ProcState}

-- what arriving keys may change
abbrev pub desk : Processes → Io → List TerminalState → Desk
desk processes io terms = record { processes = processes; io = io; terms = terms }

-- the keys of all terminals arrived: from each state that the processes represented, to a state that they now represent
abbrev pub AllKeysArrive : ProcState → Io → List TerminalState → ProcState → Io → List TerminalState → Type 0
AllKeysArrive s io terms new now after =
    (m : Processes) → RepresentsProcesses s m →
    (next : Processes) × Arrivals s.tick (desk m io terms) (desk next now after) × RepresentsProcesses new next

-- the keys of this one terminal arrived
abbrev pub KeysArriveAt : ProcState → Io → List TerminalState → ProcState → Io → List TerminalState → ℕ → Type 0
KeysArriveAt s io terms new now after n =
    (m : Processes) → RepresentsProcesses s m →
    (next : Processes) × RepresentsProcesses new next × ArrivesAt s.tick n (desk m io terms) (desk next now after)

-- a bell of this terminal found no memory, which ends its poll before its signal is sent
pub record PollBreaks (tick n : ℕ) (old : Desk) (new : Io) (after : List TerminalState) : Type 0 where
  pub answer : Arrival
  pub terminal : Terminal
  pub memory : answer.memory ≡ false
  pub device : ChangesOneTerminal
      (λ before now. Arrives tick (terminal_at old.io n) terminal before now answer) n old.terms after
  pub io : new ≡ with_terminal old.io n terminal

-- the poll of this one terminal broke off
abbrev pub KeysBreakAt : ProcState → Io → List TerminalState → ProcState → Io → List TerminalState → ℕ → Type 0
KeysBreakAt s io terms new now after n =
    (m : Processes) → RepresentsProcesses s m → RepresentsProcesses new m
    × PollBreaks s.tick n (desk m io terms) now after

-- the keys of some first terminals arrived, and then the poll of the next one broke off
abbrev pub KeysBreak : ProcState → Io → List TerminalState → ProcState → Io → List TerminalState → Type 0
KeysBreak s io terms new now after =
    (m : Processes) → RepresentsProcesses s m →
    (polled : ℕ) × (between : Desk) × ArrivesFrom s.tick 0 polled (desk m io terms) between
    × RepresentsProcesses new between.processes × PollBreaks s.tick polled between now after
