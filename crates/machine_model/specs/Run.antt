-- Slices and whole runs (this project's own: a list of slices decides every interleaving).
use Rattle.std.specs.Prelude.{◌≡◌, ℕ, ◌+◌, ◌-◌, ◌<◌, Bool, true, false, option_map, List, [], ◌∷◌, ◌++◌, if◌then◌else◌, MatchBool, MatchOption}
use Rattle.os9_base.specs.declared.registers.Pid.{Pid}
use Rattle.os9_outer.specs.TerminalState.{TerminalState, ChangesOneTerminal}
use Rattle.proc_model.specs.Choice.{choice_of, after_choice}
use Rattle.io_model.specs.Terminal.{Terminal, Arrives}
use Rattle.io_model.specs.declared.terminal.Arrival.{Arrival}
use Rattle.io_model.specs.Arrivals.{Desk, Arrivals, ArrivesFrom}
use Rattle.io_model.specs.Io.{terminal_at}
use Rattle.file_rules.specs.Files.{with_io}
use Rattle.file_rules.specs.Locking.{files_may_go}
use Rattle.machine_model.specs.declared.ends.EventEnd.{EventEnd}
use Rattle.machine_model.specs.declared.ends.SliceEnd.{SliceEnd}
use Rattle.machine_model.specs.declared.ends.SliceEnd.TheVariants.{Idle, Ran}
use Rattle.machine_model.specs.Console.{console_bytes, terminals_emptied}
use Rattle.machine_model.specs.Event.{Event, cost}
use Rattle.machine_model.specs.State.{State, has_living}

-- ---- a slice

-- what keys that arrive may change, in the tick that follows
abbrev pub desk_of : State → Desk
desk_of s = record { processes = record s.processes { tick = s.processes.tick + 1 }; io = s.files.io; terms = s.terms }

-- the tick rises by 1, and the keys that are due arrive
abbrev pub Tick : State → State → Type 0
Tick s t =
    (desk : Desk) × Arrivals (s.processes.tick + 1) (desk_of s) desk
    × (t ≡ record s { processes = desk.processes; files = with_io s.files desk.io; terms = desk.terms })

-- A tick that is broken off because memory is out: the keys of a number of terminals have arrived, and then a bell of
-- the next one found no memory. `terms` are the terminals then.
pub record BreaksTick (s : State) (terms : List TerminalState) : Type 0 where
  pub count : ℕ
  pub desk : Desk
  pub arrivals : ArrivesFrom (s.processes.tick + 1) 0 count (desk_of s) desk
  pub answer : Arrival
  pub terminal : Terminal
  pub memory : answer.memory ≡ false
  pub device : ChangesOneTerminal
      (λ before now. Arrives (s.processes.tick + 1) (terminal_at desk.io count) terminal before now answer) count
      desk.terms terms

-- a process that is Ready is chosen, if there is one; input and output and records let calls that wait go on
abbrev pub Choose : State → State → Type 0
Choose s t =
    t
    ≡ record s {
      processes = after_choice (files_may_go s.files s.processes.tick) s.processes;
      chosen = option_map (λ (p : Pid). p.0) (choice_of (files_may_go s.files s.processes.tick) s.processes).chosen;
    }

-- a slice goes on after an event with this end: the process neither waits nor has ended
abbrev pub is_going : EventEnd → Bool
is_going EventEnd.Ran = true
is_going EventEnd.Waits = false
is_going EventEnd.Ended = false
is_going EventEnd.NoMemory = false

-- The events of a slice with a number of instructions left: from a state through these states. It is over when those
-- are executed, or after an event with which it does not go on.
abbrev pub SliceEvents : ℕ → State → List State → State → Type 0
SliceEvents left s [] t = (left ≡ 0) × (t ≡ s)
SliceEvents left s (m ∷ ms) t =
    (0 < left) × (end : EventEnd) × Event s end m
    × MatchBool (is_going end) (SliceEvents (left - cost s) m ms t) ((ms ≡ []) × (t ≡ m))

-- one slice of a number of instructions: the states after its events, how it ends, and the state then; no process is
-- Ready if none was chosen
abbrev pub Slice : ℕ → State → List State → SliceEnd → State → Type 0
Slice n s states end t =
    (ticked : State) × (chosen : State) × Tick s ticked × Choose ticked chosen
    × MatchOption chosen.chosen ((end ≡ Idle) × (states ≡ []) × (t ≡ chosen))
    (λ p. (end ≡ Ran) × SliceEvents n chosen states t)

-- the first events of a slice that is not over after them
abbrev pub FirstSteps : ℕ → State → List State → State → Type 0
FirstSteps left s [] t = (0 < left) × (t ≡ s)
FirstSteps left s (m ∷ ms) t = (0 < left) × Event s EventEnd.Ran m × FirstSteps (left - cost s) m ms t

-- a slice of a number of instructions was begun, had its first events, and is not over
abbrev pub BeginsSlice : ℕ → State → List State → State → Type 0
BeginsSlice n s states t =
    (ticked : State) × (chosen : State) × Tick s ticked × Choose ticked chosen × FirstSteps n chosen states t

-- ---- a run

-- A whole run over these slices: the states after all its events, the bytes that it writes, and the state at its end.
-- It stops if no process lives, or when the slices are used up.
abbrev pub Run : List ℕ → State → List State → List ℕ → State → Type 0
Run [] s states written t = (states ≡ []) × (written ≡ []) × (t ≡ s)
Run (n ∷ ns) s states written t =
    MatchBool (has_living s)
    ((end : SliceEnd) × (m : State) × (first later : List State) × (rest : List ℕ) × Slice n s first end m
    × (states ≡ first ++ later) × (written ≡ console_bytes m.terms ++ rest)
    × Run ns (record m { terms = terminals_emptied m.terms }) later rest t)
    ((states ≡ []) × (written ≡ []) × (t ≡ s))

-- the status of a run that ended in this state: 0 if no process lives, else 5
abbrev pub status_of : State → ℕ
status_of s = if has_living s then 5 else 0
