-- The states of the abstract machine: memory and the processes, the files that they share, the clock,
-- which process was chosen, and the terminals.
use Rattle.std.specs.Prelude.{ℕ, ◌==◌, not, Bool, Option, List}
use Rattle.os9_outer.specs.TerminalState.{TerminalState}
use Rattle.proc_model.specs.Processes.{Processes}
use Rattle.file_rules.specs.Files.{Files}
use Rattle.machine_model.specs.Living.{living_count}
use Rattle.time_rules.specs.declared.clock.Clock.{Clock}

pub record State : Type 0 where
  pub processes : Processes  -- memory and the processes
  pub files : Files  -- paths, pipes and terminals as the kernel has them, directories, volumes and drives
  pub clock : Clock
  pub chosen : Option ℕ  -- the process that was chosen last
  pub terms : List TerminalState  -- TERM, T1, T2, T3

-- what an attempt of a call may change in addition to the processes
pub record Rest : Type 0 where
  pub files : Files
  pub clock : Clock
  pub terms : List TerminalState

abbrev pub rest_of : State → Rest
rest_of s = record { files = s.files; clock = s.clock; terms = s.terms }

-- the state with these processes, and this rest
abbrev pub with_rest : State → Processes → Rest → State
with_rest s processes rest =
    record s { processes = processes; files = rest.files; clock = rest.clock; terms = rest.terms }

-- some process lives
abbrev pub has_living : State → Bool
has_living s = not (living_count s.processes == 0)
