-- The first process, as it begins.
use Rattle.std.specs.Prelude.{◌≡◌, ℕ, Option, Result, Ok, Err, IsErr, List}
use Rattle.proc_model.specs.declared.memory.MemoryFault.{MemoryFault}
use Rattle.proc_model.specs.Memory.{MemoryState}
use Rattle.proc_model.specs.ModuleList.{ModuleEntry}
use Rattle.proc_model.specs.Processes.{Processes, with_memory, with_own, with_regs_of}
use Rattle.machine_model.specs.ProcessStart.{HasFirstProgram, boot_memory, first_priority, first_process, first_start, no_parent, only_process, superuser}
use Rattle.proc_state.specs.declared.state.ProcState.{ProcState}
use Rattle.proc_state.specs.Beginning.{with_made}
use Rattle.proc_state.specs.First.{first_processes}
use Rattle.proc_state.specs.Tie.{RepresentsProcesses}
use Rattle.fork_calls.specs.declared.starting.Beginning.{Beginning}

-- a machine with this memory in which no process has begun
abbrev pub nobody_in : MemoryState → Processes
nobody_in memory = with_memory (first_processes 0) memory

abbrev pub HasNobody : ProcState → Type 0
HasNobody processes = (memory : MemoryState) × RepresentsProcesses processes (nobody_in memory)

-- the machine with the first process, which has this beginning
abbrev pub with_first : MemoryState → Beginning → Processes
with_first memory start =
    with_regs_of (with_made (with_own (nobody_in memory) first_process.0 start.own) first_process no_parent superuser
    first_priority) first_process.0 start.regs

-- the result of beginning the first process: it has begun in this memory, with the program of a module; or there is no
-- room for it
abbrev pub BeginsFirstProcess : Result MemoryState MemoryFault → ℕ → ModuleEntry → Result (Unit {0}) ℕ → ProcState
    → Type 0
BeginsFirstProcess (Ok memory) number entry result new =
    (result ≡ Ok tt) × RepresentsProcesses new (only_process memory (first_start number entry))
BeginsFirstProcess (Err fault) number entry result new = IsErr result

-- a machine with this number of blocks has the boot file, whose first program has this number; no process has begun
pub record HasFirstIn (file : List ℕ) (blocks number : ℕ) (processes : ProcState) : Type 0 where
  pub entries : List (Option ModuleEntry)
  pub entry : ModuleEntry
  pub has : HasFirstProgram file entries number entry
  pub represents : RepresentsProcesses processes (nobody_in (boot_memory file blocks entries))
