-- A program in a file, and the room it needs (System Programmer's Manual, F$Fork and F$Chain).
use Rattle.std.specs.Prelude.{◌≡◌, ℕ, ◌+◌, nat_lt, Option, Some, None, take, if◌then◌else◌}
use Rattle.os9_base.specs.declared.errors.TheConstants.{E_MEMFUL, E_NORAM}
use Rattle.proc_model.specs.Memory.{MemoryState, free_blocks, map_at}
use Rattle.proc_model.specs.Processes.{Processes, with_memory}
use Rattle.proc_model.specs.Program.{blocks_of_pages, most_pages}
use Rattle.file_rules.specs.Load.{Loaded}
use Rattle.file_rules.specs.Program.{loaded_program}
use Rattle.file_rules.specs.ProgramFile.{ProgramFile}
use Rattle.fork_calls.specs.Naming.{meant}
use Rattle.fork_calls.specs.declared.program.NamedProgram.{NamedProgram}
use Rattle.proc_state.specs.Tie.{RepresentsProcesses}
use Rattle.proc_state.specs.declared.state.ProcState.{ProcState}

-- the number with which a start of a program with a data area of `pages` pages is refused, whose file is first loaded
-- into `group` blocks
abbrev pub start_refusal : MemoryState → ℕ → ℕ → ℕ → Option ℕ
start_refusal m process group pages =
    if nat_lt most_pages pages then Some E_MEMFUL
    else if nat_lt 8 (blocks_of_pages pages + group) then Some E_MEMFUL
    else if nat_lt (free_blocks m + (map_at m process).low) (blocks_of_pages pages + group) then Some E_NORAM
    else None

-- the memory of the processes has the file, and the program is its first module, with its parameters at the front of
-- the buffer
pub record IsProgramIn (m : Processes) (p : ℕ) (file : ProgramFile) (loaded : Loaded) (program : NamedProgram)
    (new : ProcState) : Type 0 where
  pub number_is : program.id.0 ≡ loaded.first.number
  pub stands : RepresentsProcesses new (with_memory m loaded.memory)
  pub is : meant program loaded.first.entry (take program.parameters new.buffer.items)
      ≡ loaded_program m p file loaded.first
