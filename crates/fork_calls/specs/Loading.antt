-- Loading a program into the memory of a process, and the process that begins with it (System Programmer's Manual,
-- F$Fork and F$Chain).
use Rattle.std.specs.Prelude.{◌≡◌, ℕ, nat_lt, Result}
use Rattle.std.specs.Result.{result_map_both}
use Rattle.os9_base.specs.declared.errors.TheConstants.{E_MEMFUL}
use Rattle.proc_model.specs.declared.memory.MemoryFault.{MemoryFault}
use Rattle.proc_model.specs.Memory.{MemoryState}
use Rattle.proc_model.specs.MemoryChanges.{linked, started}
use Rattle.proc_model.specs.Records.{record_at, after_make, with_regs}
use Rattle.proc_model.specs.Turns.{with_turn}
use Rattle.proc_model.specs.CallResult.{CallResult, refused, refuses, changes}
use Rattle.proc_model.specs.Chain.{with_program}
use Rattle.proc_model.specs.Processes.{Processes, with_own}
use Rattle.proc_model.specs.Program.{Program, most_pages, blocks_of_pages, start_regs, start_own, with_parameters}
use Rattle.proc_state.specs.declared.state.ProcState.{ProcState}
use Rattle.proc_state.specs.Tie.{RepresentsProcesses}
use Rattle.fork_calls.specs.declared.starting.Beginning.{Beginning}

-- the memory of a process that begins with a program: the parameters are stored and the module has one more link
abbrev pub begun : MemoryState → ℕ → Program → Result MemoryState MemoryFault
begun m p program =
    result_map_both (λ memory. with_parameters (linked memory program.entered.number) p program) (λ fault. fault)
    (started m p program.entered.number (blocks_of_pages program.pages))

-- the call goes on with the memory in which a process begins with a program
abbrev pub loads_program : Processes → ℕ → Program → (MemoryState → CallResult) → CallResult
loads_program m p program next =
    refuses (nat_lt most_pages program.pages) E_MEMFUL
    (changes (started m.memory p program.entered.number (blocks_of_pages program.pages)) next)

-- a process has this beginning with a program, and a call goes on with its memory
pub record IsProgramLoaded (m : Processes) (p : ℕ) (program : Program) (new : ProcState) (start : Beginning) : Type 0
  where
    pub memory : MemoryState
    pub goes : (next : MemoryState → CallResult) → loads_program m p program next ≡ next memory
    pub stands : RepresentsProcesses new (with_program m p program memory)
    pub regs : start.regs ≡ start_regs program
    pub own : start.own ≡ start_own program

-- a call that cannot load the program is refused with this number, and nothing has changed
pub record IsNotLoaded (m : Processes) (p : ℕ) (program : Program) (new : ProcState) (number : ℕ) : Type 0 where
  pub goes : (next : MemoryState → CallResult) → loads_program m p program next ≡ refused number
  pub stands : RepresentsProcesses new m

-- the state with a child of a process that has this beginning, and its parent's user and priority
abbrev pub with_new_child : Processes → ℕ → ℕ → Beginning → Processes
with_new_child s p child start =
    with_own (record s {
      records =
          with_regs (after_make s.records (record { 0 = p }) (record_at s.records p).user
          (record_at s.records p).priority) child start.regs;
      order = with_turn s.order (record { 0 = child }) (record_at s.records p).priority;
    }) child start.own
