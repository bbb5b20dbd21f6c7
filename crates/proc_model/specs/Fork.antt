-- F$Fork: starts a process (System Programmer's Manual, F$Fork).
-- Takes the type and language of the program in A, the pages of its data area in B, the address of its name in X, and
-- the size and the address of its parameters in Y and U. Returns the number of the new process in A, and the address
-- after the name in X.
-- Errors: those of a program that is to be started, then E$PrcFul, E$MemFul and E$NoRAM.
use Rattle.std.specs.Prelude.{ℕ, ◌+◌, ◌%◌, nat_lt, Option, List}
use Rattle.os9_base.specs.declared.errors.TheConstants.{E_MEMFUL, E_PRCFUL}
use Rattle.os9_base.specs.declared.registers.Regs.{Regs}
use Rattle.proc_model.specs.Memory.{MemoryState}
use Rattle.proc_model.specs.MemoryChanges.{linked, started}
use Rattle.proc_model.specs.declared.record.Record.{Record}
use Rattle.proc_model.specs.Records.{record_at, free_process, after_make, with_regs}
use Rattle.proc_model.specs.Turns.{with_turn}
use Rattle.proc_model.specs.Processes.{Processes, regs_at, with_regs_of, with_own}
use Rattle.proc_model.specs.Program.{Program, most_pages, blocks_of_pages, start_regs, start_own, with_parameters, reads_program}
use Rattle.proc_model.specs.CallResult.{CallResult, done, needs, refuses, changes}

-- the records with a new child of a process, which starts the program: it has the parent's user and priority
abbrev pub with_child_record : List (Option Record) → ℕ → ℕ → Program → List (Option Record)
with_child_record records p child program =
    with_regs (after_make records (record { 0 = p }) (record_at records p).user (record_at records p).priority) child
    (start_regs program)

-- the state with a new child of a process, which starts the program in this memory
abbrev pub with_child : Processes → ℕ → ℕ → Program → MemoryState → Processes
with_child s p child program memory =
    with_own (record s {
      memory = with_parameters (linked memory program.entered.number) child program;
      records = with_child_record s.records p child program;
      order = with_turn s.order (record { 0 = child }) (record_at s.records p).priority;
    }) child (start_own program)

-- the registers of the parent afterwards; past FFFF X is 0
abbrev pub forked_regs : Regs → ℕ → Program → Regs
forked_regs regs child program = record regs { a = child; x = (regs.x + program.count) % 65536 }

abbrev pub f_fork : Processes → ℕ → CallResult
f_fork s p =
    reads_program s p
    (λ program. needs (free_process s.records) E_PRCFUL
    (λ child. refuses (nat_lt most_pages program.pages) E_MEMFUL
    (changes (started s.memory child program.entered.number (blocks_of_pages program.pages))
    (λ memory.
    done (with_regs_of (with_child s p child program memory) p (forked_regs (regs_at s p) child program))))))
