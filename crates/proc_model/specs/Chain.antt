-- F$Chain: starts another program in this process (System Programmer's Manual, F$Chain).
-- Takes the same registers as F$Fork. The process keeps its number, parent, user, priority, age, children and a pending
-- signal; it gives up its map, its intercept and one link to its old primary module, after the new one was linked.
-- Errors: those of F$Fork but E$PrcFul. The blocks of its own data area count as free.
use Rattle.std.specs.Prelude.{ℕ, nat_lt, None}
use Rattle.os9_base.specs.declared.errors.TheConstants.{E_MEMFUL}
use Rattle.proc_model.specs.Memory.{MemoryState}
use Rattle.proc_model.specs.MemoryChanges.{linked, started}
use Rattle.proc_model.specs.Records.{with_regs}
use Rattle.proc_model.specs.Signals.{with_intercept}
use Rattle.proc_model.specs.Processes.{Processes, own_at, with_memory, with_records, with_own}
use Rattle.proc_model.specs.ModuleLinks.{without_primary_link}
use Rattle.proc_model.specs.Program.{Program, most_pages, blocks_of_pages, start_regs, start_own, with_parameters, reads_program}
use Rattle.proc_model.specs.CallResult.{CallResult, done, refuses, changes}

-- the state in which a process begins anew with this program in this memory
abbrev pub begun_anew : Processes → ℕ → Program → Processes
begun_anew s p program =
    with_own (with_records s (with_intercept (with_regs s.records p (start_regs program)) p None)) p (start_own program)

-- the state with the new program linked and its parameters stored
abbrev pub with_program : Processes → ℕ → Program → MemoryState → Processes
with_program s p program memory =
    with_memory s (with_parameters (linked memory program.entered.number) p program)

abbrev pub f_chain : Processes → ℕ → CallResult
f_chain s p =
    reads_program s p
    (λ program. refuses (nat_lt most_pages program.pages) E_MEMFUL
    (changes (started s.memory p program.entered.number (blocks_of_pages program.pages))
    (λ memory.
    done (without_primary_link (begun_anew (with_program s p program memory) p program) (own_at s p)))))
