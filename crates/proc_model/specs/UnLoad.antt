-- F$UnLoad: gives up a link to a module by its name (System Programmer's Manual, F$UnLoad).
-- Takes the type and language in A and the address of the name in X. Maps that name the module's group keep it.
-- Errors: E$BPAddr, E$BNam, E$MNF.
use Rattle.std.specs.Prelude.{ℕ}
use Rattle.os9_base.specs.declared.errors.TheConstants.{E_BNAM, E_MNF}
use Rattle.os9_base.specs.UserNames.{name_at}
use Rattle.proc_model.specs.Processes.{Processes, regs_at, cells_at}
use Rattle.proc_model.specs.ModuleLinks.{found_entry, without_module_link}
use Rattle.proc_model.specs.CallResult.{CallResult, done, needs, reads_name}

abbrev pub f_unload : Processes → ℕ → CallResult
f_unload s p =
    reads_name (name_at (cells_at s p) (regs_at s p).x) E_BNAM
    (λ name. needs (found_entry s.memory.modules name (regs_at s p).a) E_MNF
    (λ found. done (without_module_link s found.number)))
