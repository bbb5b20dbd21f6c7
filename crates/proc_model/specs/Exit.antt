-- F$Exit: ends the process (System Programmer's Manual, F$Exit).
-- Takes the status in B.
use Rattle.std.specs.Prelude.{ℕ}
use Rattle.proc_model.specs.Processes.{Processes, regs_at}
use Rattle.proc_model.specs.CallResult.{CallResult, ends}

abbrev pub f_exit : Processes → ℕ → CallResult
f_exit s p = ends (regs_at s p).b
