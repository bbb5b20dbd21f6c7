-- F$Icpt: sets the intercept (System Programmer's Manual, F$Icpt).
-- Takes the address of the routine in X and the address of its area in U; X 0 removes the intercept.
use Rattle.std.specs.Prelude.{ℕ}
use Rattle.proc_model.specs.Signals.{intercept_of, with_intercept}
use Rattle.proc_model.specs.Processes.{Processes, regs_at, with_records}
use Rattle.proc_model.specs.CallResult.{CallResult, done}

abbrev pub f_icpt : Processes → ℕ → CallResult
f_icpt s p = done (with_records s (with_intercept s.records p (intercept_of (regs_at s p).x (regs_at s p).u)))
