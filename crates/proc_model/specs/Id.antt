-- F$ID: returns the process number and the user (System Programmer's Manual, F$ID).
-- Returns the number of the process in A, and its user in Y.
use Rattle.std.specs.Prelude.{ℕ}
use Rattle.proc_model.specs.Processes.{Processes, regs_at, user_at, with_regs_of}
use Rattle.proc_model.specs.CallResult.{CallResult, done}

abbrev pub f_id : Processes → ℕ → CallResult
f_id s p = done (with_regs_of s p (record (regs_at s p) { a = p; y = user_at s p }))
