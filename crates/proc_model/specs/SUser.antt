-- F$SUser: sets the user (System Programmer's Manual, F$SUser).
-- Takes the number of the user in Y.
use Rattle.std.specs.Prelude.{ℕ}
use Rattle.proc_model.specs.Records.{with_user}
use Rattle.proc_model.specs.Processes.{Processes, regs_at, with_records}
use Rattle.proc_model.specs.CallResult.{CallResult, done}

abbrev pub f_suser : Processes → ℕ → CallResult
f_suser s p = done (with_records s (with_user s.records p (regs_at s p).y))
