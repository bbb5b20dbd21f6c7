-- F$SPrior: sets a priority (System Programmer's Manual, F$SPrior).
-- Takes the number of the process in A and its priority in B.
-- Errors: E$IPrcID.
use Rattle.std.specs.Prelude.{ℕ, not}
use Rattle.os9_base.specs.declared.errors.TheConstants.{E_IPRCID}
use Rattle.proc_model.specs.Records.{with_priority}
use Rattle.proc_model.specs.Signals.{is_reached}
use Rattle.proc_model.specs.Processes.{Processes, regs_at, user_at, with_records}
use Rattle.proc_model.specs.CallResult.{CallResult, done, refuses}

abbrev pub f_sprior : Processes → ℕ → CallResult
f_sprior s p =
    refuses (not (is_reached s.records (user_at s p) (regs_at s p).a)) E_IPRCID
    (done (with_records s (with_priority s.records (regs_at s p).a (regs_at s p).b)))
