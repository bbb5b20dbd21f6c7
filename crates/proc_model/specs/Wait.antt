-- F$Wait: waits for the end of a child (System Programmer's Manual, F$Wait).
-- Returns the number of the ended child of least number in A, and its status in B; the child's record is removed. It
-- waits while no child has ended.
-- Errors: E$NoChld.
use Rattle.std.specs.Prelude.{ℕ, Result, Ok, Err}
use Rattle.os9_base.specs.declared.errors.TheConstants.{E_NOCHLD}
use Rattle.os9_base.specs.declared.registers.Pid.{Pid}
use Rattle.os9_base.specs.declared.registers.Regs.{Regs}
use Rattle.proc_model.specs.declared.record.Reap.{Reap}
use Rattle.proc_model.specs.declared.record.Reap.TheVariants.{NoChild, NotYet}
use Rattle.proc_model.specs.Ends.{reaped, after_reap}
use Rattle.proc_model.specs.Processes.{Processes, regs_at, with_records, with_regs_of}
use Rattle.proc_model.specs.CallResult.{CallResult, done, refused, waits}

-- the registers after a child is returned, with its status
abbrev pub reaped_regs : Regs → Pid × ℕ → Regs
reaped_regs regs child = record regs { a = child.0.0; b = child.1 }

abbrev pub f_wait : Processes → ℕ → CallResult
f_wait s p = answer (reaped s.records p)
  where
    answer : Result (Pid × ℕ) Reap → CallResult
    answer (Ok child) =
        done (with_regs_of (with_records s (after_reap s.records p)) p (reaped_regs (regs_at s p) child))
    answer (Err NoChild) = refused E_NOCHLD
    answer (Err NotYet) = waits s
