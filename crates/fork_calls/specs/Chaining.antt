-- A process that begins anew with a program (System Programmer's Manual, F$Chain).
use Rattle.std.specs.Prelude.{ℕ, None}
use Rattle.proc_model.specs.Records.{with_regs}
use Rattle.proc_model.specs.Signals.{with_intercept}
use Rattle.proc_model.specs.Processes.{Processes, with_records, with_own}
use Rattle.fork_calls.specs.declared.starting.Beginning.{Beginning}

-- the state in which a process begins anew in this way, without an intercept
abbrev pub begun_so : Processes → ℕ → Beginning → Processes
begun_so s p start =
    with_own (with_records s (with_intercept (with_regs s.records p start.regs) p None)) p start.own
