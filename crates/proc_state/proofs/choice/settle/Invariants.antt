use Rattle.std.proofs.Common.{◌≡◌, ℕ, ◌<◌}
use Rattle.os9_sched.specs.Members.{is_active_in}
use Rattle.proc_model.specs.Processes.{Processes}
use Rattle.proc_model.specs.IoReady.{has_io}
use Rattle.proc_state.specs.Ready.{ready_at}
use Rattle.proc_state.specs.Tie.{RepresentsProcesses}
use Rattle.proc_state.proofs.choice.settle.Given as goal

-- the processes so far are active where they are Ready
abbrev pub invariant-loop-number : goal.invariant-loop-number
invariant-loop-number l = record {
  active : (p : ℕ) → p < l.number → is_active_in l.s.sched.members p ≡ ready_at (has_io l.io) l.s.tick l.s p;
  tied : (m : Processes) → RepresentsProcesses l.initial.s m → RepresentsProcesses l.s m;
}
