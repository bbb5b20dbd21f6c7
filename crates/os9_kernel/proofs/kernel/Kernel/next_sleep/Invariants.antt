use Rattle.std.proofs.Common.{ℕ, ◌<◌, ◌^◌}
use Rattle.std.specs.Prelude.{slice_index_or}
use Rattle.proc_model.specs.Processes.{no_own}
use Rattle.os9_kernel.specs.Looks.{EndsNotBefore}
use Rattle.os9_kernel.specs.Tie.{ticks}
use Rattle.os9_kernel.proofs.kernel.Kernel.next_sleep.Given as goal

-- no sleep of the processes so far ends before it
abbrev pub invariant-loop-number : goal.invariant-loop-number
invariant-loop-number l = record {
  sleeps : (p : ℕ) → p < l.number → EndsNotBefore (ticks l.self) l.least (slice_index_or l.self.machine.processes.own.items p no_own).until;
  fits : l.least < 2 ^ 32;
}
