use Rattle.std.proofs.Common.{◌≡◌, ◌≤◌, ℕ, ◌<◌, ◌^◌, false}
use Rattle.std.specs.Prelude.{option_and_then}
use Rattle.os9_sched.specs.declared.member.Wait.{Wait}
use Rattle.proc_model.specs.IoReady.{has_io}
use Rattle.os9_kernel.specs.Causes.{awaited}
use Rattle.os9_kernel.specs.Looks.{EndsNotBefore, may_go_in}
use Rattle.os9_kernel.specs.Tie.{IsKnown, ticks}
use Rattle.os9_kernel.proofs.kernel.Kernel.asked.Given as goal

-- of the processes so far it is known, and no wait of them ends before
abbrev pub invariant-loop-number : goal.invariant-loop-number
invariant-loop-number l = record {
  may_go : IsKnown l.self → (p : ℕ) → p < l.number → has_io l.ready p ≡ may_go_in l.self.machine.files (ticks l.self) p;
  none : (p : ℕ) → l.number ≤ p → has_io l.ready p ≡ false;
  waits : (p : ℕ) → p < l.number → EndsNotBefore (ticks l.self) l.until (option_and_then (λ (wait : Wait). wait.until) (awaited l.self.machine.files p));
  fits : l.until < 2 ^ 32;
}
