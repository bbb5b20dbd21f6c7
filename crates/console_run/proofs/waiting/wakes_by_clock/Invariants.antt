use Rattle.std.proofs.Common.{◌≡◌, ℕ, ◌<◌, false}
use Rattle.machine_model.specs.State.{State}
use Rattle.os9_kernel.specs.Outside.{Outside}
use Rattle.os9_kernel.specs.Tie.{Represents}
use Rattle.os9_kernel.specs.View.{wakes_by_clock}
use Rattle.console_run.proofs.waiting.wakes_by_clock.Given as goal

-- no process so far sleeps until a tick
abbrev pub invariant-loop-number : goal.invariant-loop-number
invariant-loop-number l =
    (devices : Outside) (s : State) → Represents l.kernel devices s → (k : ℕ) → k < l.number → wakes_by_clock s k ≡ false
