use Rattle.std.proofs.Common.{◌≤◌, ℕ, Option, ap, subst, arith, below_more}
use Rattle.std.specs.Prelude.{slice_index_or}
use Rattle.proc_model.specs.declared.own.Own.{Own}
use Rattle.proc_model.specs.Processes.{no_own}
use Rattle.os9_kernel.specs.Looks.{EndsNotBefore}
use Rattle.os9_kernel.specs.Tie.{ticks}
use Rattle.os9_kernel.proofs.Looking.{ends-sooner}
use Rattle.os9_kernel.proofs.kernel.Kernel.next_sleep.Goals as goal

pub loop-number-preserved : goal.loop-number-preserved
loop-number-preserved c =
    let kernel = c.args.self.now in
    let now = ticks kernel in
    let least = c.loop-number.least in
    let next = c.min-least.result in
    let before : next ≤ least = omega (arith, c.min-least.ensures) in
    let early : next ≤ c.later.result = omega (arith, c.min-least.ensures) in record {
      sleeps = below_more (λ (p : ℕ). EndsNotBefore now next (slice_index_or kernel.machine.processes.own.items p no_own).until) c.loop-number.number
          (λ p below. ends-sooner now least next (slice_index_or kernel.machine.processes.own.items p no_own).until before (c.loop-number.invariant.sleeps p below))
          (subst (λ (end : Option ℕ). EndsNotBefore now next end) (ap (λ (own : Own). own.until) c.own-end.ensures.own)
          (ends-sooner now c.later.result next c.own-end.result.until early c.later.ensures));
      fits = omega (arith, before, c.loop-number.invariant.fits);
    }
