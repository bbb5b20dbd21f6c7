use Rattle.std.proofs.Common.{◌≡◌, ◌≤◌, ℕ, Bool, Option, ap, ◌∙◌, subst, arith, below_more}
use Rattle.std.specs.Prelude.{option_and_then}
use Rattle.os9_sched.specs.declared.member.Wait.{Wait}
use Rattle.proc_model.specs.IoReady.{has_io}
use Rattle.os9_kernel.specs.Causes.{awaited}
use Rattle.os9_kernel.specs.Looks.{EndsNotBefore, may_go_in}
use Rattle.os9_kernel.specs.Tie.{ticks}
use Rattle.os9_kernel.proofs.Looking.{ends-sooner}
use Rattle.os9_kernel.proofs.kernel.Kernel.asked.Goals as goal

pub loop-number-init : goal.loop-number-init
loop-number-init c = record {
  may_go = λ known p below. absurd (omega (arith, below));
  none = λ p low. ap (λ (io : ℕ → Bool). io p) c.none-ready.ensures;
  waits = λ p below. absurd (omega (arith, below));
  fits = omega arith;
}

pub loop-number-preserved : goal.loop-number-preserved
loop-number-preserved c =
    let kernel = c.args.self.now in
    let now = ticks kernel in
    let number = c.loop-number.number in
    let until = c.loop-number.until in
    let next = c.min-until.result in
    let so_far = c.loop-number.invariant in
    let before : next ≤ until = omega (arith, c.min-until.ensures) in
    let early : next ≤ c.later.result = omega (arith, c.min-until.ensures) in record {
      may_go = λ known. below_more (λ (p : ℕ). has_io c.with-ready.result p ≡ may_go_in kernel.machine.files now p) number
          (λ p below. c.with-ready.ensures.others p (λ is. absurd (omega (arith, below, is))) ∙ so_far.may_go known p below)
          (c.with-ready.ensures.own ∙ c.goes.ensures known);
      none = λ p low. c.with-ready.ensures.others p (λ is. absurd (omega (arith, low, is))) ∙ so_far.none p (omega (arith, low));
      waits = below_more (λ (p : ℕ). EndsNotBefore now next (option_and_then (λ (wait : Wait). wait.until) (awaited kernel.machine.files p))) number
          (λ p below. ends-sooner now until next (option_and_then (λ (wait : Wait). wait.until) (awaited kernel.machine.files p)) before (so_far.waits p below))
          (subst (λ (end : Option ℕ). EndsNotBefore now next end) (c.until_of.ensures ∙ ap (option_and_then (λ (wait : Wait). wait.until)) c.waits_for-wait.ensures)
          (ends-sooner now c.later.result next c.until_of.result early c.later.ensures));
      fits = omega (arith, before, so_far.fits);
    }
