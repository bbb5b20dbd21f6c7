use Rattle.std.proofs.Common.{◌≡◌, ◌∙◌, false, sym, below_more}
use Rattle.os9_kernel.specs.View.{wakes_by_clock}
use Rattle.console_run.proofs.waiting.wakes_by_clock.Goals as goal

pub loop-number-preserved : goal.loop-number-preserved
loop-number-preserved c = λ devices s tied.
    below_more (λ k. wakes_by_clock s k ≡ false) c.loop-number.number (c.loop-number.invariant devices s tied) (sym (c.wakes_by_clock.ensures devices s tied) ∙ c.if-wakes_by_clock.false)
