use Rattle.std.proofs.Common.{◌≡◌, ℕ, ◌∙◌, sym, arith, below_more}
use Rattle.os9_sched.specs.Members.{is_active_in}
use Rattle.proc_model.specs.IoReady.{has_io}
use Rattle.proc_state.specs.Ready.{ready_at}
use Rattle.proc_state.proofs.choice.settle.Goals as goal

pub loop-number-preserved : goal.loop-number-preserved
loop-number-preserved c =
    let done = c.settle_one.ensures in
    let after = c.settle_one.new.s in record {
      active = below_more (λ (p : ℕ). is_active_in after.sched.members p ≡ ready_at (has_io c.args.io.now) after.tick after p) c.loop-number.number
          (λ p below. done.others p (λ same. omega (arith, same)) ∙ c.loop-number.invariant.active p below ∙ sym (done.ready p)) done.active;
      tied = λ m before. done.tied m (c.loop-number.invariant.tied m before);
    }
