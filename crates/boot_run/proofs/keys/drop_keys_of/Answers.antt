use Rattle.std.proofs.Common.{◌<◌, ℕ, List, All, length, ap, subst, sym, ◌∙◌}
use Rattle.os9_base.specs.Count.{Rose}
use Rattle.os9_outer.specs.Terminal.{keys_after}
use Rattle.os9_outer.specs.declared.terminal.Key.{Key}
use Rattle.boot_run.specs.Dropped.{CanBeTaken}
use Rattle.boot_run.proofs.DroppedLemmas.{last_tick, none-due, one-due, typed-after}
use Rattle.boot_run.proofs.keys.drop_keys_of.Goals as goal

pub loop-fault-preserved : goal.loop-fault-preserved
loop-fault-preserved g c =
    let took = c.in-Ok-Some.ensures in
    record {
      typed = λ typed. subst (All CanBeTaken) (sym took.taken) (typed-after _ (c.loop-fault.invariant.typed typed));
      put = took.put_kept ∙ c.loop-fault.invariant.put;
      faults = took.faults_kept ∙ c.loop-fault.invariant.faults;
    }

pub loop-fault-smaller : goal.loop-fault-smaller
loop-fault-smaller g c =
    let took = c.in-Ok-Some.ensures in
    let left = (goal.CharDriver-dyn g c.loop-fault.term.now).keys_left c.loop-fault.term.now.1 in
    subst (λ (keys : List Key). length keys < length left) (sym took.taken) (one-due left c.in-Ok-Some.field-0-0 (sym took.answered ∙ c.in-Ok-Some.field-0-is))

pub returns-in-Ok-None-clause-dropped : goal.returns-in-Ok-None-clause-dropped
returns-in-Ok-None-clause-dropped g c = λ typed.
    let took = c.in-Ok-None.ensures in
    let left = (goal.CharDriver-dyn g c.loop-fault.term.now).keys_left c.loop-fault.term.now.1 in
    took.taken ∙ ap (λ keys. keys_after keys last_tick) (none-due left (c.loop-fault.invariant.typed typed) (sym took.answered ∙ c.in-Ok-None.field-0-is))

pub returns-in-Err-clause-failed : goal.returns-in-Err-clause-failed
returns-in-Err-clause-failed g c =
    let faults = (goal.CharDriver-dyn g (c.loop-fault.term.now.0, c.next_key.new.term)).term_faults c.next_key.new.term in
    subst (λ (before : ℕ). Rose before faults) c.loop-fault.invariant.faults c.in-Err.ensures.fault_counted
