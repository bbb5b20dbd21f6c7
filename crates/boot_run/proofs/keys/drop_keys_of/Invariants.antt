-- What is left can be taken, and fewer keys are left each time.
use Rattle.std.proofs.Common.{◌≡◌, All, length}
use Rattle.boot_run.specs.Dropped.{CanBeTaken}
use Rattle.boot_run.proofs.keys.drop_keys_of.Given as goal

abbrev pub invariant-loop-fault : goal.invariant-loop-fault
invariant-loop-fault g l = record {
  typed : All CanBeTaken ((goal.CharDriver-dyn g l.fn.term.now).keys_left l.fn.term.now.1) → All CanBeTaken ((goal.CharDriver-dyn g l.term.now).keys_left l.term.now.1);
  put : (goal.CharDriver-dyn g l.term.now).bytes_put l.term.now.1 ≡ (goal.CharDriver-dyn g l.fn.term.now).bytes_put l.fn.term.now.1;
  faults : (goal.CharDriver-dyn g l.term.now).term_faults l.term.now.1 ≡ (goal.CharDriver-dyn g l.fn.term.now).term_faults l.fn.term.now.1;
}

abbrev pub decreases-loop-fault : goal.decreases-loop-fault
decreases-loop-fault g l = length ((goal.CharDriver-dyn g l.term.now).keys_left l.term.now.1)
