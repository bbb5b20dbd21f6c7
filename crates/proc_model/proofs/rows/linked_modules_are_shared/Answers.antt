use Rattle.std.proofs.Common.{refl}
use Rattle.proc_model.specs.Slots.{highest_run_upto}
use Rattle.proc_model.proofs.rows.linked_modules_are_shared.Goals as goal

pub returns-clause-linked : goal.returns-clause-linked
unfolding highest_run_upto
returns-clause-linked c = refl

pub returns-clause-shared : goal.returns-clause-shared
unfolding highest_run_upto
returns-clause-shared c = refl

pub returns-clause-before : goal.returns-clause-before
unfolding highest_run_upto
returns-clause-before c = refl
