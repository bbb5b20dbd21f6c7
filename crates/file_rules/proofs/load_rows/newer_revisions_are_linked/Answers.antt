use Rattle.std.proofs.Common.{refl}
use Rattle.proc_model.specs.Slots.{highest_run_upto}
use Rattle.file_rules.proofs.load_rows.newer_revisions_are_linked.Goals as goal

pub returns-clause-revision : goal.returns-clause-revision
unfolding highest_run_upto
returns-clause-revision c = refl

pub returns-clause-past : goal.returns-clause-past
unfolding highest_run_upto
returns-clause-past c = refl

pub returns-clause-header : goal.returns-clause-header
unfolding highest_run_upto
returns-clause-header c = refl

pub returns-clause-found : goal.returns-clause-found
unfolding highest_run_upto
returns-clause-found c = refl

pub returns-clause-shared : goal.returns-clause-shared
unfolding highest_run_upto
returns-clause-shared c = refl

pub returns-clause-again : goal.returns-clause-again
unfolding highest_run_upto
returns-clause-again c = refl

pub returns-clause-free : goal.returns-clause-free
unfolding highest_run_upto
returns-clause-free c = refl
