use Rattle.std.proofs.Common.{refl}
use Rattle.io_model.specs.Edit.{edited}
use Rattle.io_model.proofs.edit.typed_keys.Goals as goal

pub returns-clause-letter : goal.returns-clause-letter
unfolding edited
returns-clause-letter c = refl

pub returns-clause-zero : goal.returns-clause-zero
unfolding edited
returns-clause-zero c = refl

pub returns-clause-last_control : goal.returns-clause-last_control
unfolding edited
returns-clause-last_control c = refl

pub returns-clause-delete : goal.returns-clause-delete
unfolding edited
returns-clause-delete c = refl

pub returns-clause-above : goal.returns-clause-above
unfolding edited
returns-clause-above c = refl
