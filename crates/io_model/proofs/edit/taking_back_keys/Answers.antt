use Rattle.std.proofs.Common.{refl}
use Rattle.io_model.specs.Edit.{edited}
use Rattle.io_model.proofs.edit.taking_back_keys.Goals as goal

pub returns-clause-backspace : goal.returns-clause-backspace
unfolding edited
returns-clause-backspace c = refl

pub returns-clause-backspace_on_none : goal.returns-clause-backspace_on_none
unfolding edited
returns-clause-backspace_on_none c = refl

pub returns-clause-delete_line : goal.returns-clause-delete_line
unfolding edited
returns-clause-delete_line c = refl
