use Rattle.std.proofs.Common.{refl}
use Rattle.io_model.specs.Edit.{edited}
use Rattle.io_model.proofs.edit.line_editing.Goals as goal

pub returns-clause-first : goal.returns-clause-first
unfolding edited
returns-clause-first c = refl

pub returns-clause-second : goal.returns-clause-second
unfolding edited
returns-clause-second c = refl
