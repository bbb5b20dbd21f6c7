use Rattle.std.proofs.Common.{refl}
use Rattle.io_model.specs.Edit.{edited}
use Rattle.io_model.proofs.edit.repeating_keys.Goals as goal

pub returns-clause-reprint : goal.returns-clause-reprint
unfolding edited
returns-clause-reprint c = refl

pub returns-clause-duplicate : goal.returns-clause-duplicate
unfolding edited
returns-clause-duplicate c = refl

pub returns-clause-duplicate_of_more : goal.returns-clause-duplicate_of_more
unfolding edited
returns-clause-duplicate_of_more c = refl
