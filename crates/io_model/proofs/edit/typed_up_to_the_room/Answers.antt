use Rattle.std.proofs.Common.{refl}
use Rattle.io_model.specs.Edit.{edited}
use Rattle.io_model.proofs.edit.typed_up_to_the_room.Goals as goal

pub returns-clause-last_place : goal.returns-clause-last_place
unfolding edited
returns-clause-last_place c = refl

pub returns-clause-full : goal.returns-clause-full
unfolding edited
returns-clause-full c = refl

pub returns-clause-return_alone : goal.returns-clause-return_alone
unfolding edited
returns-clause-return_alone c = refl
