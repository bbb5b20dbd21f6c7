use Rattle.std.proofs.Common.{refl}
use Rattle.io_model.specs.Edit.{edited}
use Rattle.io_model.proofs.edit.end_of_file_key.Goals as goal

pub returns-clause-end_of_file : goal.returns-clause-end_of_file
unfolding edited
returns-clause-end_of_file c = refl

pub returns-clause-end_of_file_in_a_line : goal.returns-clause-end_of_file_in_a_line
unfolding edited
returns-clause-end_of_file_in_a_line c = refl
