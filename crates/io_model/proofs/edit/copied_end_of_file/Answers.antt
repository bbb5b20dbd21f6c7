use Rattle.std.proofs.Common.{refl}
use Rattle.io_model.specs.Edit.{copied}
use Rattle.io_model.proofs.edit.copied_end_of_file.Goals as goal

pub returns-clause-end_of_file : goal.returns-clause-end_of_file
unfolding copied
returns-clause-end_of_file c = refl

pub returns-clause-later_end_of_file : goal.returns-clause-later_end_of_file
unfolding copied
returns-clause-later_end_of_file c = refl
