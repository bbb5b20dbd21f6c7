use Rattle.std.proofs.Common.{refl}
use Rattle.io_model.specs.Edit.{edited}
use Rattle.io_model.proofs.edit.end_of_file_alone.Goals as goal

pub returns : goal.returns
unfolding edited
returns c = refl
