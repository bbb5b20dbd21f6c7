use Rattle.std.proofs.Common.{refl}
use Rattle.io_model.specs.Edit.{copied}
use Rattle.io_model.proofs.edit.copied_keys.Goals as goal

pub returns-clause-control : goal.returns-clause-control
unfolding copied
returns-clause-control c = refl

pub returns-clause-return_key : goal.returns-clause-return_key
unfolding copied
returns-clause-return_key c = refl

pub returns-clause-last_byte : goal.returns-clause-last_byte
unfolding copied
returns-clause-last_byte c = refl
