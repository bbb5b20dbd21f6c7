use Rattle.io_model.proofs.EditLemmas.{typing-append}
use Rattle.io_model.proofs.edit.typing_can_be_cut.Goals as goal

pub returns : goal.returns
returns c = typing-append
