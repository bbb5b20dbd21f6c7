use Rattle.io_model.proofs.EditLemmas.{uses-front}
use Rattle.io_model.proofs.edit.typing_uses_a_front.Goals as goal

pub returns : goal.returns
returns c = uses-front
