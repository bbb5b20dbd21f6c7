use Rattle.io_model.proofs.EditLemmas.{uses-all}
use Rattle.io_model.proofs.edit.unended_typing_uses_all.Goals as goal

pub returns : goal.returns
returns c = uses-all
