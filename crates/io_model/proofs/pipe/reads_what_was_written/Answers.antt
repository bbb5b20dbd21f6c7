use Rattle.io_model.proofs.PipeLemmas.{flows-in_order}
use Rattle.io_model.proofs.pipe.reads_what_was_written.Goals as goal

pub returns : goal.returns
returns c = flows-in_order
