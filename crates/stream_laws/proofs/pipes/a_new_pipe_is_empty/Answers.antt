use Rattle.stream_laws.proofs.PipeEvents.{new-empty}
use Rattle.stream_laws.proofs.pipes.a_new_pipe_is_empty.Goals as goal

pub returns : goal.returns
returns c = new-empty
