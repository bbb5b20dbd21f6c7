use Rattle.stream_laws.proofs.PipeRuns.{begun-passes, first-passes, pass-then, steps-passes}
use Rattle.stream_laws.proofs.pipes.a_pipe_passes_bytes_as_long_as_it_lives.Goals as goal

pub returns : goal.returns
returns c = record { rest = steps-passes; first = first-passes; begun = begun-passes; parts = pass-then }
