use Rattle.stream_laws.proofs.PipeBreaks.{broken-tells}
use Rattle.stream_laws.proofs.PipeEvents.{event-passes}
use Rattle.stream_laws.proofs.PipeRuns.{run-passes, slice-passes}
use Rattle.stream_laws.proofs.pipes.what_is_read_of_a_pipe_is_what_was_written.Goals as goal

pub returns : goal.returns
returns c = record { event = event-passes; signal = broken-tells; slice = slice-passes; run = run-passes }
