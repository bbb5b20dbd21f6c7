use Rattle.file_laws.proofs.Starts.{kinds-ended, kinds-started, many-ended, many-started}
use Rattle.file_laws.proofs.places.processes_begin_and_end_on_what_is_there.Goals as goal

pub returns : goal.returns
returns c = record {
  begins = λ files parent child kinds. kinds-started files kinds parent child;
  ends = λ files p kinds. kinds-ended files kinds p;
  begins_mounted = many-started;
  ends_mounted = many-ended;
}
