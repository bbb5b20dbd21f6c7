use Rattle.file_laws.proofs.Named.{written-file}
use Rattle.file_laws.proofs.places.paths_that_may_be_written_are_on_no_directory.Goals as goal

pub returns : goal.returns
returns c = λ files p n opened kinds is writes. written-file files kinds p n opened is writes
