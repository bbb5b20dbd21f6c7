use Rattle.file_laws.proofs.Starts.{kinds-start}
use Rattle.file_laws.proofs.places.directories_are_there_at_the_start.Goals as goal

pub returns : goal.returns
returns c = kinds-start
