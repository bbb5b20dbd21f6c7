use Rattle.state_laws.proofs.Seen.{cells-same}
use Rattle.state_laws.proofs.numbers_of_objects_are_not_seen.Goals as goal

pub returns : goal.returns
returns c = cells-same
