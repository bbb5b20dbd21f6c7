use Rattle.state_laws.proofs.States.{representation-is-unique}
use Rattle.state_laws.proofs.representation_is_unique.Goals as goal

pub returns : goal.returns
returns c = representation-is-unique
