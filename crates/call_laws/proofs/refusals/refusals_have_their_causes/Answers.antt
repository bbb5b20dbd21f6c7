use Rattle.call_laws.proofs.Refusing.{has-cause}
use Rattle.call_laws.proofs.refusals.refusals_have_their_causes.Goals as goal

pub returns : goal.returns
returns c = has-cause
