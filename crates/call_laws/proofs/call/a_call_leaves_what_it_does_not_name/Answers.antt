use Rattle.call_laws.proofs.ForksKept.{attempt-left}
use Rattle.call_laws.proofs.call.a_call_leaves_what_it_does_not_name.Goals as goal

pub returns : goal.returns
returns c = λ m p call lives attempts_it. (attempt-left m p call lives attempts_it).leaves
