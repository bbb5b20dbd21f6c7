use Rattle.call_laws.proofs.OthersLeft.{attempt-leaves}
use Rattle.call_laws.proofs.attempt.an_attempt_leaves_the_paths_of_others.Goals as goal

pub returns : goal.returns
returns c = attempt-leaves
