-- Both laws, from the start of an accepted file.
use Rattle.stress_run.proofs.Started.{starts-accepted, never-refused-accepted}
use Rattle.stress_run.proofs.laws.accepted_files_start.Goals as goal

pub returns-clause-starts : goal.returns-clause-starts
returns-clause-starts c = λ file blocks accepted. starts-accepted file blocks accepted

pub returns-clause-no_refusal : goal.returns-clause-no_refusal
returns-clause-no_refusal c = λ file blocks fault accepted. never-refused-accepted file blocks accepted fault
