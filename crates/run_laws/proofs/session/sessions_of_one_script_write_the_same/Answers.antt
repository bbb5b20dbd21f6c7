use Rattle.run_laws.proofs.Same.{sessions-same}
use Rattle.run_laws.proofs.session.sessions_of_one_script_write_the_same.Goals as goal

pub returns : goal.returns
returns c = record { sessions = sessions-same }
