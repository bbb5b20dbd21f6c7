use Rattle.run_laws.proofs.Sessions.{session-runs}
use Rattle.run_laws.proofs.later.a_session_is_the_run_of_its_script.Goals as goal

pub returns : goal.returns
returns c = record { session = λ turns s t states written session. session-runs turns s states written t session }
