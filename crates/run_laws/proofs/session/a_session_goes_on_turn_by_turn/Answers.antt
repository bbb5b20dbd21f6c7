use Rattle.run_laws.proofs.Onward.{comes-first, comes-last, comes-on}
use Rattle.run_laws.proofs.session.a_session_goes_on_turn_by_turn.Goals as goal

pub returns : goal.returns
returns c = record { start = comes-first; turn = comes-on; stop = comes-last }
