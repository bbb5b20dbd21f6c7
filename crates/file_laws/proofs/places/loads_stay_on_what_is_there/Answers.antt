use Rattle.file_laws.proofs.Attempts.{chain-kinds, fork-kinds, load-kinds}
use Rattle.file_laws.proofs.places.loads_stay_on_what_is_there.Goals as goal

pub returns : goal.returns
returns c = record { load = load-kinds; fork = fork-kinds; chain = chain-kinds }
