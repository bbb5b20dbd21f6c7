use Rattle.file_laws.proofs.CausedLoads.{chain-caused, fork-caused, load-caused}
use Rattle.file_laws.proofs.touches.refusals_of_loads_have_their_causes.Goals as goal

pub returns : goal.returns
returns c = record { load = load-caused; fork = fork-caused; chain = chain-caused }
