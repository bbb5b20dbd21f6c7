use Rattle.file_laws.proofs.Attempts.{chain-many, fork-many, load-many}
use Rattle.file_laws.proofs.places.loads_lose_no_volume.Goals as goal

pub returns : goal.returns
returns c = record { load = load-many; fork = fork-many; chain = chain-many }
