use Rattle.file_laws.proofs.Loads.{chain-leaves, fork-leaves, load-leaves}
use Rattle.file_laws.proofs.touches.loads_touch_no_device.Goals as goal

pub returns : goal.returns
returns c = record { load = load-leaves; fork = fork-leaves; chain = chain-leaves }
