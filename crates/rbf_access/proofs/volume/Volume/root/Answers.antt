use Rattle.rbf_access.proofs.Mounting.{root_is}
use Rattle.rbf_access.proofs.volume.Volume.root.Goals as goal

pub returns-clause-volume : goal.returns-clause-volume
returns-clause-volume c image v agrees vol = root_is c.args.self.now image v agrees vol
