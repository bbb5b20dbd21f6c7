use Rattle.std.proofs.Common.{◌∙◌}
use Rattle.rbf_access.proofs.Mounting.{free_total_is}
use Rattle.rbf_access.proofs.volume.Volume.free_count.Goals as goal

pub returns-clause-volume : goal.returns-clause-volume
returns-clause-volume c image v agrees vol = c.free_count.ensures ∙ free_total_is c.args.self.now image v agrees vol
