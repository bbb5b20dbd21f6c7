use Rattle.rbf_change.proofs.LawfulWrites.{lawful_steps}
use Rattle.rbf_change.proofs.writes.lawful_writes_leave_a_volume.Goals as goal

pub returns : goal.returns
returns c = lawful_steps
