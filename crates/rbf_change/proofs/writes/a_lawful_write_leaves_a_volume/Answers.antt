use Rattle.rbf_change.proofs.LawfulWrites.{lawful_step}
use Rattle.rbf_change.proofs.writes.a_lawful_write_leaves_a_volume.Goals as goal

pub returns : goal.returns
returns c = lawful_step
