use Rattle.rbf_model.proofs.Unique.{vol_is_unique}
use Rattle.rbf_model.proofs.volume.one_volume.Goals as goal

pub returns : goal.returns
returns c = vol_is_unique
