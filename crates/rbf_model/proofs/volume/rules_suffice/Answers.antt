use Rattle.rbf_model.proofs.Images.{vol_from_keeps}
use Rattle.rbf_model.proofs.volume.rules_suffice.Goals as goal

pub returns : goal.returns
returns c = λ image numbers header keeps found. vol_from_keeps image header keeps numbers found
