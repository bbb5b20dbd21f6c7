use Rattle.rbf_model.proofs.Images.{no_image_breach}
use Rattle.rbf_model.proofs.volume.no_rule_is_broken.Goals as goal

pub returns : goal.returns
returns c = λ image v rule lsn vol breach. no_image_breach image v vol breach
