use Rattle.rbf_model.proofs.ImageLaws.{overwrite_image}
use Rattle.rbf_model.proofs.writes.data_is_overwritten.Goals as goal

pub returns : goal.returns
returns c = λ image v n j s file bytes vol whole over. overwrite_image image v vol n j s file bytes whole over
