use Rattle.rbf_model.proofs.ImageLaws.{describe_image}
use Rattle.rbf_model.proofs.writes.descriptor_is_written.Goals as goal

pub returns : goal.returns
returns c = λ image v n old bytes vol whole describes. describe_image image v vol n old bytes whole describes
