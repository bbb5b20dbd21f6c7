use Rattle.rbf_model.proofs.ImageLaws.{unseen_image}
use Rattle.rbf_model.proofs.writes.unseen_writes_leave_the_volume.Goals as goal

pub returns : goal.returns
returns c = λ image v s bytes vol whole unseen. unseen_image image v vol s bytes whole unseen
