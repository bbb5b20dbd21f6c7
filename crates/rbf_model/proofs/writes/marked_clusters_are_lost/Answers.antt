use Rattle.rbf_model.proofs.ImageLaws.{takes_image}
use Rattle.rbf_model.proofs.writes.marked_clusters_are_lost.Goals as goal

pub returns : goal.returns
returns c = λ image v s bytes taken vol whole takes. takes_image image v vol s bytes taken whole takes
