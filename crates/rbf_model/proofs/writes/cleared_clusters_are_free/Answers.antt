use Rattle.rbf_model.proofs.ImageLaws.{frees_image}
use Rattle.rbf_model.proofs.writes.cleared_clusters_are_free.Goals as goal

pub returns : goal.returns
returns c = λ image v s bytes freed vol whole frees. frees_image image v vol s bytes freed whole frees
