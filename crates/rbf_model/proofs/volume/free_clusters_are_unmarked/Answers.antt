use Rattle.rbf_model.specs.Geometry.{geometry, sector}
use Rattle.rbf_model.proofs.Free.{free_clusters_are}
use Rattle.rbf_model.proofs.volume.free_clusters_are_unmarked.Goals as goal

pub returns : goal.returns
returns c = λ image v vol. free_clusters_are (geometry (sector image 0)) (sector image) v vol.sound
