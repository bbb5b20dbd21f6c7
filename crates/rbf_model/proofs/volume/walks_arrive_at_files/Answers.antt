use Rattle.rbf_model.specs.Geometry.{image_geometry}
use Rattle.rbf_model.proofs.Walked.{walk_file}
use Rattle.rbf_model.proofs.volume.walks_arrive_at_files.Goals as goal

pub returns : goal.returns
returns c = λ image v user execute d n names vol some h.
    walk_file (image_geometry image) v.files vol.sound.tree user execute d n names some h
