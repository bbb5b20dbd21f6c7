use Rattle.rbf_model.proofs.ImageLaws.{append_image}
use Rattle.rbf_model.proofs.writes.directory_grows_by_an_entry.Goals as goal

pub returns : goal.returns
returns c = λ image v entry bytes n vol whole appends. append_image image v vol entry.directory entry.file bytes entry.place entry.bytes n whole appends
