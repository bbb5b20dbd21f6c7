use Rattle.rbf_model.proofs.ImageLaws.{enter_image}
use Rattle.rbf_model.proofs.writes.entry_becomes_used.Goals as goal

pub returns : goal.returns
returns c = λ image v entry write n vol whole enters. enter_image image v vol entry.directory entry.file write.place write.lsn write.bytes entry.place entry.bytes n whole enters
