use Rattle.rbf_model.proofs.ImageLaws.{leave_image}
use Rattle.rbf_model.proofs.writes.entry_becomes_free.Goals as goal

pub returns : goal.returns
returns c = λ image v entry write n file vol whole leaves. leave_image image v vol entry.directory entry.file write.place write.lsn write.bytes entry.place entry.bytes n file whole leaves
