use Rattle.run_laws.proofs.Images.{images-keep-ends, written-back}
use Rattle.run_laws.proofs.image_ends.images_keep_their_ends.Goals as goal

pub returns : goal.returns
returns c = record { volume = written-back; run = images-keep-ends }
