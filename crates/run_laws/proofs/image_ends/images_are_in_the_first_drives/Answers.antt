use Rattle.run_laws.proofs.Starts.{start-has-images, start-has-no-more}
use Rattle.run_laws.proofs.image_ends.images_are_in_the_first_drives.Goals as goal

pub returns : goal.returns
returns c = record { image = start-has-images; none = start-has-no-more }
