use Rattle.os9_boot.proofs.OutputLemmas.{image-failed, image-wanting, image-wrote, noted-image, noted-wanting, noted-whole, outputs-image}
use Rattle.os9_boot.proofs.output.write_image.Goals as goal

pub returns-in-Ok-clause-wrote : goal.returns-in-Ok-clause-wrote
returns-in-Ok-clause-wrote g c devices answer =
    image-wrote c.args.vol.now answer c.args.image.now _ _ c.requires _ (c.in-Ok.ensures.wrote devices)

pub returns-in-Err-Failed-clause-wrote : goal.returns-in-Err-Failed-clause-wrote
returns-in-Err-Failed-clause-wrote g c devices answer =
    image-failed c.args.vol.now answer c.args.image.now _ _ c.requires (rw c.in-Err-Failed.field-0-is at (c.in-Err-Failed.ensures.wrote devices))

pub returns-in-Err-OutOfMemory-clause-wrote : goal.returns-in-Err-OutOfMemory-clause-wrote
returns-in-Err-OutOfMemory-clause-wrote g c devices answer =
    image-wanting c.args.vol.now answer c.args.image.now _ _ c.requires (rw c.in-Err-OutOfMemory.field-0-is at (c.in-Err-OutOfMemory.ensures.wrote devices))

pub returns-in-Ok-clause-noted : goal.returns-in-Ok-clause-noted
returns-in-Ok-clause-noted g c =
    noted-whole c.args.vol.now c.args.vol.now.image (outputs-image c.args.vol.now c.requires) _ _ c.in-Ok.ensures.noted

pub returns-in-Err-Failed-clause-noted : goal.returns-in-Err-Failed-clause-noted
returns-in-Err-Failed-clause-noted g c =
    noted-image c.args.vol.now c.args.vol.now.image (outputs-image c.args.vol.now c.requires) _ _ (rw c.in-Err-Failed.field-0-is at c.in-Err-Failed.ensures.noted)

pub returns-in-Err-OutOfMemory-clause-noted : goal.returns-in-Err-OutOfMemory-clause-noted
returns-in-Err-OutOfMemory-clause-noted g c =
    noted-wanting c.args.vol.now c.args.vol.now.image (outputs-image c.args.vol.now c.requires) _ _ (rw c.in-Err-OutOfMemory.field-0-is at c.in-Err-OutOfMemory.ensures.noted)
