-- The answer of the host says how the write ended.
use Rattle.os9_boot.proofs.OutLemmas.{noted-failed, noted-wanting, noted-whole, wrote-failed, wrote-wanting, wrote-whole}
use Rattle.os9_boot.proofs.asm.write_module.Goals as goal

pub returns-in-Ok-clause-wrote : goal.returns-in-Ok-clause-wrote
returns-in-Ok-clause-wrote g c devices = wrote-whole c.args.asm.now c.args.bytes.now _ _ _ (c.in-Ok.ensures.wrote devices)

pub returns-in-Err-Failed-clause-wrote : goal.returns-in-Err-Failed-clause-wrote
returns-in-Err-Failed-clause-wrote g c devices =
    wrote-failed c.args.asm.now c.args.bytes.now _ _ (rw c.in-Err-Failed.field-0-is at (c.in-Err-Failed.ensures.wrote devices))

pub returns-in-Err-OutOfMemory-clause-wrote : goal.returns-in-Err-OutOfMemory-clause-wrote
returns-in-Err-OutOfMemory-clause-wrote g c devices =
    wrote-wanting c.args.asm.now c.args.bytes.now _ _ (rw c.in-Err-OutOfMemory.field-0-is at (c.in-Err-OutOfMemory.ensures.wrote devices))

pub returns-in-Ok-clause-noted : goal.returns-in-Ok-clause-noted
returns-in-Ok-clause-noted g c = noted-whole c.args.asm.now _ _ c.in-Ok.ensures.noted

pub returns-in-Err-Failed-clause-noted : goal.returns-in-Err-Failed-clause-noted
returns-in-Err-Failed-clause-noted g c =
    noted-failed c.args.asm.now _ _ (rw c.in-Err-Failed.field-0-is at c.in-Err-Failed.ensures.noted)

pub returns-in-Err-OutOfMemory-clause-noted : goal.returns-in-Err-OutOfMemory-clause-noted
returns-in-Err-OutOfMemory-clause-noted g c =
    noted-wanting c.args.asm.now _ _ (rw c.in-Err-OutOfMemory.field-0-is at c.in-Err-OutOfMemory.ensures.noted)
