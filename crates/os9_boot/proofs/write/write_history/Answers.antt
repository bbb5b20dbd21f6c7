use Rattle.std.proofs.Common.{◌∙◌, refl, inl}
use Rattle.boot_run.proofs.ReadLemmas.{written-none}
use Rattle.os9_boot.proofs.WriteLemmas.{none-yet, text-failed, text-wanting, text-written}
use Rattle.os9_boot.proofs.write.write_history.Goals as goal

pub returns-in-Err-clause-wrote : goal.returns-in-Err-clause-wrote
returns-in-Err-clause-wrote g c devices = record {
  written = tt;
  no_fault = tt;
  stopped = ((refl, refl, refl), none-yet _ _ _);
  out_kept = refl;
  devices_kept = refl;
}

pub returns-in-Err-clause-noted : goal.returns-in-Err-clause-noted
returns-in-Err-clause-noted g c = inl (written-none _)

pub returns-in-Ok-write_output-clause-wrote : goal.returns-in-Ok-write_output-clause-wrote
returns-in-Ok-write_output-clause-wrote g c devices =
    text-written c.args.name.now c.deref.result.now c.args.history.now _ _ (c.deref.ensures.value ∙ c.in-Ok.ensures)
    c.in-Ok-write_output.field-0 (c.in-Ok-write_output.ensures.wrote devices)

pub returns-in-Err-Failed-clause-wrote : goal.returns-in-Err-Failed-clause-wrote
returns-in-Err-Failed-clause-wrote g c devices =
    text-failed c.args.name.now c.deref.result.now c.args.history.now _ _ (c.deref.ensures.value ∙ c.in-Ok.ensures)
    (rw c.in-Err-Failed.field-0-is at (c.in-Err-Failed.ensures.wrote devices))

pub returns-clause-wrote : goal.returns-clause-wrote
returns-clause-wrote g c devices =
    text-wanting c.args.name.now c.deref.result.now c.args.history.now _ _ (c.deref.ensures.value ∙ c.in-Ok.ensures)
    (rw c.in-Err-OutOfMemory.field-0-is at (c.in-Err-OutOfMemory.ensures.wrote devices))
