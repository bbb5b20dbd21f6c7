-- The bytes are on the output stream, all or the first ones.
use Rattle.std.proofs.Common.{refl}
use Rattle.boot_run.proofs.ConsoleLemmas.{not-none}
use Rattle.boot_run.proofs.output.print.Goals as goal

pub returns-in-Ok-clause-printed : goal.returns-in-Ok-clause-printed
returns-in-Ok-clause-printed g c devices =
    let wrote = c.in-Ok.ensures in
    record {
      whole = wrote.gained;
      prefix = wrote.prefix_gained;
      no_fault = (wrote.count_kept, wrote.name_kept, wrote.read_kept);
      stopped = tt;
      some = tt;
      files = wrote.files_kept;
      devices = refl;
    }

pub returns-in-Err-Failed-clause-printed : goal.returns-in-Err-Failed-clause-printed
returns-in-Err-Failed-clause-printed g c devices =
    let wrote = c.in-Err-Failed.ensures in
    let is = c.in-Err-Failed.field-0-is in
    record {
      whole = tt;
      prefix = wrote.prefix_gained;
      no_fault = tt;
      stopped = (rw is at wrote.fault_counted, rw is at wrote.fault_unnamed, rw is at wrote.fault_in_out);
      some = not-none c.args.bytes.now c.is_empty.result c.is_empty.ensures c.if-is_empty.false;
      files = wrote.files_kept;
      devices = refl;
    }

pub returns-in-Err-OutOfMemory-clause-printed : goal.returns-in-Err-OutOfMemory-clause-printed
returns-in-Err-OutOfMemory-clause-printed g c devices =
    let wrote = c.in-Err-OutOfMemory.ensures in
    let is = c.in-Err-OutOfMemory.field-0-is in
    record {
      whole = tt;
      prefix = wrote.prefix_gained;
      no_fault = tt;
      stopped = (rw is at wrote.count_kept, rw is at wrote.name_kept, rw is at wrote.read_kept);
      some = not-none c.args.bytes.now c.is_empty.result c.is_empty.ensures c.if-is_empty.false;
      files = wrote.files_kept;
      devices = refl;
    }

pub returns-in-Ok-clause-notes_kept : goal.returns-in-Ok-clause-notes_kept
returns-in-Ok-clause-notes_kept g c =
    let wrote = c.in-Ok.ensures in
    λ i. record { read = wrote.reads_kept i; written = wrote.written_kept i; err = wrote.err_kept i; err_faults = wrote.err_count_kept i }

pub returns-in-Err-Failed-clause-notes_kept : goal.returns-in-Err-Failed-clause-notes_kept
returns-in-Err-Failed-clause-notes_kept g c =
    let wrote = c.in-Err-Failed.ensures in
    λ i. record { read = wrote.reads_kept i; written = wrote.written_kept i; err = wrote.err_kept i; err_faults = wrote.err_count_kept i }

pub returns-in-Err-OutOfMemory-clause-notes_kept : goal.returns-in-Err-OutOfMemory-clause-notes_kept
returns-in-Err-OutOfMemory-clause-notes_kept g c =
    let wrote = c.in-Err-OutOfMemory.ensures in
    λ i. record { read = wrote.reads_kept i; written = wrote.written_kept i; err = wrote.err_kept i; err_faults = wrote.err_count_kept i }
