-- The name is noted where the file was read or could not be, and may be where memory is out.
use Rattle.std.proofs.Common.{refl}
use Rattle.boot_run.proofs.ReadLemmas.{noted-read, stop-failed, stop-memory}
use Rattle.boot_run.proofs.input.read_input.Goals as goal

pub returns-in-Ok-clause-noted : goal.returns-in-Ok-clause-noted
returns-in-Ok-clause-noted g c =
    let read = c.in-Ok.ensures in
    noted-read c.args.name.now _ _ (rw c.text.ensures at read.read_noted) read.written_kept read.err_kept read.err_count_kept

pub returns-in-Err-Failed-clause-stopped : goal.returns-in-Err-Failed-clause-stopped
returns-in-Err-Failed-clause-stopped g c name_of named =
    let read = c.in-Err-Failed.ensures in
    stop-failed name_of _ _ c.args.input c.args.name.now named (noted-read c.args.name.now _ _
    (rw (c.in-Err-Failed.field-0-is, c.text.ensures) at read.read_noted) read.written_kept read.err_kept
    read.err_count_kept)

pub returns-in-Err-OutOfMemory-clause-stopped : goal.returns-in-Err-OutOfMemory-clause-stopped
returns-in-Err-OutOfMemory-clause-stopped g c name_of named =
    let read = c.in-Err-OutOfMemory.ensures in
    stop-memory name_of _ _ c.args.name.now (rw (c.in-Err-OutOfMemory.field-0-is, c.text.ensures) at read.read_noted) read.written_kept read.err_kept read.err_count_kept

-- ---- what the command comes to

pub returns-in-Err-Failed-clause-ended : goal.returns-in-Err-Failed-clause-ended
returns-in-Err-Failed-clause-ended g c devices name_of named =
    let read = c.in-Err-Failed.ensures in
    let is = c.in-Err-Failed.field-0-is in (
      c.args.name.now,
      named,
      record {
        failed = (rw is at read.fault_counted, rw (is, c.text.ensures) at read.fault_named, rw is at read.fault_in_read);
        files = read.files_kept;
        out = read.out_kept;
        devices = refl;
      },
    )

pub returns-in-Err-OutOfMemory-clause-ended : goal.returns-in-Err-OutOfMemory-clause-ended
returns-in-Err-OutOfMemory-clause-ended g c devices name_of named =
    let read = c.in-Err-OutOfMemory.ensures in
    let is = c.in-Err-OutOfMemory.field-0-is in
    let faults = rw is at read.count_kept in
    let name = rw is at read.name_kept in
    let in_read = rw is at read.read_kept in
    λ i. record {
      files = read.files_kept i;
      out = read.out_kept i;
      faults = faults i;
      failed_name = name i;
      failed_in_read = in_read i;
      devices = devices;
    }
