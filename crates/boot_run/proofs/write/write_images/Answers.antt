use Rattle.std.proofs.Common.{◌≡◌, ◌<◌, ◌+◌, suc, Some, length, slice_get, refl, ◌∙◌, arith, rules}
use Rattle.std.proofs.lemmas.List.{take_all}
use Rattle.boot_run.specs.World.{world_of}
use Rattle.boot_run.proofs.ImageLemmas.{all-written, none-written, stopped-failed, stopped-without_memory, writes-more}
use Rattle.boot_run.proofs.NoteLemmas.{noted-more, noted-none, noted-some}
use Rattle.boot_run.proofs.write.write_images.Goals as goal

pub loop-number-init : goal.loop-number-init
loop-number-init g c = record {
  within = omega arith;
  files = none-written c.args.names.now c.args.images.now _;
  count = (refl, refl, refl);
  out = refl;
  notes = noted-none c.args.names.now _;
}

pub loop-number-preserved : goal.loop-number-preserved
loop-number-preserved g c =
    let so_far = c.loop-number.invariant in
    let wrote = c.in-Ok.ensures in
    let place : c.from.result ≡ c.loop-number.number = search rules in
    let named : slice_get c.args.names.now c.loop-number.number ≡ Some c.text.result.now = rw c.text.ensures (rw place at c.word-name.ensures) in
    let below : c.loop-number.number < length c.args.images.now = omega (arith, c.len-number-end.ensures) in
    let next : c.loop-number.number + 1 ≡ suc c.loop-number.number = omega arith in
    record {
      within = omega arith;
      files = rw next (writes-more c.loop-number.number c.args.names.now c.args.images.now c.text.result.now
          c.image.result.now _ _ _ named c.image.ensures so_far.files wrote.written wrote.others_kept);
      count = (wrote.count_kept ∙ so_far.count.0, wrote.name_kept ∙ so_far.count.1, wrote.read_kept ∙ so_far.count.2);
      out = wrote.out_kept ∙ so_far.out;
      notes = rw next (noted-more c.loop-number.number c.args.names.now c.text.result.now _ _ _ named so_far.notes wrote.reads_kept wrote.err_kept wrote.err_count_kept wrote.write_noted);
    }

pub returns-in-Err-Failed-clause-wrote : goal.returns-in-Err-Failed-clause-wrote
returns-in-Err-Failed-clause-wrote g c devices =
    let so_far = c.loop-number.invariant in
    let wrote = c.in-Err-Failed.ensures in
    let place : c.from.result ≡ c.loop-number.number = search rules in
    let named : slice_get c.args.names.now c.loop-number.number ≡ Some c.text.result.now = rw c.text.ensures (rw place at c.word-name.ensures) in
    stopped-failed c.loop-number.number c.args.names.now c.args.images.now c.text.result.now c.image.result.now
    (world_of g.H.Host c.args.host.now devices) (world_of g.H.Host c.loop-number.host devices)
    (world_of g.H.Host c.write_file.new.self devices) named c.image.ensures so_far.count so_far.files
    wrote.prefix_written wrote.others_kept (wrote.out_kept ∙ so_far.out) refl (rw c.in-Err-Failed.field-0-is at
    wrote.fault_counted) (rw c.in-Err-Failed.field-0-is at wrote.fault_named) (rw c.in-Err-Failed.field-0-is at
    wrote.fault_in_write)

pub returns-in-Err-OutOfMemory-clause-wrote : goal.returns-in-Err-OutOfMemory-clause-wrote
returns-in-Err-OutOfMemory-clause-wrote g c devices =
    let so_far = c.loop-number.invariant in
    let wrote = c.in-Err-OutOfMemory.ensures in
    let place : c.from.result ≡ c.loop-number.number = search rules in
    let named : slice_get c.args.names.now c.loop-number.number ≡ Some c.text.result.now = rw c.text.ensures (rw place at c.word-name.ensures) in
    let is = c.in-Err-OutOfMemory.field-0-is in
    stopped-without_memory c.loop-number.number c.args.names.now c.args.images.now c.text.result.now
    c.image.result.now (world_of g.H.Host c.args.host.now devices) (world_of g.H.Host c.loop-number.host devices)
    (world_of g.H.Host c.write_file.new.self devices) named c.image.ensures so_far.count so_far.files
    wrote.prefix_written wrote.others_kept (wrote.out_kept ∙ so_far.out) refl (
      rw is at wrote.count_kept,
      rw is at
          wrote.name_kept,
      rw is at wrote.read_kept,
    )

pub returns-clause-wrote : goal.returns-clause-wrote
returns-clause-wrote g c devices =
    let so_far = c.loop-number.invariant in
    record {
      written = all-written c.args.names.now c.args.images.now c.loop-number.number _ _ (omega (arith, c.requires, c.len-number-end.ensures)) (omega (arith, c.len-number-end.ensures)) so_far.files;
      no_fault = so_far.count;
      stopped = tt;
      out_kept = so_far.out;
      devices_kept = refl;
    }

pub returns-in-Err-Failed-clause-noted : goal.returns-in-Err-Failed-clause-noted
returns-in-Err-Failed-clause-noted g c =
    let wrote = c.in-Err-Failed.ensures in
    let place : c.from.result ≡ c.loop-number.number = search rules in
    let named : slice_get c.args.names.now c.loop-number.number ≡ Some c.text.result.now = rw c.text.ensures (rw place at c.word-name.ensures) in
    noted-more c.loop-number.number c.args.names.now c.text.result.now _ _ _ named c.loop-number.invariant.notes
    wrote.reads_kept wrote.err_kept wrote.err_count_kept (rw c.in-Err-Failed.field-0-is at wrote.write_noted)

pub returns-in-Err-OutOfMemory-clause-noted : goal.returns-in-Err-OutOfMemory-clause-noted
returns-in-Err-OutOfMemory-clause-noted g c =
    let wrote = c.in-Err-OutOfMemory.ensures in
    let place : c.from.result ≡ c.loop-number.number = search rules in
    let named : slice_get c.args.names.now c.loop-number.number ≡ Some c.text.result.now = rw c.text.ensures (rw place at c.word-name.ensures) in
    noted-some c.loop-number.number c.args.names.now c.text.result.now _ _ _ named c.loop-number.invariant.notes
    wrote.reads_kept wrote.err_kept wrote.err_count_kept (rw c.in-Err-OutOfMemory.field-0-is at wrote.write_noted)

pub returns-clause-noted : goal.returns-clause-noted
returns-clause-noted g c =
    rw (take_all c.loop-number.number c.args.names.now (omega (arith, c.requires, c.len-number-end.ensures))) at c.loop-number.invariant.notes
