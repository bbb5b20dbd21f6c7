use Rattle.std.proofs.Common.{◌≡◌, ◌<◌, ◌+◌, ◌∷◌, ◌++◌, [], take, length, get_or, refl, sym, ap, ◌∙◌, arith, rules}
use Rattle.std.proofs.lemmas.List.{take-append-drop, take_all, take_more}
use Rattle.std.proofs.lemmas.Option.{slice_get-get_or}
use Rattle.std.specs.Vec.{vec_len}
use Rattle.file_drives.specs.Drives.{drive_views}
use Rattle.boot_run.proofs.RunLemmas.{reaches-none, reaches-more, reaches-idle, reaches-all, partly-before, partly-after, stands-emptied}
use Rattle.boot_run.proofs.run.run_slices.Goals as goal

pub loop-n-init : goal.loop-n-init
loop-n-init g c = record {
  few = omega (arith, c.requires.few);
  stands = c.requires.stands;
  reaches = λ s told stood. reaches-none c.args.slices.now _ s c.args.kernel.now _ told stood;
  count = (refl, refl, refl);
  files = refl;
  notes = refl;
  terminals = refl;
  drives = refl;
}

pub loop-n-preserved : goal.loop-n-preserved
loop-n-preserved g c =
    let so_far = c.loop-n.invariant in
    let slice = c.slice.ensures.slice in
    let passed = c.in-Ok.ensures in
    let drives = ap (λ drives. drive_views (λ box. (g.dyn-1.0.entry box.vtable).1) drives.items) passed.drives_kept in
    let more : take (c.loop-n.n-index + 1) c.args.slices.now ≡ take c.loop-n.n-index c.args.slices.now ++ get_or
    c.args.slices.now c.loop-n.n-index 0 ∷ [] = take_more c.args.slices.now c.loop-n.n-index 0 (search rules) in
    record {
      few = omega (arith, so_far.few, slice.count (λ e. c.in_default.not-NoMemory e));
      stands = stands-emptied _ c.loop-n.kernel c.slice.new.self _ _ _ c.slice.result so_far.stands (λ e. c.in_default.not-NoMemory e) slice drives passed.passed.taken;
      reaches = λ s told stood.
          rw more (reaches-more _ c.args.slices.now c.loop-n.n-index s (get_or c.args.slices.now c.loop-n.n-index 0)
          c.loop-n.kernel c.slice.new.self _ _ _ _ _ _ c.slice.result (slice_get-get_or c.args.slices.now
          c.loop-n.n-index 0 (search rules)) (so_far.reaches s told stood) (λ m tied none. c.if-living-eq0.false
          (c.living.ensures _ m tied ∙ none)) (slice.step (λ e. c.in_default.not-NoMemory e)) drives
          passed.passed.taken passed.passed.written);
      count = (passed.passed.no_fault.0 ∙ so_far.count.0, passed.passed.no_fault.1 ∙ so_far.count.1, passed.passed.no_fault.2 ∙ so_far.count.2);
      files = passed.passed.files_kept ∙ so_far.files;
      notes = passed.notes_kept ∙ so_far.notes;
      terminals = passed.terminals ∙ c.slice.ensures.terminals ∙ so_far.terminals;
      drives = omega (arith, ap vec_len passed.drives_kept, c.slice.ensures.drives, so_far.drives);
    }

pub returns-then-living-eq0-clause-ran : goal.returns-then-living-eq0-clause-ran
returns-then-living-eq0-clause-ran g c = record {
  run = λ s told stood.
      reaches-idle _ _ _ c.args.slices.now _ _ s c.loop-n.kernel _ (take-append-drop c.loop-n.n-index
      c.args.slices.now) (c.loop-n.invariant.reaches s told stood) (λ m tied. sym (c.living.ensures _ m tied) ∙
      c.if-living-eq0.true);
  partial = tt;
  output_fault = tt;
  no_fault = c.loop-n.invariant.count;
  files_kept = c.loop-n.invariant.files;
}

pub returns-clause-ran : goal.returns-clause-ran
returns-clause-ran g c = record {
  run = λ s told stood.
      let all = take_all c.loop-n.n-index c.args.slices.now (search rules) in
      reaches-all _ _ _ c.args.slices.now s c.loop-n.kernel _ (rw all at (c.loop-n.invariant.reaches s told stood));
  partial = tt;
  output_fault = tt;
  no_fault = c.loop-n.invariant.count;
  files_kept = c.loop-n.invariant.files;
}

pub returns-in-NoMemory-clause-ran : goal.returns-in-NoMemory-clause-ran
returns-in-NoMemory-clause-ran g c = record {
  run = tt;
  partial = λ s told stood.
      partly-before _ c.args.slices.now c.loop-n.n-index (get_or c.args.slices.now c.loop-n.n-index 0) s
      c.loop-n.kernel _ _ _ (slice_get-get_or c.args.slices.now c.loop-n.n-index 0 (search rules))
      (c.loop-n.invariant.reaches s told stood) (λ m tied none. c.if-living-eq0.false (c.living.ensures _ m tied ∙
      none)) (λ m tied. c.in-NoMemory.ensures.slice.part refl m tied) c.loop-n.invariant.count;
  output_fault = tt;
  no_fault = c.loop-n.invariant.count;
  files_kept = c.loop-n.invariant.files;
}

pub returns-in-Err-Failed-clause-ran : goal.returns-in-Err-Failed-clause-ran
returns-in-Err-Failed-clause-ran g c =
    let within : c.loop-n.n-index < length c.args.slices.now = search rules in
    let passed = rw c.in-Err-Failed.field-0-is at c.in-Err-Failed.ensures.passed in
    let drives = ap (λ drives. drive_views (λ box. (g.dyn-1.0.entry box.vtable).1) drives.items) c.in-Err-Failed.ensures.drives_kept in
    record {
      run = tt;
      partial = λ s told stood.
          partly-after _ c.args.slices.now c.loop-n.n-index s c.loop-n.kernel c.slice.new.self _ _ _ _ _
          c.slice.result within (c.loop-n.invariant.reaches s told stood) (λ m tied none. c.if-living-eq0.false
          (c.living.ensures _ m tied ∙ none)) (c.slice.ensures.slice.step (λ e. c.in_default.not-NoMemory e))
          passed.prefix passed.some passed.left drives;
      output_fault = (rw (← c.loop-n.invariant.count.0) passed.output_fault.0, passed.output_fault.1, passed.output_fault.2);
      no_fault = tt;
      files_kept = passed.files_kept ∙ c.loop-n.invariant.files;
    }

pub returns-in-Err-OutOfMemory-clause-ran : goal.returns-in-Err-OutOfMemory-clause-ran
returns-in-Err-OutOfMemory-clause-ran g c =
    let within : c.loop-n.n-index < length c.args.slices.now = search rules in
    let passed = rw c.in-Err-OutOfMemory.field-0-is at c.in-Err-OutOfMemory.ensures.passed in
    let drives = ap (λ drives. drive_views (λ box. (g.dyn-1.0.entry box.vtable).1) drives.items) c.in-Err-OutOfMemory.ensures.drives_kept in
    record {
      run = tt;
      partial = λ s told stood.
          partly-after _ c.args.slices.now c.loop-n.n-index s c.loop-n.kernel c.slice.new.self _ _ _ _ _
          c.slice.result within (c.loop-n.invariant.reaches s told stood) (λ m tied none. c.if-living-eq0.false
          (c.living.ensures _ m tied ∙ none)) (c.slice.ensures.slice.step (λ e. c.in_default.not-NoMemory e))
          passed.prefix passed.some passed.left drives;
      output_fault = tt;
      no_fault = (passed.no_fault.0 ∙ c.loop-n.invariant.count.0, passed.no_fault.1 ∙ c.loop-n.invariant.count.1, passed.no_fault.2 ∙ c.loop-n.invariant.count.2);
      files_kept = passed.files_kept ∙ c.loop-n.invariant.files;
    }
