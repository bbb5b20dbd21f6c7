use Rattle.std.proofs.Common.{◌+◌, ◌<◌, arith, rules, ◌∙◌}
use Rattle.std.proofs.lemmas.Grind.{common_steps}
use Rattle.std.proofs.lemmas.List.{length-map}
use Rattle.std.specs.Vec.{vec_len}
use Rattle.os9_words.proofs.NoteLemmas.{notes-kept}
use Rattle.boot_run.specs.World.{world_of}
use Rattle.boot_run.proofs.ConsoleLemmas.{failed-then, kept-then, left-on_error, nowhere, on-error, passes, prefix-on_error, some-here, written-more}
use Rattle.boot_run.proofs.console.pass_on.Goals as goal

pub loop-n-preserved : goal.loop-n-preserved
loop-n-preserved g c =
    let so_far = c.loop-n.invariant in
    let took = c.take_from-bytes.ensures in
    let wrote = c.in_ok-write_out.ensures.written in
    let below : c.loop-n.n < vec_len c.args.devices.now.terms = omega (arith, c.len-n-end.ensures) in
    let passed = passes c.loop-n.n c.take_from-bytes.result.items _ _ _ (rw length-map (omega (arith, c.args.devices.now.terms.ok.0))) so_far.emptied took.terminal in
    record {
      terminals = took.terminals ∙ so_far.terminals;
      within = omega arith;
      drives = took.drives_kept ∙ so_far.drives;
      emptied = passed.emptied;
      written = written-more c.loop-n.n c.take_from-bytes.result.items _ _ _ _ _ passed so_far.written (rw (← c.as_slice.ensures.value) wrote.whole);
      count = (wrote.count_kept ∙ so_far.count.0, wrote.name_kept ∙ so_far.count.1, wrote.read_kept ∙ so_far.count.2);
      notes = notes-kept g.H.Host _ _ _ _ wrote ∙ so_far.notes;
      files = wrote.files_kept ∙ so_far.files;
    }

pub returns-in_err-write_out-clause-passed : goal.returns-in_err-write_out-clause-passed
returns-in_err-write_out-clause-passed g c =
    let so_far = c.loop-n.invariant in
    let took = c.take_from-bytes.ensures in
    let wrote = c.in_err-write_out.ensures.written in
    let below : c.loop-n.n < vec_len c.args.devices.now.terms = omega (arith, c.len-n-end.ensures) in
    let passed = passes c.loop-n.n c.take_from-bytes.result.items _ _ _ (rw length-map (omega (arith, c.args.devices.now.terms.ok.0))) so_far.emptied took.terminal in
    record {
      taken = search rules;
      written = search rules;
      prefix = prefix-on_error c.from_residual.result c.loop-n.n c.take_from-bytes.result.items _ _ _ _ _ passed so_far.written (rw (← c.as_slice.ensures.value) wrote.prefix);
      some =
          on-error c.from_residual.result _ (some-here c.loop-n.n c.take_from-bytes.result.items _ _ passed (rw (← c.as_slice.ensures.value) c.in_err-write_out.ensures.some));
      left = left-on_error c.from_residual.result (c.loop-n.n + 1) _ _ passed.emptied;
      output_fault = failed-then c.from_residual.result (world_of g.H.Host c.args.host.now nowhere)
          (world_of g.H.Host c.loop-n.host nowhere) (world_of g.H.Host c.write_out.new.host nowhere) so_far.count
          (search rules) (search rules) (search rules);
      no_fault = kept-then c.from_residual.result (world_of g.H.Host c.args.host.now nowhere)
          (world_of g.H.Host c.loop-n.host nowhere) (world_of g.H.Host c.write_out.new.host nowhere) so_far.count
          (search rules) (search rules) (search rules);
      files_kept = wrote.files_kept ∙ so_far.files;
    }

pub returns-in_err-write_out-clause-notes_kept : goal.returns-in_err-write_out-clause-notes_kept
returns-in_err-write_out-clause-notes_kept g c =
    notes-kept g.H.Host _ _ _ _ c.in_err-write_out.ensures.written ∙ c.loop-n.invariant.notes

pub returns-clause-passed : goal.returns-clause-passed
returns-clause-passed g c =
    let so_far = c.loop-n.invariant in
    record {
      taken = grind (arith, common_steps);
      written = grind (arith, common_steps);
      prefix = search rules;
      some = tt;
      left = tt;
      output_fault = search rules;
      no_fault = so_far.count;
      files_kept = so_far.files;
    }
