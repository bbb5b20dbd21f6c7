use Rattle.std.proofs.Common.{◌<◌, arith, ◌∙◌}
use Rattle.std.proofs.lemmas.List.{length-map}
use Rattle.std.specs.Vec.{vec_len}
use Rattle.os9_debug.proofs.Emptying.{empties-more}
use Rattle.os9_debug.proofs.console.empty_terminals.Goals as goal

pub loop-n-preserved : goal.loop-n-preserved
loop-n-preserved g c =
    let so_far = c.loop-n.invariant in
    let took = c.empty_at.ensures in
    let below : c.loop-n.n < vec_len c.args.devices.now.terms = omega (arith, c.len-n-end.ensures) in
    record {
      terminals = took.terminals ∙ so_far.terminals;
      within = omega arith;
      drives = took.drives_kept ∙ so_far.drives;
      emptied = empties-more c.loop-n.n _ _ _ (rw length-map (omega (arith, c.args.devices.now.terms.ok.0))) so_far.emptied took.terminal;
    }
