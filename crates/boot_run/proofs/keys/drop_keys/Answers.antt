-- Each terminal is the next one.
use Rattle.std.proofs.Common.{◌<◌, ◌≤◌, length, arith, ◌∙◌}
use Rattle.std.specs.Vec.{vec_len}
use Rattle.std.proofs.lemmas.List.{length-map}
use Rattle.device_table.specs.Seen.{terminal_states}
use Rattle.boot_run.proofs.DroppedLemmas.{dropped-all, dropped-more, fails-next}
use Rattle.boot_run.proofs.keys.drop_keys.Goals as goal

pub loop-n-preserved : goal.loop-n-preserved
loop-n-preserved g c =
    let so_far = c.loop-n.invariant in
    let took = c.in-Ok.ensures in
    let below : c.loop-n.n < vec_len c.args.devices.now.terms = omega (arith, c.len-n-end.ensures) in
    record {
      terminals = took.terminals ∙ so_far.terminals;
      within = omega arith;
      drives = took.drives_kept ∙ so_far.drives;
      dropped = dropped-more c.loop-n.n _ _ _ so_far.dropped took.terminal;
    }

pub returns-in-Err-clause-dropped : goal.returns-in-Err-clause-dropped
returns-in-Err-clause-dropped g c = fails-next c.loop-n.n _ _ _ c.loop-n.invariant.dropped c.in-Err.ensures.terminal

pub returns-clause-dropped : goal.returns-clause-dropped
returns-clause-dropped g c =
    let before = terminal_states (λ box. (g.dyn-2.0.entry box.vtable).1) c.args.devices.now.terms.items in
    let all : length before ≤ c.loop-n.n = rw length-map (omega (arith, c.args.devices.now.terms.ok.0, c.len-n-end.ensures)) in
    dropped-all c.loop-n.n _ _ all c.loop-n.invariant.dropped
