-- Each terminal is the next one.
use Rattle.std.proofs.Common.{◌<◌, ◌≤◌, ◌∙◌, refl, sym, ap, length, vec_len, arith}
use Rattle.device_io.proofs.KeyLemmas.{arrive-all, arrive-more, arrive-none, break-more}
use Rattle.device_io.proofs.Quiet.{either-quiet, same-ok}
use Rattle.device_io.proofs.keys.arrive_keys.Goals as goal

pub loop-n-init : goal.loop-n-init
loop-n-init g c = record {
  terminals = refl;
  within = omega arith;
  drives = refl;
  tick = refl;
  quiet = λ none. (refl, refl);
  arrived = arrive-none c.args.s.now c.args.io.now _ 0 0 refl;
}

pub loop-n-preserved : goal.loop-n-preserved
loop-n-preserved g c =
    let so_far = c.loop-n.invariant in
    let took = c.arrive_on.ensures in
    let below : c.loop-n.n < vec_len c.args.devices.now.terms = omega (arith, c.len-n-end.ensures) in
    record {
      terminals = took.count ∙ so_far.terminals;
      within = omega arith;
      drives = took.drives ∙ so_far.drives;
      tick = took.tick ∙ so_far.tick;
      quiet = λ none. either-quiet c.loop-n.changed c.in_ok-here.here c.args.s.now c.loop-n.s c.arrive_on.new.s c.args.io.now c.loop-n.io
          c.arrive_on.new.io so_far.quiet c.in_ok-here.ensures.quiet (sym c.either-changed.ensures ∙ none);
      arrived = arrive-more c.args.s.now c.loop-n.s c.arrive_on.new.s c.args.io.now c.loop-n.io c.arrive_on.new.io _ _ _ c.loop-n.n
          so_far.tick so_far.arrived (c.in_ok-here.ensures.arrived refl);
    }

pub returns-in_err-here-clause-broken : goal.returns-in_err-here-clause-broken
returns-in_err-here-clause-broken g c = λ err.
    let so_far = c.loop-n.invariant in
    break-more c.args.s.now c.loop-n.s c.arrive_on.new.s c.args.io.now c.loop-n.io c.arrive_on.new.io _ _ _ c.loop-n.n
    so_far.tick so_far.arrived (c.in_err-here.ensures.broken refl)

pub returns-clause-arrived : goal.returns-clause-arrived
returns-clause-arrived g c = λ ok.
    arrive-all _ c.args.devices.now.terms.items c.args.s.now c.loop-n.s c.args.io.now c.loop-n.io _
    c.loop-n.n (omega (arith, c.args.devices.now.terms.ok.0, c.len-n-end.ensures, c.loop-n.invariant.within))
    c.loop-n.invariant.arrived

pub returns-clause-quiet : goal.returns-clause-quiet
returns-clause-quiet g c = λ quiet. c.loop-n.invariant.quiet (same-ok c.loop-n.changed quiet)
