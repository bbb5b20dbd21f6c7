-- Each turn is one event more, or more than one.
use Rattle.std.proofs.Common.{◌<◌, ◌≤◌, refl, ◌∙◌, arith, rules}
use Rattle.os9_debug.proofs.Faults.{devices-gain}
use Rattle.os9_debug.proofs.Positions.{gone-broken, gone-more, gone-short, gone-start, gone-there}
use Rattle.os9_debug.proofs.position.Position.advance_to.Goals as goal

pub turns-init : goal.turns-init
turns-init g c = record {
  so_far = gone-start c.args.k c.args.slices.now c.args.self.now _ c.requires.goes_on c.requires.later;
  terminals = refl;
  drives = refl;
}

pub turn-requires-clause-going : goal.turn-requires-clause-going
turn-requires-clause-going g c =
    let found = rw c.in-Ok-Event.field-0-is at c.in-Ok-Event.ensures.found in found.goes_on.going (found.begun refl)

pub turns-preserved : goal.turns-preserved
turns-preserved g c = record {
  so_far = gone-more c.args.k c.args.slices.now c.args.self.now c.turns.self _ _ c.turns.invariant.so_far
      c.find_event.new.self c.turn.new.self _ _ (rw c.in-Ok-Event.field-0-is at c.in-Ok-Event.ensures.found)
      c.in-Ok.ensures.turn;
  terminals = c.turn.ensures.terminals ∙ c.find_event.ensures.terminals ∙ c.turns.invariant.terminals;
  drives = c.turn.ensures.drives ∙ c.find_event.ensures.drives ∙ c.turns.invariant.drives;
}

pub returns-in-Ok-End-clause-gone : goal.returns-in-Ok-End-clause-gone
returns-in-Ok-End-clause-gone g c =
    gone-short c.args.k c.args.slices.now c.args.self.now c.turns.self _ _ c.turns.invariant.so_far c.find_event.new.self _ c.turns-test.true (rw c.in-Ok-End.field-0-is at c.in-Ok-End.ensures.found)

pub returns-in-Err-clause-gone : goal.returns-in-Err-clause-gone
returns-in-Err-clause-gone g c =
    gone-broken c.args.k c.args.slices.now c.args.self.now c.turns.self _ _ c.turns.invariant.so_far _ c.find_event.new.self _ c.in-Err.ensures.found.gains

pub returns-in-Err-turn-clause-gone : goal.returns-in-Err-turn-clause-gone
returns-in-Err-turn-clause-gone g c =
    let found = rw c.in-Ok-Event.field-0-is at c.in-Ok-Event.ensures.found in
    gone-broken c.args.k c.args.slices.now c.args.self.now c.turns.self _ _ c.turns.invariant.so_far _ c.turn.new.self _ (devices-gain _ _ _ found.gains c.in-Err-turn.ensures.turn.gains)

pub returns-clause-gone : goal.returns-clause-gone
returns-clause-gone g c =
    let all : c.args.k ≤ c.turns.self.events = omega (arith, c.turns-test.false) in
    gone-there c.args.k c.args.slices.now c.args.self.now c.turns.self _ _ c.turns.invariant.so_far all
