-- The turn is one or more events of the course.
use Rattle.std.proofs.Common.{◌≡◌, ◌+◌, ◌-◌, ◌<◌, ◌≤◌, ◌^◌, ap, sym, ◌∙◌, arith, rules}
use Rattle.std.specs.Prelude.{Some, option_map}
use Rattle.os9_base.specs.declared.registers.Pid.{Pid}
use Rattle.file_drives.specs.Drives.{drive_views}
use Rattle.os9_kernel.specs.Tie.{executed}
use Rattle.os9_debug.proofs.Breaking.{event-breaks}
use Rattle.os9_debug.proofs.Passing.{events-few}
use Rattle.os9_debug.proofs.Positions.{going-chosen, had-in, had-over, some-chosen}
use Rattle.os9_debug.proofs.position.Position.turn.Goals as goal

pub unwrap-process-requires : goal.unwrap-process-requires
unwrap-process-requires g c =
    let (s, tied) = c.requires.stands in
    let (p, chosen, lives) = c.requires.going in
    some-chosen c.chosen.result p.0 (c.chosen.ensures _ s tied ∙ going-chosen c.args.self.now.kernel _ s tied p chosen)

pub overflow_add-self : goal.overflow_add-self
overflow_add-self g c =
    let room = c.most-most.ensures.events in
    let events = events-few c.turn-turn.result.count c.events_of.result (c.args.k - c.args.self.now.events)
    c.events_of.ensures.instructions c.events_of.ensures.other (omega (arith, c.requires.before))
    (omega (arith, c.turn-turn.ensures.turn.few, room)) in
    let fits : c.args.k < 2 ^ 64 = search rules in
    omega (arith, events, fits, c.requires.before)

pub returns-in-NoMemory-clause-turn : goal.returns-in-NoMemory-clause-turn
returns-in-NoMemory-clause-turn g c = record {
  goes_on = tt;
  gains = event-breaks c.args.self.now.kernel _ _ c.requires.stands (c.turn-turn.ensures.turn.memory c.in-NoMemory.is);
  stays = tt;
  more = tt;
  few = tt;
}

pub returns-then-goes_on-clause-turn : goal.returns-then-goes_on-clause-turn
returns-then-goes_on-clause-turn g c =
    let turn = c.turn-turn.ensures.turn in
    let most = c.most-most.ensures in
    let fits : c.args.self.now.slice < 2 ^ 32 = search rules in
    let counted = c.turn-turn.ensures.executed (omega (arith, turn.few, most.slice, c.requires.left, fits)) in
    had-in c.args.self.now c.turn-turn.new.self _ _ c.turn-turn.result.count c.events_of.result c.turn-turn.result.end c.unwrap-process.result
    (λ s tied. sym (c.chosen.ensures _ s tied) ∙ ap (option_map (λ (p : Pid). p.0)) c.unwrap-process.ensures)
    (λ s tied. turn.step (λ e. c.in_default.not-NoMemory e) s tied)
    counted c.events_of.ensures.instructions c.events_of.ensures.other
    (turn.count (λ e. c.in_default.not-NoMemory e)) c.requires.left (omega (arith, turn.few, most.slice))
    c.args.k c.requires.before (omega (arith, turn.few, most.events))
    (c.goes_on.ensures.ran c.if-goes_on.true) (c.goes_on.ensures.left c.if-goes_on.true) (turn.going (c.goes_on.ensures.ran c.if-goes_on.true)) c.requires.stands

pub returns-clause-turn : goal.returns-clause-turn
returns-clause-turn g c =
    let turn = c.turn-turn.ensures.turn in
    let most = c.most-most.ensures in
    let drives = ap (λ drives. drive_views (λ box. (g.dyn-1.0.entry box.vtable).1) drives.items) c.empty_terminals.ensures.drives_kept in
    let fits : c.args.self.now.slice < 2 ^ 32 = search rules in
    let counted = c.turn-turn.ensures.executed (omega (arith, turn.few, most.slice, c.requires.left, fits)) in
    had-over c.args.self.now c.turn-turn.new.self _ _ c.turn-turn.result.count c.events_of.result c.turn-turn.result.end c.unwrap-process.result
    (λ s tied. sym (c.chosen.ensures _ s tied) ∙ ap (option_map (λ (p : Pid). p.0)) c.unwrap-process.ensures)
    (λ s tied. turn.step (λ e. c.in_default.not-NoMemory e) s tied)
    counted c.events_of.ensures.instructions c.events_of.ensures.other
    (turn.count (λ e. c.in_default.not-NoMemory e)) c.requires.left (omega (arith, turn.few, most.slice))
    c.args.k c.requires.before (omega (arith, turn.few, most.events))
    (c.goes_on.ensures.over c.if-goes_on.false) c.requires.stands _ drives c.empty_terminals.ensures.emptied
