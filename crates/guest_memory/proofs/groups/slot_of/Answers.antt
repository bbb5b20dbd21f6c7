use Rattle.std.proofs.Common.{rules, ◌≡◌, ◌<◌, true, None, length, arith, ap, sym, ◌∙◌}
use Rattle.guest_memory.proofs.MappedGroups.{names_number, position-first}
use Rattle.guest_memory.proofs.groups.slot_of.Goals as goal

pub returns-then-is_some_and : goal.returns-then-is_some_and
returns-then-is_some_and c =
    let places = c.args.map.now.places in
    let inside : c.loop-slot.slot < length places = omega (arith, c.place.ensures.shape.eight_places) in
    let named : names_number c.args.block.0 c.place.result ≡ true = search rules in
    sym (position-first (names_number c.args.block.0) places c.loop-slot.slot None inside (ap (names_number c.args.block.0) (sym c.place.ensures.place) ∙ named) c.loop-slot.invariant.before)
