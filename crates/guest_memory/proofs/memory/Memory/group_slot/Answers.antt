use Rattle.std.proofs.Common.{arith, ap, ◌∙◌, get_or, position}
use Rattle.proc_model.specs.declared.group.BlockId.{BlockId}
use Rattle.proc_model.specs.Slots.{Slots}
use Rattle.guest_memory.proofs.MappedGroups.{names_number}
use Rattle.guest_memory.proofs.MapCalls.{is_map_of}
use Rattle.guest_memory.proofs.GroupCalls.{first-block, slot-tied}
use Rattle.guest_memory.proofs.Headers.{slot-fits, group-some}
use Rattle.guest_memory.proofs.memory.Memory.group_slot.Goals as goal

pub returns-clause-slot : goal.returns-clause-slot
returns-clause-slot c =
    let m = c.args.self.now in
    c.slot_of.ensures
    ∙ ap (λ (s : Slots BlockId). position (names_number (get_or c.group.result.blocks 0 (record { 0 = 0 })).0)
    s.places) (is_map_of m.pool m.maps.items m.dir m.sound c.args.p.0 c.requires.process c.index.result.now
    c.index.ensures)
    ∙ first-block m.pool m.maps.items m.dir m.sound c.args.p.0 c.requires.process c.args.id.0 c.requires.entered c.group.result (omega arith) c.group.ensures

pub returns-clause-tied : goal.returns-clause-tied
returns-clause-tied c =
    let m = c.args.self.now in
    λ before tied.
    c.slot_of.ensures
    ∙ ap (λ (s : Slots BlockId). position (names_number (get_or c.group.result.blocks 0 (record { 0 = 0 })).0)
    s.places) (is_map_of m.pool m.maps.items m.dir m.sound c.args.p.0 c.requires.process c.index.result.now
    c.index.ensures)
    ∙ first-block m.pool m.maps.items m.dir m.sound c.args.p.0 c.requires.process c.args.id.0 c.requires.entered c.group.result (omega arith) c.group.ensures
    ∙ slot-tied m.pool m.maps.items m.dir m.sound c.args.p.0 c.requires.process c.args.id.0 c.requires.entered before tied

pub returns-clause-fits : goal.returns-clause-fits
returns-clause-fits c =
    let m = c.args.self.now in
    slot-fits m c.args.p.0 c.requires.process c.args.id.0 c.requires.entered c.slot_of.result (returns-clause-slot c)

pub returns-clause-some : goal.returns-clause-some
returns-clause-some c = group-some c.args.self.now c.args.id.0 c.requires.entered
