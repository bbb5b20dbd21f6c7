use Rattle.std.proofs.Common.{Err, refl, ap, ◌∙◌}
use Rattle.guest_memory.proofs.MapCalls.{live, sound-grow, grow-full, grow-no_ram, grow-ok}
use Rattle.guest_memory.proofs.memory.Memory.grow.Goals as goal

pub map_low-requires : goal.map_low-requires
map_low-requires c = let m = c.args.self.now in live m.pool m.maps.items m.dir m.sound c.args.p.0 c.requires c.index_mut-map.result.now c.index_mut-map.ensures.value

pub invariant_of-self : goal.invariant_of-self
invariant_of-self c =
    let m = c.args.self.now in
    let done = c.map_low.ensures in record {
      sound = sound-grow m.pool m.maps.items m.dir m.sound c.args.p.0 c.requires c.index_mut-map.result.now
          c.index_mut-map.ensures.value c.args.count c.map_low.result c.map_low.new.self c.map_low.new.pool
          done.no_slot done.no_block done.refused done.gains done.shape;
    }

pub returns-in-Ok-clause-grows : goal.returns-in-Ok-clause-grows
returns-in-Ok-clause-grows c =
    let m = c.args.self.now in
    let done = c.map_low.ensures in
    λ before tied.
    let comes = grow-ok m.pool m.maps.items m.dir m.sound c.args.p.0 c.requires c.index_mut-map.result.now
    c.index_mut-map.ensures.value c.args.count c.map_low.result c.map_low.new.self c.map_low.new.pool done.no_slot
    done.no_block done.refused done.gains c.in-Ok.is before tied in
    rw comes.0 (refl, comes.1)

pub returns-in-Err-NoSlot-clause-grows : goal.returns-in-Err-NoSlot-clause-grows
returns-in-Err-NoSlot-clause-grows c =
    let m = c.args.self.now in
    let done = c.map_low.ensures in
    λ before tied.
    let comes = grow-full m.pool m.maps.items m.dir m.sound c.args.p.0 c.requires c.index_mut-map.result.now
    c.index_mut-map.ensures.value c.args.count c.map_low.result c.map_low.new.self c.map_low.new.pool done.no_slot
    done.no_block done.refused done.gains (c.in-Err-NoSlot.is ∙ ap Err c.in-Err-NoSlot.field-0-is) before tied in
    rw comes.0 (refl, comes.1)

pub returns-in-Err-NoBlock-clause-grows : goal.returns-in-Err-NoBlock-clause-grows
returns-in-Err-NoBlock-clause-grows c =
    let m = c.args.self.now in
    let done = c.map_low.ensures in
    λ before tied.
    let comes = grow-no_ram m.pool m.maps.items m.dir m.sound c.args.p.0 c.requires c.index_mut-map.result.now
    c.index_mut-map.ensures.value c.args.count c.map_low.result c.map_low.new.self c.map_low.new.pool done.no_slot
    done.no_block done.refused done.gains (c.in-Err-NoBlock.is ∙ ap Err c.in-Err-NoBlock.field-0-is) before tied
    in
    rw comes.0 (refl, comes.1)
