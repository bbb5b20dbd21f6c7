use Rattle.std.proofs.Common.{refl, arith}
use Rattle.guest_memory.proofs.MapCalls.{live}
use Rattle.guest_memory.proofs.GroupCalls.{map-may, sound-map_group, map-some, map-none}
use Rattle.guest_memory.proofs.memory.Memory.map_group.Goals as goal

pub map_group-requires-clause-may : goal.map_group-requires-clause-may
map_group-requires-clause-may c =
    let m = c.args.self.now in
    map-may m.pool m.maps.items m.dir m.sound c.args.p.0 c.requires.process c.args.id.0 c.requires.entered
    c.group-group.result (omega arith) c.group-group.ensures c.requires.unmapped c.index_mut.result.now
    c.index_mut.ensures.value

pub map_group-requires-clause-live : goal.map_group-requires-clause-live
map_group-requires-clause-live c = let m = c.args.self.now in live m.pool m.maps.items m.dir m.sound c.args.p.0 c.requires.process c.index_mut.result.now c.index_mut.ensures.value

pub invariant_of-self : goal.invariant_of-self
invariant_of-self c =
    let m = c.args.self.now in
    let done = c.map_group.ensures in record {
      sound = sound-map_group m.pool m.maps.items m.dir m.sound c.args.p.0 c.requires.process c.args.id.0
          c.requires.entered c.group-group.result (omega arith) c.group-group.ensures c.requires.unmapped
          c.index_mut.result.now c.index_mut.ensures.value c.map_group.result c.map_group.new.self
          c.map_group.new.pool done.no_slot done.no_other_fault done.refused done.mapped done.live done.shape
          done.pool;
    }

pub returns-in-Ok-clause-maps : goal.returns-in-Ok-clause-maps
returns-in-Ok-clause-maps c =
    let m = c.args.self.now in
    let done = c.map_group.ensures in
    λ before tied.
    let comes = map-some m.pool m.maps.items m.dir m.sound c.args.p.0 c.requires.process c.args.id.0
    c.requires.entered c.group-group.result (omega arith) c.group-group.ensures c.requires.unmapped
    c.index_mut.result.now c.index_mut.ensures.value c.map_group.result c.map_group.new.self c.map_group.new.pool
    done.no_slot done.no_other_fault done.refused done.mapped c.in-Ok.first c.in-Ok.is before tied in
    rw comes.0 (refl, comes.1)

pub returns-in-Err-clause-maps : goal.returns-in-Err-clause-maps
returns-in-Err-clause-maps c =
    let m = c.args.self.now in
    let done = c.map_group.ensures in
    λ before tied.
    let comes = map-none m.pool m.maps.items m.dir m.sound c.args.p.0 c.requires.process c.args.id.0
    c.requires.entered c.group-group.result (omega arith) c.group-group.ensures c.requires.unmapped
    c.index_mut.result.now c.index_mut.ensures.value c.map_group.result c.map_group.new.self c.map_group.new.pool
    done.no_slot done.no_other_fault done.refused done.mapped c.in-Err.field-0 c.in-Err.is before tied in
    rw comes.0 (refl, comes.1)
