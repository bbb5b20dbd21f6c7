use Rattle.std.proofs.Common.{sym}
use Rattle.guest_memory.proofs.MapCalls.{live}
use Rattle.guest_memory.proofs.GroupCalls.{unmap-begins, sound-unmap, tied-unmap}
use Rattle.guest_memory.proofs.memory.Memory.unmap.Goals as goal

pub unmap-requires-clause-begins : goal.unmap-requires-clause-begins
unmap-requires-clause-begins c =
    let m = c.args.self.now in
    unmap-begins m.pool m.maps.items m.dir m.sound c.args.p.0 c.requires.process c.args.id.0 c.requires.entered
    c.in-Some.slot (sym c.in-Some.ensures.slot) c.index_mut.result.now c.index_mut.ensures.value

pub unmap-requires-clause-live : goal.unmap-requires-clause-live
unmap-requires-clause-live c = let m = c.args.self.now in live m.pool m.maps.items m.dir m.sound c.args.p.0 c.requires.process c.index_mut.result.now c.index_mut.ensures.value

pub invariant_of-self : goal.invariant_of-self
invariant_of-self c =
    let m = c.args.self.now in
    let done = c.unmap.ensures in record {
      sound = sound-unmap m.pool m.maps.items m.dir m.sound c.args.p.0 c.requires.process c.args.id.0
          c.requires.entered c.in-Some.slot (sym c.in-Some.ensures.slot) c.index_mut.result.now
          c.index_mut.ensures.value c.unmap.new.self c.unmap.new.pool done.cut done.given done.live done.shape
          done.pool;
    }

pub returns-in-Some-clause-unmaps : goal.returns-in-Some-clause-unmaps
returns-in-Some-clause-unmaps c =
    let m = c.args.self.now in
    let done = c.unmap.ensures in
    tied-unmap m.pool m.maps.items m.dir m.sound c.args.p.0 c.requires.process c.args.id.0 c.requires.entered
    c.in-Some.slot (sym c.in-Some.ensures.slot) c.index_mut.result.now c.index_mut.ensures.value c.unmap.new.self
    c.unmap.new.pool done.cut done.given
