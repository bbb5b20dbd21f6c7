use Rattle.guest_memory.proofs.MapCalls.{live, sound-cut, tied-cut}
use Rattle.guest_memory.proofs.memory.Memory.cut.Goals as goal

pub cut_low-requires : goal.cut_low-requires
cut_low-requires c = let m = c.args.self.now in live m.pool m.maps.items m.dir m.sound c.args.p.0 c.requires c.index_mut.result.now c.index_mut.ensures.value

pub invariant_of-self : goal.invariant_of-self
invariant_of-self c =
    let m = c.args.self.now in
    let done = c.cut_low.ensures in record {
      sound = sound-cut m.pool m.maps.items m.dir m.sound c.args.p.0 c.requires c.index_mut.result.now
          c.index_mut.ensures.value c.args.count c.cut_low.new.self c.cut_low.new.pool done.whole done.cut done.given
          done.live done.shape done.pool;
    }

pub returns-clause-cuts : goal.returns-clause-cuts
returns-clause-cuts c =
    let m = c.args.self.now in
    let done = c.cut_low.ensures in
    tied-cut m.pool m.maps.items m.dir m.sound c.args.p.0 c.requires c.index_mut.result.now c.index_mut.ensures.value c.args.count c.cut_low.new.self c.cut_low.new.pool done.whole done.cut done.given
