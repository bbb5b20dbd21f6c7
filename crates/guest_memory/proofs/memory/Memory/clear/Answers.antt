use Rattle.guest_memory.proofs.MapCalls.{live, sound-clear, tied-clear}
use Rattle.guest_memory.proofs.memory.Memory.clear.Goals as goal

pub clear-requires : goal.clear-requires
clear-requires c = let m = c.args.self.now in live m.pool m.maps.items m.dir m.sound c.args.p.0 c.requires c.index_mut.result.now c.index_mut.ensures.value

pub invariant_of-self : goal.invariant_of-self
invariant_of-self c =
    let m = c.args.self.now in
    let done = c.clear.ensures in record {
      sound = sound-clear m.pool m.maps.items m.dir m.sound c.args.p.0 c.requires c.index_mut.result.now
          c.index_mut.ensures.value c.clear.new.self c.clear.new.pool done.empty done.given done.shape done.pool;
    }

pub returns : goal.returns
returns c =
    let m = c.args.self.now in
    let done = c.clear.ensures in
    tied-clear m.pool m.maps.items m.dir m.sound c.args.p.0 c.requires c.index_mut.result.now c.index_mut.ensures.value c.clear.new.self c.clear.new.pool done.empty done.given
