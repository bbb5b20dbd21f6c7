use Rattle.std.proofs.Common.{ap}
use Rattle.guest_memory.proofs.ByteCalls.{sound-store, tied-store}
use Rattle.guest_memory.proofs.Seen.{seen-names}
use Rattle.guest_memory.proofs.memory.Memory.store.Goals as goal

pub view-requires : goal.view-requires
view-requires c = seen-names c.args.self.now c.args.p.0 c.requires.process c.index.result.now c.index.ensures

pub invariant_of-self : goal.invariant_of-self
invariant_of-self c =
    let m = c.args.self.now in
    let beside = c.store.ensures.beside in record {
      sound = sound-store m.pool c.store.new.self.pool.now m.maps.items m.dir m.sound c.args.p.0 c.requires.process
          c.index.result.now c.view.result.map.now c.store.new.self.map.now c.index.ensures
          (ap (λ map. map.now) c.view.ensures.map) (ap (λ map. map.now) beside.map) c.view.result.pool.now
          c.view.ensures.bytes beside.beyond;
    }

pub returns-clause-stores : goal.returns-clause-stores
returns-clause-stores c =
    let m = c.args.self.now in
    let beside = c.store.ensures.beside in
    tied-store m.pool c.store.new.self.pool.now m.maps.items m.dir m.sound c.args.p.0 c.requires.process
    c.index.result.now c.view.result.map.now c.store.new.self.map.now c.index.ensures
    (ap (λ map. map.now) c.view.ensures.map) (ap (λ map. map.now) beside.map) c.view.result.pool.now
    c.view.ensures.bytes beside.beyond c.args.at c.args.bytes.now c.requires.fits c.store.ensures.changed
