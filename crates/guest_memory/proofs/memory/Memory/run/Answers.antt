use Rattle.std.proofs.Common.{ap}
use Rattle.guest_memory.proofs.RunCalls.{sound-run, tied-run}
use Rattle.guest_memory.proofs.Seen.{seen-names}
use Rattle.guest_memory.proofs.memory.Memory.run.Goals as goal

pub view-requires : goal.view-requires
view-requires c = seen-names c.args.self.now c.args.p.0 c.requires.process c.index.result.now c.index.ensures

pub invariant_of-self : goal.invariant_of-self
invariant_of-self c =
    let m = c.args.self.now in
    let beside = c.run.ensures.beside in record {
      sound = sound-run m.pool c.run.new.b.pool.now m.maps.items m.dir m.sound c.args.p.0 c.requires.process
          c.index.result.now c.view.result.map.now c.run.new.b.map.now c.index.ensures
          (ap (λ map. map.now) c.view.ensures.map) (ap (λ map. map.now) beside.map) c.view.result.pool.now
          c.view.ensures.bytes beside.beyond;
    }

pub returns-clause-run : goal.returns-clause-run
returns-clause-run c =
    let m = c.args.self.now in
    let beside = c.run.ensures.beside in
    tied-run m.pool c.run.new.b.pool.now m.maps.items m.dir m.sound c.args.p.0 c.requires.process c.index.result.now
    c.view.result.map.now c.run.new.b.map.now c.index.ensures (ap (λ map. map.now) c.view.ensures.map)
    (ap (λ map. map.now) beside.map) c.view.result.pool.now c.view.ensures.bytes beside.beyond c.args.n
    c.run.result c.args.regs.now c.run.new.r c.run.ensures.ran
