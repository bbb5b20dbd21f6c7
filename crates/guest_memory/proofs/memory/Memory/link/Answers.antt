use Rattle.std.proofs.Common.{◌<◌}
use Rattle.guest_memory.proofs.LinkCalls.{some_from, sound-link, tied-link}
use Rattle.proc_model.specs.ModuleList.{module_entry_at}
use Rattle.guest_memory.proofs.memory.Memory.link.Goals as goal

pub invariant_of-self : goal.invariant_of-self
invariant_of-self c =
    let m = c.args.self.now in record {
      sound = sound-link m.pool m.maps.items m.dir m.sound c.args.id.0 (some_from (λ entry. entry.links < 65535) (module_entry_at m.dir c.args.id.0) c.requires) c.link.new.self c.link.ensures;
    }

pub returns-clause-links : goal.returns-clause-links
returns-clause-links c =
    let m = c.args.self.now in
    tied-link m.pool m.maps.items m.dir m.sound c.args.id.0 (some_from (λ entry. entry.links < 65535) (module_entry_at m.dir c.args.id.0) c.requires) c.link.new.self c.link.ensures
