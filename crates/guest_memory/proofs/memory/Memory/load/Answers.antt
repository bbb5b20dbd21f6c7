use Rattle.guest_memory.proofs.Seen.{seen-names}
use Rattle.guest_memory.proofs.memory.Memory.load.Goals as goal

pub view-requires : goal.view-requires
view-requires c = seen-names c.args.self.now c.args.p.0 c.requires.process c.index.result.now c.index.ensures
