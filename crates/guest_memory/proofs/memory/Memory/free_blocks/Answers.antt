use Rattle.std.proofs.Common.{◌∙◌}
use Rattle.guest_memory.proofs.Seen.{free-seen}
use Rattle.guest_memory.proofs.memory.Memory.free_blocks.Goals as goal

pub returns : goal.returns
returns c = record { tied = λ m tied. c.free_blocks.ensures.count ∙ free-seen c.args.self.now m tied }
