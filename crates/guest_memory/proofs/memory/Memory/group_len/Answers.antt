use Rattle.std.proofs.Common.{arith}
use Rattle.guest_memory.proofs.GroupCalls.{some-len}
use Rattle.guest_memory.proofs.memory.Memory.group_len.Goals as goal

pub returns-clause-some : goal.returns-clause-some
returns-clause-some c =
    let m = c.args.self.now in
    some-len m.pool m.maps.items m.dir m.sound 0 (omega arith) c.args.id.0 c.requires c.group.result (omega arith) c.group.ensures
