use Rattle.block_map.specs.TakenBlocks.{group_blocks}
use Rattle.guest_memory.proofs.LinkCalls.{next_given}
use Rattle.guest_memory.proofs.links.give_group.Goals as goal

pub give-requires : goal.give-requires
give-requires c =
    next_given c.args.pool.now c.loop-id.pool (group_blocks c.args.group.now) c.loop-id.id-index (record { 0 = 0 }) c.loop-id-test.true c.requires.live c.requires.different c.loop-id.invariant.given
