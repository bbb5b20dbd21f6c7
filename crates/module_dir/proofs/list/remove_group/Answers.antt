use Rattle.std.proofs.Common.{arith}
use Rattle.proc_model.specs.Group.{group_block_numbers}
use Rattle.module_dir.proofs.Lists.{entries_outside}
use Rattle.module_dir.proofs.list.remove_group.Goals as goal

pub returns : goal.returns
returns c =
    entries_outside (group_block_numbers c.args.group.now) c.loop-place.entries c.args.entries.now c.loop-place.auto.entries
    (λ k h. c.loop-place.invariant.done k (omega arith))
