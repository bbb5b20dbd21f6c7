use Rattle.std.proofs.Common.{◌∙◌, take}
use Rattle.module_dir.proofs.Lists.{pointwise-numbers}
use Rattle.module_dir.proofs.entry.is_of_group.Goals as goal

pub returns : goal.returns
returns c =
    let same = rw (c.blocks-2.ensures, c.blocks-3.ensures) at c.eq.ensures in
    same ∙ pointwise-numbers (take c.args.group.now.len c.args.group.now.blocks) (take c.args.entry.now.group.len c.args.entry.now.group.blocks)
