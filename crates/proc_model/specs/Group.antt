-- Groups of blocks.
use Rattle.std.specs.Prelude.{ℕ, List, map, take}
use Rattle.proc_model.specs.declared.group.Group.{Group}

-- the numbers of a group's blocks, in order
abbrev pub group_block_numbers : Group → List ℕ
group_block_numbers group = map (λ block. block.0) (take group.len group.blocks)
