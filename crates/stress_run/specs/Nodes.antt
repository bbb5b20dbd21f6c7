-- The sizes of the files of a tree.
use Rattle.std.specs.Prelude.{ℕ, length, if◌then◌else◌}
use Rattle.rbf_check.specs.Tree.{is_directory_node}
use Rattle.rbf_check.specs.declared.tree.Node.{Node}

-- the size of the file of a node, if it is not a directory
abbrev pub node_size : Node → ℕ
node_size node = if is_directory_node node then 0 else length node.bytes
