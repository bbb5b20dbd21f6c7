-- The tree that a check returns for an image: what it says of the volume.
use Rattle.std.specs.Prelude.{◌≡◌, ℕ, ◌==◌, Bool, not, List, map, length, count_by, All, Some}
use Rattle.std.specs.Int.{bit_at}
use Rattle.rbf_model.specs.Fields.{directory_entry, entry_name_field}
use Rattle.rbf_model.specs.Geometry.{Geometry, image_geometry}
use Rattle.rbf_model.specs.File.{DiskFile}
use Rattle.rbf_model.specs.Tree.{dot, EntryNames}
use Rattle.rbf_model.specs.Volume.{DiskVolume, Vol, directories, file_numbers, free_clusters, lost_clusters}
use Rattle.rbf_model.specs.Counts.{file_count, directory_count}
use Rattle.rbf_check.specs.declared.tree.Node.{Node}
use Rattle.rbf_check.specs.declared.tree.Tree.{Tree}

-- the node has the descriptor's fields of the file, and its contents
pub record TellsFile (node : Node) (file : DiskFile) : Type 0 where
  pub attributes : node.attr ≡ file.attributes
  pub owner : node.owner ≡ file.owner
  pub modified : node.modified ≡ file.modified
  pub created : node.created ≡ file.created
  pub links : node.links ≡ file.links
  pub contents : node.bytes ≡ file.contents

-- the place of a file: the root is in itself, under the name `.`; any other is in the directory that names it by an
-- entry after the first two, under the name of that entry
pub data IsPlaced (g : Geometry) (v : DiskVolume) (n parent : ℕ) (name : List ℕ) : Type 0 where
  root : n ≡ g.root → parent ≡ g.root → name ≡ dot → IsPlaced g v n parent name
  named : {i : ℕ} → EntryNames (directories v.files parent) i n
      → entry_name_field (directory_entry (directories v.files parent) i) ≡ Some name → IsPlaced g v n parent name

-- the node is that of a file of the volume
pub record TellsNode (g : Geometry) (v : DiskVolume) (node : Node) : Type 0 where
  pub file : DiskFile
  pub is : v.files node.fd ≡ Some file
  pub tells : TellsFile node file
  pub place : IsPlaced g v node.fd node.parent node.name

-- the tree describes the volume: it has a node for each file, by rising descriptor number, and the numbers of free and
-- of lost clusters
pub record TellsVolume (g : Geometry) (v : DiskVolume) (tree : Tree) : Type 0 where
  pub numbers : map (λ node. node.fd) tree.nodes ≡ file_numbers g v
  pub each : All (TellsNode g v) tree.nodes
  pub free : tree.free ≡ length (free_clusters g v)
  pub lost : tree.lost ≡ length (lost_clusters g v)

-- the node is that of a directory
abbrev pub is_directory_node : Node → Bool
is_directory_node node = bit_at node.attr 7 == 1

-- the tree has the volume's number of files that are not directories, and its number of directories
pub record CountsFiles (g : Geometry) (v : DiskVolume) (tree : Tree) : Type 0 where
  pub files : count_by (λ node. not (is_directory_node node)) tree.nodes ≡ file_count g v
  pub directories : count_by is_directory_node tree.nodes ≡ directory_count g v

-- the image represents a volume, and the tree describes it
pub record IsTreeOf (image : List ℕ) (tree : Tree) : Type 0 where
  pub volume : DiskVolume
  pub represents : Vol image volume
  pub tells : TellsVolume (image_geometry image) volume tree
  pub counts : CountsFiles (image_geometry image) volume tree
