-- The volume of a surveyed image.
use Rattle.std.specs.Prelude.{◌≡◌, ℕ, ◌*◌, List, drop, map, filter, is_some, All}
use Rattle.std.specs.List.{range_with_len}
use Rattle.rbf_sector_rules.specs.Files.{found_numbers}
use Rattle.rbf_sector_rules.specs.Reading.{disk_on}
use Rattle.rbf_model.specs.Volume.{DiskVolume}
use Rattle.rbf_model.specs.Search.{volume_of}
use Rattle.rbf_check.specs.declared.survey.Survey.{Survey}
use Rattle.rbf_sector.specs.Ident.{geometry_of}
use Rattle.rbf_check.specs.declared.tree.Node.{Node}
use Rattle.rbf_check.specs.Tree.{TellsNode}

-- the volume of the files found
abbrev pub volume_from : Survey → DiskVolume
volume_from survey =
    volume_of (disk_on survey.image) (found_numbers survey.files.items)
    (drop (256 * survey.image.ident.total) survey.image.bytes.now)

-- the nodes are those of the volume's files below a number, in order
pub record AreNodesBelow (survey : Survey) (nodes : List Node) (n : ℕ) : Type 0 where
  pub numbers : map (λ node. node.fd) nodes
      ≡ filter (λ m. is_some ((volume_from survey).files m)) (range_with_len 0 n)
  pub each : All (TellsNode (geometry_of survey.image.ident) (volume_from survey)) nodes
