-- The tree of an image that was surveyed.
use Rattle.std.proofs.Common.{◌≡◌, ℕ, ◌+◌, ◌*◌, ◌==◌, Bool, false, not, List, [], ◌∷◌, All, length, map, drop, refl, sym, ap, ap₂, ◌∙◌, subst}
use Rattle.std.specs.Prelude.{count_by, if◌then◌else◌}
use Rattle.std.specs.Int.{bit_at}
use Rattle.std.specs.Option.{option_map_or}
use Rattle.std.proofs.lemmas.List.Sums.{sum_by-cons}
use Rattle.std.proofs.lemmas.List.Elements.{All-head, All-tail}
use Rattle.rbf_model.specs.Disk.{disk_of}
use Rattle.rbf_model.specs.Geometry.{Geometry, image_geometry, sector}
use Rattle.rbf_model.specs.File.{is_directory}
use Rattle.rbf_model.specs.Volume.{DiskVolume, free_clusters, lost_clusters}
use Rattle.rbf_model.specs.Keeps.{Keeps}
use Rattle.rbf_model.specs.Search.{IsListOfReached, volume_of, image_volume}
use Rattle.rbf_model.proofs.Images.{vol_from_keeps}
use Rattle.rbf_check.specs.declared.survey.Survey.{Survey}
use Rattle.rbf_sector_rules.specs.Files.{found_numbers}
use Rattle.rbf_sector.specs.Ident.{geometry_of}
use Rattle.rbf_check.specs.Survey.{IsSurvey}
use Rattle.rbf_check.specs.declared.tree.Node.{Node}
use Rattle.rbf_check.specs.declared.tree.Tree.{Tree}
use Rattle.rbf_check.specs.VolumeNodes.{volume_from, AreNodesBelow}
use Rattle.rbf_check.specs.Lost.{IsLostOf}
use Rattle.rbf_check.specs.Tree.{TellsNode, TellsVolume, CountsFiles, IsTreeOf, is_directory_node}

-- nodes that pass a test where their descriptors pass another
count_same : (p : Node → Bool) (q : ℕ → Bool) (R : Node → Type 0) → ((node : Node) → R node → p node ≡ q node.fd)
    → (nodes : List Node) → All R nodes → count_by p nodes ≡ count_by q (map (λ node. node.fd) nodes)
count_same p q R same [] each = refl
count_same p q R same (node ∷ nodes) each =
    sum_by-cons (λ x. if p x then 1 else 0) node nodes
    ∙ ap₂ (λ b n. (if b then 1 else 0) + n) (same node (All-head R node nodes each)) (count_same p q R same nodes (All-tail R node nodes each))
    ∙ sym (sum_by-cons (λ x. if q x then 1 else 0) node.fd (map (λ (it : Node). it.fd) nodes))

module _ (g : Geometry) (v : DiskVolume) where
  -- a node is that of a directory where the file is one
  directory_told : (node : Node) → TellsNode g v node → is_directory_node node ≡ option_map_or is_directory (v.files node.fd) false
  directory_told node told =
      ap (λ attributes. bit_at attributes 7 == 1) told.tells.attributes ∙ ap (λ o. option_map_or is_directory o false) (sym told.is)

  file_told : (node : Node) → TellsNode g v node → not (is_directory_node node) ≡ option_map_or (λ file. not (is_directory file)) (v.files node.fd) false
  file_told node told =
      ap (λ attributes. not (bit_at attributes 7 == 1)) told.tells.attributes ∙ ap (λ o. option_map_or (λ file. not (is_directory file)) o false) (sym told.is)

  -- so the nodes are as many as the files and directories
  pub counts_files : (tree : Tree) → TellsVolume g v tree → CountsFiles g v tree
  counts_files tree tells = record {
    files = count_same (λ node. not (is_directory_node node)) (λ n. option_map_or (λ file. not (is_directory file)) (v.files n) false) (TellsNode g v) file_told tree.nodes tells.each
        ∙ ap (count_by (λ n. option_map_or (λ file. not (is_directory file)) (v.files n) false)) tells.numbers;
    directories = count_same is_directory_node (λ n. option_map_or is_directory (v.files n) false) (TellsNode g v) directory_told tree.nodes tells.each
        ∙ ap (count_by (λ n. option_map_or is_directory (v.files n) false)) tells.numbers;
  }

module _ (survey : Survey) (is : IsSurvey survey) where
  pub tree_is : (nodes : List Node) (free lost : ℕ) → AreNodesBelow survey nodes survey.image.ident.total → free ≡ length (free_clusters (geometry_of survey.image.ident) (volume_from survey))
      → lost ≡ length (lost_clusters (geometry_of survey.image.ident) (volume_from survey)) → IsTreeOf survey.image.bytes.now (record { nodes = nodes; free = free; lost = lost })
  tree_is nodes free lost are free_is lost_is =
      let tree : Tree = record { nodes = nodes; free = free; lost = lost } in
      let same = survey.image.identified.geometry in
      let rest = λ (g : Geometry). drop (256 * g.total) survey.image.bytes.now in
      let P : Geometry → Type 0 = λ g. TellsVolume g (volume_of (disk_of g (sector survey.image.bytes.now)) (found_numbers survey.files.items) (rest g)) tree in
      let Q : Geometry → Type 0 = λ g. Keeps (disk_of g (sector survey.image.bytes.now)) in
      let R : Geometry → Type 0 = λ g. IsListOfReached (disk_of g (sector survey.image.bytes.now)) (found_numbers survey.files.items) in
      let tells : TellsVolume (image_geometry survey.image.bytes.now) (image_volume survey.image.bytes.now (found_numbers survey.files.items)) tree =
      subst P (sym same) (record { numbers = are.numbers; each = are.each; free = free_is; lost = lost_is }) in
      record {
        volume = image_volume survey.image.bytes.now (found_numbers survey.files.items);
        represents = vol_from_keeps survey.image.bytes.now survey.image.identified.header (subst Q (sym same) is.kept) (found_numbers survey.files.items) (subst R (sym same) is.files.found);
        tells = tells;
        counts = counts_files (image_geometry survey.image.bytes.now) (image_volume survey.image.bytes.now (found_numbers survey.files.items)) tree tells;
      }

  pub lost_is : (list : List ℕ) → list ≡ lost_clusters (geometry_of survey.image.ident) (volume_from survey) → IsLostOf survey.image.bytes.now list
  lost_is list are =
      let same = survey.image.identified.geometry in
      let rest = λ (g : Geometry). drop (256 * g.total) survey.image.bytes.now in
      let Q : Geometry → Type 0 = λ g. Keeps (disk_of g (sector survey.image.bytes.now)) in
      let R : Geometry → Type 0 = λ g. IsListOfReached (disk_of g (sector survey.image.bytes.now)) (found_numbers survey.files.items) in
      let S : Geometry → Type 0 = λ g. list ≡ lost_clusters g (volume_of (disk_of g (sector survey.image.bytes.now)) (found_numbers survey.files.items) (rest g)) in
      record {
        volume = image_volume survey.image.bytes.now (found_numbers survey.files.items);
        represents = vol_from_keeps survey.image.bytes.now survey.image.identified.header (subst Q (sym same) is.kept) (found_numbers survey.files.items) (subst R (sym same) is.files.found);
        are = subst S (sym same) are;
      }
