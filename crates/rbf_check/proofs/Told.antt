-- The nodes of a survey's files, by rising descriptor number.
use Rattle.std.proofs.Common.{◌≡◌, ℕ, ◌+◌, ◌<◌, ◌≤◌, true, List, [], ◌∷◌, ◌++◌, All, length, map, get_or, Some, None, is_some, sym, ap, ◌∙◌, subst, arith}
use Rattle.std.specs.Prelude.{filter}
use Rattle.std.specs.List.{range_with_len}
use Rattle.std.proofs.lemmas.List.{append-nil, length-map, map-append}
use Rattle.std.proofs.lemmas.List.Elements.{All-push, Contains-get_or}
use Rattle.std.proofs.lemmas.Option.{cond_some}
use Rattle.rbf_model.specs.Disk.{disk_of}
use Rattle.rbf_model.specs.Geometry.{sector}
use Rattle.rbf_model.specs.Segments.{has}
use Rattle.rbf_model.specs.File.{DiskFile, file_at}
use Rattle.rbf_model.specs.Search.{IsReachedOn}
use Rattle.rbf_sector_rules.specs.declared.links.Link.{Link}
use Rattle.rbf_check.specs.declared.survey.Survey.{Survey}
use Rattle.rbf_sector_rules.specs.Files.{found_numbers}
use Rattle.rbf_sector.specs.Ident.{geometry_of}
use Rattle.rbf_check.specs.Survey.{IsSurvey}
use Rattle.rbf_check.specs.declared.tree.Node.{Node}
use Rattle.rbf_check.specs.VolumeNodes.{volume_from, AreNodesBelow}
use Rattle.rbf_check.specs.Tree.{TellsFile, TellsNode, IsPlaced}
use Rattle.rbf_check.proofs.Counted.{filter_next, filter_yes, filter_no, count_most}

module _ (survey : Survey) (is : IsSurvey survey) where
  -- each link names a number of the volume
  pub links_below : (links : List Link) → links ≡ survey.links.items → All (λ link. link.descriptor < survey.image.ident.total) links
  links_below links same k d low =
      let P : List Link → Type 0 = λ xs. (get_or xs k d).descriptor < survey.image.ident.total in
      let below : k < length survey.links.items = subst (λ (xs : List Link). k < length xs) same low in
      subst P (sym same) (is.links.each (get_or survey.links.items k d) (Contains-get_or survey.links.items k d below)).1.below

  -- a file's descriptor is reached
  pub file_reached : (n : ℕ) (file : DiskFile) → (volume_from survey).files n ≡ Some file → IsReachedOn (disk_of (geometry_of survey.image.ident) (sector survey.image.bytes.now)) n
  file_reached n file there = (is.files.found n).0 (cond_some (has (found_numbers survey.files.items) n) (file_at (sector survey.image.bytes.now) n) file there).0

module _ (survey : Survey) where
  module _ (nodes : List Node) (n : ℕ) (before : AreNodesBelow survey nodes n) where
    -- a number that is no file's
    pub nodes_past : (volume_from survey).files n ≡ None → AreNodesBelow survey nodes (n + 1)
    nodes_past none =
        let p = λ (m : ℕ). is_some ((volume_from survey).files m) in
        record {
          numbers = before.numbers ∙ sym (append-nil (filter p (range_with_len 0 n))) ∙ ap (λ xs. filter p (range_with_len 0 n) ++ xs) (sym (filter_no p n (ap is_some none))) ∙ sym (filter_next p n);
          each = before.each;
        }

    -- and one that is
    pub nodes_more : (node : Node) (new : List Node) → new ≡ nodes ++ node ∷ [] → node.fd ≡ n → TellsNode (geometry_of survey.image.ident) (volume_from survey) node → AreNodesBelow survey new (n + 1)
    nodes_more node new grown number tells =
        let p = λ (m : ℕ). is_some ((volume_from survey).files m) in
        let there : p n ≡ true = ap p (sym number) ∙ ap is_some tells.is in
        record {
          numbers = ap (map (λ (it : Node). it.fd)) grown ∙ map-append (λ (it : Node). it.fd) nodes (node ∷ []) ∙ ap (λ xs. xs ++ node.fd ∷ []) before.numbers
              ∙ ap (λ m. filter p (range_with_len 0 n) ++ m ∷ []) number ∙ ap (λ xs. filter p (range_with_len 0 n) ++ xs) (sym (filter_yes p n there)) ∙ sym (filter_next p n);
          each = subst (λ xs. All (TellsNode (geometry_of survey.image.ident) (volume_from survey)) xs) (sym grown)
              (All-push (TellsNode (geometry_of survey.image.ident) (volume_from survey)) nodes node before.each
              tells);
        }

    length_numbers : length (map (λ (it : Node). it.fd) nodes) ≡ length nodes
    length_numbers = length-map nodes (λ (it : Node). it.fd)

    pub nodes_few : length nodes ≤ n
    nodes_few =
        let p = λ (m : ℕ). is_some ((volume_from survey).files m) in
        omega (arith, ap length before.numbers, length_numbers, count_most p n)

-- what a node tells, at the number and in the place that it was made for
pub node_tells : (survey : Survey) (n parent : ℕ) (name : List ℕ) (node : Node) → (volume_from survey).files n ≡ Some
    (file_at (sector survey.image.bytes.now) n) → IsPlaced (geometry_of survey.image.ident) (volume_from survey) n
    parent name
    → node.fd ≡ n → node.parent ≡ parent → node.name ≡ name → TellsFile node (file_at (sector survey.image.bytes.now) n) → TellsNode (geometry_of survey.image.ident) (volume_from survey) node
node_tells survey n parent name node file placed number in_parent named tells =
    let g = geometry_of survey.image.ident in
    let v = volume_from survey in
    record {
      file = file_at (sector survey.image.bytes.now) n;
      is = ap v.files number ∙ file;
      tells = tells;
      place = subst (λ m. IsPlaced g v m node.parent node.name) (sym number) (subst (λ m. IsPlaced g v n m node.name) (sym in_parent) (subst (λ m. IsPlaced g v n parent m) (sym named) placed));
    }
