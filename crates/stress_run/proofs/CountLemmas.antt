-- From what the nodes of a tree tell to the counts of its volume.
use Rattle.std.proofs.Common.{◌≡◌, ℕ, ◌+◌, ◌*◌, ◌^◌, ◌==◌, ◌<◌, ◌≤◌, nat_le, Bool, true, false, not, is_some, Some, List, [], ◌∷◌, All, length, map, drop, get_or, refl, sym, ap, ap₂, ◌∙◌, subst, arith, length-take}
use Rattle.std.specs.Prelude.{count_by, flat_map, sum_by, if◌then◌else◌}
use Rattle.std.specs.Int.{bit_at}
use Rattle.std.specs.List.{prefix_len, range_with_len}
use Rattle.std.specs.Option.{option_map_or}
use Rattle.std.proofs.lemmas.Bool.{and_parts, leb-true}
use Rattle.std.proofs.lemmas.List.{length-map}
use Rattle.std.proofs.lemmas.List.Concat.{length-flat_map}
use Rattle.std.proofs.lemmas.List.Elements.{All-head, All-tail}
use Rattle.std.proofs.lemmas.List.FromFn.{length-map-range_with_len, length-range_with_len}
use Rattle.std.proofs.lemmas.List.Sums.{sum-map, sum_by-cons, sum_by-le}
use Rattle.os9_words.specs.declared.stress_counts.StressCounts.{StressCounts}
use Rattle.rbf_model.specs.Counts.{file_count}
use Rattle.rbf_model.specs.Fields.{has_sectors, segment_field, segments_field, size_field}
use Rattle.rbf_model.specs.File.{DiskFile, file_at, segment_bytes}
use Rattle.rbf_model.specs.Geometry.{Geometry, LieWithin, geometry, image_geometry, is_within, sector}
use Rattle.rbf_model.specs.Segments.{sectors_of, segment_sectors}
use Rattle.rbf_model.specs.Volume.{DiskVolume, Vol, file_numbers, free_clusters, lost_clusters}
use Rattle.rbf_model.proofs.Unique.{vol_is_unique}
use Rattle.rbf_check.specs.Tree.{IsTreeOf, TellsNode, TellsVolume, is_directory_node}
use Rattle.rbf_check.specs.declared.tree.Node.{Node}
use Rattle.rbf_check.specs.declared.tree.Tree.{Tree}
use Rattle.rbf_check.proofs.Counted.{count_most}
use Rattle.stress_run.specs.Counts.{counts_with, data_size, file_bytes}
use Rattle.stress_run.specs.Nodes.{node_size}

module _ (g : Geometry) (v : DiskVolume) where
  -- the size of a node is that of its file
  size-told : (node : Node) → TellsNode g v node → node_size node ≡ option_map_or data_size (v.files node.fd) 0
  size-told node told =
      ap₂ (λ attributes bytes. if bit_at attributes 7 == 1 then 0 else length bytes) told.tells.attributes told.tells.contents
      ∙ ap (λ file. option_map_or data_size file 0) (sym told.is)

  sizes-told : (nodes : List Node) → All (TellsNode g v) nodes → sum_by node_size nodes ≡ sum_by (λ n. option_map_or data_size (v.files n) 0) (map (λ node. node.fd) nodes)
  sizes-told [] each = refl
  sizes-told (node ∷ nodes) each =
      sum_by-cons node_size node nodes
      ∙ ap₂ (λ size sizes. size + sizes) (size-told node (All-head (TellsNode g v) node nodes each)) (sizes-told nodes (All-tail (TellsNode g v) node nodes each))
      ∙ sym (sum_by-cons (λ n. option_map_or data_size (v.files n) 0) node.fd (map (λ (it : Node). it.fd) nodes))

  pub bytes-told : (tree : Tree) → TellsVolume g v tree → sum_by node_size tree.nodes ≡ file_bytes g v
  bytes-told tree tells =
      sizes-told tree.nodes tells.each ∙ ap (sum_by (λ n. option_map_or data_size (v.files n) 0)) tells.numbers
      ∙ sym (sum-map (λ n. option_map_or data_size (v.files n) 0) (file_numbers g v))

-- ---- the sum of the sizes fits

segment-few : (g : Geometry) (segment : ℕ × ℕ) → g.total ≤ 524280 → is_within g segment ≡ true → length (segment_sectors segment) ≤ 524280
segment-few g segment most within =
    omega (arith, length-range_with_len segment.0 segment.1, leb-true (segment.0 + segment.1) g.total (and_parts (nat_le 1 segment.0) (nat_le (segment.0 + segment.1) g.total) within).1)

segments-few : (descriptor : List ℕ) → length (segments_field descriptor) ≤ 48
unfolding segments_field
segments-few descriptor =
    let pairs = map (segment_field descriptor) (range_with_len 0 48) in
    omega (arith, length-take (prefix_len has_sectors pairs) pairs, length-map-range_with_len (segment_field descriptor) 0 48)

sectors-few : (g : Geometry) (segments : List (ℕ × ℕ)) → g.total ≤ 524280 → LieWithin g segments → length (sectors_of segments) ≤ length segments * 524280
sectors-few g segments most within =
    omega (
      arith,
      length-flat_map segment_sectors segments,
      sum_by-le (λ segment. length (segment_sectors segment))
          524280 segments (λ k d low. segment-few g (get_or segments k d) most (within k d low)),
    )

bytes-few : (image sectors : List ℕ) → length (flat_map (sector image) sectors) ≤ length sectors * 256
bytes-few image sectors =
    omega (arith, length-flat_map (sector image) sectors, sum_by-le (λ n. length (sector image n)) 256 sectors (λ k d low. omega (arith, length-take 256 (drop (256 * get_or sectors k d) image))))

size-within : (directory : Bool) (bytes : List ℕ) → (if directory then 0 else length bytes) ≤ length bytes
size-within true bytes = omega arith
size-within false bytes = omega arith

module _ (image : List ℕ) (v : DiskVolume) (represents : Vol image v) where
  -- the segments of a file have sectors of the volume
  contents-few : (n : ℕ) (file : DiskFile) → v.files n ≡ Some file → length file.contents ≤ 2 ^ 33
  contents-few n file is =
      let segments = segments_field (sector image n) in
      let shown : file ≡ file_at (sector image) n = represents.sound.shows.shown n file is in
      let within : LieWithin (image_geometry image) segments =
      subst (λ (it : DiskFile). LieWithin (image_geometry image) it.segments) shown (represents.sound.mapped.within n file is) in
      omega (
        arith,
        ap (λ (it : DiskFile). length it.contents) shown,
        length-take (size_field (sector image n))
            (segment_bytes (sector image) segments),
        bytes-few image (sectors_of segments),
        sectors-few
            (image_geometry image) segments represents.header.header.most within,
        segments-few (sector image n),
      )

  node-few : (node : Node) → TellsNode (image_geometry image) v node → node_size node ≤ 2 ^ 33
  node-few node told =
      omega (arith, size-within (is_directory_node node) node.bytes, ap length told.tells.contents, contents-few node.fd told.file told.is)

  nodes-few : (tree : Tree) → TellsVolume (image_geometry image) v tree → length tree.nodes ≤ 524280
  nodes-few tree tells =
      omega (arith, length-map tree.nodes (λ (node : Node). node.fd), ap length tells.numbers, count_most (λ n. is_some (v.files n)) (image_geometry image).total, represents.header.header.most)

  -- so all sizes of a tree fit 64 bits together
  pub sizes-fit : (tree : Tree) → TellsVolume (image_geometry image) v tree → sum_by node_size tree.nodes < 2 ^ 64
  sizes-fit tree tells =
      omega (arith, sum_by-le node_size (2 ^ 33) tree.nodes (λ k d low. node-few (get_or tree.nodes k d) (tells.each k d low)), nodes-few tree tells)

-- ---- all counts

abbrev counts_at : ℕ → Geometry → DiskVolume → StressCounts
counts_at slices g v = record {
  slices = slices;
  files = file_count g v;
  bytes = file_bytes g v;
  free = length (free_clusters g v);
  lost = length (lost_clusters g v);
}

abbrev the-counts : ℕ → ℕ → ℕ → Tree → StressCounts
the-counts slices files bytes tree = record { slices = slices; files = files; bytes = bytes; free = tree.free; lost = tree.lost }

-- what a tree of an image counts is what its volume has
pub counts-told : (image : List ℕ) (tree : Tree) (is : IsTreeOf image tree) (slices files bytes : ℕ)
    → files ≡ count_by (λ node. not (is_directory_node node)) tree.nodes → bytes ≡ file_bytes (image_geometry image)
    is.volume
    → (v : DiskVolume) → Vol image v → the-counts slices files bytes tree ≡ counts_with slices v
counts-told image tree is slices files bytes files_are bytes_are v represents =
    let told : the-counts slices files bytes tree ≡ counts_at slices (image_geometry image) is.volume =
    λ i. record { slices = slices; files = (files_are ∙ is.counts.files) i; bytes = bytes_are i; free = is.tells.free i; lost = is.tells.lost i } in
    told ∙ ap (λ (ident : List ℕ). counts_at slices (geometry ident) is.volume) (sym is.represents.sound.shows.ident)
    ∙ ap (counts_with slices) (vol_is_unique image is.volume v is.represents represents)
