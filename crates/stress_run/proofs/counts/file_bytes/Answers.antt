-- The nodes of a tree are the files of its volume.
use Rattle.std.proofs.Common.{◌≡◌, get_or, ap, sym, ◌∙◌, arith}
use Rattle.std.proofs.lemmas.List.{take_all}
use Rattle.std.proofs.lemmas.List.Sums.{sum_by_more, sum_by_more_le}
use Rattle.std.proofs.lemmas.Option.{get_or_from_slice_get}
use Rattle.std.specs.Prelude.{sum_by}
use Rattle.rbf_model.specs.Geometry.{image_geometry}
use Rattle.stress_run.specs.Nodes.{node_size}
use Rattle.stress_run.proofs.CountLemmas.{bytes-told, sizes-fit}
use Rattle.stress_run.proofs.counts.file_bytes.Goals as goal

pub overflow_add-bytes : goal.overflow_add-bytes
overflow_add-bytes c =
    let nodes = c.args.tree.now.nodes in
    let node = c.node.result.now in
    let size : c.data_size-bytes.result ≡ node_size (get_or nodes c.loop-place.place node) =
    c.data_size-bytes.ensures ∙ ap node_size (sym (get_or_from_slice_get nodes c.loop-place.place node node c.node.ensures)) in
    let (image, is) = c.requires in
    let fits = sizes-fit image is.volume is.represents c.args.tree.now is.tells in
    omega (arith, size, sum_by_more_le node_size nodes c.loop-place.place node (omega arith), fits)

pub loop-place-preserved : goal.loop-place-preserved
loop-place-preserved c =
    let nodes = c.args.tree.now.nodes in
    let node = c.node.result.now in
    let size : c.data_size-bytes.result ≡ node_size (get_or nodes c.loop-place.place node) =
    c.data_size-bytes.ensures ∙ ap node_size (sym (get_or_from_slice_get nodes c.loop-place.place node node c.node.ensures)) in
    let more = sum_by_more node_size nodes c.loop-place.place node (omega arith) in
    omega arith

pub returns : goal.returns
returns c = λ image is.
    c.loop-place.invariant ∙ ap (sum_by node_size) (take_all c.loop-place.place c.args.tree.now.nodes (omega arith))
    ∙ bytes-told (image_geometry image) is.volume c.args.tree.now is.tells
