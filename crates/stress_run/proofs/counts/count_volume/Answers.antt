-- The tree of an image tells its volume, and there is one at most.
use Rattle.stress_run.proofs.CountLemmas.{counts-told}
use Rattle.stress_run.proofs.counts.count_volume.Goals as goal

pub file_bytes-requires : goal.file_bytes-requires
file_bytes-requires c = (c.args.image.now, c.in_ok-tree.ensures.tree)

pub returns-clause-counts : goal.returns-clause-counts
returns-clause-counts c =
    counts-told c.args.image.now c.in_ok-tree.tree c.in_ok-tree.ensures.tree c.args.slices c.files.result
    c.file_bytes.result c.files.ensures (c.file_bytes.ensures c.args.image.now c.in_ok-tree.ensures.tree)
