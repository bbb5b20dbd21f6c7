-- The walk from the root.
use Rattle.std.proofs.Common.{ℕ}
use Rattle.std.proofs.lemmas.Result.{err_from_is_err_and}
use Rattle.vol_tools.proofs.Counts.{directory_ends, faults_of}
use Rattle.vol_tools.proofs.Ways.{root_there, root_is, way_done, way_stopped}
use Rattle.vol_tools.proofs.way.way_to.Goals as goal

pub walk-requires-clause-file : goal.walk-requires-clause-file
walk-requires-clause-file g c = root_there c.args.v.now _ c.requires c.root-root.result c.root-root.ensures.volume

pub returns-in_err-n-clause-answer : goal.returns-in_err-n-clause-answer
returns-in_err-n-clause-answer g c on represents =
    let p = err_from_is_err_and c.from_residual.result c.from_residual.ensures.1 in
    rw (p.1, p.2)
    (way_stopped on c.root-root.result c.args.names.now c.in_err-n.field-0.0 (root_is c.args.v.now _ c.requires
    c.root-root.result c.root-root.ensures.volume on represents) (c.in_err-n.ensures.walked on represents))

pub returns-in_err-n-clause-fault : goal.returns-in_err-n-clause-fault
returns-in_err-n-clause-fault g c =
    let p = err_from_is_err_and c.from_residual.result c.from_residual.ensures.1 in
    rw (p.1, p.2) (directory_ends ℕ ℕ c.in_err-n.field-0.0 _ _ _ (c.in_err-n.ensures.counts c.requires.content c.requires.on))

pub returns-clause-answer : goal.returns-clause-answer
returns-clause-answer g c on represents =
    way_done on c.root-root.result c.in_ok-n.n c.args.names.now (root_is c.args.v.now _ c.requires c.root-root.result c.root-root.ensures.volume on represents) (c.in_ok-n.ensures.walked on represents)

pub returns-clause-fault : goal.returns-clause-fault
returns-clause-fault g c = faults_of _ _ _ _ (c.in_ok-n.ensures.counts c.requires.content c.requires.on)
