use Rattle.std.proofs.Common.{◌*◌, refl, ap, ◌∙◌}
use Rattle.rbf_model.specs.Segments.{appended_segments}
use Rattle.rbf_alloc.proofs.Clear.{taken_back}
use Rattle.rbf_alloc.proofs.Gaining.{some_at, taken_may, taken_chosen, not_full}
use Rattle.rbf_alloc.proofs.taken.gain_one.Goals as goal

pub returns-in-Ok-clause-ok : goal.returns-in-Ok-clause-ok
returns-in-Ok-clause-ok c = record {
  cluster = c.unwrap-cluster.result;
  may = taken_may c.args.k c.args.map.now c.args.segs.now _ _ c.unwrap-cluster.result c.last_of.ensures c.unwrap-cluster.ensures c.take_after.ensures.taken;
  chosen = taken_chosen c.args.k c.args.wanted c.args.map.now c.args.segs.now _ _ c.unwrap-cluster.result c.last_of.ensures c.unwrap-cluster.ensures c.take_after.ensures.chosen;
  marks = some_at _ _ c.unwrap-cluster.result c.unwrap-cluster.ensures c.take_after.ensures.marked;
  segments = c.in-Ok.ensures.segments ∙ ap (λ k. appended_segments c.args.segs.now (c.unwrap-cluster.result * k) c.args.k) c.from.ensures;
  fits = not_full _ _ c.in-Ok.ensures.full c.in-Ok.ensures.segments;
}

pub returns-in-Err-clause-full : goal.returns-in-Err-clause-full
returns-in-Err-clause-full c = record {
  cluster = c.unwrap-cluster.result;
  may = taken_may c.args.k c.args.map.now c.args.segs.now _ _ c.unwrap-cluster.result c.last_of.ensures c.unwrap-cluster.ensures c.take_after.ensures.taken;
  chosen = taken_chosen c.args.k c.args.wanted c.args.map.now c.args.segs.now _ _ c.unwrap-cluster.result c.last_of.ensures c.unwrap-cluster.ensures c.take_after.ensures.chosen;
  full = rw c.from.ensures at (c.in-Err.ensures.full.0 refl);
}

pub returns-in-Err-clause-back : goal.returns-in-Err-clause-back
returns-in-Err-clause-back c =
    let may = some_at _ _ c.unwrap-cluster.result c.unwrap-cluster.ensures c.take_after.ensures.taken in
    taken_back c.args.map.now c.take_after.new.self c.free.new.self c.unwrap-cluster.result
    (some_at _ _ c.unwrap-cluster.result c.unwrap-cluster.ensures c.take_after.ensures.marked) c.free.ensures may.free.clear
