use Rattle.std.proofs.Common.{◌≡◌, ◌+◌, ◌*◌, ◌≤◌, ap, ◌∙◌, subst, arith}
use Rattle.std.proofs.Math.Nat.{mul-le-mul_right}
use Rattle.std.proofs.lemmas.Result.{err_from_is_err_and}
use Rattle.rbf_change.specs.Agrees.{MountedPart}
use Rattle.rbf_alloc.specs.Gained.{cluster_at, clusters_from}
use Rattle.rbf_alloc.specs.Marked.{AllWritten}
use Rattle.rbf_alloc.proofs.Written.{none_marked, still_marking, on_at_fault, marked_more, calls_at_fault, calls_of_all}
use Rattle.rbf_alloc.proofs.marks.write_marks.Goals as goal

pub overflow_mul-i : goal.overflow_mul-i
overflow_mul-i g c =
    let place : c.loop-i.i * c.from.result ≡ c.loop-i.i * c.args.v.now.ident.cluster = ap (λ k. c.loop-i.i * k) c.from.ensures in
    let most : c.loop-i.i * c.args.v.now.ident.cluster ≤ c.args.range.count * c.args.v.now.ident.cluster = mul-le-mul_right c.args.v.now.ident.cluster (omega arith) in
    let fits = c.requires.places.fits in
    omega arith

pub overflow_add-range : goal.overflow_add-range
overflow_add-range g c =
    let place : c.loop-i.i * c.from.result ≡ c.loop-i.i * c.args.v.now.ident.cluster = ap (λ k. c.loop-i.i * k) c.from.ensures in
    let most : c.loop-i.i * c.args.v.now.ident.cluster ≤ c.args.range.count * c.args.v.now.ident.cluster = mul-le-mul_right c.args.v.now.ident.cluster (omega arith) in
    let fits = c.requires.places.fits in
    omega arith

pub loop-i-init : goal.loop-i-init
loop-i-init g c = none_marked _ _ _ _ _ _ _ _ c.requires.cached

pub write_mark-requires-clause-marking : goal.write_mark-requires-clause-marking
write_mark-requires-clause-marking g c = still_marking _ _ _ _ _ _ _ _ _ _ _ _ _ c.loop-i.invariant c.requires.marking

pub write_mark-requires-clause-in_map : goal.write_mark-requires-clause-in_map
write_mark-requires-clause-in_map g c =
    let place = c.cluster_of-cluster.ensures ∙ ap (λ k. cluster_at c.args.v.now.ident.cluster c.args.segs.now (c.args.range.first + c.loop-i.i * k)) c.from.ensures in
    let low = c.requires.places.in_map c.loop-i.i (omega arith) in
    let same = ap (λ (kv : MountedPart). kv.map.whole) c.loop-i.invariant.same in
    omega (arith, place, low, same)

pub returns-in_err-write_mark-clause-on : goal.returns-in_err-write_mark-clause-on
returns-in_err-write_mark-clause-on g c = on_at_fault _ _ _ _ _ _ _ _ _ _ _ _ _ c.loop-i.invariant _ _ c.in_err-write_mark.ensures.on

pub loop-i-preserved : goal.loop-i-preserved
loop-i-preserved g c =
    let step = c.in_ok-write_mark.ensures in
    marked_more _ _ _ _ _ _ _ _ _ _ _ _ _ c.loop-i.invariant c.cluster_of-cluster.result _ _ _ _ _ step.on step.there step.marked
    (c.cluster_of-cluster.ensures ∙ ap (λ k. cluster_at c.args.v.now.ident.cluster c.args.segs.now (c.args.range.first + c.loop-i.i * k)) c.from.ensures) step.volume_kept step.cached step.counts

pub returns-clause-all : goal.returns-clause-all
returns-clause-all g c =
    let end : c.loop-i.i ≡ c.args.range.count = omega arith in
    subst (λ n. AllWritten (clusters_from c.args.v.now.ident.cluster c.args.segs.now c.args.range.first n) c.loop-i.written) end c.loop-i.invariant.all

pub returns-in_err-write_mark-clause-counts : goal.returns-in_err-write_mark-clause-counts
returns-in_err-write_mark-clause-counts g c =
    let p = err_from_is_err_and c.from_residual.result c.from_residual.ensures.1 in
    rw (p.1, p.2)
    (calls_at_fault _ _ _ _ _ _ _ _ _ _ _ _ _ c.loop-i.invariant _ c.cluster_of-cluster.result c.args.range.count _ (omega arith)
    (c.cluster_of-cluster.ensures ∙ ap (λ k. cluster_at c.args.v.now.ident.cluster c.args.segs.now (c.args.range.first + c.loop-i.i * k)) c.from.ensures) c.in_err-write_mark.ensures.counts)

pub returns-clause-counts : goal.returns-clause-counts
returns-clause-counts g c = calls_of_all _ _ _ _ _ _ _ _ _ _ _ _ _ c.loop-i.invariant c.args.range.count (omega arith)

pub write_mark-requires-clause-cached : goal.write_mark-requires-clause-cached
write_mark-requires-clause-cached g c = c.loop-i.invariant.cached
