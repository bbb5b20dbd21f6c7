use Rattle.std.proofs.Common.{◌≡◌, ◌+◌, ◌*◌, ◌≤◌, ap, ◌∙◌, arith}
use Rattle.std.proofs.Math.Nat.{mul-le-mul_right}
use Rattle.rbf_alloc.specs.Gained.{cluster_at}
use Rattle.rbf_alloc.proofs.Gaining.{none_back, one_back}
use Rattle.rbf_alloc.proofs.returned.give_back.Goals as goal

pub overflow_mul-i : goal.overflow_mul-i
overflow_mul-i c =
    let same : c.from.result ≡ c.args.k = c.from.ensures in
    let place : c.loop-i.i * c.from.result ≡ c.loop-i.i * c.args.k = ap (λ k. c.loop-i.i * k) same in
    let most : c.loop-i.i * c.args.k ≤ c.args.range.count * c.args.k = mul-le-mul_right c.args.k (omega arith) in
    let fits = c.requires.places.fits in
    omega arith

pub overflow_add-range : goal.overflow_add-range
overflow_add-range c =
    let same : c.from.result ≡ c.args.k = c.from.ensures in
    let place : c.loop-i.i * c.from.result ≡ c.loop-i.i * c.args.k = ap (λ k. c.loop-i.i * k) same in
    let most : c.loop-i.i * c.args.k ≤ c.args.range.count * c.args.k = mul-le-mul_right c.args.k (omega arith) in
    let fits = c.requires.places.fits in
    omega arith

pub loop-i-init : goal.loop-i-init
loop-i-init c = none_back c.args.k c.args.segs.now c.args.range.first c.args.written.now c.args.map.now

pub loop-i-preserved : goal.loop-i-preserved
loop-i-preserved c =
    one_back c.args.k c.args.segs.now c.args.range.first c.loop-i.i c.cluster_of-cluster.result c.args.written.now c.args.map.now c.loop-i.map c.return_one.new.map
    (c.cluster_of-cluster.ensures ∙ ap (λ k. cluster_at c.args.k c.args.segs.now (c.args.range.first + c.loop-i.i * k)) c.from.ensures) c.loop-i.invariant c.return_one.ensures
