use Rattle.std.proofs.Common.{◌≡◌, ◌<◌, ◌++◌, ◌∷◌, [], ℕ, true, length, map, OnOk, below_more, Result, subst, sym, ap, ◌∙◌, arith}
use Rattle.std.specs.List.{range_with_len}
use Rattle.rbf_segs.specs.declared.segs.SegsFull.{SegsFull}
use Rattle.rbf_model.specs.Fields.{segment_field, has_sectors}
use Rattle.rbf_sector.proofs.SegmentList.{segments-stop, segments-all, segments-more, is_segment-some, is_segment-none, length-segments, ok_unless}
use Rattle.rbf_sector.proofs.fd.read_segs.Goals as goal

pub returns-then-count-eq0 : goal.returns-then-count-eq0
returns-then-count-eq0 c =
    c.loop-i.invariant.0 ∙ sym (segments-stop c.args.b.now c.loop-i.i c.loop-i-test.true c.loop-i.invariant.1
    (is_segment-none c.args.b.now c.loop-i.i c.u16_at-count.result c.u16_at-count.ensures c.if-count-eq0.true))

pub unwrap-requires : goal.unwrap-requires
unwrap-requires c =
    let few : length c.loop-i.segs ≡ c.loop-i.i = ap length c.loop-i.invariant.0 ∙ length-segments c.args.b.now c.loop-i.i in
    ok_unless c.add_run.result (λ full. absurd (omega (arith, c.add_run.ensures.full.0 full, c.loop-i-test.true)))

pub loop-i-preserved : goal.loop-i-preserved
loop-i-preserved c =
    let b = c.args.b.now in
    let i = c.loop-i.i in
    let P : Result (Unit {0}) SegsFull → Type 0 = λ r. OnOk r (c.add_run.new.self ≡ c.loop-i.segs ++ (c.u24_at.result, c.u16_at-count.result) ∷ []) in
    let added = subst P c.unwrap.ensures c.add_run.ensures.ok in (
      added ∙ ap (λ segs. segs ++ (c.u24_at.result, c.u16_at-count.result) ∷ []) c.loop-i.invariant.0 ∙ sym
          (segments-more b i c.u24_at.result c.u16_at-count.result c.u24_at.ensures.value c.u16_at-count.ensures),
      below_more (λ k. has_sectors (segment_field b k) ≡ true) i c.loop-i.invariant.1
          (is_segment-some b i c.u16_at-count.result c.u16_at-count.ensures c.if-count-eq0.false),
    )

pub returns : goal.returns
returns c =
    let all : c.loop-i.i ≡ 48 = omega arith in
    let pass : (k : ℕ) → k < 48 → has_sectors (segment_field c.args.b.now k) ≡ true = λ k below. c.loop-i.invariant.1 k (omega arith) in
    c.loop-i.invariant.0 ∙ ap (λ n. map (segment_field c.args.b.now) (range_with_len 0 n)) all ∙ sym (segments-all c.args.b.now pass)
