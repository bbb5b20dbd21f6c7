use Rattle.std.proofs.Common.{◌≡◌, ◌∙◌, true, get_or, below_more, sym, ap, arith}
use Rattle.std.proofs.lemmas.Option.{get_or_from_slice_get, slice_get_within}
use Rattle.std.proofs.lemmas.List.Folds.{list_all_at}
use Rattle.std.proofs.lemmas.List.Sums.{list_all-from_AllPass}
use Rattle.std.proofs.lemmas.List.Elements.{All-from_get_or}
use Rattle.rbf_model.specs.Geometry.{is_within}
use Rattle.rbf_sector.specs.Ident.{geometry_of}
use Rattle.rbf_sector_rules.proofs.directory.lie_within.Goals as goal

pub returns-then-not-is_segment_within : goal.returns-then-not-is_segment_within
returns-then-not-is_segment_within c =
    let p = is_within (geometry_of c.args.ident.now) in
    let segs = c.args.segs.now in
    let here = get_or_from_slice_get segs c.loop-i.i c.run-run.result (0, 0) c.run-run.ensures.pair in
    sym (list_all_at p segs c.loop-i.i (0, 0) (slice_get_within segs c.loop-i.i c.run-run.result
    c.run-run.ensures.pair) (ap p here ∙ sym c.is_segment_within.ensures ∙ c.if-not-is_segment_within.true))

pub loop-i-preserved : goal.loop-i-preserved
loop-i-preserved c =
    let p = is_within (geometry_of c.args.ident.now) in
    let segs = c.args.segs.now in
    let here = get_or_from_slice_get segs c.loop-i.i c.run-run.result (0, 0) c.run-run.ensures.pair in
    below_more (λ k. p (get_or segs k (0, 0)) ≡ true) c.loop-i.i c.loop-i.invariant (ap p here ∙ sym c.is_segment_within.ensures ∙ c.if-not-is_segment_within.false)

pub returns : goal.returns
returns c =
    let p = is_within (geometry_of c.args.ident.now) in
    let segs = c.args.segs.now in
    sym (list_all-from_AllPass p segs (All-from_get_or (λ s. p s ≡ true) segs (0, 0) (λ k below. c.loop-i.invariant k (omega arith))))
