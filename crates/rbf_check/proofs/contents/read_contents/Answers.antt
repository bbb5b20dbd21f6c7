use Rattle.std.proofs.Common.{◌≡◌, ◌∙◌, ◌+◌, ◌-◌, ◌*◌, ◌++◌, min, length, take, drop, ap, arith}
use Rattle.std.proofs.lemmas.Option.{get_or_from_slice_get}
use Rattle.rbf_check.proofs.Copied.{contents_more}
use Rattle.rbf_check.proofs.contents.read_contents.Goals as goal

pub loop-i-preserved : goal.loop-i-preserved
loop-i-preserved c =
    let image = c.args.image.now in
    let segs = c.args.segs.now in
    let old = c.loop-i.bytes.items in
    let segment = c.run-first.result in
    let part = c.min-part.result in
    let there = get_or_from_slice_get segs c.loop-i.i segment (0, 0) c.run-first.ensures.pair in
    let lesser : part ≡ min (c.args.size - length old) (256 * segment.1) = omega arith in
    let count : 256 * segment.0 + part - 256 * segment.0 ≡ part = omega arith in
    c.in_ok-extend_from_slice.ensures.items ∙ ap (λ n. old ++ take n (drop (256 * segment.0) image)) count
    ∙ contents_more image segs c.loop-i.i segment (omega arith) there c.args.size part old c.loop-i.invariant lesser
