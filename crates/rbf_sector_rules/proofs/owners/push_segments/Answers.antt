use Rattle.std.proofs.Common.{◌++◌, ◌∷◌, [], take, sym, ap, ◌∙◌, append_assoc, arith}
use Rattle.std.proofs.lemmas.List.{take_more}
use Rattle.std.proofs.lemmas.Option.{get_or_from_slice_get}
use Rattle.rbf_sector_rules.proofs.owners.push_segments.Goals as goal

pub loop-i-preserved : goal.loop-i-preserved
loop-i-preserved c =
    let old = c.args.segments.now.items in
    let segments = c.args.segs.now in
    let i = c.loop-i.i in
    let last = get_or_from_slice_get segments i c.run.result (0, 0) c.run.ensures.pair in
    c.in_ok-push.ensures.items ∙ ap (λ segments. segments ++ c.run.result ∷ []) c.loop-i.invariant ∙ append_assoc old (take i segments) (c.run.result ∷ [])
    ∙ ap (λ segments. old ++ segments) (sym (take_more segments i (0, 0) (omega arith) ∙ ap (λ segment. take i segments ++ segment ∷ []) last))
