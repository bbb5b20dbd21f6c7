-- Each line is the next of the text.
use Rattle.std.proofs.Common.{◌==◌, ◌+◌, rules, tests, sym, ap, ◌∙◌}
use Rattle.std.proofs.lemmas.List.{length_push}
use Rattle.std.proofs.lemmas.Iterator.Consumers.{YieldsList-turn, YieldsList-end}
use Rattle.std.proofs.lemmas.Iterator.Splits.{YieldsList-from_slice_split}
use Rattle.script_text.proofs.SliceLemmas.{SlicesSoFar-start, SlicesSoFar-next, SlicesSoFar-all, SlicesSoFar-limits, slices-refused}
use Rattle.script_text.proofs.slices.read_slices.Goals as goal

pub loop-line-init : goal.loop-line-init
loop-line-init c = record { number = search rules; so_far = rw c.new-slices.ensures.items (SlicesSoFar-start c.args.text.now) }

pub returns-in_default-clause-line : goal.returns-in_default-clause-line
returns-in_default-clause-line c =
    let turn = YieldsList-turn (YieldsList-from_slice_split _ (λ byte. byte == 10) c.args.text.now (cc) (cc) (cc)
    (λ x b q k. search (rules, tests))) c.loop-line.yielded _ c.loop-line.yielded_by _ _ c.in-Some.line
    c.in-Some.is c.next.ensures.steps in
    rw c.loop-line.invariant.number
    (slices-refused c.args.text.now _ _ _ c.in-Some.line.now c.loop-line.invariant.so_far turn.0 turn.1 (sym c.in_default.is ∙ c.add_line.ensures.total))

pub loop-line-preserved : goal.loop-line-preserved
loop-line-preserved c =
    let turn = YieldsList-turn (YieldsList-from_slice_split _ (λ byte. byte == 10) c.args.text.now (cc) (cc) (cc)
    (λ x b q k. search (rules, tests))) c.loop-line.yielded _ c.loop-line.yielded_by _ _ c.in-Some.line
    c.in-Some.is c.next.ensures.steps in
    let count = length_push c.loop-line.yielded c.in-Some.line in
    let next = SlicesSoFar-next c.args.text.now _ _ _ c.in-Some.line.now c.loop-line.invariant.so_far turn.0 turn.1 _
    _ (sym c.in-Some-add_line.is ∙ c.add_line.ensures.total) c.in-Ok.ensures c.in-Some-add_line.ensures.limits in
    record { number = rw count (ap (λ n. n + 1) c.loop-line.invariant.number); so_far = rw count next }

pub returns-clause-slices : goal.returns-clause-slices
returns-clause-slices c =
    let end = YieldsList-end (YieldsList-from_slice_split _ (λ byte. byte == 10) c.args.text.now (cc) (cc) (cc)
    (λ x b q k. search (rules, tests))) c.loop-line.yielded _ c.loop-line.yielded_by _ _ c.in-None.is
    c.next.ensures.steps in
    SlicesSoFar-all c.args.text.now _ _ _ c.loop-line.invariant.so_far end.1

pub returns-clause-limits : goal.returns-clause-limits
returns-clause-limits c = SlicesSoFar-limits _ _ _ _ c.loop-line.invariant.so_far
