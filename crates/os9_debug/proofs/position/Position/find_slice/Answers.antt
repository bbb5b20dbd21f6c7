-- Each slice is the next of the list.
use Rattle.std.proofs.Common.{◌<◌, ◌≤◌, length, refl, sym, ◌∙◌, arith, rules}
use Rattle.std.proofs.lemmas.Option.{slice_get-get_or}
use Rattle.os9_debug.proofs.Positions.{begins-with, found-all, found-broken, found-busy, found-idle, found-nobody, found-start}
use Rattle.os9_debug.proofs.position.Position.find_slice.Goals as goal

pub loop-index-init : goal.loop-index-init
loop-index-init g c = record {
  so_far = found-start c.args.slices.now c.args.self.now _ _ (sym c.ticks-index.ensures.count) c.requires.goes_on c.requires.between;
  terminals = refl;
  drives = refl;
}

pub begin_slice-requires-clause-count : goal.begin_slice-requires-clause-count
begin_slice-requires-clause-count g c =
    let below : c.loop-index.index < length c.args.slices.now = search rules in
    omega (arith, below, c.loop-index.invariant.so_far.goes_on.few, c.loop-index.invariant.so_far.begun)

pub returns-then-living-eq0-clause-found : goal.returns-then-living-eq0-clause-found
returns-then-living-eq0-clause-found g c =
    found-nobody c.args.slices.now c.args.self.now c.loop-index.index c.loop-index.self _ _ c.loop-index.invariant.so_far (λ s tied. sym (c.living.ensures _ s tied) ∙ c.if-living-eq0.true)

pub returns-in-Ok-Event-clause-found : goal.returns-in-Ok-Event-clause-found
returns-in-Ok-Event-clause-found g c =
    found-busy c.args.slices.now c.args.self.now c.loop-index.index c.loop-index.self _ _ c.loop-index.invariant.so_far _ c.begin_slice.new.self _
    (begins-with _ c.args.slices.now c.loop-index.self _ c.loop-index.index c.loop-index.invariant.so_far.begun
    (slice_get-get_or c.args.slices.now c.loop-index.index 0 (search rules)) (λ s tied none. c.if-living-eq0.false
    (c.living.ensures _ s tied ∙ none)))
    (rw c.in-Ok-Event.field-0-is at c.in-Ok-Event.ensures.begun)

pub returns-in-Err-clause-found : goal.returns-in-Err-clause-found
returns-in-Err-clause-found g c =
    found-broken c.args.slices.now c.args.self.now c.loop-index.index c.loop-index.self _ _ c.loop-index.invariant.so_far _ c.begin_slice.new.self _ _ c.in-Err.ensures.begun

pub loop-index-preserved : goal.loop-index-preserved
loop-index-preserved g c = record {
  so_far =
      found-idle c.args.slices.now c.args.self.now c.loop-index.index c.loop-index.self _ _ c.loop-index.invariant.so_far _ c.begin_slice.new.self _
      (begins-with _ c.args.slices.now c.loop-index.self _ c.loop-index.index c.loop-index.invariant.so_far.begun
      (slice_get-get_or c.args.slices.now c.loop-index.index 0 (search rules))
      (λ s tied none. c.if-living-eq0.false (c.living.ensures _ s tied ∙ none)))
      (rw c.in-Ok-End.field-0-is at c.in-Ok-End.ensures.begun);
  terminals = c.begin_slice.ensures.terminals ∙ c.loop-index.invariant.terminals;
  drives = c.begin_slice.ensures.drives ∙ c.loop-index.invariant.drives;
}

pub returns-clause-found : goal.returns-clause-found
returns-clause-found g c =
    let all : length c.args.slices.now ≤ c.loop-index.index = search rules in
    found-all c.args.slices.now c.args.self.now c.loop-index.index c.loop-index.self _ _ c.loop-index.invariant.so_far all
