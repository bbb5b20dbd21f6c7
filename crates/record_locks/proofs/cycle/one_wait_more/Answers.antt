-- Each process below the counter is marked as its request says; the others have no request.
use Rattle.std.proofs.Common.{◌≢◌, ◌<◌, ◌==◌, ◌||◌, false, None, length, inl, inr, sym, ap, ◌∙◌, arith, below_more, get_or, get_or-set_same, get_or-set_other}
use Rattle.std.proofs.lemmas.Bool.{cases_lt}
use Rattle.std.proofs.lemmas.List.{get_or_past, length-set}
use Rattle.lock_model.specs.Waits.{waits_by}
use Rattle.record_locks.proofs.cycle.one_wait_more.Goals as goal

pub loop-q-preserved : goal.loop-q-preserved
loop-q-preserved c = record {
  places = length-set c.loop-q.more c.loop-q.q c.waits_on.result ∙ c.loop-q.invariant.places;
  marked =
      below_more _ _
      (λ k h. let ne : k ≢ c.loop-q.q = omega arith in get_or-set_other c.loop-q.more c.loop-q.q k c.waits_on.result false ne ∙ c.loop-q.invariant.marked k h)
      (let low : c.loop-q.q < length c.loop-q.more = omega (arith, c.loop-q-test.true, c.loop-q.invariant.places) in
      get_or-set_same c.loop-q.more c.loop-q.q c.waits_on.result false low ∙ c.waits_on.ensures);
}

pub returns : goal.returns
returns c = λ q. elim (cases_lt q 33) [
  | inl low ↦ c.loop-q.invariant.marked q (omega (arith, c.loop-q-test.false, low))
  | inr past ↦
      get_or_past c.loop-q.more q false (omega (arith, c.loop-q.invariant.places, past))
      ∙ sym (ap (waits_by (record { held = c.args.held.now; requests = c.args.requests.now })
      (λ next. (next == c.args.p.0) || get_or c.args.leading.now next false)) (get_or_past c.args.requests.now q
      None (omega (arith, c.requires, past))))
]
