use Rattle.std.proofs.Common.{◌∙◌, sym, ap}
use Rattle.std.proofs.lemmas.Bool.{false≢true}
use Rattle.machine_model.specs.State.{State}
use Rattle.console_run.specs.Waiting.{term_keys}
use Rattle.console_run.proofs.waiting.waits_for_line.Goals as goal

pub returns-then-wakes_by_clock-clause-other : goal.returns-then-wakes_by_clock-clause-other
returns-then-wakes_by_clock-clause-other g c = λ _ s tied waits.
    let (p, below, is) = c.wakes_by_clock.ensures.one c.if-wakes_by_clock.true _ s tied in
    false≢true (sym (waits.asleep p below) ∙ is)

pub returns-clause-all : goal.returns-clause-all
returns-clause-all g c = λ none s tied. record {
  idle = c.in-Idle.is;
  asleep = c.wakes_by_clock.ensures.none c.if-wakes_by_clock.false _ s tied;
  none_left = ap (λ (s : State). term_keys s.terms) tied.is ∙ c.has_no_keys.ensures.none none;
}
