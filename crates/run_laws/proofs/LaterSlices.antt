-- Slices of two states that are equal but for later keys.
use Rattle.std.proofs.Common.{◌≡◌, ℕ, ◌+◌, ◌-◌, ◌<◌, ◌≤◌, Bool, true, false, Option, Some, None, List, [], ◌∷◌, refl, sym, ap, ◌∙◌, subst}
use Rattle.std.specs.Prelude.{MatchBool, MatchOption}
use Rattle.std.specs.List.{AllZip}
use Rattle.os9_outer.specs.TerminalState.{TerminalState}
use Rattle.machine_model.specs.declared.ends.EventEnd.{EventEnd}
use Rattle.machine_model.specs.declared.ends.SliceEnd.{SliceEnd}
use Rattle.machine_model.specs.declared.ends.SliceEnd.TheVariants.{Idle, Ran}
use Rattle.machine_model.specs.Event.{Event, cost}
use Rattle.machine_model.specs.Run.{Choose, Slice, SliceEvents, Tick, is_going}
use Rattle.machine_model.specs.State.{State}
use Rattle.run_laws.specs.Later.{AreSameBut, UnsharedKeys, SameChoiceTo, SameEventTo, SameSliceTo, SameTickTo, SameTo}
use Rattle.run_laws.proofs.LaterEvents.{event-too}
use Rattle.run_laws.proofs.LaterKeys.{choice-too, on_terms, tick-too}

module _ (later : ℕ) (rests : List UnsharedKeys) where
  record StepsToo (left : ℕ) (states : List State) (t other : State) : Type 0 where
    pub through : List State
    pub last : State
    pub steps : SliceEvents left other through last
    pub all : AllZip (SameTo later rests) states through
    pub same : SameTo later rests t last

  abbrev After : ℕ → Bool → State → List State → State → Type 0
  After left going m ms t = MatchBool going (SliceEvents left m ms t) ((ms ≡ []) × (t ≡ m))

  record AfterToo (left : ℕ) (going : Bool) (states : List State) (t other : State) : Type 0 where
    pub through : List State
    pub last : State
    pub steps : After left going other through last
    pub all : AllZip (SameTo later rests) states through
    pub same : SameTo later rests t last

  after-too : (left : ℕ) (going : Bool) (m other : State) (ms : List State) (t : State)
      → ((t : State) → SliceEvents left m ms t → StepsToo left ms t other) → SameTo later rests m other → After left going m
      ms t → AfterToo left going ms t other
  after-too left true m other ms t steps-of same steps =
      let it : StepsToo left ms t other = steps-of t steps in
      record { through = it.through; last = it.last; steps = it.steps; all = it.all; same = it.same }
  after-too left false m other ms t steps-of same (over, is) = record {
    through = [];
    last = other;
    steps = (refl, refl);
    all = subst (λ (ms : List State). AllZip (SameTo later rests) ms []) (sym over) tt;
    same = subst (λ (t : State). SameTo later rests t other) (sym is) same;
  }

  same-cost : (s other : State) → SameTo later rests s other → cost other ≡ cost s
  same-cost s other same = ap cost same.rest

  steps-too : (left : ℕ) (s other : State) (states : List State) (t : State) → SameTo later rests s other → SliceEvents left s states t → StepsToo left states t other
  steps-too left s other [] t same (over, is) = record {
    through = [];
    last = other;
    steps = (over, refl);
    all = tt;
    same = subst (λ (t : State). SameTo later rests t other) (sym is) same;
  }
  steps-too left s other (m ∷ ms) t same (some, end, event, steps) =
      let one : SameEventTo later rests end m other = event-too later rests s m other end same event in
      let after : AfterToo (left - cost s) (is_going end) ms t one.last = after-too (left - cost s) (is_going end) m
      one.last ms t (λ t steps. steps-too (left - cost s) m one.last ms t one.same steps) one.same steps in
      record {
        through = one.last ∷ after.through;
        last = after.last;
        steps =
            (some, end, one.event, subst (λ (n : ℕ). After (left - n) (is_going end) one.last after.through after.last) (sym (same-cost s other same)) after.steps);
        all = (one.same, after.all);
        same = after.same;
      }

  abbrev Begun : ℕ → State → Option ℕ → List State → SliceEnd → State → Type 0
  Begun n chosen who states end t =
      MatchOption who ((end ≡ Idle) × (states ≡ []) × (t ≡ chosen)) (λ p. (end ≡ Ran) × SliceEvents n chosen states t)

  record BegunToo (n : ℕ) (who : Option ℕ) (states : List State) (end : SliceEnd) (t other : State) : Type 0 where
    pub through : List State
    pub last : State
    pub begun : Begun n other who through end last
    pub all : AllZip (SameTo later rests) states through
    pub same : SameTo later rests t last

  begun-too : (n : ℕ) (chosen other : State) (who : Option ℕ) (states : List State) (end : SliceEnd) (t : State)
      → SameTo later rests chosen other → Begun n chosen who states end t → BegunToo n who states end t other
  begun-too n chosen other None states end t same (idle, none, is) = record {
    through = [];
    last = other;
    begun = (idle, refl, refl);
    all = subst (λ (ms : List State). AllZip (SameTo later rests) ms []) (sym none) tt;
    same = subst (λ (t : State). SameTo later rests t other) (sym is) same;
  }
  begun-too n chosen other (Some p) states end t same (ran, steps) =
      let it : StepsToo n states t other = steps-too n chosen other states t same steps in
      record { through = it.through; last = it.last; begun = (ran, it.steps); all = it.all; same = it.same }

  pub slice-too : (n : ℕ) (s t other : State) (states : List State) (end : SliceEnd) → s.processes.tick + 1 ≤ later
      → SameTo later rests s other → Slice n s states end t → SameSliceTo later rests n states end t other
  slice-too n s t other states end below same (ticked, chosen, ticks, chooses, rest) =
      let tick : SameTickTo later rests ticked other = tick-too later rests s ticked other below same ticks in
      let choice : SameChoiceTo later rests chosen tick.last = choice-too later rests ticked chosen tick.last tick.same chooses in
      let it : BegunToo n chosen.chosen states end t choice.last = begun-too n chosen choice.last chosen.chosen states end t choice.same rest in
      let who : choice.last.chosen ≡ chosen.chosen = ap (λ (s : State). s.chosen) choice.same.rest in
      record {
        through = it.through;
        last = it.last;
        slice =
            (tick.last, choice.last, tick.ticks, choice.chooses, subst (λ (who : Option ℕ). Begun n choice.last who it.through end it.last) (sym who) it.begun);
        all = it.all;
        same = it.same;
      }
