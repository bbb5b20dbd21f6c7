-- What is left of a run, event by event: each tick and each event that is done is that of the run.
use Rattle.std.proofs.Common.{◌≡◌, ◌⊎◌, ℕ, ◌+◌, ◌-◌, ◌<◌, Bool, true, false, Option, Some, None, List, [], ◌∷◌, ◌++◌, refl, sym, ap, ◌∙◌, subst, inl, inr, arith}
use Rattle.std.specs.Prelude.{MatchBool, MatchOption, option_map}
use Rattle.std.proofs.lemmas.Option.{none-some}
use Rattle.os9_base.specs.declared.registers.Pid.{Pid}
use Rattle.proc_model.specs.Choice.{choice_of, after_choice}
use Rattle.file_rules.specs.Locking.{files_may_go}
use Rattle.machine_model.specs.Console.{console_bytes, terminals_emptied}
use Rattle.machine_model.specs.declared.ends.EventEnd.{EventEnd}
use Rattle.machine_model.specs.declared.ends.SliceEnd.{SliceEnd}
use Rattle.machine_model.specs.declared.ends.SliceEnd.TheVariants.{Idle, Ran}
use Rattle.machine_model.specs.Devices.{OnlyGain}
use Rattle.machine_model.specs.Event.{Event, cost}
use Rattle.machine_model.specs.Run.{Choose, Run, Slice, SliceEvents, Tick, is_going}
use Rattle.machine_model.specs.State.{State, has_living}
use Rattle.machine_model.proofs.Gains.{event-gains, tick-gains}
use Rattle.run_laws.specs.Faults.{HasNoVolumes, NoneFailed, SameButClusters, SameEvent}
use Rattle.run_laws.proofs.Events.{event-one, tick-one}
use Rattle.run_laws.proofs.Kept.{never-chooses}
use Rattle.os9_debug.specs.Position.{Continues, ContinuesIn}
use Rattle.os9_debug.proofs.Faults.{gain-none, gain-two, none-first, none-then, over-gain, steps-gain}

abbrev pub emptied : State → State
emptied m = record m { terms = terminals_emptied m.terms }

-- ---- one event

event-single : (s t u : State) (end other : EventEnd) → HasNoVolumes s → Event s end t → Event s other u → NoneFailed s t → NoneFailed s u → SameEvent end t other u
event-single s t u end other bare one two none none_too = by_one (event-one s t u end other one two none none_too)
  where
    by_one : SameButClusters s end t other u ⊎ SameEvent end t other u → SameEvent end t other u
    by_one (inl choose) = absurd (never-chooses s bare choose.choice)
    by_one (inr same) = same

-- what is left behind an event that ended so, with so many instructions left
pub record Stepped (left : ℕ) (slices : List ℕ) (m : State) (end : EventEnd) (states : List State) (last : State) : Type 0 where
  pub later : List State
  pub all : states ≡ m ∷ later
  pub faultless : NoneFailed m last
  pub going : end ≡ EventEnd.Ran → 0 < left → ContinuesIn left slices m later last
  pub over : (end ≡ EventEnd.Ran → left ≡ 0) → Continues slices (emptied m) later last

steps-over : (left : ℕ) (s : State) (states : List State) (t : State) → left ≡ 0 → SliceEvents left s states t → (states ≡ []) × (t ≡ s)
steps-over left s [] t none (over, is) = (refl, is)
steps-over left s (m ∷ ms) t none (some, end, event, steps) = absurd (omega (arith, some, none))

-- the events behind the first one
abbrev After : ℕ → Bool → State → List State → State → Type 0
After left going u us t = MatchBool going (SliceEvents left u us t) ((us ≡ []) × (t ≡ u))

after-gain : (left : ℕ) (going : Bool) (u : State) (us : List State) (t : State) → After left going u us t → OnlyGain u t
after-gain left true u us t steps = steps-gain left u us t steps
after-gain left false u us t (none, is) = subst (OnlyGain u) (sym is) (gain-none u)

module _ (slices : List ℕ) (m : State) (later : List State) (last : State) (rest : Continues slices (emptied m) later last) where
  -- nothing is left of the slice
  over-then : (u : State) (us : List State) → us ≡ [] → m ≡ u → Continues slices (emptied u) (us ++ later) last
  over-then u us none is =
      subst (λ (us : List State). Continues slices (emptied u) (us ++ later) last) (sym none) (subst (λ (m : State). Continues slices (emptied m) later last) is rest)

  stepped-as : (left : ℕ) (u : State) (us : List State) (other : EventEnd) → After left (is_going other) u us m → NoneFailed u last → Stepped left slices u other (u ∷ (us ++ later)) last
  stepped-as left u us EventEnd.Ran steps none = record {
    later = us ++ later;
    all = refl;
    faultless = none;
    going = λ ran some. record { some = some; first = us; m = m; steps = steps; later = later; rest = rest; all = refl };
    over = λ none_left. (let gone = steps-over left u us m (none_left refl) steps in over-then u us gone.0 gone.1);
  }
  stepped-as left u us EventEnd.Waits (none_left, is) none = record {
    later = us ++ later;
    all = refl;
    faultless = none;
    going = λ ran. absurd (cc);
    over = λ _. over-then u us none_left is;
  }
  stepped-as left u us EventEnd.Ended (none_left, is) none = record {
    later = us ++ later;
    all = refl;
    faultless = none;
    going = λ ran. absurd (cc);
    over = λ _. over-then u us none_left is;
  }
  stepped-as left u us EventEnd.NoMemory (none_left, is) none = record {
    later = us ++ later;
    all = refl;
    faultless = none;
    going = λ ran. absurd (cc);
    over = λ _. over-then u us none_left is;
  }

  -- the first event of a slice is the one that was done
  stepped-first : (left : ℕ) (s : State) (first : List State) → HasNoVolumes s → 0 < left → SliceEvents left s first m
      → NoneFailed s last → (t : State) (end : EventEnd) → Event s end t → NoneFailed s t
      → Stepped (left - cost s) slices t end (first ++ later) last
  stepped-first left s [] bare some (over, is) faultless t end event none = absurd (omega (arith, some, over))
  stepped-first left s (u ∷ us) bare some (some_too, other, event_too, steps) faultless t end event none =
      let gained : OnlyGain s u = event-gains s u other event_too in
      let to_last : OnlyGain u last = gain-two u m last (after-gain (left - cost s) (is_going other) u us m steps) (over-gain slices m later last rest) in
      let same : SameEvent end t other u = event-single s t u end other bare event event_too none (none-first s u last gained to_last faultless) in
      let there : Stepped (left - cost s) slices u other (u ∷ (us ++ later)) last = stepped-as (left - cost s) u us other steps (none-then s u last gained to_last faultless) in
      let at : Stepped (left - cost s) slices t other (u ∷ (us ++ later)) last = subst (λ (u' : State). Stepped (left - cost s) slices u' other (u ∷ (us ++ later)) last) (sym same.last) there in
      subst (λ (e : EventEnd). Stepped (left - cost s) slices t e (u ∷ (us ++ later)) last) (sym same.ends) at

pub stepped : (left : ℕ) (slices : List ℕ) (s : State) (states : List State) (last : State) → HasNoVolumes s
    → ContinuesIn left slices s states last → NoneFailed s last → (t : State) (end : EventEnd) → Event s end t
    → NoneFailed s t
    → Stepped (left - cost s) slices t end states last
stepped left slices s states last bare it faultless t end event none =
    subst (λ (states : List State). Stepped (left - cost s) slices t end states last) (sym it.all)
    (stepped-first slices it.m it.later last it.rest left s it.first bare it.some it.steps faultless t end event none)

-- ---- a slice is begun

-- what is left behind the choice of a slice of so many instructions
pub record Opened (n : ℕ) (slices : List ℕ) (t : State) (states : List State) (last : State) : Type 0 where
  pub faultless : NoneFailed t last
  pub idle : (t.chosen ≡ None) ⊎ (n ≡ 0) → Continues slices (emptied t) states last
  pub busy : (p : ℕ) → t.chosen ≡ Some p → 0 < n → ContinuesIn n slices t states last

abbrev begun : State → State
begun s = record s {
  processes = after_choice (files_may_go s.files s.processes.tick) s.processes;
  chosen = option_map (λ (p : Pid). p.0) (choice_of (files_may_go s.files s.processes.tick) s.processes).chosen;
}

abbrev Begun : ℕ → State → Option ℕ → List State → SliceEnd → State → Type 0
Begun n t who states end m =
    MatchOption who ((end ≡ Idle) × (states ≡ []) × (m ≡ t)) (λ p. (end ≡ Ran) × SliceEvents n t states m)

begun-gain : (n : ℕ) (t : State) (who : Option ℕ) (states : List State) (end : SliceEnd) (m : State) → Begun n t who states end m → OnlyGain t m
begun-gain n t None states end m (idle, none, is) = subst (OnlyGain t) (sym is) (gain-none t)
begun-gain n t (Some p) states end m (ran, steps) = steps-gain n t states m steps

choice-gain : (ticked t : State) → OnlyGain (begun ticked) t → OnlyGain ticked t
choice-gain ticked t gained = record { terminals = gained.terminals; drives = gained.drives }

choice-none : (ticked t : State) → NoneFailed ticked t → NoneFailed (begun ticked) t
choice-none ticked t none = record { terminals = none.terminals; drives = none.drives }

module _ (n : ℕ) (slices : List ℕ) (m : State) (later : List State) (last : State) (rest : Continues slices (emptied m) later last) where
  opened-as : (t : State) (first : List State) (end : SliceEnd) (who : Option ℕ) → t.chosen ≡ who → Begun n t who first end m → NoneFailed t last → Opened n slices t (first ++ later) last
  opened-as t first end None is (idle, none, same) faultless = record {
    faultless = faultless;
    idle = λ _. over-then slices m later last rest t first none same;
    busy = λ p chosen some. absurd (none-some p (sym is ∙ chosen));
  }
  opened-as t first end (Some p) is (ran, steps) faultless = record {
    faultless = faultless;
    idle = λ reason. by_reason reason;
    busy = λ q chosen some. record { some = some; first = first; m = m; steps = steps; later = later; rest = rest; all = refl };
  }
    where
      by_reason : (t.chosen ≡ None) ⊎ (n ≡ 0) → Continues slices (emptied t) (first ++ later) last
      by_reason (inl none) = absurd (none-some p (sym none ∙ is))
      by_reason (inr none) = let gone = steps-over n t first m none steps in over-then slices m later last rest t first gone.0 gone.1

  opened-slice : (s : State) (first : List State) (end : SliceEnd) → Slice n s first end m → NoneFailed s last
      → (ticked t : State) → Tick s ticked → Choose ticked t → NoneFailed s ticked → Opened n slices t
      (first ++ later) last
  opened-slice s first end (ticked_too, chosen, ticks_too, chooses_too, events) faultless ticked t ticks chooses none =
      let events_so : Begun n (begun ticked_too) (begun ticked_too).chosen first end m = subst (λ (chosen : State). Begun n chosen chosen.chosen first end m) chooses_too events in
      let gained : OnlyGain s ticked_too = tick-gains s ticked_too ticks_too in
      let to_last : OnlyGain ticked_too last = choice-gain ticked_too last (gain-two (begun ticked_too) m last
      (begun-gain n (begun ticked_too) (begun ticked_too).chosen first end m events_so)
      (over-gain slices m later last rest)) in
      let same : ticked ≡ ticked_too = tick-one s ticked ticked_too ticks ticks_too none (none-first s ticked_too last gained to_last faultless) in
      let there : Opened n slices (begun ticked_too) (first ++ later) last = opened-as (begun ticked_too) first end
      (begun ticked_too).chosen refl events_so (choice-none ticked_too last (none-then s ticked_too last gained
      to_last faultless)) in
      let is : t ≡ begun ticked_too = chooses ∙ ap begun same in
      subst (λ (t : State). Opened n slices t (first ++ later) last) (sym is) there

abbrev Goes : ℕ → List ℕ → State → List State → List ℕ → State → Type 0
Goes n slices s states written last =
    (end : SliceEnd) × (m : State) × (first later : List State) × (rest : List ℕ) × Slice n s first end m
    × (states ≡ first ++ later) × (written ≡ console_bytes m.terms ++ rest) × Run slices (record m { terms = terminals_emptied m.terms }) later rest last

goes-on : (n : ℕ) (slices : List ℕ) (s : State) (states : List State) (written : List ℕ) (last : State)
    → has_living s ≡ true → Run (n ∷ slices) s states written last → Goes n slices s states written last
goes-on n slices s states written last lives run = by_living (has_living s) lives run
  where
    by_living : (living : Bool) → living ≡ true → MatchBool living (Goes n slices s states written last) ((states ≡ []) × (written ≡ []) × (last ≡ s)) → Goes n slices s states written last
    by_living true is goes = goes
    by_living false is over = absurd (cc)

pub opened : (n : ℕ) (slices : List ℕ) (s : State) (states : List State) (last : State) → has_living s ≡ true
    → Continues (n ∷ slices) s states last → NoneFailed s last → (ticked t : State) → Tick s ticked → Choose ticked t
    → NoneFailed s ticked
    → Opened n slices t states last
opened n slices s states last lives (written, run) faultless ticked t ticks chooses none =
    let (end, m, first, later, rest, slice, all, put, after) = goes-on n slices s states written last lives run in
    subst (λ (states : List State). Opened n slices t states last) (sym all)
    (opened-slice n slices m later last (rest, after) s first end slice faultless ticked t ticks chooses none)

-- ---- the end

-- nothing is left of a run without slices, and of one without a process that lives
pub ends-without : (s : State) (states : List State) (last : State) → Continues [] s states last → states ≡ []
ends-without s states last (written, run) = run.0

pub ends-idle : (slices : List ℕ) (s : State) (states : List State) (last : State) → has_living s ≡ false → Continues slices s states last → states ≡ []
ends-idle [] s states last idle (written, run) = run.0
ends-idle (n ∷ slices) s states last idle (written, run) = by_living (has_living s) idle run
  where
    by_living : (living : Bool) → living ≡ false → MatchBool living (Goes n slices s states written last) ((states ≡ []) × (written ≡ []) × (last ≡ s)) → states ≡ []
    by_living true is goes = absurd (cc)
    by_living false is over = over.0
