-- One induction over the events of a slice, and one over the slices of a run.
use Rattle.std.proofs.Common.{◌≡◌, ℕ, ◌-◌, Bool, true, false, Option, Some, None, List, [], ◌∷◌, ◌++◌, sym, subst, append-nil}
use Rattle.std.specs.Prelude.{MatchBool, MatchOption}
use Rattle.machine_model.specs.Console.{console_bytes, terminals_emptied}
use Rattle.machine_model.specs.declared.ends.EventEnd.TheVariants as End
use Rattle.machine_model.specs.declared.ends.SliceEnd.{SliceEnd}
use Rattle.machine_model.specs.declared.ends.SliceEnd.TheVariants.{Idle, Ran}
use Rattle.machine_model.specs.Event.{cost, Event}
use Rattle.machine_model.specs.Run.{BeginsSlice, Choose, FirstSteps, Run, Slice, SliceEvents, Tick, is_going}
use Rattle.machine_model.specs.State.{State, has_living}
use Rattle.machine_model.specs.declared.ends.EventEnd.{EventEnd}

-- what holds between two states, through the states after the events between them, holds between each state and itself,
-- and with one more event in front
pub record IsCarriedByEvents (P : State → List State → State → Type 0) : Type 0 where
  pub none : (s : State) → P s [] s
  pub event : (s m t : State) (end : EventEnd) (states : List State) → Event s end m → P m states t
      → P s (m ∷ states) t

-- and with a tick, a choice, or the host in front, who takes the bytes that terminals were given
pub record IsCarriedByMoves (P : State → List State → State → Type 0) : Type 0 where
  pub events : IsCarriedByEvents P
  pub tick : (s m t : State) (states : List State) → Tick s m → P m states t → P s states t
  pub choice : (s m t : State) (states : List State) → Choose s m → P m states t → P s states t
  pub emptied : (m t : State) (states : List State) → P (record m { terms = terminals_emptied m.terms }) states t
      → P m states t

-- ---- events

module _ (P : State → List State → State → Type 0) (it : IsCarriedByEvents P) where
  pub before-steps : (left : ℕ) (s : State) (states : List State) (m : State) (later : List State) (t : State) → SliceEvents left s states m → P m later t → P s (states ++ later) t
  before-steps left s [] m later t (over, is) rest = subst (λ (m : State). P m later t) is rest
  before-steps left s (u ∷ us) m later t (some, end, event, steps) rest =
      it.event s u t end (us ++ later) event (by_going (is_going end) (λ steps. before-steps (left - cost s) u us m later t steps rest) steps)
    where
      by_going : (going : Bool) → (SliceEvents (left - cost s) u us m → P u (us ++ later) t) → MatchBool going (SliceEvents (left - cost s) u us m) ((us ≡ []) × (m ≡ u)) → P u (us ++ later) t
      by_going true others steps = others steps
      by_going false others (none, is) =
          subst (λ (us : List State). P u (us ++ later) t) (sym none) (subst (λ (m : State). P m later t) is rest)

  pub along-steps : (left : ℕ) (s t : State) (states : List State) → SliceEvents left s states t → P s states t
  along-steps left s t states steps =
      subst (λ (states : List State). P s states t) (append-nil states) (before-steps left s states t [] t steps (it.none t))

  pub along-first : (left : ℕ) (s t : State) (states : List State) → FirstSteps left s states t → P s states t
  along-first left s t [] (some, is) = subst (P s []) (sym is) (it.none s)
  along-first left s t (m ∷ ms) (some, event, rest) =
      it.event s m t End.Ran ms event (along-first (left - cost s) m t ms rest)

-- ---- slices and runs

module _ (P : State → List State → State → Type 0) (it : IsCarriedByMoves P) where
  -- a tick and a choice begin a slice
  begins : (s ticked chosen t : State) (states : List State) → Tick s ticked → Choose ticked chosen → P chosen states t → P s states t
  begins s ticked chosen t states ticks chooses rest =
      it.tick s ticked t states ticks (it.choice ticked chosen t states chooses rest)

  before-chosen : (n : ℕ) (s : State) (states : List State) (end : SliceEnd) (m : State) (later : List State)
      (t : State) (who : Option ℕ) → MatchOption who ((end ≡ Idle) × (states ≡ []) × (m ≡ s))
      (λ p. (end ≡ Ran) × SliceEvents n s states m) → P m later t → P s (states ++ later) t
  before-chosen n s states end m later t None (idle, none, is) rest =
      subst (λ (states : List State). P s (states ++ later) t) (sym none) (subst (λ (m : State). P m later t) is rest)
  before-chosen n s states end m later t (Some p) (ran, steps) rest = before-steps P it.events n s states m later t steps rest

  before-slice : (n : ℕ) (s : State) (states : List State) (end : SliceEnd) (m : State) (later : List State) (t : State) → Slice n s states end m → P m later t → P s (states ++ later) t
  before-slice n s states end m later t (ticked, chosen, ticks, chooses, events) rest =
      begins s ticked chosen t (states ++ later) ticks chooses (before-chosen n chosen states end m later t chosen.chosen events rest)

  pub along-slice : (n : ℕ) (s t : State) (states : List State) (end : SliceEnd) → Slice n s states end t → P s states t
  along-slice n s t states end slice =
      subst (λ (states : List State). P s states t) (append-nil states) (before-slice n s states end t [] t slice (it.events.none t))

  pub along-part : (n : ℕ) (s t : State) (states : List State) → BeginsSlice n s states t → P s states t
  along-part n s t states (ticked, chosen, ticks, chooses, first) =
      begins s ticked chosen t states ticks chooses (along-first P it.events n chosen t states first)

  -- a run that is over
  over : (s t : State) (states : List State) → states ≡ [] → t ≡ s → P s states t
  over s t states none is =
      subst (λ (states : List State). P s states t) (sym none) (subst (P s []) (sym is) (it.events.none s))

  pub along-run : (slices written : List ℕ) (s t : State) (states : List State) → Run slices s states written t → P s states t
  along-run [] written s t states (none, nothing, is) = over s t states none is
  along-run (n ∷ ns) written s t states run =
      by_living (has_living s) (λ rest m later after. along-run ns rest m t later after) run
    where
      by_living : (living : Bool) → ((rest : List ℕ) (m : State) (later : List State) → Run ns m later rest t
          → P m later t) → MatchBool living ((end : SliceEnd) × (m : State) × (first later : List State) ×
          (rest : List ℕ) × Slice n s first end m × (states ≡ first ++ later) × (written ≡ console_bytes m.terms ++
          rest) × Run ns (record m { terms = terminals_emptied m.terms }) later rest t)
          ((states ≡ []) × (written ≡ []) × (t ≡ s)) → P s states t
      by_living false others (none, nothing, is) = over s t states none is
      by_living true others (end, m, first, later, rest, slice, whole, bytes, after) =
          subst (λ (states : List State). P s states t) (sym whole)
          (before-slice n s first end m later t slice (it.emptied m t later (others rest (record m { terms = terminals_emptied m.terms }) later after)))
