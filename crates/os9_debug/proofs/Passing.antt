-- Turns of the chosen process are events of the course.
use Rattle.std.proofs.Common.{◌≡◌, ◌⊎◌, ℕ, zero, suc, ◌+◌, ◌-◌, ◌<◌, ◌≤◌, List, [], ◌∷◌, ◌++◌, length, refl, sym, ap, ◌∙◌, subst, inl, inr, arith}
use Rattle.machine_model.specs.declared.ends.EventEnd.{EventEnd}
use Rattle.proc_model.specs.Ready.{Act, attempts, delivers, executes, act_of}
use Rattle.machine_model.specs.Devices.{OnlyGain}
use Rattle.machine_model.specs.Event.{Acts, Event, cost}
use Rattle.machine_model.specs.State.{State}
use Rattle.machine_model.proofs.Gains.{event-gains}
use Rattle.os9_kernel.specs.Slice.{Instructions, IsTurn, last, more}
use Rattle.isolation_laws.specs.Volumes.{FailsOneDrive}
use Rattle.isolation_laws.proofs.VolumeEvents.{event-leaves-volumes}
use Rattle.run_laws.specs.Faults.{HasNoVolumes, NoneFailed}
use Rattle.run_laws.proofs.Kept.{event-bare}
use Rattle.os9_debug.specs.Position.{Continues, ContinuesIn}
use Rattle.os9_debug.proofs.Faults.{gain-two, none-first, none-then}
use Rattle.os9_debug.proofs.Remaining.{Stepped, emptied, stepped}

-- ---- one event

event-chosen : (s t : State) (end : EventEnd) → Event s end t → t.chosen ≡ s.chosen
event-chosen s t end (p, chosen, lives, acts) = by_act (act_of s.processes p) acts
  where
    by_act : (act : Act) → Acts act s p end t → t.chosen ≡ s.chosen
    by_act executes (ends, is) = ap (λ (t : State). t.chosen) is
    by_act (attempts code) (result, rest, attempt, ends, is) = ap (λ (t : State). t.chosen) is
    by_act (delivers signal) (ends, is) = ap (λ (t : State). t.chosen) is

-- without a fault drives are as they were
event-drives : (s t : State) (end : EventEnd) → Event s end t → NoneFailed s t → t.files.drives ≡ s.files.drives
event-drives s t end event none = by_drives (event-leaves-volumes s t end event.0 event.1 event).drives
  where
    by_drives : (t.files.drives ≡ s.files.drives) ⊎ FailsOneDrive s event.0 t.files.drives → t.files.drives ≡ s.files.drives
    by_drives (inl same) = same
    by_drives (inr failed) = absurd (none.drives failed.drive failed.failed.rose)

-- ---- what is not counted by instructions

instructions-some : {s t : State} {end : EventEnd} {count : ℕ} → Instructions s count end t → 0 < count
instructions-some (last one event) = omega arith
instructions-some (more one event rest) = omega arith

instructions-gain : {s t : State} {end : EventEnd} {count : ℕ} → Instructions s count end t → OnlyGain s t
instructions-gain (last {s = s} {t = t} {end = end} one event) = event-gains s t end event
instructions-gain (more {s = s} {m = m} {t = t} one event rest) =
    gain-two s m t (event-gains s m EventEnd.Ran event) (instructions-gain rest)

pub turn-gains : (s t : State) (end : EventEnd) (count : ℕ) → IsTurn s count end t → OnlyGain s t
turn-gains s t end count (inl (none, free, event)) = event-gains s t end event
turn-gains s t end count (inr done) = instructions-gain done

-- the first event of a turn
pub record FirstEvent (s : State) : Type 0 where
  pub m : State
  pub end : EventEnd
  pub event : Event s end m

instructions-first : {s t : State} {end : EventEnd} {count : ℕ} → Instructions s count end t → FirstEvent s
instructions-first (last {t = t} {end = end} one event) = record { m = t; end = end; event = event }
instructions-first (more {m = m} one event rest) = record { m = m; end = EventEnd.Ran; event = event }

pub turn-first : (s t : State) (end : EventEnd) (count : ℕ) → IsTurn s count end t → FirstEvent s
turn-first s t end count (inl (none, free, event)) = record { m = t; end = end; event = event }
turn-first s t end count (inr done) = instructions-first done

-- ---- the events of a turn

-- a turn has one event at least, and at most as many as there is room for
pub events-some : (count events : ℕ) → (0 < count → events ≡ count) → (count ≡ 0 → events ≡ 1) → 0 < events
events-some zero events many one = omega (arith, one refl)
events-some (suc n) events many one = omega (arith, many (omega arith))

pub events-few : (count events room : ℕ) → (0 < count → events ≡ count) → (count ≡ 0 → events ≡ 1) → 0 < room → count ≤ room → events ≤ room
events-few zero events room many one some few = omega (arith, one refl, some)
events-few (suc n) events room many one some few = omega (arith, many (omega arith), few)

-- Behind so many events, in which so many instructions were executed, the state is t: those are the next states of the
-- course, and the others are what is left of it.
pub record Passed (left : ℕ) (slices : List ℕ) (s : State) (states : List State) (last : State) (count events : ℕ) (end : EventEnd) (t : State) : Type 0 where
  pub before : List State
  pub many : length before + 1 ≡ events
  pub later : List State
  pub all : states ≡ before ++ (t ∷ later)
  pub faultless : NoneFailed t last
  pub going : end ≡ EventEnd.Ran → 0 < left - count → ContinuesIn (left - count) slices t later last
  pub over : (end ≡ EventEnd.Ran → left - count ≡ 0) → Continues slices (emptied t) later last
  pub bare : HasNoVolumes t
  pub chosen : t.chosen ≡ s.chosen
  pub drives : t.files.drives ≡ s.files.drives

module _ (slices : List ℕ) (final : State) where
  event-passed : (left : ℕ) (s t : State) (states : List State) (count : ℕ) (end : EventEnd) → cost s ≡ count
      → HasNoVolumes s → ContinuesIn left slices s states final → NoneFailed s final → Event s end t → NoneFailed s t
      → Passed left slices s states final count 1 end t
  event-passed left s t states count end costs bare it faultless event none =
      let step : Stepped (left - cost s) slices t end states final = stepped left slices s states final bare it faultless t end event none in
      let so : Stepped (left - count) slices t end states final = subst (λ n. Stepped (left - n) slices t end states final) costs step in
      record {
        before = [];
        many = refl;
        later = so.later;
        all = so.all;
        faultless = so.faultless;
        going = so.going;
        over = so.over;
        bare = event-bare s t end event bare;
        chosen = event-chosen s t end event;
        drives = event-drives s t end event none;
      }

  -- one instruction before others
  more-passed : (left : ℕ) (s m t : State) (states : List State) (count : ℕ) (end : EventEnd) → cost s ≡ 1
      → (event : Event s EventEnd.Ran m) → NoneFailed s m → (step : Stepped (left - cost s) slices m EventEnd.Ran
      states final) → Passed (left - cost s) slices m step.later final count count end t → Passed left slices s states
      final (count + 1) (count + 1) end t
  more-passed left s m t states count end one event none step rest =
      let left_is : left - cost s - count ≡ left - (count + 1) = omega (arith, one) in
      record {
        before = m ∷ rest.before;
        many = omega (arith, rest.many);
        later = rest.later;
        all = step.all ∙ ap (λ states. m ∷ states) rest.all;
        faultless = rest.faultless;
        going = λ ran some. subst (λ n. ContinuesIn n slices t rest.later final) left_is (rest.going ran (omega (arith, some, left_is)));
        over = λ used. rest.over (λ ran. omega (arith, used ran, left_is));
        bare = rest.bare;
        chosen = rest.chosen ∙ event-chosen s m EventEnd.Ran event;
        drives = rest.drives ∙ event-drives s m EventEnd.Ran event none;
      }

  instructions-passed : {s t : State} {end : EventEnd} {count : ℕ} → Instructions s count end t
      → (left : ℕ) (states : List State) → count ≤ left → HasNoVolumes s → ContinuesIn left slices s states final
      → NoneFailed s final → NoneFailed s t → Passed left slices s states final count count end t
  instructions-passed (last {s = s} {t = t} {end = end} one event) left states few bare it faultless none =
      event-passed left s t states 1 end one bare it faultless event none
  instructions-passed (more {count = count} {s = s} {m = m} {t = t} {end = end} one event rest) left states few bare it faultless none =
      let gained : OnlyGain s m = event-gains s m EventEnd.Ran event in
      let onward : OnlyGain m t = instructions-gain rest in
      let none_here : NoneFailed s m = none-first s m t gained onward none in
      let step : Stepped (left - cost s) slices m EventEnd.Ran states final = stepped left slices s states final bare it faultless m EventEnd.Ran event none_here in
      let goes : ContinuesIn (left - cost s) slices m step.later final = step.going refl (omega (arith, one, few, instructions-some rest)) in
      more-passed left s m t states count end one event none_here step
      (instructions-passed rest (left - cost s) step.later (omega (arith, one, few)) (event-bare s m EventEnd.Ran event bare) goes step.faultless (none-then s m t gained onward none))

  pub turn-passed : (left : ℕ) (s t : State) (states : List State) (count events : ℕ) (end : EventEnd)
      → IsTurn s count end t → (0 < count → events ≡ count) → (count ≡ 0 → events ≡ 1) → count ≤ left → HasNoVolumes s
      → ContinuesIn left slices s states final → NoneFailed s final → NoneFailed s t → Passed left slices s states
      final count events end t
  turn-passed left s t states count events end (inl (no_count, free, event)) many one few bare it faultless none =
      subst (λ n. Passed left slices s states final count n end t) (sym (one no_count)) (event-passed left s t states count end (free ∙ sym no_count) bare it faultless event none)
  turn-passed left s t states count events end (inr done) many one few bare it faultless none =
      subst (λ n. Passed left slices s states final count n end t) (sym (many (instructions-some done))) (instructions-passed done left states few bare it faultless none)
