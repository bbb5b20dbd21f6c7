-- Positions, from one event to the next.
use Rattle.std.proofs.Common.{◌≡◌, ◌≢◌, ◌⊎◌, ℕ, zero, suc, ◌+◌, ◌-◌, ◌<◌, ◌≤◌, ◌^◌, not, Bool, true, false, Option, Some, None, List, [], ◌∷◌, ◌++◌, length, drop, get_or, slice_get, refl, sym, ap, ◌∙◌, subst, inl, inr, arith, append_assoc, append-nil, length-append}
use Rattle.std.specs.Prelude.{Err, IsSome, Ok, option_map, slice_index_or, unwrap_or}
use Rattle.std.proofs.lemmas.Bool.{false≢true, lt-ltb, ne_eqb}
use Rattle.std.proofs.lemmas.List.{drop_all}
use Rattle.std.proofs.lemmas.Option.{none-some, same_Some}
use Rattle.os9_base.specs.declared.call.OutOfMemory.{OutOfMemory}
use Rattle.os9_base.specs.declared.limits.TheConstants.{LAST_TICK, PROCESS_PLACES}
use Rattle.proc_model.specs.Records.{IsLiving}
use Rattle.os9_base.specs.declared.registers.Pid.{Pid}
use Rattle.machine_model.specs.Console.{terminals_emptied}
use Rattle.machine_model.specs.Living.{living_count}
use Rattle.machine_model.specs.declared.ends.EventEnd.{EventEnd}
use Rattle.machine_model.specs.Devices.{OnlyGain}
use Rattle.machine_model.specs.Run.{Choose, Tick}
use Rattle.machine_model.specs.Start.{Boot}
use Rattle.machine_model.specs.State.{State, has_living}
use Rattle.run_laws.proofs.Starting.{start-bare}
use Rattle.os9_debug.specs.Prints.{IsCourse}
use Rattle.machine_model.proofs.TerminalLaws.{gain-same}
use Rattle.machine_model.specs.ProcessStart.{first_process}
use Rattle.machine_model.proofs.Drives.{drives-same}
use Rattle.machine_model.proofs.Gains.{tick-gains}
use Rattle.os9_kernel.specs.Outside.{Outside}
use Rattle.os9_kernel.specs.Slice.{IsTurn}
use Rattle.os9_kernel.specs.Tie.{IsGoing, Represents, RepresentsSomeState, executed, ticks}
use Rattle.os9_kernel.specs.declared.kernel.Kernel.{Kernel}
use Rattle.os9_kernel.proofs.Represented.{living-few, represents-emptied}
use Rattle.run_laws.specs.Faults.{HasNoVolumes, NoneFailed}
use Rattle.run_laws.proofs.Kept.{choice-bare, tick-bare}
use Rattle.os9_debug.specs.Course.{Course, last_of, state_at}
use Rattle.os9_debug.specs.Show.{shown, shown_cells, shown_regs}
use Rattle.os9_base.specs.declared.registers.Regs.{Regs}
use Rattle.proc_model.specs.Memory.{MemoryState, map_at}
use Rattle.proc_model.specs.Objects.{object_cells}
use Rattle.proc_model.specs.Processes.{cells_at}
use Rattle.os9_base.specs.UserNames.{user_cell}
use Rattle.os9_kernel.specs.View.{living_regs}
use Rattle.os9_debug.specs.Devices.{DevicesGain, Unfailed}
use Rattle.os9_debug.specs.PositionMoves.{HasNextSlice, HasBegun, HasEventsUpTo, BeginsNextSlices, HasReachedEvent, IsLastPosition, StaysIn}
use Rattle.os9_debug.specs.declared.position.Step.TheVariants.{Event as AnEvent, End}
use Rattle.os9_debug.specs.Position.{CanGoOn, Continues, ContinuesIn, IsAt, LooksAlike, Remains, slices_left}
use Rattle.os9_debug.specs.declared.position.Position.{Position}
use Rattle.os9_debug.proofs.Faults.{continues-gain, devices-gain, emptied-gains, gain-nothing, gain-two, gains-outside, none-then, unfailed-first, unfailed-inside, unfailed-then}
use Rattle.os9_debug.proofs.Looks.{choice-looks, emptied-looks, looks-same, looks-then, tick-looks}
use Rattle.os9_debug.proofs.Passing.{Passed, events-few, events-some, turn-first, turn-gains, turn-passed}
use Rattle.os9_debug.proofs.Remaining.{Opened, emptied, ends-idle, ends-without, opened}

-- ---- places in a course

at-end : (past : List State) (m : State) (later : List State) (other : State) → slice_index_or (past ++ (m ∷ later)) (length past) other ≡ m
at-end [] m later other = refl
at-end (s ∷ past) m later other = at-end past m later other

-- the state behind one event more
pub state-next : (course : Course) (past : List State) (m : State) (later : List State) (k : ℕ) → length past ≡ k → course.states ≡ past ++ (m ∷ later) → state_at course (k + 1) ≡ m
state-next course past m later k count all =
    let place : k + 1 ≡ suc (length past) = omega (arith, count) in
    ap (λ k. slice_index_or (course.start ∷ course.states) k course.start) place
    ∙ ap (λ states. slice_index_or states (length past) course.start) all
    ∙ at-end past m later course.start

past-more : (past : List State) (m : State) → length (past ++ (m ∷ [])) ≡ length past + 1
past-more [] m = refl
past-more (s ∷ past) m = omega (arith, past-more past m)

-- nothing is left: the position is the last one
pub last-here : (course : Course) (past later : List State) (k : ℕ) → length past ≡ k → course.states ≡ past ++ later → later ≡ [] → last_of course ≡ k
last-here course past later k count all none =
    ap length (all ∙ ap (λ later. past ++ later) none ∙ append-nil past) ∙ count

drop-next : (slices : List ℕ) (k n : ℕ) → slice_get slices k ≡ Some n → drop k slices ≡ n ∷ drop (k + 1) slices
drop-next [] k n is = absurd (cc)
drop-next (m ∷ slices) zero n is = ap (λ n. n ∷ slices) (same is)
  where
    same : Some m ≡ Some n → m ≡ n
    same is = cc
drop-next (m ∷ slices) (suc k) n is =
    let place : suc k + 1 ≡ suc (k + 1) = omega arith in
    rw place (drop-next slices k n is)

next-below : (slices : List ℕ) (k n : ℕ) → slice_get slices k ≡ Some n → k + 1 ≤ length slices
next-below [] k n is = absurd (cc)
next-below (m ∷ slices) zero n is = omega arith
next-below (m ∷ slices) (suc k) n is = omega (arith, next-below slices k n is)

-- ---- devices

-- the kernel represents the state with terminals without bytes, where these were taken
pub represents-taken : (kernel : Kernel) (mid now : Outside) (t : State) → now.drives ≡ mid.drives
    → now.terms ≡ terminals_emptied mid.terms → Represents kernel mid t → Represents kernel now (emptied t)
represents-taken kernel mid now t drives terms tied =
    let taken : Outside = record mid { terms = terminals_emptied mid.terms } in
    let is : taken ≡ now = λ i. record { drives = sym drives i; terms = sym terms i } in
    subst (λ (devices : Outside). Represents kernel devices (emptied t)) is (represents-emptied kernel mid t tied)

-- nothing fails where bytes are taken
pub gains-taken : (kernel : Kernel) (mid now : Outside) (t : State) → now.drives ≡ mid.drives → now.terms ≡ terminals_emptied mid.terms → Represents kernel mid t → DevicesGain mid now
gains-taken kernel mid now t drives terms tied =
    gains-outside kernel kernel mid now t (emptied t) tied (represents-taken kernel mid now t drives terms tied) (emptied-gains t)

pub some-living : (s : State) → living_count s.processes ≢ 0 → has_living s ≡ true
some-living s some = ap not (ne_eqb (living_count s.processes) 0 some)

pub none-living : (s : State) → living_count s.processes ≡ 0 → has_living s ≡ false
none-living s none = rw none refl

-- the kernel stands where bytes were taken, and no count fell
pub taken-stands : (kernel : Kernel) (mid now : Outside) → now.drives ≡ mid.drives → now.terms ≡ terminals_emptied mid.terms → RepresentsSomeState kernel mid → RepresentsSomeState kernel now
taken-stands kernel mid now drives terms (t, tied) = (emptied t, represents-taken kernel mid now t drives terms tied)

pub taken-gained : (kernel : Kernel) (mid now : Outside) → now.drives ≡ mid.drives → now.terms ≡ terminals_emptied mid.terms → RepresentsSomeState kernel mid → DevicesGain mid now
taken-gained kernel mid now drives terms (t, tied) = gains-taken kernel mid now t drives terms tied

-- ---- the drives in a tick and in a choice

tick-drives : (s t : State) → Tick s t → t.files.drives ≡ s.files.drives
tick-drives s t (desk, arrives, is) = ap (λ (t : State). t.files.drives) is

choice-drives : (s t : State) → Choose s t → t.files.drives ≡ s.files.drives
choice-drives s t is = ap (λ (t : State). t.files.drives) is

-- ---- a turn in the slice that is under way

module _ (old : Position) (kernel : Kernel) (before mid : Outside) (count events : ℕ) (end : EventEnd) (p : Pid) (chosen-is : (s : State) → Represents old.kernel before s → s.chosen ≡ Some p.0)
    (steps : (s : State) → Represents old.kernel before s → (t : State) × IsTurn s count end t × Represents kernel mid t)
    (counted : executed kernel ≡ executed old.kernel + count) (many : 0 < count → events ≡ count) (one : count ≡ 0 → events ≡ 1)
    (same : ticks kernel ≡ ticks old.kernel) (left : executed old.kernel < old.slice) (few : count ≤ old.slice - executed old.kernel) where
  -- the position behind it, in a slice or between two
  abbrev pub behind : ℕ → Position
  behind slice = record { kernel = kernel; slice = slice; events = old.events + events; process = p }

  left-is : old.slice - executed old.kernel - count ≡ old.slice - executed kernel
  left-is = omega (arith, counted)

  -- what was left is passed
  module _ (slices : List ℕ) (course : Course) (last : State) (at : IsAt course last slices old before) (t : State) (turn : IsTurn at.s count end t) (none : NoneFailed at.s t) where
    behind-it : Passed (old.slice - executed old.kernel) (slices_left slices old) at.s at.later last count events end t
    behind-it = by_rest at.rest
      where
        by_rest : Remains slices old at.s at.later last → Passed (old.slice - executed old.kernel) (slices_left slices old) at.s at.later last count events end t
        by_rest (inl (between, rest)) = absurd (omega (arith, left, between))
        by_rest (inr it) =
            turn-passed (slices_left slices old) last (old.slice - executed old.kernel) at.s t at.later count events end turn many one few at.bare it at.faultless none

    slices-are : slices_left slices old ≡ drop (ticks kernel) slices
    slices-are = ap (λ k. drop k slices) (sym same)

    -- the states before the last event are those in the past and those of the turn's other events
    all-behind : course.states ≡ (at.past ++ behind-it.before) ++ (t ∷ behind-it.later)
    all-behind = at.all ∙ ap (λ later. at.past ++ later) behind-it.all ∙ sym (append_assoc at.past behind-it.before (t ∷ behind-it.later))

    past-many : length (at.past ++ behind-it.before) + 1 ≡ old.events + events
    past-many = omega (arith, length-append at.past behind-it.before, at.count, behind-it.many)

    there : state_at course (old.events + events) ≡ t
    there = ap (λ k. state_at course k) (sym past-many) ∙ state-next course (at.past ++ behind-it.before) t behind-it.later (length (at.past ++ behind-it.before)) refl all-behind

    shown-is : p.0 ≡ shown (state_at course (old.events + events))
    shown-is = sym (ap shown there ∙ ap (λ who. unwrap_or who first_process.0) (behind-it.chosen ∙ chosen-is at.s at.represents))

    -- the position behind it, where the kernel represents what looks like its state
    behind-at : (slice : ℕ) (after : Outside) (u : State) → Represents kernel after u → HasNoVolumes u
        → NoneFailed u last → LooksAlike t u → u.files.drives ≡ t.files.drives → Remains slices (behind slice) u
        behind-it.later last → IsAt course last slices (behind slice) after
    behind-at slice after u tied bare faultless looks drives rest = record {
      s = u;
      represents = tied;
      bare = bare;
      past = (at.past ++ behind-it.before) ++ (t ∷ []);
      count = past-more (at.past ++ behind-it.before) t ∙ past-many;
      later = behind-it.later;
      all = all-behind ∙ sym (append_assoc (at.past ++ behind-it.before) (t ∷ []) behind-it.later);
      rest = rest;
      faultless = faultless;
      looks = subst (λ (s : State). LooksAlike s u) (sym there) looks;
      drives = drives ∙ behind-it.drives ∙ at.drives;
      process = shown-is;
    }

  pub stays-in : (slices : List ℕ) → end ≡ EventEnd.Ran → executed kernel < old.slice → StaysIn slices old (behind old.slice) before mid
  stays-in slices ran more course last at unfailed =
      let (t, turn, tied) = steps at.s at.represents in
      let none : NoneFailed at.s t = unfailed-inside old.kernel kernel before mid at.s t at.represents tied unfailed in
      let it = behind-it slices course last at t turn none in
      let goes : ContinuesIn (old.slice - executed old.kernel - count) (slices_left slices old) t it.later last = it.going ran (omega (arith, more, left-is)) in
      let goes_so : ContinuesIn (old.slice - executed kernel) (drop (ticks kernel) slices) t it.later last =
      subst (λ k. ContinuesIn k (drop (ticks kernel) slices) t it.later last) left-is
      (subst (λ rest. ContinuesIn (old.slice - executed old.kernel - count) rest t it.later last) (slices-are slices course last at t turn none) goes) in
      behind-at slices course last at t turn none old.slice mid t tied it.bare it.faultless (looks-same t) refl (inr goes_so)

  pub stays-over : (slices : List ℕ) → (end ≡ EventEnd.Ran → old.slice ≤ executed kernel) → (after : Outside)
      → after.drives ≡ mid.drives → after.terms ≡ terminals_emptied mid.terms → StaysIn slices old (behind 0) before
      after
  stays-over slices no_more after drives terms course last at unfailed =
      let (t, turn, tied) = steps at.s at.represents in
      let taken = represents-taken kernel mid after t drives terms tied in
      let gained : DevicesGain before mid = gains-outside old.kernel kernel before mid at.s t at.represents tied (turn-gains at.s t end count turn) in
      let unfailed_first : Unfailed before mid = unfailed-first before mid after gained (gains-taken kernel mid after t drives terms tied) unfailed in
      let none : NoneFailed at.s t = unfailed-inside old.kernel kernel before mid at.s t at.represents tied unfailed_first in
      let it = behind-it slices course last at t turn none in
      let rest : Continues (slices_left slices old) (emptied t) it.later last = it.over (λ ran. omega (arith, no_more ran, left-is)) in
      let rest_so : Continues (drop (ticks kernel) slices) (emptied t) it.later last = subst (λ rest. Continues rest (emptied t) it.later last) (slices-are slices course last at t turn none) rest in
      let faultless : NoneFailed (emptied t) last = none-then t (emptied t) last (emptied-gains t) (continues-gain (slices_left slices old) (emptied t) it.later last rest) it.faultless in
      behind-at slices course last at t turn none 0 after (emptied t) taken it.bare faultless (emptied-looks t) refl (inl (refl, rest_so))

  -- ---- what it leaves

  pub turn-gained : RepresentsSomeState old.kernel before → DevicesGain before mid
  turn-gained (s, tied) =
      let (t, turn, there) = steps s tied in gains-outside old.kernel kernel before mid s t tied there (turn-gains s t end count turn)

  pub numbered : RepresentsSomeState old.kernel before → p.0 < PROCESS_PLACES
  numbered (s, tied) =
      let (t, turn, there) = steps s tied in
      let event = (turn-first s t end count turn).event in
      let who : event.0 ≡ p.0 = same_Some event.0 p.0 (sym event.1 ∙ chosen-is s tied) in
      living-few old.kernel.machine.processes s.processes tied.processes p.0 (subst (IsLiving s.processes.records) who event.2)

  pub turn-stands : RepresentsSomeState old.kernel before → RepresentsSomeState kernel mid
  turn-stands (s, tied) = let (t, turn, there) = steps s tied in (t, there)

  -- the turn, in a slice that goes on, and in one that is over, where there is room for so many events
  module _ (k : ℕ) (room : old.events < k) (fits : count ≤ k - old.events) where
    events-more : old.events < old.events + events
    events-more = omega (arith, events-some count events many one)

    events-within : old.events + events ≤ k
    events-within = omega (arith, room, events-few count events (k - old.events) many one (omega (arith, room)) fits)

    pub had-in : end ≡ EventEnd.Ran → executed kernel < old.slice → IsGoing kernel → RepresentsSomeState old.kernel before → HasEventsUpTo k old (behind old.slice) (Ok tt) before mid
    had-in ran more going stands = record {
      goes_on = λ slices can. record {
        stands = turn-stands stands;
        begun = omega (arith, can.begun, same);
        few = can.few;
        going = λ some. going;
        left = λ some. more;
        numbered = numbered stands;
      };
      gains = turn-gained stands;
      stays = λ slices. stays-in slices ran more;
      more = events-more;
      few = events-within;
    }

    pub had-over : (end ≡ EventEnd.Ran → old.slice ≤ executed kernel) → RepresentsSomeState old.kernel before → (after : Outside)
        → after.drives ≡ mid.drives → after.terms ≡ terminals_emptied mid.terms → HasEventsUpTo k old (behind 0) (Ok tt)
        before after
    had-over no_more stands after drives terms = record {
      goes_on = λ slices can. record {
        stands = taken-stands kernel mid after drives terms (turn-stands stands);
        begun = omega (arith, can.begun, same);
        few = can.few;
        going = λ some. absurd (omega (arith, some));
        left = λ some. absurd (omega (arith, some));
        numbered = numbered stands;
      };
      gains = devices-gain before mid after (turn-gained stands) (taken-gained kernel mid after drives terms (turn-stands stands));
      stays = λ slices. stays-over slices no_more after drives terms;
      more = events-more;
      few = events-within;
    }

-- ---- a slice is begun

module _ (n : ℕ) (old : Position) (kernel : Kernel) (before mid : Outside)
    (steps : (s : State) → Represents old.kernel before s → (ticked : State) × (t : State) × Tick s ticked × Choose ticked t × Represents kernel mid t)
    (next : ticks kernel ≡ ticks old.kernel + 1) (between : old.slice ≡ 0) where
  -- the position then
  abbrev pub begun : ℕ → Position
  begun slice = record { kernel = kernel; slice = slice; events = old.events; process = old.process }

  begin-gains : (s ticked t : State) → Tick s ticked → Choose ticked t → OnlyGain s t
  begin-gains s ticked t ticks chooses =
      gain-two s ticked t (tick-gains s ticked ticks) (subst (OnlyGain ticked) (sym chooses) (record { terminals = gain-same ticked.terms; drives = drives-same ticked.files.drives }))

  module _ (slices : List ℕ) (course : Course) (last : State) (at : IsAt course last slices old before)
      (starts : HasNextSlice n slices old before) (ticked t : State) (ticks-on : Tick at.s ticked)
      (chooses : Choose ticked t) (none : NoneFailed at.s t) where
    cont : Continues (slices_left slices old) at.s at.later last
    cont = by_rest at.rest
      where
        by_rest : Remains slices old at.s at.later last → Continues (slices_left slices old) at.s at.later last
        by_rest (inl (is, rest)) = rest
        by_rest (inr it) = absurd (omega (arith, it.some, between))

    none-ticked : NoneFailed at.s ticked
    none-ticked = subst (λ (t : State). NoneFailed at.s t → NoneFailed at.s ticked) (sym chooses) (λ none. record { terminals = none.terminals; drives = none.drives }) none

    then-left : Opened n (drop (ticks kernel) slices) t at.later last
    then-left =
        let dropped : slices_left slices old ≡ n ∷ drop (ticks kernel) slices = drop-next slices (ticks old.kernel) n starts.next ∙ ap (λ k. n ∷ drop k slices) (sym next) in
        opened n (drop (ticks kernel) slices) at.s at.later last (starts.lives at.s at.represents)
        (subst (λ rest. Continues rest at.s at.later last) dropped cont) at.faultless ticked t ticks-on chooses
        none-ticked

    begun-at : (slice : ℕ) (after : Outside) (u : State) → Represents kernel after u → HasNoVolumes u
        → NoneFailed u last → LooksAlike t u → u.files.drives ≡ t.files.drives → Remains slices (begun slice) u
        at.later last → IsAt course last slices (begun slice) after
    begun-at slice after u tied bare faultless looks drives rest = record {
      s = u;
      represents = tied;
      bare = bare;
      past = at.past;
      count = at.count;
      later = at.later;
      all = at.all;
      rest = rest;
      faultless = faultless;
      looks = looks-then (state_at course old.events) at.s u at.looks (looks-then at.s ticked u (tick-looks at.s ticked ticks-on) (looks-then ticked t u (choice-looks ticked t chooses) looks));
      drives = drives ∙ choice-drives ticked t chooses ∙ tick-drives at.s ticked ticks-on ∙ at.drives;
      process = at.process;
    }

    bare-then : HasNoVolumes t
    bare-then = choice-bare ticked t chooses (tick-bare at.s ticked ticks-on at.bare)

  pub begins-in : (slices : List ℕ) (p : ℕ) → ((s : State) → Represents kernel mid s → s.chosen ≡ Some p) → 0 < n
      → executed kernel ≡ 0 → HasNextSlice n slices old before → StaysIn slices old (begun n) before mid
  begins-in slices p chosen some fresh starts course last at unfailed =
      let (ticked, t, ticks-on, chooses, tied) = steps at.s at.represents in
      let none : NoneFailed at.s t = unfailed-inside old.kernel kernel before mid at.s t at.represents tied unfailed in
      let it = then-left slices course last at starts ticked t ticks-on chooses none in
      let goes : ContinuesIn n (drop (ticks kernel) slices) t at.later last = it.busy p (chosen t tied) some in
      let left_is : n ≡ n - executed kernel = omega (arith, fresh) in
      begun-at slices course last at starts ticked t ticks-on chooses none n mid t tied (bare-then slices course last at starts ticked t ticks-on chooses none) it.faultless (looks-same t) refl
      (inr (subst (λ k. ContinuesIn k (drop (ticks kernel) slices) t at.later last) left_is goes))

  pub begins-idle : (slices : List ℕ) → ((s : State) → Represents kernel mid s → (s.chosen ≡ None) ⊎ (n ≡ 0))
      → (after : Outside) → after.drives ≡ mid.drives → after.terms ≡ terminals_emptied mid.terms
      → HasNextSlice n slices old before → StaysIn slices old (begun old.slice) before after
  begins-idle slices nobody after drives terms starts course last at unfailed =
      let (ticked, t, ticks-on, chooses, tied) = steps at.s at.represents in
      let taken = represents-taken kernel mid after t drives terms tied in
      let gained : DevicesGain before mid = gains-outside old.kernel kernel before mid at.s t at.represents tied (begin-gains at.s ticked t ticks-on chooses) in
      let unfailed_first : Unfailed before mid = unfailed-first before mid after gained (gains-taken kernel mid after t drives terms tied) unfailed in
      let none : NoneFailed at.s t = unfailed-inside old.kernel kernel before mid at.s t at.represents tied unfailed_first in
      let it = then-left slices course last at starts ticked t ticks-on chooses none in
      let rest : Continues (drop (ticks kernel) slices) (emptied t) at.later last = it.idle (nobody t tied) in
      let faultless : NoneFailed (emptied t) last = none-then t (emptied t) last (emptied-gains t) (continues-gain (drop (ticks kernel) slices) (emptied t) at.later last rest) it.faultless in
      begun-at slices course last at starts ticked t ticks-on chooses none old.slice after (emptied t) taken
      (bare-then slices course last at starts ticked t ticks-on chooses none) faultless (emptied-looks t) refl
      (inl (between, rest))

  pub begin-gained : RepresentsSomeState old.kernel before → DevicesGain before mid
  begin-gained (s, tied) =
      let (ticked, t, ticks-on, chooses, there) = steps s tied in gains-outside old.kernel kernel before mid s t tied there (begin-gains s ticked t ticks-on chooses)

  pub begin-stands : RepresentsSomeState old.kernel before → RepresentsSomeState kernel mid
  begin-stands (s, tied) = let (ticked, t, ticks-on, chooses, there) = steps s tied in (t, there)

  -- a slice in which a process is Ready, and one that is over at once
  pub begun-in : (p : ℕ) → ((s : State) → Represents kernel mid s → s.chosen ≡ Some p) → 0 < n → executed kernel ≡ 0
      → IsGoing kernel → RepresentsSomeState old.kernel before → HasBegun n old (begun n) (Ok AnEvent) before mid
  begun-in p chosen some fresh going stands = record {
    goes_on = λ slices starts can. record {
      stands = begin-stands stands;
      begun = omega (arith, next, next-below slices (ticks old.kernel) n starts.next);
      few = can.few;
      going = λ _. going;
      left = λ _. omega (arith, some, fresh);
      numbered = can.numbered;
    };
    gains = begin-gained stands;
    stays = λ slices starts. begins-in slices p chosen some fresh starts;
    begun = λ _. some;
    idle = λ is. absurd (cc);
    tick = next;
    events = refl;
  }

  pub begun-idle : ((s : State) → Represents kernel mid s → (s.chosen ≡ None) ⊎ (n ≡ 0)) → RepresentsSomeState old.kernel before
      → (after : Outside) → after.drives ≡ mid.drives → after.terms ≡ terminals_emptied mid.terms
      → HasBegun n old (begun old.slice) (Ok End) before after
  begun-idle nobody stands after drives terms = record {
    goes_on = λ slices starts can. record {
      stands = taken-stands kernel mid after drives terms (begin-stands stands);
      begun = omega (arith, next, next-below slices (ticks old.kernel) n starts.next);
      few = can.few;
      going = λ some. absurd (omega (arith, some, between));
      left = λ some. absurd (omega (arith, some, between));
      numbered = can.numbered;
    };
    gains = devices-gain before mid after (begin-gained stands) (taken-gained kernel mid after drives terms (begin-stands stands));
    stays = λ slices starts. begins-idle slices nobody after drives terms starts;
    begun = λ is. absurd (cc);
    idle = λ _. between;
    tick = next;
    events = refl;
  }

-- ---- the last position

module _ (slices : List ℕ) (position : Position) (devices : Outside) (between : position.slice ≡ 0) where
  continues : (course : Course) (last : State) (at : IsAt course last slices position devices) → Continues (slices_left slices position) at.s at.later last
  continues course last at = by_rest at.rest
    where
      by_rest : Remains slices position at.s at.later last → Continues (slices_left slices position) at.s at.later last
      by_rest (inl (is, rest)) = rest
      by_rest (inr it) = absurd (omega (arith, it.some, between))

  -- nobody lives
  pub last-idle : ((s : State) → Represents position.kernel devices s → living_count s.processes ≡ 0) → (course : Course)
      (last : State) → IsAt course last slices position devices → last_of course ≡ position.events
  last-idle nobody course last at =
      last-here course at.past at.later position.events at.count at.all
      (ends-idle (slices_left slices position) at.s at.later last (none-living at.s (nobody at.s at.represents)) (continues course last at))

  -- no slice is left
  pub last-slice : length slices ≤ ticks position.kernel → (course : Course) (last : State) → IsAt course last slices position devices → last_of course ≡ position.events
  last-slice all course last at =
      let none : slices_left slices position ≡ [] = drop_all (ticks position.kernel) slices all in
      last-here course at.past at.later position.events at.count at.all
      (ends-without at.s at.later last (subst (λ rest. Continues rest at.s at.later last) none (continues course last at)))

-- ---- what is shown

module _ (course : Course) (last : State) (slices : List ℕ) (position : Position) (devices : Outside) (at : IsAt course last slices position devices) where
  abbrev here : State
  here = state_at course position.events

  pub regs-shown : (result : Option Regs) → ((s : State) → Represents position.kernel devices s → result ≡ living_regs s.processes position.process.0) → result ≡ shown_regs here
  regs-shown result is =
      is at.s at.represents ∙ at.looks.regs position.process.0 ∙ ap (λ p. living_regs here.processes p) at.process

  pub byte-shown : (address : ℕ) (result : Option ℕ) → address < 65536
      → ((s : State) → Represents position.kernel devices s → result ≡ user_cell (cells_at s.processes position.process.0)
      address) → result ≡ shown_cells here address
  byte-shown address result within is =
      is at.s at.represents
      ∙ (rw (lt-ltb address 65536 within) refl)
      ∙ ap (λ (memory : MemoryState). object_cells memory.objects (map_at memory position.process.0).places address) at.looks.memory
      ∙ ap (λ p. cells_at here.processes p address) at.process

-- ---- the start

module _ (kernel : Kernel) (fresh : ticks kernel ≡ 0) where
  abbrev pub first_position : Position
  first_position = record { kernel = kernel; slice = 0; events = 0; process = first_process }

  pub start-goes : (slices : List ℕ) (devices : Outside) → RepresentsSomeState kernel devices → length slices < LAST_TICK → CanGoOn slices first_position devices
  start-goes slices devices stands few = record {
    stands = stands;
    begun = omega (arith, fresh);
    few = few;
    going = λ some. absurd (omega (arith, some));
    left = λ some. absurd (omega (arith, some));
    numbered = omega arith;
  }

  pub start-at : (boot : Boot) (slices : List ℕ) (course : Course) (devices : Outside) → boot.images ≡ []
      → (is : IsCourse boot slices course) → Represents kernel devices course.start → IsAt course is.last slices
      first_position devices
  start-at boot slices course devices none is tied = record {
    s = course.start;
    represents = tied;
    bare = start-bare boot course.start none is.starts;
    past = [];
    count = refl;
    later = course.states;
    all = refl;
    rest = inl (refl, subst (λ k. Continues (drop k slices) course.start course.states is.last) (sym fresh) (is.written, is.run));
    faultless = is.faultless;
    looks = looks-same course.start;
    drives = refl;
    process = sym (ap (λ (s : State). shown s) is.starts.is);
  }

-- ---- the process that was chosen

pub going-chosen : (kernel : Kernel) (devices : Outside) (s : State) → Represents kernel devices s → (p : Pid) → kernel.chosen ≡ Some p → s.chosen ≡ Some p.0
going-chosen kernel devices s tied p chosen =
    ap (λ (s : State). s.chosen) tied.is ∙ ap (option_map (λ (p : Pid). p.0)) chosen

pub some-chosen : (o : Option Pid) (n : ℕ) → option_map (λ (p : Pid). p.0) o ≡ Some n → IsSome o
some-chosen None n is = absurd (none-some n is)
some-chosen (Some p) n is = refl

-- all states that a kernel represents have one chosen process
pub chosen-any : (kernel : Kernel) (mid : Outside) (t s : State) → Represents kernel mid t → Represents kernel mid s → s.chosen ≡ t.chosen
chosen-any kernel mid t s one other = ap (λ (s : State). s.chosen) other.is ∙ sym (ap (λ (s : State). s.chosen) one.is)

pub is-some : (o : Option Pid) → IsSome o → (p : Pid) × (o ≡ Some p)
is-some None none = absurd (false≢true none)
is-some (Some p) some = (p, refl)

-- ---- one part of the way behind another

pub stays-then : (slices : List ℕ) (a b c : Position) (x y z : Outside) → DevicesGain x y → DevicesGain y z → StaysIn slices a b x y → StaysIn slices b c y z → StaysIn slices a c x z
stays-then slices a b c x y z one two first next course last at none =
    next course last (first course last at (unfailed-first x y z one two none)) (unfailed-then x y z one two none)

-- the position that was reached is the last one
pub last-then : (slices : List ℕ) (a b : Position) (x y : Outside) → b.events ≡ a.events → StaysIn slices a b x y
    → ((course : Course) (last : State) → IsAt course last slices b y → last_of course ≡ b.events) → IsLastPosition slices a x
    y
last-then slices a b x y same first ends course last at none = ends course last (first course last at none) ∙ same

-- the next slice is the one at this place
pub begins-with : (n : ℕ) (slices : List ℕ) (position : Position) (devices : Outside) (index : ℕ)
    → ticks position.kernel ≡ index → slice_get slices index ≡ Some n
    → ((s : State) → Represents position.kernel devices s → living_count s.processes ≢ 0) → HasNextSlice n slices position
    devices
begins-with n slices position devices index at is some = record {
  next = ap (slice_get slices) at ∙ is;
  lives = λ s tied. some-living s (some s tied);
}

pub positive : (n : ℕ) → n ≢ 0 → 0 < n
positive zero some = absurd (some refl)
positive (suc n) some = omega arith

-- ---- slices in which no process is Ready

-- so many slices were begun from the start on, and none is under way
pub record FoundSoFar (slices : List ℕ) (old : Position) (index : ℕ) (now : Position) (before after : Outside) : Type 0 where
  pub goes_on : CanGoOn slices now after
  pub between : now.slice ≡ 0
  pub begun : ticks now.kernel ≡ index
  pub gains : DevicesGain before after
  pub stays : StaysIn slices old now before after
  pub events : now.events ≡ old.events

pub found-start : (slices : List ℕ) (old : Position) (index : ℕ) (before : Outside) → ticks old.kernel ≡ index
    → CanGoOn slices old before → old.slice ≡ 0 → FoundSoFar slices old index old before before
found-start slices old index before begun can between = record {
  goes_on = can;
  between = between;
  begun = begun;
  gains = gain-nothing before;
  stays = λ course last at none. at;
  events = refl;
}

module _ (slices : List ℕ) (old : Position) (index : ℕ) (now : Position) (before after : Outside) (so_far : FoundSoFar slices old index now before after) where
  pub found-idle : (n : ℕ) (next : Position) (then : Outside) → HasNextSlice n slices now after → HasBegun n now next (Ok End) after then → FoundSoFar slices old (index + 1) next before then
  found-idle n next then starts begun = record {
    goes_on = begun.goes_on slices starts so_far.goes_on;
    between = begun.idle refl;
    begun = omega (arith, begun.tick, so_far.begun);
    gains = devices-gain before after then so_far.gains begun.gains;
    stays = stays-then slices old now next before after then so_far.gains begun.gains so_far.stays (begun.stays slices starts);
    events = begun.events ∙ so_far.events;
  }

  pub found-busy : (n : ℕ) (next : Position) (then : Outside) → HasNextSlice n slices now after → HasBegun n now next
      (Ok AnEvent) after then → BeginsNextSlices slices old next (Ok AnEvent) before then
  found-busy n next then starts begun = record {
    goes_on = begun.goes_on slices starts so_far.goes_on;
    gains = devices-gain before after then so_far.gains begun.gains;
    stays = stays-then slices old now next before after then so_far.gains begun.gains so_far.stays (begun.stays slices starts);
    begun = λ _. begun.begun refl;
    events = begun.events ∙ so_far.events;
    end = λ is. absurd (cc);
  }

  -- memory was out
  pub found-broken : (n : ℕ) (next : Position) (then : Outside) (fault : OutOfMemory) {told : OutOfMemory}
      → HasBegun n now next (Err fault) after then → BeginsNextSlices slices old next (Err told) before then
  found-broken n next then fault begun = record {
    goes_on = tt;
    gains = devices-gain before after then so_far.gains begun.gains;
    stays = tt;
    begun = λ is. absurd (cc);
    events = tt;
    end = λ is. absurd (cc);
  }

  pub found-none : ((course : Course) (last : State) → IsAt course last slices now after → last_of course ≡ now.events) → BeginsNextSlices slices old now (Ok End) before after
  found-none ends = record {
    goes_on = so_far.goes_on;
    gains = so_far.gains;
    stays = so_far.stays;
    begun = λ is. absurd (cc);
    events = so_far.events;
    end = λ _. last-then slices old now before after so_far.events so_far.stays ends;
  }

  pub found-nobody : ((s : State) → Represents now.kernel after s → living_count s.processes ≡ 0) → BeginsNextSlices slices old now (Ok End) before after
  found-nobody nobody = found-none (last-idle slices now after so_far.between nobody)

  pub found-all : length slices ≤ index → BeginsNextSlices slices old now (Ok End) before after
  found-all all = found-none (last-slice slices now after so_far.between (omega (arith, all, so_far.begun)))

-- in a slice that is under way
pub found-here : (slices : List ℕ) (old : Position) (before : Outside) → CanGoOn slices old before → 0 < old.slice → BeginsNextSlices slices old old (Ok AnEvent) before before
found-here slices old before can some = record {
  goes_on = can;
  gains = gain-nothing before;
  stays = λ course last at none. at;
  begun = λ _. some;
  events = refl;
  end = λ is. absurd (cc);
}

-- ---- events one after another

pub record GoneSoFar (k : ℕ) (slices : List ℕ) (old now : Position) (before after : Outside) : Type 0 where
  pub goes_on : CanGoOn slices now after
  pub gains : DevicesGain before after
  pub stays : StaysIn slices old now before after
  pub within : now.events ≤ k

pub gone-start : (k : ℕ) (slices : List ℕ) (old : Position) (before : Outside) → CanGoOn slices old before → old.events ≤ k → GoneSoFar k slices old old before before
gone-start k slices old before can within =
    record { goes_on = can; gains = gain-nothing before; stays = λ course last at none. at; within = within }

module _ (k : ℕ) (slices : List ℕ) (old now : Position) (before after : Outside) (so_far : GoneSoFar k slices old now before after) where
  -- a slice with an event was found, and a turn was had in it
  pub gone-more : (mid next : Position) (between then : Outside) → BeginsNextSlices slices now mid (Ok AnEvent) after between
      → HasEventsUpTo k mid next (Ok tt) between then → GoneSoFar k slices old next before then
  gone-more mid next between then found had = record {
    goes_on = had.goes_on slices found.goes_on;
    gains = devices-gain before after then so_far.gains (devices-gain after between then found.gains had.gains);
    stays = stays-then slices old now next before after then so_far.gains (devices-gain after between then found.gains had.gains) so_far.stays
        (stays-then slices now mid next after between then found.gains had.gains found.stays (had.stays slices));
    within = had.few;
  }

  pub gone-there : k ≤ now.events → HasReachedEvent k slices old now (Ok AnEvent) before after
  gone-there there = record {
    goes_on = so_far.goes_on;
    gains = so_far.gains;
    stays = so_far.stays;
    reached = λ _. omega (arith, there, so_far.within);
    short = λ is. absurd (cc);
    end = λ is. absurd (cc);
  }

  -- memory was out
  pub gone-broken : (told : OutOfMemory) (next : Position) (then : Outside) → DevicesGain after then → HasReachedEvent k slices old next (Err told) before then
  gone-broken told next then gains = record {
    goes_on = tt;
    gains = devices-gain before after then so_far.gains gains;
    stays = tt;
    reached = λ is. absurd (cc);
    short = λ is. absurd (cc);
    end = λ is. absurd (cc);
  }

  -- no slice with an event was found
  pub gone-short : (next : Position) (then : Outside) → now.events < k → BeginsNextSlices slices now next (Ok End) after then → HasReachedEvent k slices old next (Ok End) before then
  gone-short next then below found = record {
    goes_on = found.goes_on;
    gains = devices-gain before after then so_far.gains found.gains;
    stays = stays-then slices old now next before after then so_far.gains found.gains so_far.stays found.stays;
    reached = λ is. absurd (cc);
    short = λ _. omega (arith, below, found.events);
    end = λ _ course state at none.
        found.end refl course state (so_far.stays course state at (unfailed-first before after then so_far.gains found.gains none)) (unfailed-then before after then so_far.gains found.gains none)
        ∙ sym found.events;
  }
