-- Keys that are loaded, and slices of the state with them.
use Rattle.std.proofs.Common.{◌≡◌, ℕ, ◌+◌, ◌-◌, ◌<◌, ◌≤◌, Option, Some, None, List, [], ◌∷◌, ◌++◌, map, refl, sym, ap, ◌∙◌, subst, arith}
use Rattle.std.specs.List.{AllZip}
use Rattle.std.proofs.lemmas.List.{append_assoc, append-nil}
use Rattle.os9_outer.specs.Terminal.{due_byte}
use Rattle.os9_outer.specs.TerminalState.{TerminalState}
use Rattle.os9_outer.specs.declared.terminal.Key.{Key}
use Rattle.machine_model.specs.Console.{console_bytes, put_bytes, terminals_emptied, without_bytes}
use Rattle.machine_model.specs.declared.ends.EventEnd.{EventEnd}
use Rattle.machine_model.specs.declared.ends.EventEnd.TheVariants.{Ran}
use Rattle.machine_model.specs.declared.ends.SliceEnd.{SliceEnd}
use Rattle.machine_model.specs.Event.{Event, cost}
use Rattle.machine_model.specs.Run.{BeginsSlice, Choose, FirstSteps, Slice, Tick}
use Rattle.machine_model.specs.State.{State}
use Rattle.run_laws.specs.Later.{AreSameBut, UnsharedKeys, SameBut, SameChoiceTo, SameEventTo, SameSliceTo, SameTickTo, SameTo}
use Rattle.run_laws.specs.Session.{AreLater, Keys, keys_loaded, keys_then, with_keys}
use Rattle.run_laws.proofs.LaterEvents.{event-too}
use Rattle.run_laws.proofs.LaterKeys.{choice-too, tick-too}
use Rattle.run_laws.proofs.LaterSlices.{slice-too}
use Rattle.run_laws.specs.SoFar.{each_with}

-- ---- the terminals of two states, one of which has keys behind those of the other

abbrev only_other : List Key → UnsharedKeys
only_other keys = record { one = []; other = keys }

abbrev rests_of : List TerminalState → Keys → List UnsharedKeys
rests_of [] keys = []
rests_of (term ∷ terms) [] = only_other [] ∷ rests_of terms []
rests_of (term ∷ terms) (keys ∷ more) = only_other keys ∷ rests_of terms more

to-one : (tick : ℕ) (term : TerminalState) (keys : List Key) → due_byte keys tick ≡ None → SameBut tick (only_other keys) term (record term { keys = term.keys ++ keys })
to-one tick term keys later = record {
  front = term.keys;
  keys = sym (append-nil term.keys);
  other_keys = refl;
  later = refl;
  other_later = later;
  put = refl;
  faults = refl;
}

to-same : (tick : ℕ) (terms : List TerminalState) (keys : Keys) → AreLater tick keys → AreSameBut tick (rests_of terms keys) terms (keys_loaded terms keys)
to-same tick [] [] later = tt
to-same tick [] (keys ∷ more) later = tt
to-same tick (term ∷ terms) [] later =
    (record { front = term.keys; keys = sym (append-nil term.keys); other_keys = sym (append-nil term.keys); later = refl; other_later = refl; put = refl; faults = refl }, to-same tick terms [] tt)
to-same tick (term ∷ terms) (keys ∷ more) later = (to-one tick term keys later.0, to-same tick terms more later.1)

from-one : (tick : ℕ) (keys : List Key) (one other : TerminalState) → SameBut tick (only_other keys) one other → other ≡ record one { keys = one.keys ++ keys }
from-one tick keys one other same =
    let all : other.keys ≡ one.keys ++ keys = same.other_keys ∙ ap (λ (front : List Key). front ++ keys) (sym (same.keys ∙ append-nil same.front)) in
    λ i. record { keys = all i; put = same.put i; faults = same.faults i }

from-same : (tick : ℕ) (terms : List TerminalState) (keys : Keys) (ones others : List TerminalState) → AreSameBut tick (rests_of terms keys) ones others → others ≡ keys_loaded ones keys
from-same tick [] [] [] [] same = refl
from-same tick [] (k ∷ ks) [] [] same = refl
from-same tick [] keys [] (o ∷ os) same = absurd same
from-same tick [] keys (o ∷ os) others same = absurd same
from-same tick (term ∷ terms) [] [] others same = absurd same
from-same tick (term ∷ terms) [] (a ∷ ones) [] same = absurd same
from-same tick (term ∷ terms) [] (a ∷ ones) (b ∷ others) same =
    let first : b ≡ a = from-one tick [] a b same.0 ∙ (λ i. record a { keys = append-nil a.keys i }) in
    let rest : others ≡ ones = from-same tick terms [] ones others same.1 in
    λ i. first i ∷ rest i
from-same tick (term ∷ terms) (k ∷ ks) [] others same = absurd same
from-same tick (term ∷ terms) (k ∷ ks) (a ∷ ones) [] same = absurd same
from-same tick (term ∷ terms) (k ∷ ks) (a ∷ ones) (b ∷ others) same =
    let first = from-one tick k a b same.0 in
    let rest : others ≡ keys_loaded ones ks = from-same tick terms ks ones others same.1 in
    λ i. first i ∷ rest i

-- ---- keys and others behind them

-- they are loaded one after another
pub load-then : (terms : List TerminalState) (load later : Keys) → keys_loaded terms (keys_then load later) ≡ keys_loaded (keys_loaded terms load) later
load-then terms [] later = refl
load-then terms (k ∷ ks) [] = refl
load-then [] (k ∷ ks) (l ∷ ls) = refl
load-then (term ∷ terms) (k ∷ ks) (l ∷ ls) =
    λ i. record term { keys = sym (append_assoc term.keys k l) i } ∷ load-then terms ks ls i

pub load-emptied : (terms : List TerminalState) (keys : Keys) → terminals_emptied (keys_loaded terms keys) ≡ keys_loaded (terminals_emptied terms) keys
load-emptied terms [] = refl
load-emptied [] (k ∷ ks) = refl
load-emptied (term ∷ terms) (k ∷ ks) = λ i. record (without_bytes term) { keys = term.keys ++ k } ∷ load-emptied terms ks i

pub load-bytes : (terms : List TerminalState) (keys : Keys) → console_bytes (keys_loaded terms keys) ≡ console_bytes terms
load-bytes terms [] = refl
load-bytes [] (k ∷ ks) = refl
load-bytes (term ∷ terms) (k ∷ ks) = ap (λ (bytes : List ℕ). put_bytes term ++ bytes) (load-bytes terms ks)

-- keys that are not due in a tick are not due in the one before
due-before : (keys : List Key) (tick : ℕ) → due_byte keys (tick + 1) ≡ None → due_byte keys tick ≡ None
due-before keys tick later = grind arith

pub later-before : (tick : ℕ) (keys : Keys) → AreLater (tick + 1) keys → AreLater tick keys
later-before tick [] later = tt
later-before tick (keys ∷ more) later = (due-before keys tick later.0, later-before tick more later.1)

due-then : (keys others : List Key) (tick : ℕ) → due_byte keys tick ≡ None → due_byte others tick ≡ None → due_byte (keys ++ others) tick ≡ None
due-then [] others tick one other = other
due-then (key ∷ keys) others tick one other = one

pub later-then : (tick : ℕ) (load more : Keys) → AreLater tick load → AreLater tick more → AreLater tick (keys_then load more)
later-then tick [] more one other = other
later-then tick (keys ∷ load) [] one other = one
later-then tick (keys ∷ load) (others ∷ more) one other =
    (due-then keys others tick one.0 other.0, later-then tick load more one.1 other.1)

-- ---- slices

module _ (s : State) (keys : Keys) (tick : ℕ) (are_later : AreLater tick keys) where
  abbrev rests : List UnsharedKeys
  rests = rests_of s.terms keys

  start : SameTo tick rests s (with_keys s keys)
  start = record { terms = to-same tick s.terms keys are_later; rest = refl }

  loaded-too : (t other : State) → SameTo tick rests t other → other ≡ with_keys t keys
  loaded-too t other same =
      same.rest ∙ ap (λ (terms : List TerminalState). record t { terms = terms }) (from-same tick s.terms keys t.terms other.terms same.terms)

  all-loaded-too : (states through : List State) → AllZip (SameTo tick rests) states through → through ≡ each_with keys states
  all-loaded-too [] [] all = refl
  all-loaded-too [] (u ∷ us) all = absurd all
  all-loaded-too (m ∷ ms) [] all = absurd all
  all-loaded-too (m ∷ ms) (u ∷ us) all = λ i. loaded-too m u all.0 i ∷ all-loaded-too ms us all.1 i

  record FirstToo (left : ℕ) (states : List State) (t other : State) : Type 0 where
    pub through : List State
    pub last : State
    pub steps : FirstSteps left other through last
    pub all : AllZip (SameTo tick rests) states through
    pub same : SameTo tick rests t last

  first-too : (left : ℕ) (m other : State) (states : List State) (t : State) → SameTo tick rests m other → FirstSteps left m states t → FirstToo left states t other
  first-too left m other [] t same (some, is) =
      record { through = []; last = other; steps = (some, refl); all = tt; same = subst (λ (t : State). SameTo tick rests t other) (sym is) same }
  first-too left m other (next ∷ states) t same (some, event, steps) =
      let one : SameEventTo tick rests Ran next other = event-too tick rests m next other Ran same event in
      let after : FirstToo (left - cost m) states t one.last = first-too (left - cost m) next one.last states t one.same steps in
      let costs : cost other ≡ cost m = ap cost same.rest in
      record {
        through = one.last ∷ after.through;
        last = after.last;
        steps = (some, one.event, subst (λ (n : ℕ). FirstSteps (left - n) one.last after.through after.last) (sym costs) after.steps);
        all = (one.same, after.all);
        same = after.same;
      }

  event-loaded : (t : State) (end : EventEnd) → Event s end t → Event (with_keys s keys) end (with_keys t keys)
  event-loaded t end event =
      let it : SameEventTo tick rests end t (with_keys s keys) = event-too tick rests s t (with_keys s keys) end start event in
      subst (λ (last : State). Event (with_keys s keys) end last) (loaded-too t it.last it.same) it.event

  slice-loaded : (n : ℕ) (t : State) (states : List State) (end : SliceEnd) → s.processes.tick + 1 ≤ tick
      → Slice n s states end t → Slice n (with_keys s keys) (each_with keys states) end (with_keys t keys)
  slice-loaded n t states end below slice =
      let it : SameSliceTo tick rests n states end t (with_keys s keys) = slice-too tick rests n s t (with_keys s keys) states end below start slice in
      subst (λ (last : State). Slice n (with_keys s keys) (each_with keys states) end last) (loaded-too t it.last it.same)
      (subst (λ (through : List State). Slice n (with_keys s keys) through end it.last) (all-loaded-too states it.through it.all) it.slice)

  begins-loaded : (n : ℕ) (t : State) (states : List State) → s.processes.tick + 1 ≤ tick → BeginsSlice n s states t → BeginsSlice n (with_keys s keys) (each_with keys states) (with_keys t keys)
  begins-loaded n t states below (ticked, chosen, ticks, chooses, steps) =
      let one : SameTickTo tick rests ticked (with_keys s keys) = tick-too tick rests s ticked (with_keys s keys) below start ticks in
      let two : SameChoiceTo tick rests chosen one.last = choice-too tick rests ticked chosen one.last one.same chooses in
      let it : FirstToo n states t two.last = first-too n chosen two.last states t two.same steps in (
        one.last,
        two.last,
        one.ticks,
        two.chooses,
        subst (λ (last : State). FirstSteps n two.last (each_with keys states) last) (loaded-too t it.last it.same)
            (subst (λ (through : List State). FirstSteps n two.last through it.last) (all-loaded-too states it.through it.all) it.steps),
      )

pub event-with : (tick : ℕ) (s t : State) (end : EventEnd) (keys : Keys) → AreLater tick keys → Event s end t → Event (with_keys s keys) end (with_keys t keys)
event-with tick s t end keys later event = event-loaded s keys tick later t end event

pub slice-with : (n : ℕ) (s t : State) (states : List State) (end : SliceEnd) (keys : Keys)
    → AreLater (s.processes.tick + 1) keys → Slice n s states end t → Slice n (with_keys s keys) (each_with keys states)
    end (with_keys t keys)
slice-with n s t states end keys later slice = slice-loaded s keys (s.processes.tick + 1) later n t states end (omega arith) slice

pub begins-with : (n : ℕ) (s t : State) (states : List State) (keys : Keys) → AreLater (s.processes.tick + 1) keys
    → BeginsSlice n s states t → BeginsSlice n (with_keys s keys) (each_with keys states) (with_keys t keys)
begins-with n s t states keys later begins = begins-loaded s keys (s.processes.tick + 1) later n t states (omega arith) begins
