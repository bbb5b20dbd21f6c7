-- A session is the run of its script.
use Rattle.std.proofs.Common.{◌≡◌, ℕ, ◌+◌, ◌≤◌, Bool, true, false, Option, None, List, [], ◌∷◌, ◌++◌, refl, sym, ap, ◌∙◌, subst, arith}
use Rattle.std.specs.Prelude.{MatchBool}
use Rattle.std.specs.List.{AllZip}
use Rattle.std.proofs.lemmas.List.{append_assoc, append-nil}
use Rattle.os9_outer.specs.Terminal.{due_byte}
use Rattle.os9_outer.specs.TerminalState.{TerminalState}
use Rattle.os9_outer.specs.declared.terminal.Key.{Key}
use Rattle.machine_model.specs.Console.{console_bytes, put_bytes, terminals_emptied, without_bytes}
use Rattle.machine_model.specs.declared.ends.SliceEnd.{SliceEnd}
use Rattle.machine_model.specs.Run.{Run, Slice}
use Rattle.machine_model.specs.State.{State, has_living}
use Rattle.run_laws.specs.Later.{AreSameBut, UnsharedKeys, SameBut, SameSliceTo, SameTo}
use Rattle.run_laws.specs.Session.{AreLater, IsRecorded, IsRunOf, Keys, Session, SessionTurn, counts, keys_loaded, keys_then, script, with_keys}
use Rattle.run_laws.proofs.LaterSlices.{slice-too}

-- ---- keys that are loaded

abbrev only_other : List Key → UnsharedKeys
only_other keys = record { one = []; other = keys }

abbrev rests_of : List TerminalState → Keys → List UnsharedKeys
rests_of [] keys = []
rests_of (term ∷ terms) [] = only_other [] ∷ rests_of terms []
rests_of (term ∷ terms) (keys ∷ more) = only_other keys ∷ rests_of terms more

to-one : (tick : ℕ) (term : TerminalState) (keys : List Key) → due_byte keys tick ≡ None → SameBut tick (only_other keys) term (record term { keys = term.keys ++ keys })
to-one tick term keys later = record {
  front = term.keys;
  keys = sym (append-nil term.keys);
  other_keys = refl;
  later = refl;
  other_later = later;
  put = refl;
  faults = refl;
}

to-same : (tick : ℕ) (terms : List TerminalState) (keys : Keys) → AreLater tick keys → AreSameBut tick (rests_of terms keys) terms (keys_loaded terms keys)
to-same tick [] [] later = tt
to-same tick [] (keys ∷ more) later = tt
to-same tick (term ∷ terms) [] later =
    (record { front = term.keys; keys = sym (append-nil term.keys); other_keys = sym (append-nil term.keys); later = refl; other_later = refl; put = refl; faults = refl }, to-same tick terms [] tt)
to-same tick (term ∷ terms) (keys ∷ more) later = (to-one tick term keys later.0, to-same tick terms more later.1)

from-one : (tick : ℕ) (keys : List Key) (one other : TerminalState) → SameBut tick (only_other keys) one other → other ≡ record one { keys = one.keys ++ keys }
from-one tick keys one other same =
    let all : other.keys ≡ one.keys ++ keys = same.other_keys ∙ ap (λ (front : List Key). front ++ keys) (sym (same.keys ∙ append-nil same.front)) in
    λ i. record { keys = all i; put = same.put i; faults = same.faults i }

from-same : (tick : ℕ) (terms : List TerminalState) (keys : Keys) (ones others : List TerminalState) → AreSameBut tick (rests_of terms keys) ones others → others ≡ keys_loaded ones keys
from-same tick [] [] [] [] same = refl
from-same tick [] (k ∷ ks) [] [] same = refl
from-same tick [] keys [] (o ∷ os) same = absurd same
from-same tick [] keys (o ∷ os) others same = absurd same
from-same tick (term ∷ terms) [] [] others same = absurd same
from-same tick (term ∷ terms) [] (a ∷ ones) [] same = absurd same
from-same tick (term ∷ terms) [] (a ∷ ones) (b ∷ others) same =
    let first : b ≡ a = from-one tick [] a b same.0 ∙ (λ i. record a { keys = append-nil a.keys i }) in
    let rest : others ≡ ones = from-same tick terms [] ones others same.1 in
    λ i. first i ∷ rest i
from-same tick (term ∷ terms) (k ∷ ks) [] others same = absurd same
from-same tick (term ∷ terms) (k ∷ ks) (a ∷ ones) [] same = absurd same
from-same tick (term ∷ terms) (k ∷ ks) (a ∷ ones) (b ∷ others) same =
    let first = from-one tick k a b same.0 in
    let rest : others ≡ keys_loaded ones ks = from-same tick terms ks ones others same.1 in
    λ i. first i ∷ rest i

-- keys and others are loaded one after another
load-then : (terms : List TerminalState) (load later : Keys) → keys_loaded terms (keys_then load later) ≡ keys_loaded (keys_loaded terms load) later
load-then terms [] later = refl
load-then terms (k ∷ ks) [] = refl
load-then [] (k ∷ ks) (l ∷ ls) = refl
load-then (term ∷ terms) (k ∷ ks) (l ∷ ls) =
    λ i. record term { keys = sym (append_assoc term.keys k l) i } ∷ load-then terms ks ls i

load-emptied : (terms : List TerminalState) (keys : Keys) → terminals_emptied (keys_loaded terms keys) ≡ keys_loaded (terminals_emptied terms) keys
load-emptied terms [] = refl
load-emptied [] (k ∷ ks) = refl
load-emptied (term ∷ terms) (k ∷ ks) = λ i. record (without_bytes term) { keys = term.keys ++ k } ∷ load-emptied terms ks i

load-bytes : (terms : List TerminalState) (keys : Keys) → console_bytes (keys_loaded terms keys) ≡ console_bytes terms
load-bytes terms [] = refl
load-bytes [] (k ∷ ks) = refl
load-bytes (term ∷ terms) (k ∷ ks) = ap (λ (bytes : List ℕ). put_bytes term ++ bytes) (load-bytes terms ks)

-- ---- sessions

recorded : (tick : ℕ) (terms : List TerminalState) (keys : Keys) (s t : State) → SameTo tick (rests_of terms keys) s t → t ≡ with_keys s keys
recorded tick terms keys s t same =
    same.rest ∙ ap (λ (terms : List TerminalState). record s { terms = terms }) (from-same tick terms keys s.terms t.terms same.terms)

all-recorded : (tick : ℕ) (terms : List TerminalState) (keys : Keys) (states through : List State) → AllZip (SameTo tick (rests_of terms keys)) states through → AllZip IsRecorded states through
all-recorded tick terms keys [] [] all = tt
all-recorded tick terms keys [] (u ∷ us) all = absurd all
all-recorded tick terms keys (m ∷ ms) [] all = absurd all
all-recorded tick terms keys (m ∷ ms) (u ∷ us) all =
    (record { left = keys; is = recorded tick terms keys m u all.0 }, all-recorded tick terms keys ms us all.1)

zip-append : (a b c d : List State) → AllZip IsRecorded a b → AllZip IsRecorded c d → AllZip IsRecorded (a ++ c) (b ++ d)
zip-append [] [] c d one two = two
zip-append [] (y ∷ b) c d one two = absurd one
zip-append (x ∷ a) [] c d one two = absurd one
zip-append (x ∷ a) (y ∷ b) c d one two = (one.0, zip-append a b c d one.1 two)

-- what a session goes on as, where a process lives or none does
abbrev Goes : Bool → SessionTurn → List SessionTurn → State → List State → List ℕ → State → Type 0
Goes living turn turns s states written t =
    MatchBool living
    (AreLater (s.processes.tick + 1) (script turns) × (end : SliceEnd) × (m : State) × (first later : List State)
    × (rest : List ℕ) × Slice turn.count (with_keys s turn.load) first end m × (states ≡ first ++ later)
    × (written ≡ console_bytes m.terms ++ rest)
    × Session turns (record m { terms = terminals_emptied m.terms }) later rest t)
    ((states ≡ []) × (written ≡ []) × (t ≡ s))

abbrev Runs : Bool → ℕ → List ℕ → State → List State → List ℕ → State → Type 0
Runs living n ns s states written t =
    MatchBool living
    ((end : SliceEnd) × (m : State) × (first later : List State) × (rest : List ℕ) × Slice n s first end m
    × (states ≡ first ++ later) × (written ≡ console_bytes m.terms ++ rest)
    × Run ns (record m { terms = terminals_emptied m.terms }) later rest t)
    ((states ≡ []) × (written ≡ []) × (t ≡ s))

record GoesOn (living : Bool) (turn : SessionTurn) (turns : List SessionTurn) (full : State) (states : List State) (written : List ℕ) (t : State) : Type 0 where
  pub through : List State
  pub last : State
  pub run : Runs living turn.count (counts turns) full through written last
  pub all : AllZip IsRecorded states through
  pub same : IsRecorded t last

abbrev SessionsRun : List SessionTurn → Type 0
SessionsRun turns =
    (s : State) (states : List State) (written : List ℕ) (t : State) → Session turns s states written t → IsRunOf turns s states written t

goes-on : (living : Bool) (turn : SessionTurn) (turns : List SessionTurn) (s : State) (states : List State) (written : List ℕ)
    (t : State) → SessionsRun turns → Goes living turn turns s states written t → GoesOn living turn turns
    (with_keys s (script (turn ∷ turns))) states written t
goes-on false turn turns s states written t others (none, nothing, is) = record {
  through = [];
  last = with_keys s (script (turn ∷ turns));
  run = (refl, nothing, refl);
  all = subst (λ (states : List State). AllZip IsRecorded states []) (sym none) tt;
  same = record { left = script (turn ∷ turns); is = ap (λ (s : State). with_keys s (script (turn ∷ turns))) (sym is) };
}
goes-on true turn turns s states written t others (are_later, end, m, first, later, rest, slice, states_are, written_is, after) =
    let now : State = with_keys s turn.load in
    let full : State = with_keys s (script (turn ∷ turns)) in
    let tick : ℕ = s.processes.tick + 1 in
    let full_is : with_keys now (script turns) ≡ full = ap (λ (terms : List TerminalState). record s { terms = terms }) (sym (load-then s.terms turn.load (script turns))) in
    let start : SameTo tick (rests_of now.terms (script turns)) now (with_keys now (script turns)) = record { terms = to-same tick now.terms (script turns) are_later; rest = refl } in
    let too : SameSliceTo tick (rests_of now.terms (script turns)) turn.count first end m full = slice-too tick
    (rests_of now.terms (script turns)) turn.count now m full first end (omega arith)
    (subst (SameTo tick (rests_of now.terms (script turns)) now) full_is start) slice in
    let middle : too.last ≡ with_keys m (script turns) = recorded tick now.terms (script turns) m too.last too.same in
    let m_after : State = record m { terms = terminals_emptied m.terms } in
    let it : IsRunOf turns m_after later rest t = others m_after later rest t after in
    let emptied : record too.last { terms = terminals_emptied too.last.terms } ≡ with_keys m_after (script turns) = ap
    (λ (u : State). record u { terms = terminals_emptied u.terms }) middle ∙ ap (λ (terms : List TerminalState).
    record m { terms = terms }) (load-emptied m.terms (script turns)) in
    let bytes : console_bytes m.terms ≡ console_bytes too.last.terms = sym (ap (λ (u : State). console_bytes u.terms) middle ∙ load-bytes m.terms (script turns)) in
    record {
      through = too.through ++ it.through;
      last = it.last;
      run = (
        end,
        too.last,
        too.through,
        it.through,
        rest,
        too.slice,
        refl,
        written_is ∙ ap
            (λ (bytes : List ℕ). bytes ++ rest) bytes,
        subst (λ (u : State). Run (counts turns) u it.through rest
            it.last) (sym emptied) it.run,
      );
      all =
          subst (λ (states : List State). AllZip IsRecorded states (too.through ++ it.through)) (sym states_are)
          (zip-append first too.through later it.through (all-recorded tick now.terms (script turns) first
          too.through too.all) it.all);
      same = it.same;
    }

pub session-runs : (turns : List SessionTurn) (s : State) (states : List State) (written : List ℕ) (t : State) → Session turns s states written t → IsRunOf turns s states written t
session-runs [] s states written t (none, nothing, is) = record {
  through = [];
  last = s;
  run = (refl, nothing, refl);
  all = subst (λ (states : List State). AllZip IsRecorded states []) (sym none) tt;
  same = record { left = []; is = sym is };
}
session-runs (turn ∷ turns) s states written t session =
    let it : GoesOn (has_living s) turn turns (with_keys s (script (turn ∷ turns))) states written t = goes-on (has_living s) turn turns s states written t (session-runs turns) session in
    record { through = it.through; last = it.last; run = it.run; all = it.all; same = it.same }
