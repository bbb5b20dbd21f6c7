-- What two states that are equal but for later keys do is the same.
use Rattle.std.proofs.Common.{◌≡◌, ◌⊎◌, ℕ, zero, suc, ◌+◌, ◌≤◌, Bool, true, false, Option, Some, None, List, [], ◌∷◌, ◌++◌, length, replicate, slice_get, slice_set, refl, sym, ap, ◌∙◌, subst, inl, inr, arith}
use Rattle.std.specs.Prelude.{All, MatchOption, if◌then◌else◌, nat_le}
use Rattle.std.specs.List.{AllZip}
use Rattle.std.proofs.lemmas.Bool.{le-leb, leb-true}
use Rattle.std.proofs.lemmas.List.{append_assoc}
use Rattle.std.proofs.lemmas.List.Elements.{All-head, All-tail, length_all_zip}
use Rattle.std.proofs.lemmas.Option.{none-some}
use Rattle.os9_base.specs.Count.{Rose}
use Rattle.os9_base.specs.declared.registers.TimePacket.{TimePacket}
use Rattle.os9_outer.specs.Stream.{stream_with, GainsPart}
use Rattle.os9_outer.specs.Terminal.{due_byte}
use Rattle.os9_outer.specs.TerminalState.{TerminalState, ChangesOneTerminal}
use Rattle.os9_outer.specs.declared.terminal.Key.{Key}
use Rattle.io_model.specs.Terminal.{Arrives, TerminalReadAttempt, RoseTimes, Terminal, TerminalWriteAttempt}
use Rattle.os9_base.specs.declared.registers.Pid.{Pid}
use Rattle.io_model.specs.declared.keys.TheConstants.{BELL}
use Rattle.io_model.specs.declared.terminal.Arrival.{Arrival}
use Rattle.io_model.specs.declared.terminal.Progress.{Progress}
use Rattle.io_model.specs.declared.terminal.Reading.{Reading}
use Rattle.io_model.specs.Arrivals.{Arrivals, ArrivesAt, ArrivesFrom, Desk}
use Rattle.io_model.specs.Io.{Io, terminal_at}
use Rattle.machine_model.specs.Run.{Choose, Tick, desk_of}
use Rattle.machine_model.specs.State.{State}
use Rattle.file_rules.specs.Files.{with_io}
use Rattle.run_laws.specs.Later.{AreSameBut, UnsharedKeys, SameBut, SameTo, SameTickTo, SameChoiceTo}

-- ---- lists of terminals

module _ (later : ℕ) where
  -- a terminal, and the other one at its place; both may be set
  pub record At (rests : List UnsharedKeys) (xs ys : List TerminalState) (n : ℕ) (x : TerminalState) : Type 0 where
    pub rest : UnsharedKeys
    pub y : TerminalState
    pub there : slice_get ys n ≡ Some y
    pub same : SameBut later rest x y
    pub set : (a b : TerminalState) → SameBut later rest a b → AreSameBut later rests (slice_set xs n a) (slice_set ys n b)

  pub at-zip : (rests : List UnsharedKeys) (xs ys : List TerminalState) (n : ℕ) (x : TerminalState) → AreSameBut later rests xs ys → slice_get xs n ≡ Some x → At rests xs ys n x
  at-zip rests [] ys n x all is = absurd (none-some x is)
  at-zip [] (a ∷ xs) ys n x all is = absurd all
  at-zip (r ∷ rests) (a ∷ xs) [] n x all is = absurd all
  at-zip (r ∷ rests) (a ∷ xs) (b ∷ ys) zero x all is =
      let same : a ≡ x = cc in
      record { rest = r; y = b; there = refl; same = subst (λ (a : TerminalState). SameBut later r a b) same all.0; set = λ c d now. (now, all.1) }
  at-zip (r ∷ rests) (a ∷ xs) (b ∷ ys) (suc n) x all is =
      let it : At rests xs ys n x = at-zip rests xs ys n x all.1 is in
      record { rest = it.rest; y = it.y; there = it.there; same = it.same; set = λ c d now. (all.0, it.set c d now) }

  pub length-all : (rests : List UnsharedKeys) (xs ys : List TerminalState) → AreSameBut later rests xs ys → length xs ≡ length ys
  length-all [] [] [] all = refl
  length-all [] [] (y ∷ ys) all = absurd all
  length-all [] (x ∷ xs) ys all = absurd all
  length-all (r ∷ rests) [] ys all = absurd all
  length-all (r ∷ rests) (x ∷ xs) [] all = absurd all
  length-all (r ∷ rests) (x ∷ xs) (y ∷ ys) all = ap suc (length-all rests xs ys all.1)

-- ---- keys

due-not : (key : Key) (keys : List Key) (tick : ℕ) → key.tick ≤ tick → due_byte (key ∷ keys) tick ≡ None → ⊥
due-not key keys tick due none =
    none-some key.byte (sym none ∙ ap (λ (there : Bool). if there then Some key.byte else None) (le-leb key.tick tick due))

-- what is not due in a tick is not due before it
earlier : (keys : List Key) (tick later : ℕ) → tick ≤ later → due_byte keys later ≡ None → due_byte keys tick ≡ None
earlier [] tick later before none = refl
earlier (key ∷ keys) tick later before none = by_due (nat_le key.tick tick) refl
  where
    by_due : (due : Bool) → nat_le key.tick tick ≡ due → (if due then Some key.byte else None) ≡ None
    by_due false is = refl
    by_due true is = absurd (due-not key keys later (due-later (leb-true key.tick tick is)) none)
      where
        due-later : key.tick ≤ tick → key.tick ≤ later
        due-later due = omega (arith, due, before)

-- the keys that arrive are of the common front
record OfFront (front taken left rest : List Key) : Type 0 where
  pub mid : List Key
  pub front_is : front ≡ taken ++ mid
  pub rest_is : rest ≡ mid ++ left

of-front : (tick later : ℕ) (front taken left rest : List Key) → tick ≤ later → due_byte left later ≡ None
    → All (λ (key : Key). key.tick ≤ tick) taken → front ++ left ≡ taken ++ rest → OfFront front taken left rest
of-front tick later front [] left rest before none due is = record { mid = front; front_is = refl; rest_is = sym is }
of-front tick later [] (x ∷ taken) left rest before none due is =
    absurd (due-not x (taken ++ rest) tick (All-head (λ (key : Key). key.tick ≤ tick) x taken due) (sym (ap (λ (keys : List Key). due_byte keys tick) is) ∙ earlier left tick later before none))
of-front tick later (y ∷ front) (x ∷ taken) left rest before none due is =
    let first : y ≡ x = cc in
    let after : front ++ left ≡ taken ++ rest = cc in
    let it : OfFront front taken left rest = of-front tick later front taken left rest before none (All-tail (λ (key : Key). key.tick ≤ tick) x taken due) after in
    record { mid = it.mid; front_is = λ i. first i ∷ it.front_is i; rest_is = it.rest_is }

-- with other keys behind them none is due either
none-behind : (tick : ℕ) (mid left other : List Key) → due_byte other tick ≡ None → due_byte (mid ++ left) tick ≡ None → due_byte (mid ++ other) tick ≡ None
none-behind tick [] left other none is = none
none-behind tick (key ∷ mid) left other none is = is

-- ---- one terminal in a tick

record ArrivesToo (tick later : ℕ) (rests : UnsharedKeys) (old new : Terminal) (answer : Arrival) (now other : TerminalState) : Type 0 where
  pub last : TerminalState
  pub arrives : Arrives tick old new other last answer
  pub same : SameBut later rests now last

arrives-too : (tick later : ℕ) (rests : UnsharedKeys) (old new : Terminal) (before now other : TerminalState)
    (answer : Arrival) → tick ≤ later → SameBut later rests before other → Arrives tick old new before now answer
    → ArrivesToo tick later rests old new answer now other
arrives-too tick later rests old new before now other answer below same it =
    let cut : OfFront same.front it.taken rests.one now.keys = of-front tick later same.front it.taken rests.one now.keys below same.later it.due (sym same.keys ∙ it.in_order) in
    record {
      last = record { keys = cut.mid ++ rests.other; put = now.put; faults = now.faults };
      arrives = record {
        taken = it.taken;
        bells = it.bells;
        mute = it.mute;
        broken = it.broken;
        once = it.once;
        in_order =
            same.other_keys ∙ ap (λ (front : List Key). front ++ rests.other) cut.front_is ∙ append_assoc it.taken cut.mid rests.other;
        due = it.due;
        kept = it.kept;
        signal = it.signal;
        put = it.put ∙ ap (λ (put : Option (List ℕ)). stream_with put (replicate it.bells BELL)) (sym same.put);
        faults = subst (λ (before : ℕ). RoseTimes (it.mute + it.broken) before now.faults) (sym same.faults) it.faults;
        every_bell = it.every_bell;
        last_bell = it.last_bell;
        all_taken = λ memory whole.
            none-behind tick cut.mid rests.one rests.other (earlier rests.other tick later below same.other_later)
            (ap (λ (keys : List Key). due_byte keys tick) (sym cut.rest_is) ∙ it.all_taken memory whole);
        unbroken = it.unbroken;
      };
      same = record {
        front = cut.mid;
        keys = cut.rest_is;
        other_keys = refl;
        later = same.later;
        other_later = same.other_later;
        put = refl;
        faults = refl;
      };
    }

-- ---- a tick

abbrev with_terms : Desk → List TerminalState → Desk
with_terms desk terms = record desk { terms = terms }

record DeskToo (later : ℕ) (rests : List UnsharedKeys) (new : Desk) (Comes : Desk → Type 0) : Type 0 where
  pub terms : List TerminalState
  pub comes : Comes (with_terms new terms)
  pub same : AreSameBut later rests new.terms terms

at-too : (tick later n : ℕ) (rests : List UnsharedKeys) (old new : Desk) (terms : List TerminalState) → tick ≤ later
    → AreSameBut later rests old.terms terms → ArrivesAt tick n old new → DeskToo later rests new
    (ArrivesAt tick n (with_terms old terms))
at-too tick later n rests old new terms below all it =
    let here : At later rests old.terms terms n it.device.0 = at-zip later rests old.terms terms n it.device.0 all it.device.2 in
    let too : ArrivesToo tick later here.rest (terminal_at old.io n) it.terminal it.answer it.device.1 here.y =
    arrives-too tick later here.rest (terminal_at old.io n) it.terminal it.device.0 it.device.1 here.y it.answer
    below here.same it.device.4 in
    record {
      terms = slice_set terms n too.last;
      comes = record {
        answer = it.answer;
        terminal = it.terminal;
        memory = it.memory;
        device = (here.y, too.last, here.there, refl, too.arrives);
        io = it.io;
        signal = it.signal;
      };
      same =
          subst (λ (now : List TerminalState). AreSameBut later rests now (slice_set terms n too.last)) (sym it.device.3) (here.set it.device.1 too.last too.same);
    }

from-too : (tick later n count : ℕ) (rests : List UnsharedKeys) (old new : Desk) (terms : List TerminalState) → tick ≤ later
    → AreSameBut later rests old.terms terms → ArrivesFrom tick n count old new → DeskToo later rests new
    (ArrivesFrom tick n count (with_terms old terms))
from-too tick later n zero rests old new terms below all is =
    record { terms = terms; comes = ap (λ (desk : Desk). with_terms desk terms) is; same = subst (λ (new : Desk). AreSameBut later rests new.terms terms) (sym is) all }
from-too tick later n (suc count) rests old new terms below all (between, here, rest) =
    let first : DeskToo later rests between (ArrivesAt tick n (with_terms old terms)) = at-too tick later n rests old between terms below all here in
    let after : DeskToo later rests new (ArrivesFrom tick (n + 1) count (with_terms between first.terms)) = from-too tick later (n + 1) count rests between new first.terms below first.same rest in
    record { terms = after.terms; comes = (with_terms between first.terms, first.comes, after.comes); same = after.same }

-- the state with these terminals
abbrev pub on_terms : State → List TerminalState → State
on_terms s terms = record s { terms = terms }

pub tick-too : (later : ℕ) (rests : List UnsharedKeys) (s t other : State) → s.processes.tick + 1 ≤ later → SameTo later rests s other → Tick s t → SameTickTo later rests t other
tick-too later rests s t other below same (desk, arrives, is) =
    let all : AreSameBut later rests s.terms other.terms = same.terms in
    let count : length s.terms ≡ length other.terms = length-all later rests s.terms other.terms all in
    let too : DeskToo later rests desk (ArrivesFrom (s.processes.tick + 1) 0 (length s.terms)
    (with_terms (desk_of s) other.terms)) = from-too (s.processes.tick + 1) later 0 (length s.terms) rests (desk_of s)
    desk other.terms below all arrives in
    let there : State = record s { processes = desk.processes; files = with_io s.files desk.io; terms = too.terms } in
    let comes : Tick (on_terms s other.terms) there = (
      with_terms desk too.terms,
      subst
          (λ (n : ℕ). ArrivesFrom (s.processes.tick + 1) 0 n (with_terms (desk_of s) other.terms)
          (with_terms desk too.terms)) count too.comes,
      refl,
    ) in
    record {
      last = there;
      ticks = subst (λ (other : State). Tick other there) (sym same.rest) comes;
      same = subst (λ (t : State). SameTo later rests t there) (sym is) (record { terms = too.same; rest = refl });
    }

pub choice-too : (later : ℕ) (rests : List UnsharedKeys) (s t other : State) → SameTo later rests s other → Choose s t → SameChoiceTo later rests t other
choice-too later rests s t other same is = record {
  last = on_terms t other.terms;
  chooses = subst (λ (other : State). Choose other (on_terms t other.terms)) (sym same.rest) (ap (λ (t : State). on_terms t other.terms) is);
  same = record { terms = subst (λ (t : State). AreSameBut later rests t.terms other.terms) (sym is) same.terms; rest = refl };
}
