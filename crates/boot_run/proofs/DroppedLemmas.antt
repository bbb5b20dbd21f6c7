-- Terminals whose keys are taken, one after another.
use Rattle.std.proofs.Common.{◌≡◌, ℕ, zero, suc, ◌+◌, ◌<◌, ◌≤◌, ◌^◌, Bool, true, false, Some, None, List, [], ◌∷◌, length, slice_get, slice_set, All, refl, sym, ap, ◌∙◌, subst, arith}
use Rattle.std.specs.Prelude.{OnOk, OnErr, Result, Ok, Err, nat_le}
use Rattle.std.specs.List.{AllZip}
use Rattle.std.proofs.lemmas.List.Elements.{All-head, All-tail}
use Rattle.std.proofs.lemmas.Bool.{leb-false}
use Rattle.std.proofs.lemmas.Option.{none-some, same_Some}
use Rattle.os9_base.specs.Count.{Rose}
use Rattle.os9_outer.specs.Terminal.{due_byte, keys_after}
use Rattle.os9_outer.specs.TerminalState.{TerminalState, ChangesOneTerminal, fault_counts}
use Rattle.os9_outer.specs.declared.terminal.Key.{Key}
use Rattle.os9_outer.specs.declared.terminal.TermFault.{TermFault}
use Rattle.boot_run.specs.Dropped.{DropsKeys, FailsAt, LosesKeys, CanBeTaken}

-- ---- the keys of one

abbrev pub last_tick : ℕ
last_tick = 4294967295

-- no key is due: there is none
pub none-due : (keys : List Key) → All CanBeTaken keys → due_byte keys last_tick ≡ None → keys ≡ []
none-due [] typed none = refl
none-due (key ∷ keys) typed none = by_test (nat_le key.tick last_tick) refl none
  where
    by_test : (due : Bool) → nat_le key.tick last_tick ≡ due → due_byte (key ∷ keys) last_tick ≡ None → key ∷ keys ≡ []
    by_test true is none = absurd (none-some key.byte (sym none ∙ (rw is refl)))
    by_test false is none = absurd (let early : key.tick < 2 ^ 32 = All-head CanBeTaken key keys typed in let late :
        last_tick < key.tick = leb-false key.tick last_tick is in omega (arith, early, late))

-- a key was due: it is gone
pub one-due : (keys : List Key) (byte : ℕ) → due_byte keys last_tick ≡ Some byte → length (keys_after keys last_tick) < length keys
one-due [] byte some = absurd (none-some byte some)
one-due (key ∷ keys) byte some = by_test (nat_le key.tick last_tick) refl some
  where
    by_test : (due : Bool) → nat_le key.tick last_tick ≡ due → due_byte (key ∷ keys) last_tick ≡ Some byte → length (keys_after (key ∷ keys) last_tick) < suc (length keys)
    by_test true is some = rw is (omega arith)
    by_test false is some = absurd (none-some byte ((rw is refl) ∙ some))

pub typed-after : (keys : List Key) → All CanBeTaken keys → All CanBeTaken (keys_after keys last_tick)
typed-after [] typed = typed
typed-after (key ∷ keys) typed = by_test (nat_le key.tick last_tick) refl
  where
    by_test : (due : Bool) → nat_le key.tick last_tick ≡ due → All CanBeTaken (keys_after (key ∷ keys) last_tick)
    by_test true is = rw is (All-tail CanBeTaken key keys typed)
    by_test false is = rw is typed

-- ---- all of them

-- the keys of so many first terminals are taken
abbrev pub Dropped : ℕ → List TerminalState → List TerminalState → Type 0
Dropped zero before now = now ≡ before
Dropped (suc n) [] now = now ≡ []
Dropped (suc n) (x ∷ before) [] = ⊥
Dropped (suc n) (x ∷ before) (y ∷ now) = LosesKeys x y × Dropped n before now

-- no count of faults changed
counts-dropped : (n : ℕ) (before now : List TerminalState) → Dropped n before now → fault_counts now ≡ fault_counts before
counts-dropped zero before now same = ap fault_counts same
counts-dropped (suc n) [] now none = ap fault_counts none
counts-dropped (suc n) (x ∷ before) [] none = absurd none
counts-dropped (suc n) (x ∷ before) (y ∷ now) (first, rest) =
    ap (λ faults. faults ∷ fault_counts now) first.faults ∙ ap (λ counts. x.faults ∷ counts) (counts-dropped n before now rest)

set-next : (n : ℕ) (before mid : List TerminalState) (old new : TerminalState) → Dropped n before mid → slice_get mid n ≡ Some old → LosesKeys old new → Dropped (suc n) before (slice_set mid n new)
set-next zero [] mid old new same is dropped = absurd (let bad : None ≡ Some old = (sym (ap (λ (list : List TerminalState). slice_get list 0) same)) ∙ is in none-some old bad)
set-next zero (x ∷ before) mid old new same is dropped =
    let here : Some x ≡ Some old = sym (ap (λ (list : List TerminalState). slice_get list 0) same) ∙ is in
    subst (λ (list : List TerminalState). Dropped (suc zero) (x ∷ before) (slice_set list 0 new)) (sym same)
    (subst (λ (o : TerminalState). LosesKeys o new) (sym (same_Some x old here)) dropped, refl)
set-next (suc n) [] mid old new none is dropped = absurd (let bad : None ≡ Some old = (sym (ap (λ (list : List TerminalState). slice_get list (suc n)) none)) ∙ is in none-some old bad)
set-next (suc n) (x ∷ before) [] old new none is dropped = absurd none
set-next (suc n) (x ∷ before) (y ∷ mid) old new (first, rest) is dropped = (first, set-next n before mid old new rest is dropped)

-- one more
pub dropped-more : (n : ℕ) (before mid now : List TerminalState) → Dropped n before mid → ChangesOneTerminal LosesKeys n mid now → Dropped (n + 1) before now
dropped-more n before mid now so_far (old, new, is, set, drops) =
    let next : suc n ≡ n + 1 = omega arith in
    subst (Dropped (n + 1) before) (sym set) (subst (λ (k : ℕ). Dropped k before (slice_set mid n new)) next (set-next n before mid old new so_far is drops))

-- the counts where one terminal changed
counts-set : (n : ℕ) (list : List TerminalState) (new : TerminalState) → fault_counts (slice_set list n new) ≡ slice_set (fault_counts list) n new.faults
counts-set n [] new = refl
counts-set zero (x ∷ list) new = refl
counts-set (suc n) (x ∷ list) new = ap (λ counts. x.faults ∷ counts) (counts-set n list new)

count-at : (n : ℕ) (list : List TerminalState) (old : TerminalState) → slice_get list n ≡ Some old → slice_get (fault_counts list) n ≡ Some old.faults
count-at n [] old is = absurd (none-some old is)
count-at zero (x ∷ list) old is = ap (λ (terminal : TerminalState). Some terminal.faults) (same_Some x old is)
count-at (suc n) (x ∷ list) old is = count-at n list old is

-- the next one failed
pub fails-next : (n : ℕ) (before mid now : List TerminalState) → Dropped n before mid → ChangesOneTerminal (λ old new. Rose old.faults new.faults) n mid now → FailsAt n before now
fails-next n before mid now so_far (old, new, is, set, rose) =
    let kept : fault_counts mid ≡ fault_counts before = counts-dropped n before mid so_far in
    record {
      old = old.faults;
      new = new.faults;
      is = ap (λ counts. slice_get counts n) (sym kept) ∙ count-at n mid old is;
      rose = rose;
      counts = ap fault_counts set ∙ counts-set n mid new ∙ ap (λ counts. slice_set counts n new.faults) kept;
    }

-- all of them
pub dropped-all : (n : ℕ) (before now : List TerminalState) → length before ≤ n → Dropped n before now → AllZip LosesKeys before now
dropped-all zero [] now all same = subst (AllZip LosesKeys []) (sym same) tt
dropped-all zero (x ∷ before) now all same = absurd (omega (arith, all))
dropped-all (suc n) [] now all none = subst (AllZip LosesKeys []) (sym none) tt
dropped-all (suc n) (x ∷ before) [] all none = absurd none
dropped-all (suc n) (x ∷ before) (y ∷ now) all (first, rest) = (first, dropped-all n before now (omega (arith, all)) rest)

-- ---- one terminal

pub drops-from : (answer : Result (Unit {0}) TermFault) (old new : TerminalState)
    → OnOk answer (All CanBeTaken old.keys → new.keys ≡ []) → OnOk answer (new.faults ≡ old.faults)
    → OnOk answer (new.put ≡ old.put) → OnErr answer (Rose old.faults new.faults) → DropsKeys answer old new
drops-from (Ok value) old new none faults put failed = record { none = none; put = put; faults = faults }
drops-from (Err fault) old new none faults put failed = failed
