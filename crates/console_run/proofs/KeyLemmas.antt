-- Keys of TERM that are loaded.
use Rattle.std.proofs.Common.{◌≡◌, ℕ, ◌+◌, ◌<◌, ◌==◌, Bool, true, false, suc, None, List, [], ◌∷◌, ◌++◌, get_or, length, map, filter, refl, sym, ap, ◌∙◌, All, append-nil, arith}
use Rattle.std.specs.Prelude.{IsFalse, IsTrue}
use Rattle.std.specs.List.{flat_map}
use Rattle.std.proofs.lemmas.Bool.{ne_eqb}
use Rattle.std.proofs.lemmas.List.{append_assoc, map-append}
use Rattle.std.proofs.lemmas.List.Concat.{flat_map-append}
use Rattle.std.proofs.lemmas.List.Elements.{All-cons, All-head, All-nil, All-tail, All-weaker, filter-append}
use Rattle.std.proofs.lemmas.Option.{none-some, same_Some}
use Rattle.os9_outer.specs.Terminal.{due_byte}
use Rattle.os9_outer.specs.TerminalState.{TerminalState, ChangesOneTerminal}
use Rattle.os9_outer.specs.declared.terminal.Key.{Key}
use Rattle.boot_run.specs.Loaded.{HasNoKeys, keys_for, loaded, loaded_from}
use Rattle.script_text.specs.declared.script.ScriptKey.{ScriptKey}
use Rattle.script_text.specs.Script.{key_at}
use Rattle.run_laws.specs.Session.{AreLater, Keys, keys_loaded, keys_then}
use Rattle.console_run.specs.Kept.{IsKept, load_of}
use Rattle.console_run.specs.Typed.{kept_keys, keys_of_parts, keys_typed, part_bytes}
use Rattle.console_run.specs.Waiting.{term_keys}
use Rattle.console_run.specs.declared.typed.Typed.{Typed}
use Rattle.console_run.specs.declared.typed.TypedPart.{TypedPart}

-- a key of TERM that is due in this tick
pub record IsTyped (tick : ℕ) (key : ScriptKey) : Type 0 where
  pub term : key.term ≡ 0
  pub due : key.tick ≡ tick

-- a key of TERM
abbrev pub IsOfTerm : ScriptKey → Type 0
IsOfTerm key = key.term ≡ 0

pub of-term : (tick : ℕ) (keys : List ScriptKey) → All (IsTyped tick) keys → All IsOfTerm keys
of-term tick keys typed = All-weaker (IsTyped tick) IsOfTerm (λ key it. it.term) keys typed

-- ---- what terminals have that were loaded

pub count-loaded : (terms : List TerminalState) (keys : Keys) → length (keys_loaded terms keys) ≡ length terms
count-loaded terms [] = refl
count-loaded [] (k ∷ ks) = refl
count-loaded (term ∷ terms) (k ∷ ks) = ap suc (count-loaded terms ks)

-- the terminals behind TERM get none of them
for-others : (number : ℕ) (keys : List ScriptKey) → All IsOfTerm keys → keys_for (suc number) keys ≡ []
for-others number [] typed = refl
for-others number (key ∷ keys) typed =
    let first : key.term ≡ 0 = All-head IsOfTerm key keys typed in
    rw (ne_eqb key.term (suc number) (λ e. absurd (omega (arith, e, first)))) (for-others number keys (All-tail IsOfTerm key keys typed))

others-same : (number : ℕ) (keys : List ScriptKey) (terms : List TerminalState) → All IsOfTerm keys → All HasNoKeys terms → loaded_from (suc number) keys terms ≡ terms
others-same number keys [] typed none = refl
others-same number keys (term ∷ terms) typed none =
    let now : List Key = keys_for (suc number) keys in
    let same : now ≡ term.keys = for-others number keys typed ∙ sym (All-head HasNoKeys term terms none) in
    λ i. record term { keys = same i } ∷ others-same (suc number) keys terms typed (All-tail HasNoKeys term terms none) i

-- terminals without keys that are loaded with keys of TERM
pub loaded-typed : (keys : List ScriptKey) (terms : List TerminalState) → All IsOfTerm keys → All HasNoKeys terms → loaded keys terms ≡ keys_loaded terms (load_of keys)
loaded-typed keys [] typed none = refl
loaded-typed keys (term ∷ terms) typed none =
    let same : keys_for 0 keys ≡ term.keys ++ keys_for 0 keys = ap (λ (front : List Key). front ++ keys_for 0 keys) (sym (All-head HasNoKeys term terms none)) in
    λ i. record term { keys = same i } ∷ others-same 0 keys terms typed (All-tail HasNoKeys term terms none) i

-- no keys change nothing
pub loaded-none : (terms : List TerminalState) → keys_loaded terms ([] ∷ []) ≡ terms
loaded-none [] = refl
loaded-none (term ∷ terms) = λ i. record term { keys = append-nil term.keys i } ∷ terms

-- keys of TERM, others of it and more
pub then-then : (one two : List Key) (more : Keys) → keys_then (one ∷ []) (keys_then (two ∷ []) more) ≡ keys_then ((one ++ two) ∷ []) more
then-then one two [] = refl
then-then one two (keys ∷ more) = ap (λ (keys : List Key). keys ∷ more) (sym (append_assoc one two keys))

-- ---- when they are due

due-later : (tick : ℕ) (keys : List ScriptKey) → All (IsTyped (tick + 1)) keys → due_byte (keys_for 0 keys) tick ≡ None
due-later tick [] typed = refl
due-later tick (key ∷ keys) typed =
    let first : IsTyped (tick + 1) key = All-head (IsTyped (tick + 1)) key keys typed in
    rw (first.term, first.due) (search arith)

pub load-later : (tick : ℕ) (keys : List ScriptKey) → All (IsTyped (tick + 1)) keys → AreLater tick (load_of keys)
load-later tick keys typed = (due-later tick keys typed, tt)

pub keys-more : (keys load : List ScriptKey) → keys_for 0 (keys ++ load) ≡ keys_for 0 keys ++ keys_for 0 load
keys-more keys load =
    let own : ScriptKey → Bool = λ key. key.term == 0 in
    let bare : ScriptKey → Key = λ key. record { tick = key.tick; byte = key.byte } in
    ap (map bare) (filter-append own keys load) ∙ map-append bare (filter own keys) (filter own load)

-- ---- one terminal of a list was loaded

-- the keys of the first driver of a list are those of TERM
pub first-keys : {Driver : Type 0} (screen : Driver → TerminalState) (drivers : List Driver) (here : Driver)
    → 0 < length drivers → here ≡ get_or drivers 0 here → term_keys (map screen drivers) ≡ (screen here).keys
first-keys screen [] here some is = absurd (omega (arith, some))
first-keys screen (driver ∷ drivers) here some is = ap (λ driver. (screen driver).keys) (sym is)

-- a terminal without keys was loaded with these
pub loads-empty : (keys : List Key) (old new : TerminalState) → old.keys ≡ [] → new.keys ≡ keys → new.put ≡ old.put → new.faults ≡ old.faults → new ≡ record old { keys = old.keys ++ keys }
loads-empty keys old new none loaded put faults =
    let same : new.keys ≡ old.keys ++ keys = loaded ∙ ap (λ (front : List Key). front ++ keys) (sym none) in
    λ i. record { keys = same i; put = put i; faults = faults i }

pub first-loaded : (keys : List Key) (before now : List TerminalState) → ChangesOneTerminal
    (λ old new. new ≡ record old { keys = old.keys ++ keys }) 0 before now → now ≡ keys_loaded before (keys ∷ [])
first-loaded keys [] now (old, new, here, set, changed) = absurd (none-some old here)
first-loaded keys (term ∷ terms) now (old, new, here, set, changed) =
    set ∙ (λ i. changed i ∷ terms) ∙ ap (λ (at : TerminalState). record at { keys = at.keys ++ keys } ∷ terms) (sym (same_Some term old here))

pub first-kept : (before now : List TerminalState) → ChangesOneTerminal (λ old new. new ≡ old) 0 before now → now ≡ before
first-kept [] now (old, new, here, set, changed) = absurd (none-some old here)
first-kept (term ∷ terms) now (old, new, here, set, changed) =
    set ∙ (λ i. changed i ∷ terms) ∙ ap (λ (at : TerminalState). at ∷ terms) (sym (same_Some term old here))

-- no keys were loaded: it has those that it had
pub keeps-keys : (took : Bool) (old new : TerminalState) → (IsTrue took → new.keys ≡ [])
    → (IsTrue took → old.keys ≡ []) → (IsFalse took → new.keys ≡ old.keys) → new.put ≡ old.put
    → new.faults ≡ old.faults → new ≡ old
keeps-keys true old new loaded was kept put faults =
    let same : new.keys ≡ old.keys = loaded refl ∙ sym (was refl) in
    λ i. record { keys = same i; put = put i; faults = faults i }
keeps-keys false old new loaded was kept put faults =
    let same : new.keys ≡ old.keys = kept refl in
    λ i. record { keys = same i; put = put i; faults = faults i }

-- ---- the keys of a part of a line

pub all-typed : (tick : ℕ) (bytes : List ℕ) → All (IsTyped tick) (keys_typed tick bytes)
all-typed tick [] = All-nil (IsTyped tick)
all-typed tick (byte ∷ bytes) =
    All-cons (IsTyped tick) (key_at tick 0 byte) (keys_typed tick bytes) (record { term = refl; due = refl }) (all-typed tick bytes)

abbrev pub key_of : ℕ → ℕ → Key
key_of tick byte = record { tick = tick; byte = byte }

pub own-keys : (tick : ℕ) (bytes : List ℕ) → keys_for 0 (keys_typed tick bytes) ≡ map (key_of tick) bytes
own-keys tick [] = refl
own-keys tick (byte ∷ bytes) = ap (λ (rest : List Key). key_of tick byte ∷ rest) (own-keys tick bytes)

-- it is kept behind the others
pub part-kept : (old new : Typed) (part : TypedPart) (tick : ℕ) (bytes : List ℕ) → new.parts.items ≡ old.parts.items
    ++ part ∷ [] → part.tick ≡ tick → part_bytes part ≡ bytes → kept_keys new ≡ kept_keys old ++ keys_typed tick bytes
part-kept old new part tick bytes more due is =
    let keys : TypedPart → List ScriptKey = λ part. keys_typed part.tick (part_bytes part) in
    ap (flat_map keys) more
    ∙ flat_map-append keys old.parts.items (part ∷ [])
    ∙ ap (λ (rest : List ScriptKey). kept_keys old ++ rest) (append-nil (keys part))
    ∙ (λ i. kept_keys old ++ keys_typed (due i) (is i))

-- nothing was typed yet
pub none-kept : (typed : Typed) → typed.parts.items ≡ [] → kept_keys typed ≡ []
none-kept typed none = ap keys_of_parts none

-- what is kept is as it was
pub keys-still : (typed now : Typed) → IsKept typed now → kept_keys now ≡ kept_keys typed
keys-still typed now same = ap keys_of_parts same.parts
