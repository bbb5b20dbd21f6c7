-- Terminals that are loaded one after another, from the last.
use Rattle.std.proofs.Common.{◌≡◌, ℕ, ◌<◌, ◌+◌, suc, zero, Option, option_map, Some, List, [], ◌∷◌, ◌++◌, length, map, take, drop, get_or, slice_get, slice_set, refl, sym, ap, ◌∙◌, All, append-nil, add-one, arith}
use Rattle.std.proofs.lemmas.List.Elements.{All-head, All-tail}
use Rattle.std.proofs.lemmas.Option.{slice_get-map, slice_get_read}
use Rattle.os9_outer.specs.declared.terminal.Key.{Key}
use Rattle.os9_outer.specs.TerminalState.{TerminalState, ChangesOneTerminal}
use Rattle.script_text.specs.declared.script.ScriptKey.{ScriptKey}
use Rattle.boot_run.specs.Loaded.{keys_for, with_keys, loaded_from, HasNoKeys, AreKeysLoaded, LoadsTerminalsFrom}

-- the state of the terminal whose driver stands at a place
pub state-at : {Driver : Type 0} (screen : Driver → TerminalState) (drivers : List Driver) (n : ℕ) (driver : Driver)
    → n < length drivers → driver ≡ get_or drivers n driver → slice_get (map screen drivers) n ≡ Some (screen driver)
state-at screen drivers n driver inside here =
    slice_get-map screen drivers n ∙ ap (option_map screen) (slice_get_read drivers (length drivers) n driver refl inside here)

-- what was loaded on the terminal of a driver
pub is-loaded : (keys : List Key) (old new : TerminalState) → new.keys ≡ keys → new.put ≡ old.put → new.faults ≡ old.faults → AreKeysLoaded keys old new
is-loaded keys old new loaded put faults =
    let by : List Key → Option (List ℕ) → ℕ → TerminalState = λ keys put faults. record { keys = keys; put = put; faults = faults } in
    ap (λ k. by k new.put new.faults) loaded ∙ ap (λ p. by keys p new.faults) put ∙ ap (λ f. by keys old.put f) faults

-- the last terminal that is not loaded has no keys
pub unloaded-at : (at : ℕ) (before rest : List TerminalState) (terminal : TerminalState) → All HasNoKeys before
    → at < length before → slice_get (take (suc at) before ++ rest) at ≡ Some terminal → HasNoKeys terminal
unloaded-at at [] rest terminal unloaded inside here = absurd (omega (arith, inside))
unloaded-at zero (first ∷ before) rest terminal unloaded inside here =
    let same : first ≡ terminal = cc in rw (← same) (All-head HasNoKeys first before unloaded)
unloaded-at (suc at) (first ∷ before) rest terminal unloaded inside here =
    unloaded-at at before rest terminal (All-tail HasNoKeys first before unloaded) (omega (arith, inside)) here

-- where the terminals behind one are loaded, and then that one is, it and those behind it are
loads-one : (at number : ℕ) (keys : List ScriptKey) (before : List TerminalState) (old : TerminalState)
    → at < length before → slice_get (take (suc at) before ++ loaded_from (suc number) keys (drop (suc at) before)) at
    ≡ Some old → slice_set (take (suc at) before ++ loaded_from (suc number) keys (drop (suc at) before)) at
    (with_keys (keys_for number keys) old) ≡ take at before ++ loaded_from number keys (drop at before)
loads-one at number keys [] old inside here = absurd (omega (arith, inside))
loads-one zero number keys (terminal ∷ before) old inside here =
    let same : terminal ≡ old = cc in rw same refl
loads-one (suc at) number keys (terminal ∷ before) old inside here =
    ap (λ rest. terminal ∷ rest) (loads-one at number keys before old (omega (arith, inside)) here)

pub loads-more : (number : ℕ) (keys : List ScriptKey) (own : List Key) (before mid now : List TerminalState)
    → number < length before → own ≡ keys_for number keys → LoadsTerminalsFrom (number + 1) keys before mid
    → ChangesOneTerminal (AreKeysLoaded own) number mid now → LoadsTerminalsFrom number keys before now
loads-more number keys own before mid now inside is behind (old, new, here, set, loaded) =
    let there : mid ≡ take (suc number) before ++ loaded_from (suc number) keys (drop (suc number) before) = behind ∙ rw add-one refl in
    set
    ∙ ap (slice_set mid number) loaded
    ∙ ap (λ own. slice_set mid number (with_keys own old)) is
    ∙ ap (λ states. slice_set states number (with_keys (keys_for number keys) old)) there
    ∙ loads-one number number keys before old inside (rw there at here)

all-loaded : (at number : ℕ) (keys : List ScriptKey) (before : List TerminalState) → at ≡ length before → take at before ++ loaded_from number keys (drop at before) ≡ before
all-loaded at number keys [] end = rw end refl
all-loaded zero number keys (terminal ∷ before) end = absurd (omega (arith, end))
all-loaded (suc at) number keys (terminal ∷ before) end =
    ap (λ rest. terminal ∷ rest) (all-loaded at number keys before (omega (arith, end)))

-- where there is no terminal any more, all are loaded
pub loads-none : (number : ℕ) (keys : List ScriptKey) (before : List TerminalState) → number ≡ length before → LoadsTerminalsFrom number keys before before
loads-none number keys before end = sym (all-loaded number number keys before end)
