-- Terminals that are emptied and loaded again are as they were, if none failed.
use Rattle.std.proofs.Common.{◌≡◌, ℕ, suc, ◌+◌, ◌≤◌, min, Bool, true, false, Option, Some, None, All, List, [], ◌∷◌, ◌++◌, length, nat_eq, refl, sym, ap, ◌∙◌, subst, arith}
use Rattle.std.specs.Prelude.{is_some, nat_lt}
use Rattle.std.specs.List.{AllZip, filter}
use Rattle.std.proofs.lemmas.Bool.{false≢true, ltb-true, ltb-false}
use Rattle.std.proofs.lemmas.List.Elements.{All-cons, All-filter, All-head, All-map, All-nil, All-tail}
use Rattle.os9_outer.specs.Stream.{emptied}
use Rattle.os9_outer.specs.TerminalState.{TerminalState}
use Rattle.os9_outer.specs.declared.terminal.Key.{Key}
use Rattle.script_text.specs.declared.script.ScriptKey.{ScriptKey}
use Rattle.boot_run.specs.Loaded.{HasNoKeys, keys_for, loaded_from, with_keys}
use Rattle.boot_run.specs.Dropped.{CanBeTaken, LosesKeys}
use Rattle.machine_model.specs.Console.{terminals_emptied, without_bytes}
use Rattle.machine_model.specs.Terminals.{OnlyGains, TerminalsOnlyGain}
use Rattle.run_laws.specs.Faults.{NotFailed}
use Rattle.os9_debug.specs.Machine.{HasNoBytes, HasKeyTick}

-- ---- keys

keys-taken : (number : ℕ) (keys : List ScriptKey) → All HasKeyTick keys → All CanBeTaken (keys_for number keys)
keys-taken number keys ticks =
    All-map CanBeTaken (λ (key : ScriptKey). record { tick = key.tick; byte = key.byte }) (filter (λ key. nat_eq key.term number) keys)
    (All-filter (λ (key : ScriptKey). nat_eq key.term number) HasKeyTick keys ticks)

rest-taken : (used keys : List Key) → All CanBeTaken (used ++ keys) → All CanBeTaken keys
rest-taken [] keys all = all
rest-taken (key ∷ used) keys all = rest-taken used keys (All-tail CanBeTaken key (used ++ keys) all)

-- ---- one terminal

-- it was loaded, gained, and lost its keys
lost-keys : (keys : List Key) (x y z : TerminalState) → All CanBeTaken keys → OnlyGains (with_keys keys x) y → LosesKeys y z → z.keys ≡ []
lost-keys keys x y z taken gains loses =
    loses.none (rest-taken gains.keys.0 y.keys (subst (All CanBeTaken) gains.keys.1 taken))

observed : (put : Option (List ℕ)) → is_some (emptied put) ≡ is_some put
observed None = refl
observed (Some bytes) = refl

-- it has gained, where it is loaded again
gains-again : (keys : List Key) (x y z : TerminalState) → OnlyGains (with_keys keys x) y → LosesKeys y z → OnlyGains (with_keys keys x) (with_keys keys (without_bytes z))
gains-again keys x y z gains loses = record {
  keys = ([], refl);
  faults = omega (arith, gains.faults, loses.faults);
  observed = observed z.put ∙ ap (λ put. is_some put) loses.put ∙ gains.observed;
}

same-put : (now was : Option (List ℕ)) → is_some now ≡ is_some was → was ≡ emptied was → emptied now ≡ was
same-put None None same none = refl
same-put None (Some was) same none = absurd (false≢true same)
same-put (Some now) None same none = absurd (false≢true (sym same))
same-put (Some now) (Some was) same none = sym none

stood : (most a b : ℕ) → a ≤ b → (min (a + 1) most ≤ b → ⊥) → b ≡ a
stood most a b up none = by_test (nat_lt a b) refl
  where
    by_test : (more : Bool) → nat_lt a b ≡ more → b ≡ a
    by_test true is = absurd (none (omega (arith, ltb-true a b is)))
    by_test false is = omega (arith, up, ltb-false a b is)

-- it is as it was
same-again : (keys : List Key) (x y z : TerminalState) → All CanBeTaken keys → HasNoKeys x → HasNoBytes x
    → OnlyGains (with_keys keys x) y → LosesKeys y z → NotFailed x (without_bytes z) → without_bytes z ≡ x
same-again keys x y z taken no_keys no_bytes gains loses none =
    let kept : z.keys ≡ x.keys = lost-keys keys x y z taken gains loses ∙ sym no_keys in
    let put : emptied z.put ≡ x.put = same-put z.put x.put (ap (λ put. is_some put) loses.put ∙ gains.observed) no_bytes in
    let faults : z.faults ≡ x.faults = stood _ x.faults z.faults (omega (arith, gains.faults, loses.faults)) none in
    λ i. record { keys = kept i; put = put i; faults = faults i }

-- ---- all of them

pub unloaded-again : (number : ℕ) (keys : List ScriptKey) (a b c : List TerminalState) → All HasKeyTick keys
    → TerminalsOnlyGain (loaded_from number keys a) b → AllZip LosesKeys b c → All HasNoKeys (terminals_emptied c)
unloaded-again number keys [] [] [] ticks gains loses = All-nil HasNoKeys
unloaded-again number keys [] [] (z ∷ c) ticks gains loses = absurd loses
unloaded-again number keys [] (y ∷ b) c ticks gains loses = absurd gains
unloaded-again number keys (x ∷ a) [] c ticks gains loses = absurd gains
unloaded-again number keys (x ∷ a) (y ∷ b) [] ticks gains loses = absurd loses
unloaded-again number keys (x ∷ a) (y ∷ b) (z ∷ c) ticks gains loses =
    All-cons HasNoKeys (without_bytes z) (terminals_emptied c)
    (lost-keys (keys_for number keys) x y z (keys-taken number keys ticks) gains.0 loses.0)
    (unloaded-again (suc number) keys a b c ticks gains.1 loses.1)

pub loaded-again : (number : ℕ) (keys : List ScriptKey) (a b c : List TerminalState) → TerminalsOnlyGain
    (loaded_from number keys a) b → AllZip LosesKeys b c → TerminalsOnlyGain (loaded_from number keys a)
    (loaded_from number keys (terminals_emptied c))
loaded-again number keys [] [] [] gains loses = tt
loaded-again number keys [] [] (z ∷ c) gains loses = absurd loses
loaded-again number keys [] (y ∷ b) c gains loses = absurd gains
loaded-again number keys (x ∷ a) [] c gains loses = absurd gains
loaded-again number keys (x ∷ a) (y ∷ b) [] gains loses = absurd loses
loaded-again number keys (x ∷ a) (y ∷ b) (z ∷ c) gains loses =
    (gains-again (keys_for number keys) x y z gains.0 loses.0, loaded-again (suc number) keys a b c gains.1 loses.1)

pub first-again : (number : ℕ) (keys : List ScriptKey) (a b c : List TerminalState) → All HasKeyTick keys
    → All HasNoKeys a → All HasNoBytes a → TerminalsOnlyGain (loaded_from number keys a) b → AllZip LosesKeys b c
    → AllZip NotFailed a (terminals_emptied c) → terminals_emptied c ≡ a
first-again number keys [] [] [] ticks no_keys no_bytes gains loses none = refl
first-again number keys [] [] (z ∷ c) ticks no_keys no_bytes gains loses none = absurd loses
first-again number keys [] (y ∷ b) c ticks no_keys no_bytes gains loses none = absurd gains
first-again number keys (x ∷ a) [] c ticks no_keys no_bytes gains loses none = absurd gains
first-again number keys (x ∷ a) (y ∷ b) [] ticks no_keys no_bytes gains loses none = absurd loses
first-again number keys (x ∷ a) (y ∷ b) (z ∷ c) ticks no_keys no_bytes gains loses none =
    let here : without_bytes z ≡ x = same-again (keys_for number keys) x y z (keys-taken number keys ticks)
    (All-head HasNoKeys x a no_keys) (All-head HasNoBytes x a no_bytes) gains.0 loses.0 none.0 in
    let rest : terminals_emptied c ≡ a = first-again (suc number) keys a b c ticks (All-tail HasNoKeys x a no_keys) (All-tail HasNoBytes x a no_bytes) gains.1 loses.1 none.1 in
    ap (λ (terminal : TerminalState). terminal ∷ terminals_emptied c) here ∙ ap (λ (terminals : List TerminalState). x ∷ terminals) rest

-- there are as many as before
pub as-many : (a b : List TerminalState) → AllZip LosesKeys a b → length b ≡ length a
as-many [] [] loses = refl
as-many [] (y ∷ b) loses = absurd loses
as-many (x ∷ a) [] loses = absurd loses
as-many (x ∷ a) (y ∷ b) loses = ap suc (as-many a b loses.1)
