-- The terminals are emptied, one after another.
use Rattle.std.proofs.Common.{◌≡◌, ℕ, ◌+◌, ◌<◌, Option, List, ◌++◌, length, take, drop, slice_set, get_or, sym, ap, ◌∙◌}
use Rattle.std.proofs.lemmas.List.Edits.{map_over_more}
use Rattle.std.proofs.lemmas.Option.{get_or_from_slice_get}
use Rattle.os9_outer.specs.Stream.{emptied}
use Rattle.os9_outer.specs.TerminalState.{TerminalState, ChangesOneTerminal}
use Rattle.machine_model.specs.Console.{terminals_emptied, without_bytes}
use Rattle.os9_debug.specs.Devices.{IsEmptied}

-- a driver whose bytes were taken is a terminal without bytes
pub emptied-from : (old new : TerminalState) → new.put ≡ emptied old.put → new.keys ≡ old.keys → new.faults ≡ old.faults → IsEmptied old new
emptied-from old new none keys faults =
    let by : List _ → Option (List ℕ) → ℕ → TerminalState = λ keys put faults. record { keys = keys; put = put; faults = faults } in
    ap (λ k. by k new.put new.faults) keys ∙ ap (λ p. by old.keys p new.faults) none ∙ ap (λ f. by old.keys (emptied old.put) f) faults

-- the terminals, of which so many are emptied
abbrev pub emptied_front : ℕ → List TerminalState → List TerminalState
emptied_front count terms = terminals_emptied (take count terms) ++ drop count terms

-- one more
pub empties-more : (n : ℕ) (screens before now : List TerminalState) → n < length screens → before ≡ emptied_front n
    screens → ChangesOneTerminal IsEmptied n before now → now ≡ emptied_front (n + 1) screens
empties-more n screens before now within so_far (old, new, is, set, took) =
    let here : old ≡ get_or before n old = sym (get_or_from_slice_get before n old old is) in
    set ∙ ap (λ screen. slice_set before n screen) took ∙ map_over_more without_bytes screens before n old within so_far here
