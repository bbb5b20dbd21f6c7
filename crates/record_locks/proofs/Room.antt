-- Room for the ends of locks in a list of entries.
use Rattle.std.proofs.Common.{◌≡◌, ◌<◌, ◌≤◌, ◌+◌, ℕ, cond, Option, Some, None, List, [], ◌∷◌, ◌++◌, is_some, count_by, length, get_or, set, inl, inr, ap, sym, ◌∙◌, arith}
use Rattle.std.proofs.lemmas.Bool.{cases_lt}
use Rattle.std.proofs.lemmas.List.{get_or_past, length-append}
use Rattle.std.proofs.lemmas.List.Sums.{count_by-le-length, sum_by-set}
use Rattle.lock_model.specs.declared.lock.Held.{Held}

-- a place more is used, and there were as many as places for locks besides
pub room-entered : {X : Type 0} (old new : List X) (entry : X) (places : List (Option Held)) (room cap : ℕ)
    → new ≡ old ++ entry ∷ [] → length places ≡ 65 → length old + 66 ≤ room → room ≤ cap → length new + count_by
    is_some places ≤ cap
room-entered old new entry places room cap is paths ample kept =
    let long : length new ≡ length old + 1 = ap length is ∙ length-append old (entry ∷ []) in
    omega (arith, long, paths, ample, kept, count_by-le-length is_some places)

-- a lock that ends leaves a place
pub fewer : (places : List (Option Held)) (i : ℕ) (lock : Held) → get_or places i None ≡ Some lock → count_by is_some (set places i None) + 1 ≤ count_by is_some places
fewer places i lock is =
    let one : ◌≡◌ {A = ℕ} (cond (is_some (get_or places i None)) 1 0) 1 = ap (λ (place : Option Held). cond (is_some place) 1 0) is in
    let sums : ◌≡◌ {A = ℕ} (count_by is_some (set places i None) + cond (is_some (get_or places i None)) 1 0)
    (count_by is_some places + 0) = sum_by-set (λ (place : Option Held). cond (is_some place) 1 0) places i None
    None low in
    omega (arith, one, sums)
  where
    none-some : None ≡ Some lock → ⊥
    none-some e = cc

    low : i < length places
    low = elim (cases_lt i (length places)) [
      | inl here ↦ here
      | inr past ↦ absurd (none-some (sym (get_or_past places i None past) ∙ is))
    ]

pub room-ended : {X : Type 0} (old new : List X) (entry : X) (places : List (Option Held)) (path : ℕ) (lock : Held)
    (room cap : ℕ) → new ≡ old ++ entry ∷ [] → get_or places path None ≡ Some lock → length old + count_by is_some
    places ≤ room → room ≤ cap → length new + count_by is_some (set places path None) ≤ cap
room-ended old new entry places path lock room cap is held ample kept =
    let long : length new ≡ length old + 1 = ap length is ∙ length-append old (entry ∷ []) in
    omega (arith, long, ample, kept, fewer places path lock held)
