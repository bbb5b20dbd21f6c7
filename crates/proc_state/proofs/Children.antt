-- A child that has ended is found at a place that passes.
use Rattle.std.proofs.Common.{◌≡◌, ℕ, ◌<◌, Bool, true, false, is_some, List, length, get_or, position, arith}
use Rattle.std.proofs.lemmas.Bool.Decides.{nat_tests}
use Rattle.std.proofs.lemmas.List.Sums.{position_or_len_is}

-- a place that passes, where none before it does
pub is_some-position : {X : Type 0} (p : X → Bool) (xs : List X) (i : ℕ) (d : X) → i < length xs
    → ((k : ℕ) → k < i → p (get_or xs k d) ≡ false) → p (get_or xs i d) ≡ true → is_some (position p xs) ≡ true
is_some-position p xs i d within before here =
    let first = position_or_len_is p xs i d (omega arith) before (λ _. here) in
    grind (arith, nat_tests)

-- no place passes
pub no-position : {X : Type 0} (p : X → Bool) (xs : List X) (d : X) → ((k : ℕ) → k < length xs → p (get_or xs k d) ≡ false) → is_some (position p xs) ≡ false
no-position p xs d none =
    let first = position_or_len_is p xs (length xs) d (omega arith) none (λ h. absurd (omega arith)) in
    grind (arith, nat_tests)
