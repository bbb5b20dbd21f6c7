-- How many numbers below a bound pass a test.
use Rattle.std.proofs.Common.{◌≡◌, ℕ, suc, ◌+◌, ◌-◌, ◌*◌, ◌/◌, ◌^◌, ◌<◌, ◌≤◌, Fits, w32, Bool, true, false, [], ◌∷◌, ◌++◌, length, refl, sym, ap, ◌∙◌, ⊎_elim, arith, length-append}
use Rattle.std.specs.Prelude.{filter, if◌then◌else◌}
use Rattle.std.specs.Int.{div_ceil, from_bool}
use Rattle.std.specs.List.{range_with_len}
use Rattle.std.proofs.lemmas.Nat.{div-mul-add}
use Rattle.std.proofs.lemmas.Bool.{cases_Bool, cond-true, cond-false}
use Rattle.std.proofs.lemmas.Grind.{div_ceil_times}
use Rattle.std.proofs.lemmas.List.Elements.{filter-append}
use Rattle.std.proofs.lemmas.List.FromFn.{length-range_with_len}
use Rattle.std.proofs.lemmas.List.Sums.{length-filter, count_by-le-length}
use Rattle.rbf_check.proofs.Noted.{range_more}

-- those below the next number
pub filter_next : (p : ℕ → Bool) (n : ℕ) → filter p (range_with_len 0 (n + 1)) ≡ filter p (range_with_len 0 n) ++ filter p (n ∷ [])
filter_next p n =
    let next : n + 1 ≡ suc n = omega arith in
    let last : 0 + n ≡ n = omega arith in
    ap (λ m. filter p (range_with_len 0 m)) next ∙ ap (filter p) (range_more 0 n ∙ ap (λ m. range_with_len 0 n ++ m ∷ []) last) ∙ filter-append p (range_with_len 0 n) (n ∷ [])

pub filter_yes : (p : ℕ → Bool) (n : ℕ) → p n ≡ true → filter p (n ∷ []) ≡ n ∷ []
filter_yes p n passes = cond-true (p n) (n ∷ []) [] passes

pub filter_no : (p : ℕ → Bool) (n : ℕ) → p n ≡ false → filter p (n ∷ []) ≡ []
filter_no p n fails = cond-false (p n) (n ∷ []) [] fails

pub count_next : (p : ℕ → Bool) (n : ℕ) → length (filter p (range_with_len 0 (n + 1))) ≡ length (filter p (range_with_len 0 n)) + (if p n then 1 else 0)
count_next p n =
    ap length (filter_next p n) ∙ length-append (filter p (range_with_len 0 n)) (filter p (n ∷ []))
    ∙ ap (λ m. length (filter p (range_with_len 0 n)) + m) (⊎_elim
    (λ passes. ap length (filter_yes p n passes) ∙ sym (cond-true (p n) 1 0 passes))
    (λ fails. ap length (filter_no p n fails) ∙ sym (cond-false (p n) 1 0 fails))
    (cases_Bool (p n)))

pub count_most : (p : ℕ → Bool) (n : ℕ) → length (filter p (range_with_len 0 n)) ≤ n
count_most p n =
    omega (arith, length-filter p (range_with_len 0 n), count_by-le-length p (range_with_len 0 n), length-range_with_len 0 n)

one_of : (b : Bool) → from_bool b ≡ (if b then 1 else 0)
one_of true = refl
one_of false = refl

one_most : (b : Bool) → from_bool b ≤ 1
one_most true = omega arith
one_most false = omega arith

-- a count that goes on by the next number
pub counted : (p : ℕ → Bool) (n count more : ℕ) (b : Bool) → count ≡ length (filter p (range_with_len 0 n)) → b ≡ p n → more ≡ from_bool b → count + more ≡ length (filter p (range_with_len 0 (n + 1)))
counted p n count more b before is one =
    ap (λ m. count + m) (one ∙ one_of b ∙ ap (λ t. if t then 1 else 0) is) ∙ ap (λ m. m + (if p n then 1 else 0)) before ∙ sym (count_next p n)

pub count_fits : (p : ℕ → Bool) (n clusters count more : ℕ) (b : Bool)
    → count ≡ length (filter p (range_with_len 0 n)) → more ≡ from_bool b → n < clusters → clusters < 2 ^ 32
    → Fits w32 (count + more)
count_fits p n clusters count more b before one low few = omega (arith, count_most p n, one_most b)

-- a quotient rounded up
pub ceil_is : (t k : ℕ) → 0 < k → (t + (k - 1)) / k ≡ div_ceil t k
ceil_is t k positive =
    let q = div_ceil t k in
    let bounds = div_ceil_times t k positive in
    let low : t ≤ q * k = bounds.0 in
    let high : q * k < t + k = bounds.1 in
    let split : q * k + (t + (k - 1) - q * k) ≡ t + (k - 1) = omega arith in
    ap (λ x. x / k) (sym split) ∙ div-mul-add q k (t + (k - 1) - q * k) (omega arith)
