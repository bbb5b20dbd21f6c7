-- The numbers of a range that pass a test.
use Rattle.std.proofs.Common.{◌≡◌, ℕ, zero, suc, ◌+◌, ◌-◌, ◌*◌, ◌/◌, ◌<◌, ◌≤◌, ◌==◌, Bool, true, false, List, [], ◌∷◌, drop, take, sym, ap, ◌∙◌, subst, ⊎_elim, arith, eqb-true, eq-eqb}
use Rattle.std.specs.Prelude.{filter}
use Rattle.std.specs.List.{range_with_len}
use Rattle.std.proofs.lemmas.Bool.{cases_lt, cases_eq, cases_Bool, cond-true, cond-false, false≢true, or_cases, or_left, or_right}
use Rattle.std.proofs.lemmas.List.{take-append-drop}
use Rattle.std.proofs.Math.Nat.{mul-le-mul_right}
use Rattle.rbf_model.specs.Segments.{AreDistinct, has}
use Rattle.rbf_model.proofs.Bytes.{distinct_second}
use Rattle.rbf_model.proofs.Growth.{distinct_join}

pub record IsFiltered (p : ℕ → Bool) (a n s : ℕ) : Type 0 where
  pub from : a ≤ s
  pub below : s < a + n
  pub passes : p s ≡ true

-- what they are
pub filter_has : (p : ℕ → Bool) (a n s : ℕ) → has (filter p (range_with_len a n)) s ≡ true → IsFiltered p a n s
filter_has p a zero s h = absurd (false≢true h)
filter_has p a (suc n) s h =
    let rest : List ℕ = filter p (range_with_len (a + 1) n) in
    ⊎_elim
    (λ yes.
    let found : has (a ∷ rest) s ≡ true = ap (λ xs. has xs s) (sym (cond-true (p a) (a ∷ rest) rest yes)) ∙ h in
    ⊎_elim
    (λ here. let same : a ≡ s = eqb-true a s here in record { from = omega arith; below = omega arith; passes = ap p (sym same) ∙ yes })
    (λ later. let is = filter_has p (a + 1) n s later in let low = is.from in let high = is.below in record { from = omega arith; below = omega arith; passes = is.passes })
    (or_cases (a == s) (has rest s) found))
    (λ no.
    let is = filter_has p (a + 1) n s (ap (λ xs. has xs s) (sym (cond-false (p a) (a ∷ rest) rest no)) ∙ h) in
    let low = is.from in let high = is.below in
    record { from = omega arith; below = omega arith; passes = is.passes })
    (cases_Bool (p a))

pub has_filter : (p : ℕ → Bool) (a n s : ℕ) → p s ≡ true → a ≤ s → s < a + n → has (filter p (range_with_len a n)) s ≡ true
has_filter p a zero s is low high = absurd (omega arith)
has_filter p a (suc n) s is low high =
    let rest : List ℕ = filter p (range_with_len (a + 1) n) in
    ⊎_elim
    (λ here. ap (λ xs. has xs s) (cond-true (p a) (a ∷ rest) rest (ap p here ∙ is)) ∙ or_left (a == s) (has rest s) (eq-eqb a s here))
    (λ beside.
    let later = has_filter p (a + 1) n s is (omega arith) (omega arith) in
    ⊎_elim
    (λ yes. ap (λ xs. has xs s) (cond-true (p a) (a ∷ rest) rest yes) ∙ or_right (a == s) (has rest s) later)
    (λ no. ap (λ xs. has xs s) (cond-false (p a) (a ∷ rest) rest no) ∙ later)
    (cases_Bool (p a)))
    (cases_eq a s)

-- none of them stands there twice
distinct_one : (a : ℕ) → AreDistinct (a ∷ [])
distinct_one a i j d low high same = absurd (omega arith)

distinct_none : AreDistinct []
distinct_none i j d low high same = absurd (omega arith)

pub distinct_filter : (p : ℕ → Bool) (a n : ℕ) → AreDistinct (filter p (range_with_len a n))
distinct_filter p a zero = distinct_none
distinct_filter p a (suc n) =
    let rest : List ℕ = filter p (range_with_len (a + 1) n) in
    let later = distinct_filter p (a + 1) n in
    ⊎_elim
    (λ yes. subst AreDistinct (sym (cond-true (p a) (a ∷ rest) rest yes))
    (distinct_join (a ∷ []) rest (distinct_one a) later
    (λ s one other.
    let above = (filter_has p (a + 1) n s other).from in
    ⊎_elim (λ here. let same : a ≡ s = eqb-true a s here in absurd (omega arith)) (λ none. absurd (false≢true none)) (or_cases (a == s) false one))))
    (λ no. subst AreDistinct (sym (cond-false (p a) (a ∷ rest) rest no)) later)
    (cases_Bool (p a))

-- of a list without repeats the numbers from a place on
pub distinct_from : (xs : List ℕ) (i : ℕ) → AreDistinct xs → AreDistinct (drop i xs)
distinct_from xs i h = distinct_second (take i xs) (drop i xs) (subst AreDistinct (sym (take-append-drop i xs)) h)

-- a whole cluster is one of the volume's
pub within_count : (c k t : ℕ) → 1 ≤ k → (c + 1) * k ≤ t → c < (t + (k - 1)) / k
within_count c k t some whole =
    ⊎_elim
    (λ low. low)
    (λ past.
    let more : (t + (k - 1)) / k * k ≤ c * k = mul-le-mul_right {m = (t + (k - 1)) / k} {n = c} k past in
    let sum : (c + 1) * k ≡ c * k + k = omega arith in
    absurd (omega arith))
    (cases_lt c ((t + (k - 1)) / k))
