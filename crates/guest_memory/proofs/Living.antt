-- How many objects live: as many as there are different names for them.
use Rattle.std.proofs.Common.{◌≡◌, ◌≢◌, ℕ, zero, suc, ◌+◌, ◌<◌, ◌≤◌, ◌==◌, ◌||◌, not, Bool, true, false, List, [], ◌∷◌, length, get_or, map, count_by, cond, All, ◌⊎◌, inl, inr, refl, sym, ap, ◌∙◌, subst, arith}
use Rattle.std.specs.Prelude.{if◌then◌else◌}
use Rattle.std.specs.List.{list_any, range_with_len}
use Rattle.std.proofs.Math.Path.{fun_ext}
use Rattle.std.proofs.lemmas.List.{get_or_default}
use Rattle.std.proofs.lemmas.List.Elements.{All-head, All-tail}
use Rattle.std.proofs.lemmas.List.Sums.{sum_by-cons}
use Rattle.std.proofs.lemmas.Bool.{cases_eq, cases_Bool, cond-true, cond-false, eq-eqb, ne_eqb, eqb-true, eqb-false, false≢true, or_cases, or_left, or_right, or_from}
use Rattle.guest_memory.specs.References.{times}
use Rattle.guest_memory.proofs.Times.{times-at, times-here, times-past}

-- a list has a number
abbrev pub has_number : List ℕ → ℕ → Bool
has_number names number = list_any (λ named. named == number) names

-- each number once
abbrev pub distinct : List ℕ → List ℕ
distinct [] = []
distinct (first ∷ names) = if has_number names first then distinct names else first ∷ distinct names

-- the test is that of a count
pub has_number-times : (names : List ℕ) (number : ℕ) → has_number names number ≡ not (times number names == 0)
has_number-times [] number = refl
has_number-times (first ∷ names) number =
    elim (cases_eq first number) [
      | inl same ↦
          ap (λ (here : Bool). here || has_number names number) (eq-eqb first number same)
          ∙ sym (ap not (ne_eqb (times number (first ∷ names)) 0 (λ none. absurd (omega (arith, times-here number first names same)))))
      | inr apart ↦
          ap (λ (here : Bool). here || has_number names number) (ne_eqb first number apart) ∙ has_number-times names number
          ∙ ap (λ (n : ℕ). not (n == 0)) (sym (times-past number first names apart))
    ]

-- ---- counts over a range

count-cons : (p : ℕ → Bool) (k : ℕ) (ks : List ℕ) → count_by p (k ∷ ks) ≡ cond (p k) 1 0 + count_by p ks
count-cons p k ks = sum_by-cons (λ k. cond (p k) 1 0) k ks

-- two tests that never pass together
count-either : (p q : ℕ → Bool) → ((k : ℕ) → p k ≡ true → q k ≡ false) → (ks : List ℕ) → count_by (λ k. p k || q k) ks ≡ count_by p ks + count_by q ks
count-either p q apart [] = refl
count-either p q apart (k ∷ ks) =
    let both : cond {A = ℕ} (p k || q k) 1 0 ≡ cond (p k) 1 0 + cond (q k) 1 0 =
    elim (cases_Bool (p k)) [
      | inl passed ↦
          ap (λ (b : Bool). cond {A = ℕ} (b || q k) 1 0) passed ∙ sym ((λ i. cond {A = ℕ} (passed i) 1 0 + cond {A = ℕ} (apart k passed i) 1 0))
      | inr failed ↦
          omega (arith, ap (λ (b : Bool). cond {A = ℕ} (b || q k) 1 0) failed, ap (λ (b : Bool). cond {A = ℕ} b 1 0) failed)
    ] in
    omega (arith, count-cons (λ k. p k || q k) k ks, count-cons p k ks, count-cons q k ks, both, count-either p q apart ks)

-- one number of a range
count-none : (number a n : ℕ) → number < a → count_by (λ k. number == k) (range_with_len a n) ≡ 0
count-none number a zero below = refl
count-none number a (suc n) below =
    omega (
      arith,
      count-cons (λ k. number == k) a (range_with_len (a + 1) n),
      cond-false {A = ℕ} (number == a) 1 0 (ne_eqb number a (λ same. absurd (omega arith))),
      count-none number (a + 1) n (omega arith),
    )

count-one : (number a n : ℕ) → a ≤ number → number < a + n → count_by (λ k. number == k) (range_with_len a n) ≡ 1
count-one number a zero low high = absurd (omega arith)
count-one number a (suc n) low high =
    elim (cases_eq number a) [
      | inl same ↦
          omega (
            arith,
            count-cons (λ k. number == k) a (range_with_len (a + 1) n),
            cond-true {A = ℕ} (number == a) 1 0 (eq-eqb number a same),
            count-none number (a + 1) n (omega arith),
          )
      | inr apart ↦
          omega (
            arith,
            count-cons (λ k. number == k) a (range_with_len (a + 1) n),
            cond-false {A = ℕ} (number == a) 1 0 (ne_eqb number a apart),
            count-one number (a + 1) n (omega arith) (omega arith),
          )
    ]

-- as many numbers of a range are in a list as the list has different ones
pub count-distinct : (names : List ℕ) (n : ℕ) → All (λ number. number < n) names → count_by (has_number names) (range_with_len 0 n) ≡ length (distinct names)
count-distinct [] n below = none (range_with_len 0 n)
  where
    none : (ks : List ℕ) → count_by (has_number []) ks ≡ 0
    none [] = refl
    none (k ∷ ks) = omega (arith, count-cons (has_number []) k ks, none ks)
count-distinct (first ∷ names) n below =
    let rest = count-distinct names n (All-tail (λ number. number < n) first names below) in
    elim (cases_Bool (has_number names first)) [
      | inl again ↦
          let same : (λ k. first == k || has_number names k) ≡ has_number names = fun_ext (λ k. by_number k (cases_eq first k) again) in
          ap (λ (p : ℕ → Bool). count_by p (range_with_len 0 n)) same ∙ rest ∙ ap length (sym (cond-true (has_number names first) (distinct names) (first ∷ distinct names) again))
      | inr new ↦
          count-either (λ k. first == k) (has_number names) (λ k here. sym (ap (has_number names) (eqb-true first k here)) ∙ new) (range_with_len 0 n)
          ∙ omega (arith, rest, count-one first 0 n (omega arith) (omega (arith, All-head (λ number. number < n) first names below)))
          ∙ ap length (sym (cond-false (has_number names first) (distinct names) (first ∷ distinct names) new))
    ]
  where
    by_number : (k : ℕ) → (first ≡ k) ⊎ (first ≢ k) → has_number names first ≡ true → (first == k || has_number names k) ≡ has_number names k
    by_number k (inl same) again = or_left (first == k) (has_number names k) (eq-eqb first k same) ∙ sym again ∙ ap (has_number names) same
    by_number k (inr apart) again = ap (λ (b : Bool). b || has_number names k) (ne_eqb first k apart)

-- a list of counts has as many that are 0 as there are numbers of its range that a list does not have
pub count-zeros : (counts : List ℕ) (a : ℕ) (p : ℕ → Bool) → ((k : ℕ) → k < length counts → p (a + k) ≡ not (get_or counts k 0 == 0))
    → count_by (λ count. count == 0) counts + count_by p (range_with_len a (length counts)) ≡ length counts
count-zeros [] a p same = refl
count-zeros (first ∷ counts) a p same =
    let rest = count-zeros counts (a + 1) p (λ k within. ap p (omega arith) ∙ same (suc k) (omega arith)) in
    let here : p a ≡ not (first == 0) = ap p (omega arith) ∙ same 0 (omega arith) in
    let one : cond {A = ℕ} (first == 0) 1 0 + cond {A = ℕ} (p a) 1 0 ≡ 1 = ap (λ (b : Bool). cond {A = ℕ} (first == 0) 1 0 + cond {A = ℕ} b 1 0) here ∙ either (first == 0) in
    omega (arith, sum_by-cons (λ (count : ℕ). cond {A = ℕ} (count == 0) 1 0) first counts, count-cons p a (range_with_len (a + 1) (length counts)), one, rest)
  where
    either : (b : Bool) → cond {A = ℕ} b 1 0 + cond {A = ℕ} (not b) 1 0 ≡ 1
    either true = refl
    either false = refl

-- ---- other names

-- names that differ still differ when they are changed
module _ (number : ℕ → ℕ) where
  has_number-map : (names : List ℕ) (first : ℕ) → All (λ name. number name ≡ number first → name ≡ first) names → has_number (map number names) (number first) ≡ has_number names first
  has_number-map [] first apart = refl
  has_number-map (name ∷ names) first apart =
      let P : ℕ → Type 0 = λ name. number name ≡ number first → name ≡ first in
      let here : (number name == number first) ≡ (name == first) =
      elim (cases_eq name first) [
        | inl same ↦ eq-eqb (number name) (number first) (ap number same) ∙ sym (eq-eqb name first same)
        | inr differ ↦ ne_eqb (number name) (number first) (λ same. differ (All-head P name names apart same)) ∙ sym (ne_eqb name first differ)
      ] in
      (λ i. here i || has_number-map names first (All-tail P name names apart) i)

  pub length-distinct-map : (names : List ℕ) → ((one other : ℕ) → 0 < times one names → 0 < times other names
      → number one ≡ number other → one ≡ other) → length (distinct (map number names)) ≡ length (distinct names)
  length-distinct-map [] apart = refl
  length-distinct-map (first ∷ names) apart =
      let rest = length-distinct-map names (λ one other here there. apart one other (more one here) (more other there)) in
      let same = has_number-map names first (λ k d within again. apart (get_or names k d) first
      (more (get_or names k d) (at_place k d within)) (omega (arith, times-here first first names refl)) again) in
      ap (λ (b : Bool). length (if b then distinct (map number names) else number first ∷ distinct (map number names))) same
      ∙ by_test (has_number names first) rest
    where
      more : (block : ℕ) → 0 < times block names → 0 < times block (first ∷ names)
      more block here =
          elim (cases_eq first block) [
            | inl same ↦ omega (arith, times-here block first names same)
            | inr differ ↦ omega (arith, times-past block first names differ)
          ]

      at_place : (k d : ℕ) → k < length names → 0 < times (get_or names k d) names
      at_place k d within = times-at names k (get_or names k d) within (get_or_default names k 0 d within)

      by_test : (test : Bool) → length (distinct (map number names)) ≡ length (distinct names)
          → length (if test then distinct (map number names) else number first ∷ distinct (map number names)) ≡ length
          (if test then distinct names else first ∷ distinct names)
      by_test true rest = rest
      by_test false rest = ap suc rest
