-- How the marks of a map change with its bytes, and the clear ones are counted.
use Rattle.std.proofs.Common.{◌≡◌, ◌≢◌, ◌⊎◌, ℕ, ◌+◌, ◌-◌, ◌/◌, ◌%◌, ◌<◌, ◌≤◌, zero, suc, Bool, true, false, cond, eqb, List, [], ◌∷◌, length, get_or, set, filter, refl, sym, ap, ◌∙◌, inl, inr, arith, slice_index, eq-eqb}
use Rattle.std.specs.Int.{bit_at}
use Rattle.std.specs.List.{range_with_len}
use Rattle.std.proofs.lemmas.Bool.{cases_lt, cases_eq}
use Rattle.std.proofs.lemmas.Nat.Bits.{bit_at-lt}
use Rattle.std.proofs.lemmas.List.{get_or-set_same, get_or-set_other, length-set}
use Rattle.rbf_model.specs.ClusterMap.{mark, clear_below, ChangesMark}

-- a mark is 0 or 1
pub mark-set_or_clear : (bytes : List ℕ) (cluster : ℕ) → (mark bytes cluster ≡ 0) ⊎ (mark bytes cluster ≡ 1)
mark-set_or_clear bytes cluster =
    let small = bit_at-lt (slice_index bytes (cluster / 8)) (7 - cluster % 8) in
    elim (cases_lt (mark bytes cluster) 1) [ inl clear ↦ inl (omega arith) | inr set ↦ inr (omega arith) ]

-- a write of one byte that changes one bit of it
pub changes_mark : (bytes : List ℕ) (cluster byte bit : ℕ) → cluster / 8 < length bytes
    → bit_at byte (7 - cluster % 8) ≡ bit → ((k : ℕ) → k < 8 → k ≢ 7 - cluster % 8 → bit_at byte k ≡ bit_at
    (get_or bytes (cluster / 8) 0) k) → ChangesMark bytes (set bytes (cluster / 8) byte) cluster bit
changes_mark bytes cluster byte bit within there others =
    let i = cluster / 8 in
    record {
      same_length = length-set bytes i byte;
      there = ap (λ b. bit_at b (7 - cluster % 8)) (get_or-set_same bytes i byte 0 within) ∙ there;
      others = λ other apart. elim (cases_eq (other / 8) i) [
        | inl same ↦
            ap (λ j. bit_at (get_or (set bytes i byte) j 0) (7 - other % 8)) same ∙ ap (λ b. bit_at b (7 - other % 8))
            (get_or-set_same bytes i byte 0 within) ∙ others (7 - other % 8) (omega arith)
            (λ e. apart (omega arith)) ∙ ap (λ j. bit_at (get_or bytes j 0) (7 - other % 8)) (sym same)
        | inr elsewhere ↦ ap (λ b. bit_at b (7 - other % 8)) (get_or-set_other bytes i (other / 8) byte 0 elsewhere)
      ];
      bytes = λ j apart. get_or-set_other bytes i j byte 0 apart;
    }

-- how many of the numbers pass a test
abbrev count : (ℕ → Bool) → ℕ → ℕ → ℕ
count p a n = length (filter p (range_with_len a n))

abbrev one_if : Bool → ℕ
one_if true = 1
one_if false = 0

length-filter-cons : (p : ℕ → Bool) (x : ℕ) (xs : List ℕ) → length (filter p (x ∷ xs)) ≡ one_if (p x) + length (filter p xs)
length-filter-cons p x xs = elim (p x) as (λ t. length (cond t (x ∷ filter p xs) (filter p xs)) ≡ one_if t + length (filter p xs)) [ true ↦ omega arith | false ↦ omega arith ]

count-more : (p : ℕ → Bool) (a n : ℕ) → count p a (suc n) ≡ count p a n + one_if (p (a + n))
count-more p a zero =
    let here : a ≡ a + 0 = omega arith in
    let test : one_if (p a) ≡ one_if (p (a + 0)) = ap (λ b. one_if (p b)) here in
    omega (arith, length-filter-cons p a [])
count-more p a (suc n) =
    let here : a + 1 + n ≡ a + suc n = omega arith in
    let test : one_if (p (a + 1 + n)) ≡ one_if (p (a + suc n)) = ap (λ b. one_if (p b)) here in
    omega (arith, length-filter-cons p a (range_with_len (a + 1) (suc n)), length-filter-cons p a (range_with_len (a + 1) n), count-more p (a + 1) n)

count-le : (p : ℕ → Bool) (n : ℕ) → count p 0 n ≤ n
count-le p zero = omega arith
count-le p (suc n) = omega (arith, count-more p 0 n, count-le p n, one_if-le (p (0 + n)))
  where
    one_if-le : (t : Bool) → one_if t ≤ 1
    one_if-le true = omega arith
    one_if-le false = omega arith

-- tests that differ nowhere below n, and at one place
count-same : (p q : ℕ → Bool) (n : ℕ) → ((k : ℕ) → k < n → q k ≡ p k) → count q 0 n ≡ count p 0 n
count-same p q zero same = refl
count-same p q (suc n) same =
    let here : one_if (q (0 + n)) ≡ one_if (p (0 + n)) = ap one_if (same (0 + n) (omega arith)) in
    omega (arith, count-more p 0 n, count-more q 0 n, count-same p q n (λ k below. same k (omega arith)))

count-one_less : (p q : ℕ → Bool) (c n : ℕ) → p c ≡ true → q c ≡ false → ((k : ℕ) → k ≢ c → q k ≡ p k) → c < n → count q 0 n + 1 ≡ count p 0 n
count-one_less p q c zero passes fails others below = absurd (omega arith)
count-one_less p q c (suc n) passes fails others below = elim (cases_eq c n) [
  | inl here ↦
      let at : 0 + n ≡ c = omega arith in
      let one : one_if (p (0 + n)) ≡ 1 = ap (λ b. one_if (p b)) at ∙ ap one_if passes in
      let none : one_if (q (0 + n)) ≡ 0 = ap (λ b. one_if (q b)) at ∙ ap one_if fails in
      omega (arith, count-more p 0 n, count-more q 0 n, count-same p q n (λ k low. others k (λ e. absurd (omega arith))))
  | inr apart ↦
      let same : one_if (q (0 + n)) ≡ one_if (p (0 + n)) = ap one_if (others (0 + n) (λ e. apart (omega arith))) in
      omega (arith, count-more p 0 n, count-more q 0 n, count-one_less p q c n passes fails others (omega arith))
]

-- a cluster is clear
abbrev clear : List ℕ → ℕ → Bool
clear bytes cluster = eqb (mark bytes cluster) 0

clear-at : (bytes : List ℕ) (cluster : ℕ) → mark bytes cluster ≡ 0 → clear bytes cluster ≡ true
clear-at bytes cluster none = eq-eqb (mark bytes cluster) 0 none

clear-not_at : (bytes : List ℕ) (cluster : ℕ) → mark bytes cluster ≡ 1 → clear bytes cluster ≡ false
clear-not_at bytes cluster set = ap (λ m. eqb m 0) set

-- one cluster more
clear_below-more : (bytes : List ℕ) (n : ℕ) → length (clear_below bytes (n + 1)) ≡ length (clear_below bytes n) + one_if (clear bytes n)
clear_below-more bytes n =
    let next : n + 1 ≡ suc n = omega arith in
    let here : 0 + n ≡ n = omega arith in
    ap (λ m. length (clear_below bytes m)) next ∙ count-more (clear bytes) 0 n ∙ ap (λ b. length (clear_below bytes n) + one_if (clear bytes b)) here

pub clear_below-clear : (bytes : List ℕ) (n : ℕ) → mark bytes n ≡ 0 → length (clear_below bytes (n + 1)) ≡ length (clear_below bytes n) + 1
clear_below-clear bytes n none =
    clear_below-more bytes n ∙ ap (λ t. length (clear_below bytes n) + one_if t) (clear-at bytes n none)

pub clear_below-marked : (bytes : List ℕ) (n : ℕ) → mark bytes n ≡ 1 → length (clear_below bytes (n + 1)) ≡ length (clear_below bytes n)
clear_below-marked bytes n set =
    clear_below-more bytes n ∙ ap (λ t. length (clear_below bytes n) + one_if t) (clear-not_at bytes n set) ∙ omega arith

pub length-clear_below : (bytes : List ℕ) (n : ℕ) → length (clear_below bytes n) ≤ n
length-clear_below bytes n = count-le (clear bytes) n

-- a cluster below the end is marked, or cleared, or one that is not below it changes
pub clear_below-set : (old new : List ℕ) (cluster end : ℕ) → ChangesMark old new cluster 1 → mark old cluster ≡ 0 → cluster < end → length (clear_below new end) + 1 ≡ length (clear_below old end)
clear_below-set old new cluster end changes was below =
    count-one_less (clear old) (clear new) cluster end (clear-at old cluster was) (clear-not_at new cluster changes.there) (λ k apart. ap (λ m. eqb m 0) (changes.others k apart)) below

pub clear_below-cleared : (old new : List ℕ) (cluster end : ℕ) → ChangesMark old new cluster 0 → mark old cluster ≡ 1 → cluster < end → length (clear_below old end) + 1 ≡ length (clear_below new end)
clear_below-cleared old new cluster end changes was below =
    count-one_less (clear new) (clear old) cluster end (clear-at new cluster changes.there) (clear-not_at old cluster was) (λ k apart. ap (λ m. eqb m 0) (sym (changes.others k apart))) below

pub clear_below-apart : (old new : List ℕ) (cluster bit end : ℕ) → ChangesMark old new cluster bit → end ≤ cluster → length (clear_below new end) ≡ length (clear_below old end)
clear_below-apart old new cluster bit end changes behind =
    count-same (clear old) (clear new) end (λ k below. ap (λ m. eqb m 0) (changes.others k (λ e. absurd (omega arith))))
