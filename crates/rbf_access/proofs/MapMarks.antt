-- How many sectors of the map have the marks of clusters.
use Rattle.std.proofs.Common.{◌≡◌, ℕ, zero, suc, ◌+◌, ◌-◌, ◌/◌, ◌<◌, ◌≤◌, Bool, true, false, cond, ◌==◌, ◌&&◌, count_by, sum_by, get_or, refl, ap, sym, ◌∙◌, subst, ⊎_elim, arith, eq-eqb}
use Rattle.std.specs.List.{range_with_len}
use Rattle.std.proofs.lemmas.Bool.{and_from, false≢true, cases_lt}
use Rattle.std.proofs.lemmas.List.{map-id}
use Rattle.std.proofs.lemmas.List.Sums.{count_by-le-length}
use Rattle.std.proofs.lemmas.List.Folds.{list_any_at}
use Rattle.std.proofs.lemmas.List.FromFn.{length-range_with_len, get_or-range_with_len, sum_by-map-range_with_len_more}
use Rattle.rbf_model.specs.Geometry.{Geometry, map_sectors}
use Rattle.rbf_model.specs.Space.{cluster_count}
use Rattle.rbf_access.specs.MapMarks.{has_mark_of, marking_sectors}

-- how many of the places below n pass
abbrev pub below : (ℕ → Bool) → ℕ → ℕ
below f n = count_by f (range_with_len 0 n)

pub below_next : (f : ℕ → Bool) (n : ℕ) → below f (n + 1) ≡ below f n + cond (f n) 1 0
below_next f n =
    let g : ℕ → ℕ = λ p. cond (f p) 1 0 in
    ap (sum_by g) (sym (map-id (range_with_len 0 (n + 1)))) ∙ sum_by-map-range_with_len_more g (λ p. p) 0 n n (omega arith)
    ∙ ap (λ xs. sum_by g xs + cond (f n) 1 0) (map-id (range_with_len 0 n))

pub below_more : (f : ℕ → Bool) (i j : ℕ) → below f i ≤ below f (i + j)
below_more f i zero = let same : i + zero ≡ i = omega arith in subst (λ n. below f i ≤ below f n) (sym same) (omega arith)
below_more f i (suc j) =
    let next : below f (i + j + 1) ≡ below f (i + j) + cond (f (i + j)) 1 0 = below_next f (i + j) in
    let same : i + suc j ≡ i + j + 1 = omega arith in
    let far = below_more f i j in
    subst (λ n. below f i ≤ below f n) (sym same) (omega arith)

pub below_up : (f : ℕ → Bool) (i n : ℕ) → i ≤ n → below f i ≤ below f n
below_up f i n low = let split : i + (n - i) ≡ n = omega arith in subst (λ m. below f i ≤ below f m) split (below_more f i (n - i))

abbrev bit : Bool → ℕ
bit b = cond b 1 0

bit_le : (a b : Bool) → (a ≡ true → b ≡ true) → bit a ≤ bit b
bit_le true true more = omega arith
bit_le true false more = absurd (false≢true (more refl))
bit_le false b more = omega arith

bit_false : (b : Bool) → b ≡ false → bit b ≡ 0
bit_false true is = absurd (false≢true (sym is))
bit_false false is = refl

bit_true : (b : Bool) → b ≡ true → bit b ≡ 1
bit_true true is = refl
bit_true false is = absurd (false≢true is)

pub below_of : (f g : ℕ → Bool) (n : ℕ) → ((p : ℕ) → p < n → f p ≡ true → g p ≡ true) → below f n ≤ below g n
below_of f g zero more = omega arith
below_of f g (suc n) more =
    let same : suc n ≡ n + 1 = omega arith in
    let bits = bit_le (f n) (g n) (more n (omega arith)) in
    let fewer = below_of f g n (λ p low. more p (omega arith)) in
    let here = below_next f n in
    let there = below_next g n in
    subst (λ m. below f m ≤ below g m) (sym same) (omega arith)

-- one more passes the second test
pub below_one : (f g : ℕ → Bool) (q n : ℕ) → q < n → f q ≡ false → g q ≡ true → ((p : ℕ) → f p ≡ true → g p ≡ true) → below f n + 1 ≤ below g n
below_one f g q zero low not_f is_g more = absurd (omega arith)
below_one f g q (suc n) low not_f is_g more =
    let same : suc n ≡ n + 1 = omega arith in
    let bits = bit_le (f n) (g n) (more n) in
    let fewer = below_of f g n (λ p under. more p) in
    let here = below_next f n in
    let there = below_next g n in
    subst (λ m. below f m + 1 ≤ below g m) (sym same)
    (⊎_elim
    (λ before. let far = below_one f g q n before not_f is_g more in omega arith)
    (λ past.
    let is : n ≡ q = omega arith in
    let none_more : bit (f n) ≡ 0 = bit_false (f n) (ap f is ∙ not_f) in
    let one_more : bit (g n) ≡ 1 = bit_true (g n) (ap g is ∙ is_g) in
    omega arith)
    (cases_lt q n))

-- no more than there are
pub below_all : (f : ℕ → Bool) (n : ℕ) → below f n ≤ n
below_all f n = let most = count_by-le-length f (range_with_len 0 n) in let long = length-range_with_len 0 n in omega arith

pub marking_most : (g : Geometry) (clusters : ℕ → Bool) → marking_sectors g clusters ≤ map_sectors g
marking_most g clusters = below_all (has_mark_of g clusters) (map_sectors g)

zero_plus : (c : ℕ) → 0 + c ≡ c
zero_plus c = omega arith

-- the sector that has the mark of a cluster
pub mark_there : (g : Geometry) (clusters : ℕ → Bool) (c place : ℕ) → c < cluster_count g → clusters c ≡ true → c / 2048 ≡ place → has_mark_of g clusters place ≡ true
mark_there g clusters c place low is there =
    let test : ℕ → Bool = λ d. clusters d && (d / 2048 == place) in
    let at : get_or (range_with_len 0 (cluster_count g)) c 0 ≡ c = get_or-range_with_len 0 (cluster_count g) c 0 low ∙ zero_plus c in
    list_any_at test (range_with_len 0 (cluster_count g)) c 0 (let long = length-range_with_len 0 (cluster_count g) in omega arith)
    (ap test at ∙ and_from (clusters c) (c / 2048 == place) is (eq-eqb (c / 2048) place there))
