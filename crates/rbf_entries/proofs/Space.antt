-- The clusters of a new directory: that of its descriptor, and that of its first sector.
use Rattle.std.proofs.Common.{◌≡◌, ◌≢◌, ℕ, zero, suc, ◌+◌, ◌-◌, ◌*◌, ◌/◌, ◌<◌, ◌≤◌, Bool, true, false, not, ◌==◌, ◌&&◌, ◌||◌, Some, List, [], ◌∷◌, length, inr, refl, sym, ap, ◌∙◌, subst, ⊎_elim, arith, eq-eqb, eqb-true}
use Rattle.std.specs.Prelude.{slice_get}
use Rattle.std.proofs.lemmas.List.{append-nil}
use Rattle.std.proofs.lemmas.List.FromFn.{length-range_with_len}
use mathlib.Core.Path.{fun_ext}
use Rattle.std.proofs.Math.Nat.{mul-div_cancel, div-eq_of_lt}
use Rattle.std.proofs.lemmas.Bool.{and_parts, and_from, or_left, or_right, or_cases, both_ways, false≢true, false_from_ne_true, cond-true, cond-false, cases_Bool}
use Rattle.std.specs.List.{range_with_len}
use Rattle.rbf_model.specs.Segments.{AreDistinct, has, sectors_of}
use Rattle.rbf_model.proofs.Growth.{cluster_of_range, distinct_range}
use Rattle.rbf_segs.proofs.Runs.{sectors_of-appended}
use Rattle.rbf_change.specs.Growth.{Gains, MayGain, IsClusterAfter, IsChoice, begins_run, free_beside, with_clusters, uses, clusters_needed}
use Rattle.rbf_change.specs.NewFiles.{first_segments, free_but, file_clusters}
use Rattle.rbf_alloc.specs.Grown.{IsChosenGrowth}
use Rattle.rbf_entries.proofs.Making.{one_of}
use Rattle.rbf_entries.proofs.NewDescriptor.{first_more}
use Rattle.rbf_entries.specs.FolderMade.{new_sectors}

abbrev pub run_of : ℕ → ℕ → List (ℕ × ℕ)
run_of k first = (first, new_sectors k) ∷ []

-- the descriptor of a new directory and its first sector, in the clusters that were taken for it
pub record IsSpace (k : ℕ) (free : ℕ → Bool) (taken : List ℕ) : Type 0 where
  pub number : ℕ
  pub first : ℕ
  pub cluster : ℕ
  pub begins : number ≡ cluster * k
  pub cluster_free : free cluster ≡ true
  pub gained : List ℕ
  pub choice : IsChoice k (free_but k free number) (first_segments k number) 64 gained
  pub segments : with_clusters k (first_segments k number) gained ≡ run_of k first
  pub distinct : AreDistinct (number ∷ sectors_of (run_of k first))
  pub inside : (s : ℕ) → has (number ∷ sectors_of (run_of k first)) s ≡ true → has taken (s / k) ≡ true
  pub hit : (c : ℕ) → has taken c ≡ true → (s : ℕ) × (has (number ∷ sectors_of (run_of k first)) s ≡ true) × (s / k ≡ c)
  pub number_at : slice_get (sectors_of (with_clusters k [] taken)) 0 ≡ Some number
  pub first_at : slice_get (sectors_of (with_clusters k [] taken)) 1 ≡ Some first

two_of : (taken : List ℕ) → length taken ≡ 2 → (c : ℕ) × (d : ℕ) × (taken ≡ c ∷ d ∷ [])
two_of [] counted = absurd (omega arith)
two_of (c ∷ []) counted = absurd (omega arith)
two_of (c ∷ d ∷ []) counted = (c, d, refl)
two_of (c ∷ d ∷ e ∷ more) counted = absurd (omega arith)

distinct_two : (a b : ℕ) → a ≢ b → AreDistinct (a ∷ b ∷ [])
distinct_two a b differ zero zero d low high = absurd (omega arith)
distinct_two a b differ zero (suc zero) d low high = differ
distinct_two a b differ zero (suc (suc j)) d low high = absurd (omega arith)
distinct_two a b differ (suc i) j d low high = absurd (omega arith)

same_place : (a b : ℕ) → (a == b) ≡ (b == a)
same_place a b = ⊎_elim
    (λ same. let e : a ≡ b = eqb-true a b same in same ∙ sym (eq-eqb b a (sym e)))
    (λ other. other ∙ sym (false_from_ne_true (b == a) (λ h. both_ways (a == b) other (eq-eqb a b (sym (eqb-true b a h))))))
    (cases_Bool (a == b))

one_is : (c : ℕ) → c * 1 / 1 ≡ c
one_is c = omega arith

single : (c d : ℕ) → has (c ∷ []) d ≡ true → c ≡ d
single c d h = ⊎_elim (λ e. eqb-true c d e) (λ none. absurd (false≢true none)) (or_cases (c == d) false h)

-- clusters of one sector: the second one begins a run when the first was taken
module _ (free : ℕ → Bool) (c d : ℕ) (gains : Gains 1 free [] (c ∷ d ∷ [])) where
  abbrev n : ℕ
  n = c * 1

  abbrev before : ℕ → Bool
  before = free_beside 1 free ((n, 1) ∷ [])

  abbrev after : ℕ → Bool
  after = free_beside 1 (free_but 1 free n) []

  same_at : (x : ℕ) → before x ≡ after x
  same_at x = pick (free x) (n / 1 == x) (x == n / 1) (same_place (n / 1) x)
    where
      pick : (f a b : Bool) → a ≡ b → (f && not (a || false)) ≡ ((f && not b) && not false)
      pick true true true e = refl
      pick true true false e = absurd (cc e)
      pick true false true e = absurd (cc e)
      pick true false false e = refl
      pick false a b e = refl

  same : before ≡ after
  same = fun_ext same_at

  c_taken : before c ≡ false
  c_taken =
      let there : (n / 1 == c) ≡ true = eq-eqb (n / 1) c (one_is c) in
      pick (free c) (n / 1 == c) there
    where
      pick : (f a : Bool) → a ≡ true → (f && not (a || false)) ≡ false
      pick true true e = refl
      pick true false e = absurd (cc e)
      pick false a e = refl

  d_free : before d ≡ true
  d_free = gains.1.0.is_free

  pub apart : c ≢ d
  apart e = both_ways (before d) (subst (λ x. before x ≡ false) e c_taken) d_free

  next_begins : (x y : ℕ) → x ≡ y + 1 → before x ≡ true → before y ≡ false → begins_run before x ≡ true
  next_begins x y e one none =
      let back : x - 1 ≡ y = omega arith in
      let shut : not (before (x - 1)) ≡ true = ap not (ap before back ∙ none) in
      and_from (before x) ((x == 0) || not (before (x - 1))) one (or_right (x == 0) (not (before (x - 1))) shut)

  d_begins : begins_run before d ≡ true
  d_begins = ⊎_elim
      (λ (next : IsClusterAfter 1 ((n, 1) ∷ []) d).
      let place : d ≡ n / 1 + 1 = next.next in
      next_begins d c (place ∙ ap (λ x. x + 1) (one_is c)) d_free c_taken)
      (λ run. run)
      gains.1.0.run

  pub second : MayGain 1 after [] d
  second = record {
    is_free = subst (λ f. f d ≡ true) same d_free;
    next = λ e next. let some = next.some in absurd (omega arith);
    run = inr (subst (λ f. begins_run f d ≡ true) same d_begins);
  }

space_one : (free : ℕ → Bool) (taken : List ℕ) → IsChosenGrowth 1 (file_clusters 1 64) free [] taken → IsSpace 1 free taken
space_one free taken chosen =
    let two = two_of taken chosen.counted in
    let c = two.0 in
    let d = two.1 in
    subst (IsSpace 1 free) (sym two.2) (as_two c d (subst (Gains 1 free []) two.2 chosen.gained))
  where
    as_two : (c d : ℕ) → Gains 1 free [] (c ∷ d ∷ []) → IsSpace 1 free (c ∷ d ∷ [])
    as_two c d gains = record {
      number = c * 1;
      first = d * 1;
      cluster = c;
      begins = refl;
      cluster_free = (and_parts (free c) (not (uses 1 [] c)) gains.0.is_free).0;
      gained = d ∷ [];
      choice = record { enough = refl; gained = (second free c d gains, tt); fits = omega arith };
      segments = refl;
      distinct = distinct_two (c * 1) (d * 1) (λ e. apart free c d gains (omega arith));
      inside = λ s h. ⊎_elim
          (λ here. let e : c * 1 ≡ s = eqb-true (c * 1) s here in or_left (c == s / 1) ((d == s / 1) || false) (eq-eqb c (s / 1) (omega arith)))
          (λ there. let e : d * 1 ≡ s = single (d * 1) s there in or_right (c == s / 1) ((d == s / 1) || false) (or_left (d == s / 1) false (eq-eqb d (s / 1) (omega arith))))
          (or_cases (c * 1 == s) ((d * 1 == s) || false) h);
      hit = λ x h. ⊎_elim
          (λ here. (c * 1, or_left (c * 1 == c * 1) ((d * 1 == c * 1) || false) (eq-eqb (c * 1) (c * 1) refl), one_is c ∙ eqb-true c x here))
          (λ there. (d * 1, or_right (c * 1 == d * 1) ((d * 1 == d * 1) || false) (or_left (d * 1 == d * 1) false (eq-eqb (d * 1) (d * 1) refl)), one_is d ∙ single d x there))
          (or_cases (c == x) ((d == x) || false) h);
      number_at = ap (λ xs. slice_get xs 0) (sectors_of-appended ((c * 1, 1) ∷ []) (d * 1) 1);
      first_at = ap (λ xs. slice_get xs 1) (sectors_of-appended ((c * 1, 1) ∷ []) (d * 1) 1);
    }

-- clusters of several sectors: the first sector of the directory is the one behind its descriptor
several : (k : ℕ) → 1 < k → new_sectors k ≡ k - 1
several k more = cond-false (k == 1) 1 (k - 1) (false_from_ne_true (k == 1) (λ h. let e : k ≡ 1 = eqb-true k 1 h in absurd (omega arith)))

none_needed : (k n : ℕ) → 1 < k → clusters_needed k (first_segments k n) 64 ≡ 0
none_needed k n more =
    let list : length (sectors_of (first_segments k n)) ≡ k - 1 = ap (λ xs. length (sectors_of xs)) (first_more k n more) ∙ range_size (n + 1) (k - 1) in
    let none : (64 + 255) / 256 - length (sectors_of (first_segments k n)) + (k - 1) ≡ k - 1 = omega arith in
    ap (λ x. x / k) none ∙ div-eq_of_lt (omega arith)
  where
    range_size : (a m : ℕ) → length (sectors_of ((a, m) ∷ [])) ≡ m
    range_size a m = ap length (append-nil (range_with_len a m)) ∙ length-range_with_len a m

pub needs_one : (k : ℕ) → 1 < k → file_clusters k 64 ≡ 1
needs_one k more = ap (λ x. 1 + x) (none_needed k 0 more)

space_more : (k : ℕ) (free : ℕ → Bool) (taken : List ℕ) → 1 < k → IsChosenGrowth k (file_clusters k 64) free [] taken → IsSpace k free taken
space_more k free taken more chosen =
    let one = one_of taken (chosen.counted ∙ needs_one k more) in
    let c = one.0 in
    subst (IsSpace k free) (sym one.1) (as_one c (subst (Gains k free []) one.1 chosen.gained))
  where
    front : (a m : ℕ) → 1 < m → a ∷ range_with_len (a + 1) (m - 1) ≡ range_with_len a m
    front a zero less = absurd (omega arith)
    front a (suc m) less = ap (λ x. a ∷ range_with_len (a + 1) x) (let one : suc m - 1 ≡ m = omega arith in one)

    at_zero : (a m : ℕ) → 1 < m → slice_get (sectors_of ((a, m) ∷ [])) 0 ≡ Some a
    at_zero a zero less = absurd (omega arith)
    at_zero a (suc m) less = refl

    at_one : (a m : ℕ) → 1 < m → slice_get (sectors_of ((a, m) ∷ [])) 1 ≡ Some (a + 1)
    at_one a zero less = absurd (omega arith)
    at_one a (suc zero) less = absurd (omega arith)
    at_one a (suc (suc m)) less = refl

    as_one : (c : ℕ) → Gains k free [] (c ∷ []) → IsSpace k free (c ∷ [])
    as_one c gains =
        let n : ℕ = c * k in
        let list : run_of k (n + 1) ≡ (n + 1, k - 1) ∷ [] = ap (λ m. (n + 1, m) ∷ []) (several k more) in
        let all : n ∷ sectors_of (run_of k (n + 1)) ≡ range_with_len n k = ap (λ xs. n ∷ sectors_of xs) list ∙ ap (λ xs. n ∷ xs) (append-nil (range_with_len (n + 1) (k - 1))) ∙ front n k more in
        record {
          number = n;
          first = n + 1;
          cluster = c;
          begins = refl;
          cluster_free = (and_parts (free c) (not (uses k [] c)) gains.0.is_free).0;
          gained = [];
          choice = record { enough = sym (none_needed k n more); gained = tt; fits = let one : length (first_segments k n) ≡ 1 = ap length (first_more k n more) in omega arith };
          segments = first_more k n more ∙ sym list;
          distinct = subst AreDistinct (sym all) (distinct_range n k);
          inside = λ s h. or_left (c == s / k) false (eq-eqb c (s / k) (sym (cluster_of_range k c s (omega arith) (sym (ap (λ xs. has xs s) all) ∙ h))));
          hit = λ x h. (n, or_left (n == n) (has (sectors_of (run_of k (n + 1))) n) (eq-eqb n n refl), mul-div_cancel c (omega arith) ∙ single c x h);
          number_at = at_zero n k more;
          first_at = at_one n k more;
        }

pub space_of : (k : ℕ) (free : ℕ → Bool) (taken : List ℕ) → 1 ≤ k → IsChosenGrowth k (file_clusters k 64) free [] taken → IsSpace k free taken
space_of k free taken positive chosen = ⊎_elim
    (λ one.
    let is : k ≡ 1 = eqb-true k 1 one in
    subst (λ x. IsSpace x free taken) (sym is) (space_one free taken (subst (λ x. IsChosenGrowth x (file_clusters x 64) free [] taken) is chosen)))
    (λ many.
    let differ : k ≢ 1 = λ e. both_ways (k == 1) many (eq-eqb k 1 e) in
    space_more k free taken (omega arith) chosen)
    (cases_Bool (k == 1))

-- the directory has a sector at least
pub some_sector : (k : ℕ) → 1 ≤ k → 1 ≤ new_sectors k
some_sector k positive = ⊎_elim
    (λ one. let is : new_sectors k ≡ 1 = cond-true (k == 1) 1 (k - 1) one in omega arith)
    (λ many.
    let differ : k ≢ 1 = λ e. both_ways (k == 1) many (eq-eqb k 1 e) in
    let is : new_sectors k ≡ k - 1 = several k (omega arith) in
    omega arith)
    (cases_Bool (k == 1))

-- few clusters are needed
pub few_needed : (k : ℕ) → 1 ≤ k → file_clusters k 64 ≤ 2
few_needed k positive = ⊎_elim
    (λ one. let is : k ≡ 1 = eqb-true k 1 one in subst (λ x. file_clusters x 64 ≤ 2) (sym is) (omega arith))
    (λ many.
    let differ : k ≢ 1 = λ e. both_ways (k == 1) many (eq-eqb k 1 e) in
    let is = needs_one k (omega arith) in
    omega arith)
    (cases_Bool (k == 1))
