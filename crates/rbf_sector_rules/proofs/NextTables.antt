-- Tables of the next number that has a property, filled from the end.
use Rattle.std.proofs.Common.{◌≡◌, ℕ, ◌+◌, ◌-◌, ◌<◌, ◌≤◌, true, List, length, get_or, set, replicate, Option, Some, None, MatchOption, sym, ap, ◌∙◌, subst, ⊎_elim, arith}
use Rattle.std.specs.List.{range_with_len}
use Rattle.std.proofs.lemmas.Bool.{cases_lt, cases_eq}
use Rattle.std.proofs.lemmas.List.{get_or-set_same, get_or-set_other, get_or-replicate, length-replicate, length-set}
use Rattle.rbf_model.specs.Segments.{has}
use Rattle.rbf_model.proofs.Segments.{range_has, has_range}
use Rattle.rbf_sector_rules.specs.Least.{IsLeast}
use Rattle.rbf_sector_rules.specs.Nexts.{IsNextSuch, AreNexts}

-- the table is filled from place s on, which holds `next`
pub record IsFilled (B : ℕ → Type 0) (limit : ℕ) (nexts : List ℕ) (s next : ℕ) : Type 0 where
  pub size : length nexts ≡ limit
  pub here : IsNextSuch B limit s next
  pub each : (t : ℕ) → s ≤ t → t < limit → IsNextSuch B limit t (get_or nexts t 0)

module _ (B : ℕ → Type 0) (limit : ℕ) where
  pub filled_none : (nexts : List ℕ) → length nexts ≡ limit → IsFilled B limit nexts limit limit
  filled_none nexts size = record {
    size = size;
    here = record { after = omega arith; within = omega arith; is = λ low. absurd (omega arith); least = λ t from low. absurd (omega arith) };
    each = λ t from low. absurd (omega arith);
  }

  -- or it holds the limit throughout, and no number from s on has the property
  pub filled_from : (nexts : List ℕ) (s : ℕ) → nexts ≡ replicate limit limit → s ≤ limit → ((t : ℕ) → s ≤ t → t < limit → B t → ⊥) → IsFilled B limit nexts s limit
  filled_from nexts s all within none = record {
    size = ap length all ∙ length-replicate limit limit;
    here = record { after = within; within = omega arith; is = λ low. absurd (omega arith); least = none };
    each = λ t from low.
        let P : ℕ → Type 0 = λ n. IsNextSuch B limit t n in
        subst P (sym (ap (λ xs. get_or xs t 0) all ∙ get_or-replicate limit t limit 0 low))
        (record { after = omega arith; within = omega arith; is = λ less. absurd (omega arith); least = λ u over below. none u (omega arith) below });
  }

  -- the number in front has the property, or not
  pub next_with : (s : ℕ) → s < limit → B s → IsNextSuch B limit s s
  next_with s low holds = record {
    after = omega arith;
    within = omega arith;
    is = λ h. holds;
    least = λ t from below. absurd (omega arith);
  }

  pub next_without : (s next : ℕ) → 1 ≤ s → IsNextSuch B limit s next → (B (s - 1) → ⊥) → IsNextSuch B limit (s - 1) next
  next_without s next some before fails = record {
    after = let low = before.after in omega arith;
    within = before.within;
    is = before.is;
    least = λ t from low. ⊎_elim
        (λ here. let P : ℕ → Type 0 = λ n. B n → ⊥ in subst P (sym here) fails)
        (λ apart. before.least t (let other : t ≡ s - 1 → ⊥ = apart in omega arith) low)
        (cases_eq t (s - 1));
  }

  pub filled_more : (nexts : List ℕ) (s last next : ℕ) → 1 ≤ s → s ≤ limit → IsFilled B limit nexts s last → IsNextSuch B limit (s - 1) next → IsFilled B limit (set nexts (s - 1) next) (s - 1) next
  filled_more nexts s last next some within before here = record {
    size = length-set nexts (s - 1) next ∙ before.size;
    here = here;
    each = λ t from low. ⊎_elim
        (λ same.
        let size = before.size in
        let at : get_or (set nexts (s - 1) next) t 0 ≡ next = ap (λ n. get_or (set nexts (s - 1) next) n 0) same ∙ get_or-set_same nexts (s - 1) next 0 (omega arith) in
        let P : ℕ → Type 0 = λ n. IsNextSuch B limit n (get_or (set nexts (s - 1) next) t 0) in
        let Q : ℕ → Type 0 = λ n. IsNextSuch B limit (s - 1) n in
        subst P (sym same) (subst Q (sym at) here))
        (λ apart.
        let other : t ≡ s - 1 → ⊥ = apart in
        let P : ℕ → Type 0 = λ n. IsNextSuch B limit t n in
        subst P (sym (get_or-set_other nexts (s - 1) t next 0 apart)) (before.each t (omega arith) low))
        (cases_eq t (s - 1));
  }

  pub filled_all : (nexts : List ℕ) (next : ℕ) → IsFilled B limit nexts 0 next → AreNexts B limit nexts
  filled_all nexts next all = record { size = all.size; each = λ s low. all.each s (omega arith) low }

  -- the least of a run
  pub least_of_run : (nexts : List ℕ) (first count : ℕ) (one : Option ℕ) → AreNexts B limit nexts → 1 ≤ count → first + count ≤ length nexts
      → MatchOption one (first + count ≤ get_or nexts first 0) (λ next. (next ≡ get_or nexts first 0) × (next < first + count))
      → IsLeast (λ s. (has (range_with_len first count) s ≡ true) × B s) one
  least_of_run nexts first count None are some within past = λ s h.
      let size = are.size in
      let place = range_has first count s h.0 in
      (are.each first (omega arith)).least s place.0 (omega (arith, place.1)) h.1
  least_of_run nexts first count (Some n) are some within here =
      let size = are.size in
      let next = are.each first (omega arith) in
      let at : n ≡ get_or nexts first 0 = here.0 in
      let after = next.after in
      let low : n < first + count = here.1 in (
        (has_range first count n (omega arith) low, subst B (sym at) (next.is (omega arith))),
        λ s h. ⊎_elim
            (λ less. absurd (next.least s (range_has first count s h.0).0 (omega arith) h.1))
            (λ more. more)
            (cases_lt s n),
      )
