-- How many clusters are free beside some.
use Rattle.std.proofs.Common.{◌≡◌, ◌≢◌, ℕ, ◌+◌, ◌≤◌, ◌==◌, not, Bool, true, false, List, [], ◌∷◌, length, refl, sym, ap, ◌∙◌, arith, eqb-true}
use Rattle.std.specs.Prelude.{filter, if◌then◌else◌, ◌&&◌, ◌||◌}
use Rattle.std.specs.List.{range_with_len}
use Rattle.std.proofs.lemmas.Bool.{and_from, and_parts, false_from_ne_true, false≢true, not_from_false}
use Rattle.rbf_model.specs.Segments.{has}
use Rattle.run_laws.proofs.Gaining.{drop-one}

-- what passes one test passes the other, so the other passes as many
filter-more : (f g : ℕ → Bool) → ((c : ℕ) → f c ≡ true → g c ≡ true) → (xs : List ℕ) → length (filter f xs) ≤ length (filter g xs)
filter-more f g more [] = omega arith
filter-more f g more (x ∷ xs) = by_test (f x) (g x) (more x) (filter f xs) (filter g xs) (filter-more f g more xs)
  where
    by_test : (t u : Bool) → (t ≡ true → u ≡ true) → (ys zs : List ℕ) → length ys ≤ length zs → length (if t then x ∷ ys else ys) ≤ length (if u then x ∷ zs else zs)
    by_test true true passes ys zs low = omega (arith, low)
    by_test true false passes ys zs low = absurd (false≢true (passes refl))
    by_test false true passes ys zs low = omega (arith, low)
    by_test false false passes ys zs low = low

not-in : (x c : ℕ) (xs : List ℕ) → has (x ∷ xs) c ≡ true → not (x == c) ≡ true → has xs c ≡ true
not-in x c xs there differ = by_test (x == c) there differ
  where
    by_test : (t : Bool) → (t || has xs c) ≡ true → not t ≡ true → has xs c ≡ true
    by_test true there differ = absurd (false≢true differ)
    by_test false there differ = there

-- without the clusters of a list, that many fewer are free at most
pub fewer : (free h : ℕ → Bool) (xs : List ℕ) → ((c : ℕ) → h c ≡ true → has xs c ≡ true) → (n : ℕ)
    → length (filter free (range_with_len 0 n)) ≤ length (filter (λ c. free c && not (h c)) (range_with_len 0 n)) + length xs
fewer free h [] listed n =
    let low = filter-more free (λ c. free c && not (h c)) (λ c is. and_from (free c) (not (h c)) is (not_from_false (h c) (false_from_ne_true (h c) (λ there. false≢true (listed c there)))))
    (range_with_len 0 n) in
    omega (arith, low)
fewer free h (x ∷ xs) listed n =
    let rest = fewer free (λ c. h c && not (x == c)) xs (λ c both. let parts = and_parts (h c) (not (x == c)) both in not-in x c xs (listed c parts.0) parts.1) n in
    let one = drop-one (λ c. free c && not (h c && not (x == c))) (λ c. (free c && not (h c && not (x == c))) && not (x == c)) x (λ c apart. still c apart) 0 n in
    let low = filter-more (λ c. (free c && not (h c && not (x == c))) && not (x == c)) (λ c. free c && not (h c)) (λ c is. out (free c) (h c) (x == c) is) (range_with_len 0 n) in
    omega (arith, rest, one, low)
  where
    and-true : (t : Bool) → (t && true) ≡ t
    and-true true = refl
    and-true false = refl

    still : (c : ℕ) → c ≢ x → ((free c && not (h c && not (x == c))) && not (x == c)) ≡ (free c && not (h c && not (x == c)))
    still c apart =
        ap (λ (same : Bool). (free c && not (h c && not (x == c))) && not same) (false_from_ne_true (x == c) (λ same. apart (sym (eqb-true x c same))))
        ∙ and-true (free c && not (h c && not (x == c)))

    out : (t u e : Bool) → ((t && not (u && not e)) && not e) ≡ true → (t && not u) ≡ true
    out true true true is = absurd (false≢true is)
    out true true false is = absurd (false≢true is)
    out true false true is = refl
    out true false false is = refl
    out false u e is = absurd (false≢true is)
