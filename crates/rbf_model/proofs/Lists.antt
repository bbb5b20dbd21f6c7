-- Lists: an element that passes a test, and options.
use Rattle.std.proofs.Common.{◌≡◌, ℕ, Bool, true, false, ◌==◌, ◌&&◌, List, [], ◌∷◌, Option, Some, None, IsSome, refl, sym, subst, ⊎_elim, eqb-true, eq-eqb}
use Rattle.std.specs.List.{list_any, list_all}
use Rattle.std.proofs.lemmas.Bool.{or_cases, or_left, or_right, false≢true, and_parts, and_from}

-- a test that some element passes, passed by a number of the list
pub any_witness : (p : ℕ → Bool) (xs : List ℕ) → list_any p xs ≡ true → (x : ℕ) × (list_any (λ t. t == x) xs ≡ true) × (p x ≡ true)
any_witness p [] h = absurd (false≢true h)
any_witness p (x ∷ xs) h =
    ⊎_elim (λ here. (x, or_left (x == x) (list_any (λ t. t == x) xs) (eq-eqb x x refl), here))
    (λ later. let w = any_witness p xs later in (w.0, or_right (x == w.0) (list_any (λ t. t == w.0) xs) w.1, w.2))
    (or_cases (p x) (list_any p xs) h)

-- a number of the list that passes the test
pub any_from : (p : ℕ → Bool) (xs : List ℕ) (x : ℕ) → list_any (λ t. t == x) xs ≡ true → p x ≡ true → list_any p xs ≡ true
any_from p [] x h q = absurd (false≢true h)
any_from p (y ∷ ys) x h q =
    ⊎_elim (λ here. or_left (p y) (list_any p ys) (subst (λ z. p z ≡ true) (sym (eqb-true y x here)) q))
    (λ later. or_right (p y) (list_any p ys) (any_from p ys x later q))
    (or_cases (y == x) (list_any (λ t. t == x) ys) h)

-- an option that is Some x is something
pub some_is : {X : Type 0} (o : Option X) (x : X) → o ≡ Some x → IsSome o
some_is o x h = subst IsSome (sym h) refl

-- what is something has a value
pub some_of : {X : Type 0} (o : Option X) → IsSome o → (x : X) × (o ≡ Some x)
some_of None h = absurd (false≢true h)
some_of (Some x) h = (x, refl)

-- four tests that all pass
pub four_pass : (a b c d : Bool) → a ≡ true → b ≡ true → c ≡ true → d ≡ true → (a && b && c && d) ≡ true
four_pass a b c d p q r s = rw (p, q, r, s) refl

-- and four of which the first fails
pub first_fails : (a b c d : Bool) → a ≡ false → (a && b && c && d) ≡ false
first_fails a b c d p = rw p refl

-- three that pass
pub three_pass : (a b c : Bool) → a ≡ true → b ≡ true → c ≡ true → (a && b && c) ≡ true
three_pass a b c p q r = rw (p, q, r) refl

pub three_parts : (a b c : Bool) → (a && b && c) ≡ true → (a ≡ true) × (b ≡ true) × (c ≡ true)
three_parts a b c h =
    let one = and_parts (a && b) c h in
    let two = and_parts a b one.0 in
    (two.0, two.1, one.1)

-- a test that every number of the list passes
pub all_from : (p : ℕ → Bool) (xs : List ℕ) → ((x : ℕ) → list_any (λ t. t == x) xs ≡ true → p x ≡ true) → list_all p xs ≡ true
all_from p [] h = refl
all_from p (x ∷ xs) h =
    and_from (p x) (list_all p xs) (h x (or_left (x == x) _ (eq-eqb x x refl)))
    (all_from p xs (λ y later. h y (or_right (x == y) _ later)))

-- and what each of them then passes
pub all_at : (p : ℕ → Bool) (xs : List ℕ) (x : ℕ) → list_all p xs ≡ true → list_any (λ t. t == x) xs ≡ true → p x ≡ true
all_at p [] x h has = absurd (false≢true has)
all_at p (y ∷ ys) x h has =
    let parts = and_parts (p y) (list_all p ys) h in
    ⊎_elim (λ here. subst (λ z. p z ≡ true) (eqb-true y x here) parts.0) (λ later. all_at p ys x parts.1 later)
    (or_cases (y == x) (list_any (λ t. t == x) ys) has)
