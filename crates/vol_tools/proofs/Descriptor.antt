-- A descriptor with one segment: zeros follow.
use Rattle.std.proofs.Common.{◌≡◌, ℕ, ◌+◌, ◌*◌, ◌^◌, ◌<◌, ◌≤◌, List, length, get_or, replicate, sym, ap, ◌∙◌, subst, arith, ⊎_elim}
use Rattle.std.proofs.lemmas.Bool.{cases_eq, cases_lt}
use Rattle.std.proofs.lemmas.List.{get_or-replicate, length-replicate, get_or_past}
use Rattle.rbf_model.specs.Fields.{segment_field}

-- three bytes that make 0 are zeros, and so are two
three_zeros : (a b c : ℕ) → a * 256 ^ 2 + (b * 256 ^ 1 + (c * 256 ^ 0 + 0)) ≡ 0 → (a ≡ 0) × (b ≡ 0) × (c ≡ 0)
three_zeros a b c none = (omega arith, omega arith, omega arith)

two_zeros : (a b : ℕ) → a * 256 ^ 1 + (b * 256 ^ 0 + 0) ≡ 0 → (a ≡ 0) × (b ≡ 0)
two_zeros a b none = (omega arith, omega arith)

-- the bytes of a pair, and those behind it
five_and_more : (P : ℕ → Type 0) → P 21 → P 22 → P 23 → P 24 → P 25 → ((i : ℕ) → 26 ≤ i → P i) → (i : ℕ) → 21 ≤ i → P i
five_and_more P a b c d e more i past =
    ⊎_elim (λ is. subst P (sym is) a)
    (λ no21. ⊎_elim (λ is. subst P (sym is) b)
    (λ no22. ⊎_elim (λ is. subst P (sym is) c)
    (λ no23. ⊎_elim (λ is. subst P (sym is) d)
    (λ no24. ⊎_elim (λ is. subst P (sym is) e)
    (λ no25. more i (omega arith))
    (cases_eq i 25)) (cases_eq i 24)) (cases_eq i 23)) (cases_eq i 22)) (cases_eq i 21)

pub zeros_behind : (segments : List (ℕ × ℕ)) (new old : List ℕ) → length segments ≡ 1
    → (length segments < 48 → segment_field new (length segments) ≡ (0, 0))
    → ((i : ℕ) → 16 + 5 * (length segments + 1) ≤ i → get_or new i 0 ≡ get_or old i 0)
    → ((i : ℕ) → 26 ≤ i → get_or old i 0 ≡ 0)
    → (i : ℕ) → 21 ≤ i → get_or new i 0 ≡ 0
zeros_behind segments new old one ended behind zeros =
    let few : length segments < 48 = omega arith in
    let pair : segment_field new 1 ≡ (0, 0) = subst (λ n. segment_field new n ≡ (0, 0)) one (ended few) in
    let three = three_zeros (get_or new 21 0) (get_or new 22 0) (get_or new 23 0) (ap (λ (p : ℕ × ℕ). p.0) pair) in
    let two = two_zeros (get_or new 24 0) (get_or new 25 0) (ap (λ (p : ℕ × ℕ). p.1) pair) in
    five_and_more (λ i. get_or new i 0 ≡ 0) three.0 three.1 three.2 two.0 two.1
    (λ i past. behind i (omega arith) ∙ zeros i past)

-- zeros, and what is past their end, read as zeros
pub zeros_read : (n i : ℕ) → get_or {A = ℕ} (replicate n 0) i 0 ≡ 0
zeros_read n i =
    ⊎_elim (λ low. get_or-replicate n i 0 0 low)
    (λ past. get_or_past (replicate n 0) i 0 (omega (arith, length-replicate {A = ℕ} n 0)))
    (cases_lt i n)
