-- Clusters that follow one another, as tests.
use Rattle.std.proofs.Common.{◌≡◌, ℕ, ◌+◌, ◌*◌, ◌/◌, ◌<◌, ◌≤◌, max, min, Bool, true, false, ◌==◌, ◌&&◌, ◌||◌, refl, sym, ⊎_elim, arith, eq-eqb, eqb-true, leb-true, le-leb}
use Rattle.std.specs.Prelude.{nat_le, nat_lt}
use Rattle.std.proofs.lemmas.Bool.{ltb-true, lt-ltb, and_parts, and_from, or_left, or_right, or_cases, false_from_ne_true, cases_eq}

-- two tests that pass together are the same
pub same_tests : (a b : Bool) → (a ≡ true → b ≡ true) → (b ≡ true → a ≡ true) → a ≡ b
same_tests true b one other = sym (one refl)
same_tests false true one other = other refl
same_tests false false one other = refl

pub within : (first end c : ℕ) → first ≤ c → c < end → (nat_le first c && nat_lt c end) ≡ true
within first end c low high = and_from (nat_le first c) (nat_lt c end) (le-leb first c low) (lt-ltb c end high)

pub bounds : (first end c : ℕ) → (nat_le first c && nat_lt c end) ≡ true → (first ≤ c) × (c < end)
bounds first end c h =
    let parts = and_parts (nat_le first c) (nat_lt c end) h in
    (leb-true first c parts.0, ltb-true c end parts.1)

-- no cluster is before the first
pub none_between : (first end c : ℕ) → end ≤ first → (nat_le first c && nat_lt c end) ≡ false
none_between first end c empty =
    false_from_ne_true (nat_le first c && nat_lt c end) (λ h. let b = bounds first end c h in let low = b.0 in let high = b.1 in absurd (omega arith))

-- one more
pub one_more : (first at c : ℕ) → first ≤ at → ((nat_le first c && nat_lt c at) || (c == at)) ≡ (nat_le first c && nat_lt c (at + 1))
one_more first at c begun = same_tests ((nat_le first c && nat_lt c at) || (c == at)) (nat_le first c && nat_lt c (at + 1))
    (λ h. ⊎_elim
    (λ was. let b = bounds first at c was in let low = b.0 in let high = b.1 in within first (at + 1) c low (omega arith))
    (λ new. let is : c ≡ at = eqb-true c at new in within first (at + 1) c (omega arith) (omega arith))
    (or_cases (nat_le first c && nat_lt c at) (c == at) h))
    (λ h.
    let b = bounds first (at + 1) c h in
    let low = b.0 in
    let high = b.1 in
    ⊎_elim
    (λ is. or_right (nat_le first c && nat_lt c at) (c == at) (eq-eqb c at is))
    (λ differ. or_left (nat_le first c && nat_lt c at) (c == at) (let ne : c ≡ at → ⊥ = differ in within first at c low (omega arith)))
    (cases_eq c at))

-- all that there are
pub all_between : (first end at c : ℕ) → end ≤ at → at ≤ max first end → (nat_le first c && nat_lt c at) ≡ (nat_le first c && nat_lt c end)
all_between first end at c past most = same_tests (nat_le first c && nat_lt c at) (nat_le first c && nat_lt c end)
    (λ h. let b = bounds first at c h in let low = b.0 in let high = b.1 in within first end c low (omega arith))
    (λ h. let b = bounds first end c h in let low = b.0 in let high = b.1 in within first at c low (omega arith))

-- the clusters of a segment that have their mark in one sector of the map
pub clamped : (a b place c : ℕ) → (nat_le (max a (2048 * place)) c && nat_lt c (min b (2048 * place + 2047) + 1)) ≡ ((nat_le a c && nat_le c b) && (c / 2048 == place))
clamped a b place c = same_tests (nat_le (max a (2048 * place)) c && nat_lt c (min b (2048 * place + 2047) + 1)) ((nat_le a c && nat_le c b) && (c / 2048 == place))
    (λ h.
    let p = bounds (max a (2048 * place)) (min b (2048 * place + 2047) + 1) c h in
    let low = p.0 in
    let high = p.1 in
    and_from (nat_le a c && nat_le c b) (c / 2048 == place) (and_from (nat_le a c) (nat_le c b) (le-leb a c (omega arith)) (le-leb c b (omega arith))) (eq-eqb (c / 2048) place (omega arith)))
    (λ h.
    let p = and_parts (nat_le a c && nat_le c b) (c / 2048 == place) h in
    let q = and_parts (nat_le a c) (nat_le c b) p.0 in
    let low = leb-true a c q.0 in
    let high = leb-true c b q.1 in
    let there : c / 2048 ≡ place = eqb-true (c / 2048) place p.1 in
    within (max a (2048 * place)) (min b (2048 * place + 2047) + 1) c (omega arith) (omega arith))
