-- No chain of waits has to be longer than there are processes.
use Rattle.std.proofs.Common.{◌≡◌, ◌<◌, ◌≤◌, ◌+◌, ℕ, zero, suc, ◌-◌, Bool, true, false, cond, ◌||◌, eqb, Some, None, length, inl, inr, ◌⊎◌, sym, ap, ◌∙◌, subst, arith}
use Rattle.std.proofs.lemmas.Bool.{cases_Bool, cases_lt, false≢true, or_cases, or_left, or_right}
use Rattle.std.proofs.lemmas.List.{get_or_past}
use Rattle.lock_model.specs.declared.lock.Held.{Held}
use Rattle.lock_model.specs.declared.lock.Request.{Request}
use Rattle.lock_model.specs.Locks.{Locks}
use Rattle.lock_model.specs.Waits.{Closes, leads_within, closes}
use Rattle.lock_model.proofs.Chains.{opposer-of, some-opposer, waits-of, waits-one, chain-of, leads-of, leads-more}

-- how many numbers below n pass a test
tally : (ℕ → Bool) → ℕ → ℕ
tally f zero = 0
tally f (suc n) = cond (f n) 1 0 + tally f n

tally-within : (f : ℕ → Bool) (n : ℕ) → tally f n ≤ n
unfolding tally
tally-within f zero = omega arith
tally-within f (suc n) = elim (cases_Bool (f n)) [
  | inl does ↦ rw does (omega (arith, tally-within f n))
  | inr fails ↦ rw fails (omega (arith, tally-within f n))
]

tally-le : (f g : ℕ → Bool) → ((k : ℕ) → f k ≡ true → g k ≡ true) → (n : ℕ) → tally f n ≤ tally g n
unfolding tally
tally-le f g sub zero = omega arith
tally-le f g sub (suc n) = elim (cases_Bool (f n)) [
  | inl does ↦ rw (does, sub n does) (omega (arith, tally-le f g sub n))
  | inr fails ↦ rw fails (omega (arith, tally-le f g sub n))
]

-- a test that passes what another one does passes the same numbers below n, or more
same-or-more : (f g : ℕ → Bool) → ((k : ℕ) → f k ≡ true → g k ≡ true) → (n : ℕ) → ((k : ℕ) → k < n → g k ≡ true → f k ≡ true) ⊎ (tally f n < tally g n)
unfolding tally
same-or-more f g sub zero = inl (λ k low passes. absurd (omega arith))
same-or-more f g sub (suc n) = elim (same-or-more f g sub n) [
  | inr more ↦ (
      elim (cases_Bool (f n)) [
        | inl does ↦ inr (rw (does, sub n does) (omega (arith, more)))
        | inr fails ↦ inr (rw fails (omega (arith, more)))
      ])
  | inl same ↦ (
      elim (cases_Bool (g n)) [
        | inl now ↦ (
            elim (cases_Bool (f n)) [
              | inl does ↦ inl (λ k low passes. last k n same low passes does)
              | inr fails ↦ inr (rw (fails, now) (omega (arith, tally-le f g sub n)))
            ])
        | inr not_now ↦ inl (λ k low passes. last-not k n same low passes not_now)
      ])
]
  where
    last : (k n : ℕ) → ((k : ℕ) → k < n → g k ≡ true → f k ≡ true) → k < suc n → g k ≡ true → f n ≡ true → f k ≡ true
    last k n same low passes does = elim (cases_lt k n) [
      | inl below ↦ same k below passes
      | inr at ↦ (let is : k ≡ n = omega arith in ap f is ∙ does)
    ]

    last-not : (k n : ℕ) → ((k : ℕ) → k < n → g k ≡ true → f k ≡ true) → k < suc n → g k ≡ true → g n ≡ false → f k ≡ true
    last-not k n same low passes fails = elim (cases_lt k n) [
      | inl below ↦ same k below passes
      | inr at ↦ (let is : k ≡ n = omega arith in absurd (false≢true (sym fails ∙ sym (ap g is) ∙ passes)))
    ]

-- one wait more leads nowhere else
abbrev IsClosed : Locks → ℕ → ℕ → Type 0
IsClosed locks p n = (q : ℕ) → leads_within locks (suc n) q p ≡ true → leads_within locks n q p ≡ true

closed-for-ever : (locks : Locks) (p n : ℕ) → IsClosed locks p n → (m q : ℕ) → leads_within locks m q p ≡ true → leads_within locks n q p ≡ true
closed-for-ever locks p n closed zero q e = absurd (false≢true e)
closed-for-ever locks p n closed (suc m) q e =
    let it = waits-of locks q (λ next. eqb next p || leads_within locks m next p) e in
    closed q (waits-one locks q (λ next. eqb next p || leads_within locks n next p) it.other it.waits
    (elim (or_cases (eqb it.other p) (leads_within locks m it.other p) it.passes) [
      | inl same ↦ or_left (eqb it.other p) (leads_within locks n it.other p) same
      | inr later ↦ or_right (eqb it.other p) (leads_within locks n it.other p) (closed-for-ever locks p n closed m it.other later)
    ]))

leads-longer : (locks : Locks) (p n k q : ℕ) → leads_within locks n q p ≡ true → leads_within locks (k + n) q p ≡ true
leads-longer locks p n zero q e = rw zero-add-it e
  where
    zero-add-it : 0 + n ≡ n
    zero-add-it = omega arith
leads-longer locks p n (suc k) q e = rw suc-add-it (leads-more locks (k + n) q p (leads-longer locks p n k q e))
  where
    suc-add-it : suc k + n ≡ suc (k + n)
    suc-add-it = omega arith

-- who waits has a number of a process
waiter-few : (locks : Locks) (n q p : ℕ) → length locks.requests ≡ 33 → leads_within locks n q p ≡ true → q < 33
waiter-few locks zero q p places e = absurd (false≢true e)
waiter-few locks (suc n) q p places e =
    let it = waits-of locks q (λ next. eqb next p || leads_within locks n next p) e in
    elim (cases_lt q 33) [
      | inl low ↦ low
      | inr past ↦ absurd (no-some it.waits.request (sym (get_or_past locks.requests q None (omega (arith, places, past))) ∙ it.waits.is))
    ]
  where
    no-some : (r : Request) → None ≡ Some r → ⊥
    no-some r e = cc

-- the closed number of waits, if it is below n
pub record ClosedBelow (locks : Locks) (p n : ℕ) : Type 0 where
  pub at : ℕ
  pub low : at < n
  pub closed : IsClosed locks p at

closed-or-many : (locks : Locks) (p : ℕ) → length locks.requests ≡ 33 → (n : ℕ) → ClosedBelow locks p n ⊎ (n ≤ tally (λ q. leads_within locks n q p) 33)
closed-or-many locks p places zero = inr (omega arith)
closed-or-many locks p places (suc n) = elim (closed-or-many locks p places n) [
  | inl it ↦ inl (record { at = it.at; low = omega (arith, it.low); closed = it.closed })
  | inr many ↦ (
      elim (same-or-more (λ q. leads_within locks n q p) (λ q. leads_within locks (suc n) q p) (λ q e. leads-more locks n q p e) 33) [
        | inl same ↦ inl (record { at = n; low = omega arith; closed = λ q e. same q (waiter-few locks (suc n) q p places e) e })
        | inr more ↦ inr (omega (arith, many, more))
      ])
]

-- so 33 waits are as good as any number
pub enough : (locks : Locks) (p m q : ℕ) → length locks.requests ≡ 33 → leads_within locks m q p ≡ true → leads_within locks 33 q p ≡ true
enough locks p m q places e = elim (closed-or-many locks p places 34) [
  | inl it ↦ (
      let there : leads_within locks it.at q p ≡ true = closed-for-ever locks p it.at it.closed m q e in
      let sum : (33 - it.at) + it.at ≡ 33 = omega (arith, it.low) in
      subst (λ (k : ℕ). leads_within locks k q p ≡ true) sum (leads-longer locks p it.at (33 - it.at) q there))
  | inr many ↦ absurd (let few = tally-within (λ q. leads_within locks 34 q p) 33 in omega (arith, few, many))
]

-- the test is exact
pub closes-of : (locks : Locks) (asked : Held) → closes locks asked ≡ true → Closes locks asked
unfolding closes
closes-of locks asked e =
    let it = opposer-of locks asked (λ first. leads_within locks 33 first asked.owner.0) e in
    let rest = chain-of locks 33 it.owner asked.owner.0 it.passes in
    record { first = it.owner; chain = rest.0; opposes = it.opposes; leads = rest.1 }

pub of-closes : (locks : Locks) (asked : Held) → length locks.requests ≡ 33 → Closes locks asked → closes locks asked ≡ true
unfolding closes
of-closes locks asked places it =
    some-opposer locks asked (λ first. leads_within locks 33 first asked.owner.0) it.first it.opposes
    (enough locks asked.owner.0 (suc (length it.chain)) it.first places (leads-of locks it.first it.chain asked.owner.0 it.leads))
