-- Chains of waits, and the test that computes whether one closes.
use Rattle.std.proofs.Common.{◌≡◌, ℕ, zero, suc, Bool, true, false, ◌||◌, eqb, Option, Some, None, List, [], ◌∷◌, length, get_or, inl, inr, sym, ap, refl, ◌∙◌, subst}
use Rattle.std.specs.List.{list_any}
use Rattle.std.proofs.lemmas.Bool.{eqb-true, eq-eqb, false≢true, or_cases, or_left, or_right}
use Rattle.lock_model.specs.declared.lock.Held.{Held}
use Rattle.lock_model.specs.declared.lock.Request.{Request}
use Rattle.lock_model.specs.Locks.{Locks, lock_of, request_of}
use Rattle.lock_model.specs.Conflict.{is_against, is_opposed_by, some_opposes}
use Rattle.lock_model.specs.Waits.{Opposes, WaitsForProcess, IsChainOfWaits, waits_by, waits_for_one, leads_within}

abbrev nothing : {X : Type 0} → Option X
nothing = None

-- a test that a list passes is passed at a place
pub any-found : {X : Type 0} (test : X → Bool) (xs : List X) (d : X) → list_any test xs ≡ true → (i : ℕ) × (test (get_or xs i d) ≡ true)
any-found test [] d e = absurd (false≢true e)
any-found test (x ∷ xs) d e = elim (or_cases (test x) (list_any test xs) e) [
  | inl here ↦ (0, here)
  | inr later ↦ (let rest = any-found test xs d later in (suc rest.0, rest.1))
]

-- and the other way round
pub any-at : {X : Type 0} (test : X → Bool) (xs : List X) (d : X) (i : ℕ) → test d ≡ false → test (get_or xs i d) ≡ true → list_any test xs ≡ true
any-at test [] d i free e = absurd (false≢true (sym free ∙ e))
any-at test (x ∷ xs) d zero free e = or_left (test x) (list_any test xs) e
any-at test (x ∷ xs) d (suc i) free e = or_right (test x) (list_any test xs) (any-at test xs d i free e)

-- an owner that passes, of a lock that opposes
pub record Opposer (locks : Locks) (asked : Held) (test : ℕ → Bool) : Type 0 where
  pub owner : ℕ
  pub opposes : Opposes locks asked owner
  pub passes : test owner ≡ true

pub opposed-by : (locks : Locks) (asked : Held) (test : ℕ → Bool) (path : ℕ) (place : Option Held) → lock_of locks path ≡ place → is_opposed_by asked test place ≡ true → Opposer locks asked test
opposed-by locks asked test path None is e = absurd (false≢true e)
opposed-by locks asked test path (Some lock) is e = by (is_against asked lock) refl e
  where
    by : (b : Bool) → is_against asked lock ≡ b → (elim b [ false ↦ false | true ↦ test lock.owner.0 ]) ≡ true → Opposer locks asked test
    by false against e = absurd (false≢true e)
    by true against e =
        record {
          owner = lock.owner.0;
          opposes = record { path = path; lock = lock; is = is; owned = refl; against = against };
          passes = e;
        }

pub opposer-of : (locks : Locks) (asked : Held) (test : ℕ → Bool) → some_opposes locks asked test ≡ true → Opposer locks asked test
opposer-of locks asked test e =
    let it = any-found (is_opposed_by asked test) locks.held None e in
    opposed-by locks asked test it.0 (lock_of locks it.0) refl it.1

pub opposed-at : (asked : Held) (test : ℕ → Bool) (lock : Held) → is_against asked lock ≡ true → test lock.owner.0 ≡ true → is_opposed_by asked test (Some lock) ≡ true
opposed-at asked test lock against passes =
    subst (λ (b : Bool). (elim b [ false ↦ false | true ↦ test lock.owner.0 ]) ≡ true) (sym against) passes

pub some-opposer : (locks : Locks) (asked : Held) (test : ℕ → Bool) (q : ℕ) → Opposes locks asked q → test q ≡ true → some_opposes locks asked test ≡ true
some-opposer locks asked test q it passes =
    any-at (is_opposed_by asked test) locks.held None it.path refl
    (ap (is_opposed_by asked test) it.is ∙ opposed-at asked test it.lock it.against (ap test it.owned ∙ passes))

-- ---- waits

pub record WaitsFor (locks : Locks) (p : ℕ) (test : ℕ → Bool) : Type 0 where
  pub other : ℕ
  pub waits : WaitsForProcess locks p other
  pub passes : test other ≡ true

pub waits-of : (locks : Locks) (p : ℕ) (test : ℕ → Bool) → waits_for_one locks p test ≡ true → WaitsFor locks p test
waits-of locks p test e = by (request_of locks p) refl e
  where
    by : (r : Option Request) → request_of locks p ≡ r → waits_by locks test r ≡ true → WaitsFor locks p test
    by None is e = absurd (false≢true e)
    by (Some request) is e =
        let it = opposer-of locks request.lock test e in
        record { other = it.owner; waits = record { request = request; is = is; opposes = it.opposes }; passes = it.passes }

pub waits-one : (locks : Locks) (p : ℕ) (test : ℕ → Bool) (q : ℕ) → WaitsForProcess locks p q → test q ≡ true → waits_for_one locks p test ≡ true
waits-one locks p test q it passes =
    subst (λ (r : Option Request). waits_by locks test r ≡ true) (sym it.is) (some-opposer locks it.request.lock test q it.opposes passes)

-- ---- chains

pub chain-of : (locks : Locks) (n q p : ℕ) → leads_within locks n q p ≡ true → (chain : List ℕ) × IsChainOfWaits locks q chain p
chain-of locks zero q p e = absurd (false≢true e)
chain-of locks (suc n) q p e =
    let it = waits-of locks q (λ next. eqb next p || leads_within locks n next p) e in
    elim (or_cases (eqb it.other p) (leads_within locks n it.other p) it.passes) [
      | inl same ↦ ([], subst (λ (k : ℕ). WaitsForProcess locks q k) (eqb-true it.other p same) it.waits)
      | inr later ↦ (let rest = chain-of locks n it.other p later in (it.other ∷ rest.0, (it.waits, rest.1)))
    ]

pub leads-of : (locks : Locks) (q : ℕ) (chain : List ℕ) (p : ℕ) → IsChainOfWaits locks q chain p → leads_within locks (suc (length chain)) q p ≡ true
leads-of locks q [] p waits =
    waits-one locks q (λ next. eqb next p || leads_within locks zero next p) p waits (or_left (eqb p p) (leads_within locks zero p p) (eq-eqb p p refl))
leads-of locks q (next ∷ rest) p (waits, more) =
    waits-one locks q (λ other. eqb other p || leads_within locks (suc (length rest)) other p) next waits
    (or_right (eqb next p) (leads_within locks (suc (length rest)) next p) (leads-of locks next rest p more))

-- a longer chain may be asked for
pub leads-more : (locks : Locks) (n q p : ℕ) → leads_within locks n q p ≡ true → leads_within locks (suc n) q p ≡ true
leads-more locks zero q p e = absurd (false≢true e)
leads-more locks (suc n) q p e =
    let it = waits-of locks q (λ next. eqb next p || leads_within locks n next p) e in
    waits-one locks q (λ next. eqb next p || leads_within locks (suc n) next p) it.other it.waits
    (elim (or_cases (eqb it.other p) (leads_within locks n it.other p) it.passes) [
      | inl same ↦ or_left (eqb it.other p) (leads_within locks (suc n) it.other p) same
      | inr later ↦ or_right (eqb it.other p) (leads_within locks (suc n) it.other p) (leads-more locks n it.other p later)
    ])
