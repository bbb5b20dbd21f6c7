-- Ranks of processes, each of which waits for those of a lower rank alone: where there are such ranks no process waits
-- for itself.
use Rattle.std.proofs.Common.{◌≡◌, ◌≢◌, ◌<◌, ◌≤◌, ◌+◌, ℕ, zero, suc, true, false, cond, ◌||◌, ne_eqb, eqb, Option, Some, None, List, [], ◌∷◌, length, get_or, set, inl, inr, ◌⊎◌, sym, ap, refl, ◌∙◌, subst, arith}
use Rattle.std.proofs.lemmas.Bool.{cases_eq, cases_Bool, cases_lt, eqb-true, eq-eqb, false≢true, or_cases, or_left, or_right}
use Rattle.std.proofs.lemmas.List.{get_or_past, get_or-replicate}
use Rattle.lock_model.specs.declared.lock.Held.{Held}
use Rattle.lock_model.specs.declared.lock.Request.{Request}
use Rattle.lock_model.specs.Locks.{Locks, no_locks, lock_of, request_of, with_lock, with_request}
use Rattle.lock_model.specs.Conflict.{is_against}
use Rattle.lock_model.specs.Waits.{Opposes, WaitsForProcess, IsChainOfWaits, NoCycle, leads_within, closes}
use Rattle.lock_model.specs.Laws.{HasRanks}
use Rattle.lock_model.proofs.Chains.{some-opposer, waits-one}
use Rattle.lock_model.proofs.Longest.{enough}

some-none : {X : Type 0} (x : X) → Some x ≡ None → ⊥
some-none x e = cc

pub none-some : {X : Type 0} (x : X) → None ≡ Some x → ⊥
none-some x e = cc

-- ---- no cycle

leads-down : (locks : Locks) (ranks : HasRanks locks) (q : ℕ) (chain : List ℕ) (p : ℕ) → IsChainOfWaits locks q chain p → ranks.rank p < ranks.rank q
leads-down locks ranks q [] p waits = ranks.falls q p waits
leads-down locks ranks q (next ∷ rest) p (waits, more) =
    omega (arith, ranks.falls q next waits, leads-down locks ranks next rest p more)

pub no-cycle : (locks : Locks) → HasRanks locks → NoCycle locks
no-cycle locks ranks p chain leads = let down = leads-down locks ranks p chain p leads in omega (arith, down)

-- ---- fewer waits

pub record FewerWaits (before after : Locks) : Type 0 where
  pub old : (a b : ℕ) → WaitsForProcess after a b → WaitsForProcess before a b

pub ranks-fewer : (before after : Locks) → FewerWaits before after → HasRanks before → HasRanks after
ranks-fewer before after fewer ranks =
    record { rank = ranks.rank; most = ranks.most; within = ranks.within; falls = λ a b waits. ranks.falls a b (fewer.old a b waits) }

-- a place that is emptied
pub get-emptied : {X : Type 0} (xs : List (Option X)) (s t : ℕ) (x : X) → get_or (set xs s None) t None ≡ Some x → get_or xs t None ≡ Some x
get-emptied [] s t x is = is
get-emptied (y ∷ ys) zero zero x is = absurd (none-some x is)
get-emptied (y ∷ ys) zero (suc t) x is = is
get-emptied (y ∷ ys) (suc s) zero x is = is
get-emptied (y ∷ ys) (suc s) (suc t) x is = get-emptied ys s t x is

-- what is at a place after one was written
pub get-written : {X : Type 0} (xs : List (Option X)) (s t : ℕ) (y x : X) → get_or (set xs s (Some y)) t None ≡ Some x → ((t ≡ s) × (y ≡ x)) ⊎ (get_or xs t None ≡ Some x)
get-written [] s t y x is = inr is
get-written (z ∷ zs) zero zero y x is = inl (refl, some-same y x is)
  where
    some-same : {X : Type 0} (y x : X) → Some y ≡ Some x → y ≡ x
    some-same y x e = cc
get-written (z ∷ zs) zero (suc t) y x is = inr is
get-written (z ∷ zs) (suc s) zero y x is = inr is
get-written (z ∷ zs) (suc s) (suc t) y x is = elim (get-written zs s t y x is) [
  | inl (same, value) ↦ inl (ap suc same, value)
  | inr old ↦ inr old
]

opposes-old : (before after : Locks) (asked : Held) (b : ℕ) → ((t : ℕ) (lock : Held) → lock_of after t ≡ Some lock → lock_of before t ≡ Some lock) → Opposes after asked b → Opposes before asked b
opposes-old before after asked b old it =
    record { path = it.path; lock = it.lock; is = old it.path it.lock it.is; owned = it.owned; against = it.against }

-- a lock ends
pub ranks-released : (locks : Locks) (s : ℕ) → HasRanks locks → HasRanks (with_lock locks s None)
ranks-released locks s ranks =
    ranks-fewer locks (with_lock locks s None) (record {
      old = λ a b waits. record {
        request = waits.request;
        is = waits.is;
        opposes = opposes-old locks (with_lock locks s None) waits.request.lock b (λ t lock is. get-emptied locks.held s t lock is) waits.opposes;
      };
    }) ranks

-- a request is forgotten
pub ranks-forgotten : (locks : Locks) (p : ℕ) → HasRanks locks → HasRanks (with_request locks p None)
ranks-forgotten locks p ranks =
    ranks-fewer locks (with_request locks p None) (record {
      old = λ a b waits. record {
        request = waits.request;
        is = get-emptied locks.requests p a waits.request waits.is;
        opposes = opposes-old locks (with_request locks p None) waits.request.lock b (λ t lock is. is) waits.opposes;
      };
    }) ranks

-- ---- a lock is granted to a process that does not wait: it is below all others then

below-all : (ℕ → ℕ) → ℕ → ℕ → ℕ
below-all rank p q = cond (eqb q p) 0 (suc (rank q))

below-self : (rank : ℕ → ℕ) (p q : ℕ) → q ≡ p → below-all rank p q ≡ 0
unfolding below-all
below-self rank p q same = rw (eq-eqb q p same) refl

below-other : (rank : ℕ → ℕ) (p q : ℕ) → q ≢ p → below-all rank p q ≡ suc (rank q)
unfolding below-all
below-other rank p q differ = rw (ne_eqb q p differ) refl

below-most : (rank : ℕ → ℕ) (most : ℕ) → ((q : ℕ) → rank q ≤ most) → (p q : ℕ) → below-all rank p q ≤ suc most
below-most rank most within p q = elim (cases_eq q p) [
  | inl same ↦ rw (below-self rank p q same) (omega arith)
  | inr differ ↦ rw (below-other rank p q differ) (omega (arith, within q))
]

pub ranks-granted : (locks : Locks) (s : ℕ) (lock : Held) → request_of locks lock.owner.0 ≡ None → HasRanks locks → HasRanks (with_lock locks s (Some lock))
ranks-granted locks s lock quiet ranks = record {
  rank = below-all ranks.rank lock.owner.0;
  most = suc ranks.most;
  within = λ q. below-most ranks.rank ranks.most ranks.within lock.owner.0 q;
  falls = λ a b waits. falls-there a b waits (elim (cases_eq a lock.owner.0) [
    | inl same ↦ absurd (none-some waits.request (sym quiet ∙ sym (ap (request_of locks) same) ∙ waits.is))
    | inr differ ↦ differ
  ]);
}
  where
    falls-there : (a b : ℕ) → WaitsForProcess (with_lock locks s (Some lock)) a b → a ≢ lock.owner.0 → below-all ranks.rank lock.owner.0 b < below-all ranks.rank lock.owner.0 a
    falls-there a b waits differ = elim (cases_eq b lock.owner.0) [
      | inl same ↦ rw (below-self ranks.rank lock.owner.0 b same, below-other ranks.rank lock.owner.0 a differ) (omega arith)
      | inr other ↦ (
          let was : WaitsForProcess locks a b = record {
            request = waits.request;
            is = waits.is;
            opposes = old-opposes waits.request.lock b waits.opposes other;
          } in
          rw (below-other ranks.rank lock.owner.0 b other, below-other ranks.rank lock.owner.0 a differ) (omega (arith, ranks.falls a b was)))
    ]
      where
        old-opposes : (asked : Held) (b : ℕ) → Opposes (with_lock locks s (Some lock)) asked b → b ≢ lock.owner.0 → Opposes locks asked b
        old-opposes asked b it other = elim (get-written locks.held s it.path lock it.lock it.is) [
          | inl (same, value) ↦ absurd (other (sym it.owned ∙ sym (ap (λ (held : Held). held.owner.0) value)))
          | inr old ↦ record { path = it.path; lock = it.lock; is = old; owned = it.owned; against = it.against }
        ]

-- a lock that is asked for is not against one of its own process
pub against-own : (asked lock : Held) → lock.owner.0 ≡ asked.owner.0 → is_against asked lock ≡ false
against-own asked lock same = rw (eq-eqb lock.owner.0 asked.owner.0 same) refl

-- ---- a request waits that closes no cycle: its process, and those that lead to it, are above all others then

lifted : Locks → (ℕ → ℕ) → ℕ → ℕ → ℕ → ℕ
lifted locks rank most p q = cond (eqb q p || leads_within locks 33 q p) (suc most + rank q) (rank q)

lifted-up : (locks : Locks) (rank : ℕ → ℕ) (most p q : ℕ) → (eqb q p || leads_within locks 33 q p) ≡ true → lifted locks rank most p q ≡ suc most + rank q
unfolding lifted
lifted-up locks rank most p q up = rw up refl

lifted-not : (locks : Locks) (rank : ℕ → ℕ) (most p q : ℕ) → (eqb q p || leads_within locks 33 q p) ≡ false → lifted locks rank most p q ≡ rank q
unfolding lifted
lifted-not locks rank most p q up = rw up refl

lifted-most : (locks : Locks) (ranks : HasRanks locks) (p q : ℕ) → lifted locks ranks.rank ranks.most p q ≤ suc (ranks.most + ranks.most)
lifted-most locks ranks p q = elim (cases_Bool (eqb q p || leads_within locks 33 q p)) [
  | inl up ↦ rw (lifted-up locks ranks.rank ranks.most p q up) (omega (arith, ranks.within q))
  | inr not ↦ rw (lifted-not locks ranks.rank ranks.most p q not) (omega (arith, ranks.within q))
]

pub ranks-waiting : (locks : Locks) (request : Request) → length locks.requests ≡ 33
    → request_of locks request.lock.owner.0 ≡ None → closes locks request.lock ≡ false → HasRanks locks
    → HasRanks (with_request locks request.lock.owner.0 (Some request))
unfolding closes
ranks-waiting locks request places quiet unclosed ranks = record {
  rank = lifted locks ranks.rank ranks.most request.lock.owner.0;
  most = suc (ranks.most + ranks.most);
  within = λ q. lifted-most locks ranks request.lock.owner.0 q;
  falls = λ a b waits. elim (get-written locks.requests request.lock.owner.0 a request waits.request waits.is) [
    | inl (same, value) ↦ falls-new a b same (subst (λ (r : Request). Opposes locks r.lock b) (sym value)
        (opposes-old locks (with_request locks request.lock.owner.0 (Some request)) waits.request.lock b
        (λ t lock is. is) waits.opposes))
    | inr old ↦ falls-old a b (record {
      request = waits.request;
      is = old;
      opposes = opposes-old locks
          (with_request locks request.lock.owner.0 (Some request)) waits.request.lock b (λ t lock is. is) waits.opposes;
    })
  ];
}
  where
    falls-old : (a b : ℕ) → WaitsForProcess locks a b → lifted locks ranks.rank ranks.most request.lock.owner.0 b < lifted locks ranks.rank ranks.most request.lock.owner.0 a
    falls-old a b waits = let p = request.lock.owner.0 in elim (cases_Bool (eqb b p || leads_within locks 33 b p)) [
      | inl up ↦ (
          let more : leads_within locks 34 a p ≡ true = waits-one locks a (λ next. eqb next p || leads_within locks 33 next p) b waits up in
          let above : (eqb a p || leads_within locks 33 a p) ≡ true = or_right (eqb a p) (leads_within locks 33 a p) (enough locks p 34 a places more) in
          rw (lifted-up locks ranks.rank ranks.most p b up, lifted-up locks ranks.rank ranks.most p a above) (omega (arith, ranks.falls a b waits)))
      | inr low ↦ (
          elim (cases_Bool (eqb a p || leads_within locks 33 a p)) [
            | inl above ↦ rw (lifted-not locks ranks.rank ranks.most p b low, lifted-up locks ranks.rank ranks.most p a above) (omega (arith, ranks.falls a b waits))
            | inr below ↦ rw (lifted-not locks ranks.rank ranks.most p b low, lifted-not locks ranks.rank ranks.most p a below) (ranks.falls a b waits)
          ])
    ]

    falls-new : (a b : ℕ) → a ≡ request.lock.owner.0 → Opposes locks request.lock b → lifted locks ranks.rank
        ranks.most request.lock.owner.0 b < lifted locks ranks.rank ranks.most request.lock.owner.0 a
    falls-new a b same it = let p = request.lock.owner.0 in elim (cases_Bool (eqb b p || leads_within locks 33 b p)) [
      | inl up ↦ (
          elim (or_cases (eqb b p) (leads_within locks 33 b p) up) [
            | inl self ↦ absurd (false≢true (sym (against-own request.lock it.lock (it.owned ∙ eqb-true b p self)) ∙ it.against))
            | inr leads ↦ absurd (false≢true (sym unclosed ∙ some-opposer locks request.lock (λ first. leads_within locks 33 first p) b it leads))
          ])
      | inr low ↦ rw (
        lifted-not locks ranks.rank ranks.most p b low,
        lifted-up locks ranks.rank ranks.most p a
            (or_left (eqb a p) (leads_within locks 33 a p) (eq-eqb a p same)),
      ) (omega (arith, ranks.within b))
    ]

-- ---- at the start nobody waits

pub first-quiet : (p : ℕ) → request_of no_locks p ≡ None
first-quiet p = elim (cases_lt p 33) [
  | inl low ↦ get_or-replicate 33 p None None low
  | inr past ↦ get_or_past no_locks.requests p None past
]

pub ranks-first : HasRanks no_locks
ranks-first = record {
  rank = λ p. 0;
  most = 0;
  within = λ p. omega arith;
  falls = λ p q waits. absurd (none-some waits.request (sym (first-quiet p) ∙ waits.is));
}
