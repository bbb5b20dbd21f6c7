-- What holds of the locks at all times is kept by each change.
use Rattle.std.proofs.Common.{◌≡◌, ◌≤◌, ◌&&◌, ltb-true, lt-ltb, ℕ, Bool, true, false, not, max, eqb, Option, Some, None, inl, inr, sym, ap, refl, ◌∙◌, subst, arith}
use Rattle.std.proofs.lemmas.Bool.{cases_Bool, cases_lt, eqb-true, eq-eqb, false≢true}
use Rattle.std.proofs.lemmas.List.{length-set, get_or_past, get_or-replicate}
use Rattle.lock_model.specs.declared.place.FilePlace.{FilePlace}
use Rattle.lock_model.specs.declared.lock.Held.{Held}
use Rattle.lock_model.specs.declared.lock.Range.{Range}
use Rattle.lock_model.specs.declared.lock.Request.{Request}
use Rattle.lock_model.specs.Conflict.{conflicts, is_against, is_before, is_same_file, overlaps}
use Rattle.lock_model.specs.Locks.{Locks, no_locks, lock_of, request_of, with_lock, with_request}
use Rattle.lock_model.specs.Laws.{AreLocks, MayHold, cut_at}
use Rattle.lock_model.specs.Waits.{closes}
use Rattle.lock_model.proofs.Chains.{some-opposer}
use Rattle.lock_model.proofs.Ranks.{first-quiet, get-emptied, get-written, none-some, ranks-first, ranks-waiting, ranks-granted, ranks-released, ranks-forgotten}

-- ---- to be against one another is the same from both sides

eqb-sym : (a b : ℕ) → eqb a b ≡ eqb b a
eqb-sym a b = elim (cases_Bool (eqb a b)) [
  | inl same ↦ same ∙ sym (eq-eqb b a (sym (eqb-true a b same)))
  | inr differ ↦ (
      elim (cases_Bool (eqb b a)) [
        | inl same ↦ absurd (false≢true (sym differ ∙ eq-eqb a b (sym (eqb-true b a same))))
        | inr too ↦ differ ∙ sym too
      ])
]

and-comm : (x y : Bool) → (x && y) ≡ (y && x)
and-comm true true = refl
and-comm true false = refl
and-comm false true = refl
and-comm false false = refl

max-comm : (a b : ℕ) → max a b ≡ max b a
max-comm a b = omega arith

overlaps-sym : (a b : Range) → overlaps a b ≡ overlaps b a
overlaps-sym a b =
    rw (max-comm a.start b.start) (and-comm (is_before (max b.start a.start) a.end) (is_before (max b.start a.start) b.end))

same-file-sym : (a b : FilePlace) → is_same_file a b ≡ is_same_file b a
same-file-sym a b = rw (eqb-sym a.drive b.drive, eqb-sym a.number b.number) refl

pub against-sym : (a b : Held) → is_against a b ≡ is_against b a
against-sym a b =
    rw (eqb-sym b.owner.0 a.owner.0, same-file-sym a.file b.file, overlaps-sym a.range b.range) refl

against-self : (a : Held) → is_against a a ≡ false
against-self a = rw (eq-eqb a.owner.0 a.owner.0 refl) refl

-- ---- the changes

pub first-free : (s : ℕ) → lock_of no_locks s ≡ None
first-free s = elim (cases_lt s 65) [
  | inl low ↦ get_or-replicate 65 s None None low
  | inr past ↦ get_or_past no_locks.held s None past
]

pub are-first : AreLocks no_locks
are-first = record {
  paths = refl;
  processes = refl;
  apart = λ s t one other is_one is_other. absurd (none-some one (sym (first-free s) ∙ is_one));
  owners = λ p request is. absurd (none-some request (sym (first-quiet p) ∙ is));
  ranks = ranks-first;
}

pub are-waiting : (locks : Locks) (request : Request) → request_of locks request.lock.owner.0 ≡ None
    → closes locks request.lock ≡ false → AreLocks locks → AreLocks (with_request locks request.lock.owner.0
    (Some request))
are-waiting locks request quiet unclosed was = record {
  paths = was.paths;
  processes = length-set locks.requests request.lock.owner.0 (Some request) ∙ was.processes;
  apart = was.apart;
  owners = λ p other is. elim (get-written locks.requests request.lock.owner.0 p request other is) [
    | inl (same, value) ↦ ap (λ (it : Request). it.lock.owner.0) (sym value) ∙ sym same
    | inr old ↦ was.owners p other old
  ];
  ranks = ranks-waiting locks request was.processes quiet unclosed was.ranks;
}

pub are-forgotten : (locks : Locks) (p : ℕ) → AreLocks locks → AreLocks (with_request locks p None)
are-forgotten locks p was = record {
  paths = was.paths;
  processes = length-set locks.requests p None ∙ was.processes;
  apart = was.apart;
  owners = λ q request is. was.owners q request (get-emptied locks.requests p q request is);
  ranks = ranks-forgotten locks p was.ranks;
}

pub are-released : (locks : Locks) (s : ℕ) → AreLocks locks → AreLocks (with_lock locks s None)
are-released locks s was = record {
  paths = length-set locks.held s None ∙ was.paths;
  processes = was.processes;
  apart = λ t u one other is_one is_other. was.apart t u one other (get-emptied locks.held s t one is_one) (get-emptied locks.held s u other is_other);
  owners = was.owners;
  ranks = ranks-released locks s was.ranks;
}

pub are-granted : (locks : Locks) (s : ℕ) (lock : Held) → MayHold locks lock → AreLocks locks → AreLocks (with_lock locks s (Some lock))
are-granted locks s lock may was = record {
  paths = length-set locks.held s (Some lock) ∙ was.paths;
  processes = was.processes;
  apart = λ t u one other is_one is_other. elim (get-written locks.held s t lock one is_one) [
    | inl (at, value) ↦ (
        elim (get-written locks.held s u lock other is_other) [
          | inl (also, too) ↦ subst (λ (x : Held). is_against one x ≡ false) (sym value ∙ too) (against-self one)
          | inr old ↦ subst (λ (x : Held). is_against x other ≡ false) value (may.free u other old)
        ])
    | inr old ↦ (
        elim (get-written locks.held s u lock other is_other) [
          | inl (also, too) ↦ subst (λ (x : Held). is_against one x ≡ false) too (against-sym one lock ∙ may.free t one old)
          | inr old_too ↦ was.apart t u one other old old_too
        ])
  ];
  owners = was.owners;
  ranks = ranks-granted locks s lock may.quiet was.ranks;
}

pub may-hold : (locks : Locks) (lock : Held) → request_of locks lock.owner.0 ≡ None → conflicts locks lock ≡ false → MayHold locks lock
may-hold locks lock quiet none = record {
  quiet = quiet;
  free = λ t other is. by t other is (is_against lock other) refl;
}
  where
    by : (t : ℕ) (other : Held) → lock_of locks t ≡ Some other → (b : Bool) → is_against lock other ≡ b → is_against lock other ≡ false
    by t other is false against = against
    by t other is true against =
        absurd (false≢true (sym none ∙ some-opposer locks lock (λ owner. true) other.owner.0 (record { path = t; lock = other; is = is; owned = refl; against = against }) refl))

-- ---- a part of a lock

both-parts : (x y : Bool) → (x && y) ≡ true → (x ≡ true) × (y ≡ true)
both-parts true true e = (refl, refl)
both-parts true false e = absurd (false≢true e)
both-parts false y e = absurd (false≢true e)

joined : (x y : Bool) → x ≡ true → y ≡ true → (x && y) ≡ true
joined true true x y = refl
joined true false x y = absurd (false≢true y)
joined false y x e = absurd (false≢true x)

before-later : (byte end : ℕ) (outer : Option ℕ) → ((last : ℕ) → outer ≡ Some last → end ≤ last) → is_before byte (Some end) ≡ true → is_before byte outer ≡ true
before-later byte end None longer e = refl
before-later byte end (Some last) longer e = let below : end ≤ last = longer last refl in lt-ltb byte last (omega (arith, ltb-true byte end e, below))

cut-against : (lock other : Held) (end : ℕ) → ((last : ℕ) → lock.range.end ≡ Some last → end ≤ last) → is_against (cut_at lock end) other ≡ true → is_against lock other ≡ true
cut-against lock other end longer e =
    let apart = both-parts (not (eqb other.owner.0 lock.owner.0)) (is_same_file lock.file other.file && overlaps (cut_at lock end).range other.range) e in
    let there = both-parts (is_same_file lock.file other.file) (overlaps (cut_at lock end).range other.range) apart.1 in
    let ends = both-parts (is_before (max lock.range.start other.range.start) (Some end)) (is_before (max lock.range.start other.range.start) other.range.end) there.1 in
    joined (not (eqb other.owner.0 lock.owner.0)) (is_same_file lock.file other.file && overlaps lock.range other.range) apart.0
    (joined (is_same_file lock.file other.file) (overlaps lock.range other.range) there.0
    (joined (is_before (max lock.range.start other.range.start) lock.range.end) (is_before (max lock.range.start other.range.start) other.range.end)
    (before-later (max lock.range.start other.range.start) end lock.range.end longer ends.0) ends.1))

pub part-held : (locks : Locks) (lock : Held) (end : ℕ) → ((last : ℕ) → lock.range.end ≡ Some last → end ≤ last) → MayHold locks lock → MayHold locks (cut_at lock end)
part-held locks lock end longer may = record {
  quiet = may.quiet;
  free = λ t other is. by t other is (is_against (cut_at lock end) other) refl;
}
  where
    by : (t : ℕ) (other : Held) → lock_of locks t ≡ Some other → (b : Bool) → is_against (cut_at lock end) other ≡ b → is_against (cut_at lock end) other ≡ false
    by t other is false against = against
    by t other is true against = absurd (false≢true (sym (may.free t other is) ∙ cut-against lock other end longer against))
