-- The history of locks.
use Rattle.std.proofs.Common.{◌≡◌, ◌≢◌, ◌<◌, ◌&&◌, ℕ, Bool, true, false, not, eqb, Option, Some, None, List, [], ◌∷◌, ◌++◌, length, append_assoc, inl, inr, ◌⊎◌, sym, ap, refl, ◌∙◌, subst, get_or-set_same, get_or-set_other, ne_eqb}
use Rattle.std.proofs.lemmas.Bool.{cases_eq, false≢true}
use Rattle.lock_model.specs.declared.lock.EntryKind.TheVariants.{Get, Put, Drop}
use Rattle.lock_model.specs.declared.lock.Held.{Held}
use Rattle.lock_model.specs.Conflict.{conflicts, is_against, is_same_file, overlaps}
use Rattle.lock_model.specs.History.{got, put, dropped, NoneOf, IsLastEntry, AreRecorded, AreUndisturbed, AtomicPairs, Disturbs}
use Rattle.lock_model.specs.declared.history.Entry.{Entry}
use Rattle.lock_model.specs.Locks.{Locks, lock_of, with_lock}
use Rattle.lock_model.proofs.Chains.{some-opposer}
use Rattle.lock_model.proofs.Ranks.{none-some}

-- ---- where an entry stands in a history that has one more

pub data Place (h a b : List Entry) (new it : Entry) : Type 0 where
  at_end : b ≡ [] → it ≡ new → h ≡ a → Place h a b new it
  within : (rest : List Entry) → b ≡ rest ++ new ∷ [] → h ≡ a ++ it ∷ rest → Place h a b new it

cons-head : {X : Type 0} (x y : X) (xs ys : List X) → x ∷ xs ≡ y ∷ ys → x ≡ y
cons-head x y xs ys e = cc

cons-tail : {X : Type 0} (x y : X) (xs ys : List X) → x ∷ xs ≡ y ∷ ys → xs ≡ ys
cons-tail x y xs ys e = cc

nil-cons : {X : Type 0} (x : X) (xs : List X) → [] ≡ x ∷ xs → ⊥
nil-cons x xs e = cc

pub too-short : (a : List Entry) (it : Entry) (b : List Entry) → [] ≡ a ++ it ∷ b → ⊥
too-short [] it b e = nil-cons it b e
too-short (y ∷ a) it b e = nil-cons y (a ++ it ∷ b) e

pub place-of : (h a b : List Entry) (new it : Entry) → h ++ new ∷ [] ≡ a ++ it ∷ b → Place h a b new it
place-of [] [] b new it e = at_end (sym (cons-tail new it [] b e)) (sym (cons-head new it [] b e)) refl
place-of [] (x ∷ a) b new it e = absurd (too-short a it b (cons-tail new x [] (a ++ it ∷ b) e))
place-of (x ∷ h) [] b new it e =
    within h (sym (cons-tail x it (h ++ new ∷ []) b e)) (ap (λ (y : Entry). y ∷ h) (cons-head x it (h ++ new ∷ []) b e))
place-of (x ∷ h) (y ∷ a) b new it e =
    by (place-of h a b new it (cons-tail x y (h ++ new ∷ []) (a ++ it ∷ b) e))
  where
    same : x ≡ y
    same = cons-head x y (h ++ new ∷ []) (a ++ it ∷ b) e

    by : Place h a b new it → Place (x ∷ h) (y ∷ a) b new it
    by (at_end none is all) = at_end none is (ap (λ (z : Entry). z ∷ h) same ∙ ap (λ (zs : List Entry). y ∷ zs) all)
    by (within rest more is) = within rest more (ap (λ (z : Entry). z ∷ h) same ∙ ap (λ (zs : List Entry). y ∷ zs) is)

-- none of a path among the first of them
none-first : (path : ℕ) (xs ys : List Entry) → NoneOf path (xs ++ ys) → NoneOf path xs
none-first path xs ys none a c entry is =
    none a (c ++ ys) entry (ap (λ (zs : List Entry). zs ++ ys) is ∙ append_assoc a (entry ∷ c) ys)

none-empty : (path : ℕ) → NoneOf path []
none-empty path a c entry is = absurd (too-short a entry c is)

-- one more of another path
none-more : (path : ℕ) (xs : List Entry) (new : Entry) → new.path ≢ path → NoneOf path xs → NoneOf path (xs ++ new ∷ [])
none-more path xs new differ none a c entry is = by (place-of xs a c new entry is)
  where
    by : Place xs a c new entry → entry.path ≢ path
    by (at_end none_left same all) = λ e. differ (sym (ap (λ (it : Entry). it.path) same) ∙ e)
    by (within rest more old) = none a rest entry old

-- ---- an entry more

last-new : (h : List Entry) (new : Entry) → IsLastEntry (h ++ new ∷ []) new
last-new h new = record { before = h; after = []; is = refl; none = none-empty new.path }

last-kept : (h : List Entry) (new it : Entry) → new.path ≢ it.path → IsLastEntry h it → IsLastEntry (h ++ new ∷ []) it
last-kept h new it differ last = record {
  before = last.before;
  after = last.after ++ new ∷ [];
  is = ap (λ (zs : List Entry). zs ++ new ∷ []) last.is ∙ append_assoc last.before (it ∷ last.after) (new ∷ []);
  none = none-more it.path last.after new differ last.none;
}

pub data LastOf (h : List Entry) (new it : Entry) : Type 0 where
  is_new : it ≡ new → LastOf h new it
  is_old : new.path ≢ it.path → IsLastEntry h it → LastOf h new it

last-of : (h : List Entry) (new it : Entry) → IsLastEntry (h ++ new ∷ []) it → LastOf h new it
last-of h new it last = by (place-of h last.before last.after new it last.is)
  where
    by : Place h last.before last.after new it → LastOf h new it
    by (at_end none same all) = is_new same
    by (within rest more old) =
        is_old (λ e. last.none rest [] new more e)
        (record { before = last.before; after = rest; is = old; none = none-first it.path rest (new ∷ []) (subst (λ (zs : List Entry). NoneOf it.path zs) more last.none) })

-- what is held where an entry of a path is entered, and this is held by it then
pub record Enters (locks now : Locks) (path : ℕ) : Type 0 where
  pub others : (s : ℕ) → s ≢ path → lock_of now s ≡ lock_of locks s

recorded : (locks now : Locks) (h : List Entry) (new : Entry) → Enters locks now new.path
    → ((lock : Held) → lock_of now new.path ≡ Some lock → (bytes : List ℕ) × (new ≡ got new.path lock bytes))
    → (new.kind ≡ Get → (lock : Held) × (lock_of now new.path ≡ Some lock) × (new ≡ got new.path lock new.bytes))
    → AreRecorded locks h → AreRecorded now (h ++ new ∷ [])
recorded locks now h new enters held_new gotten_new was = record {
  held = λ path lock is. held path lock is (cases_eq path new.path);
  gotten = λ entry last get. gotten entry get (last-of h new entry last);
}
  where
    held : (path : ℕ) (lock : Held) → lock_of now path ≡ Some lock → (path ≡ new.path) ⊎ (path ≢ new.path) → (bytes : List ℕ) × IsLastEntry (h ++ new ∷ []) (got path lock bytes)
    held path lock is (inl same) =
        let it = held_new lock (ap (lock_of now) (sym same) ∙ is) in
        let is_got : new ≡ got path lock it.0 = it.1 ∙ ap (λ (s : ℕ). got s lock it.0) (sym same) in
        (it.0, subst (λ (entry : Entry). IsLastEntry (h ++ new ∷ []) entry) is_got (last-new h new))
    held path lock is (inr differ) =
        let it = was.held path lock (sym (enters.others path differ) ∙ is) in
        (it.0, last-kept h new (got path lock it.0) (λ e. differ (sym e)) it.1)

    gotten : (entry : Entry) → entry.kind ≡ Get → LastOf h new entry → (lock : Held) × (lock_of now entry.path ≡ Some lock) × (entry ≡ got entry.path lock entry.bytes)
    gotten entry get (is_new same) =
        subst (λ (it : Entry). (lock : Held) × (lock_of now it.path ≡ Some lock) × (it ≡ got it.path lock it.bytes)) (sym same) (gotten_new (sym (ap (λ (it : Entry). it.kind) same) ∙ get))
    gotten entry get (is_old differ last) =
        let it = was.gotten entry last get in
        (it.0, enters.others entry.path (λ e. differ (sym e)) ∙ it.1, it.2)

enters-at : (locks : Locks) (path : ℕ) (place : Option Held) → Enters locks (with_lock locks path place) path
enters-at locks path place = record { others = λ s differ. get_or-set_other locks.held path s place None differ }

pub recorded-got : (locks : Locks) (h : List Entry) (path : ℕ) (lock : Held) (bytes : List ℕ)
    → path < length locks.held → AreRecorded locks h → AreRecorded (with_lock locks path (Some lock))
    (h ++ got path lock bytes ∷ [])
recorded-got locks h path lock bytes low was =
    recorded locks (with_lock locks path (Some lock)) h (got path lock bytes) (enters-at locks path (Some lock))
    (λ other is. (bytes, ap (λ (it : Held). got path it bytes) (some-same lock other (sym there ∙ is))))
    (λ get. (lock, there, refl)) was
  where
    there : lock_of (with_lock locks path (Some lock)) path ≡ Some lock
    there = get_or-set_same locks.held path (Some lock) None low

    some-same : (x y : Held) → Some x ≡ Some y → x ≡ y
    some-same x y e = cc

nothing-there : (locks : Locks) (path : ℕ) (lock : Held) → path < length locks.held → lock_of (with_lock locks path None) path ≡ Some lock → ⊥
nothing-there locks path lock low is = none-some lock (sym (get_or-set_same locks.held path None None low) ∙ is)

put-get : Put ≡ Get → ⊥
put-get e = cc

drop-get : Drop ≡ Get → ⊥
drop-get e = cc

pub recorded-put : (locks : Locks) (h : List Entry) (path : ℕ) (lock : Held) (bytes : List ℕ)
    → path < length locks.held → AreRecorded locks h → AreRecorded (with_lock locks path None)
    (h ++ put path lock bytes ∷ [])
recorded-put locks h path lock bytes low was =
    recorded locks (with_lock locks path None) h (put path lock bytes) (enters-at locks path None)
    (λ other is. absurd (nothing-there locks path other low is)) (λ get. absurd (put-get get)) was

pub recorded-dropped : (locks : Locks) (h : List Entry) (path : ℕ) (lock : Held) → path < length locks.held
    → AreRecorded locks h → AreRecorded (with_lock locks path None) (h ++ dropped path lock ∷ [])
recorded-dropped locks h path lock low was =
    recorded locks (with_lock locks path None) h (dropped path lock) (enters-at locks path None)
    (λ other is. absurd (nothing-there locks path other low is)) (λ get. absurd (drop-get get)) was

-- ---- nothing comes between

undisturbed : (h : List Entry) (new : Entry) → ((get : Entry) → IsLastEntry h get → get.kind ≡ Get → Disturbs get new → ⊥) → AreUndisturbed h → AreUndisturbed (h ++ new ∷ [])
undisturbed h new fair was before between after get entry is is_get none disturbs =
    by (place-of h (before ++ (get ∷ between)) after new entry is)
  where
    by : Place h (before ++ (get ∷ between)) after new entry → ⊥
    by (at_end none_left same all) =
        fair get (record { before = before; after = between; is = all; none = none }) is_get (subst (λ (it : Entry). Disturbs get it) same disturbs)
    by (within rest more old) =
        was before between rest get entry old is_get none disturbs

pub undisturbed-got : (h : List Entry) (path : ℕ) (lock : Held) (bytes : List ℕ) → AreUndisturbed h → AreUndisturbed (h ++ got path lock bytes ∷ [])
undisturbed-got h path lock bytes was = undisturbed h (got path lock bytes) (λ get last is_get disturbs. put-get (sym disturbs.writes)) was

pub undisturbed-dropped : (h : List Entry) (path : ℕ) (lock : Held) → AreUndisturbed h → AreUndisturbed (h ++ dropped path lock ∷ [])
undisturbed-dropped h path lock was = undisturbed h (dropped path lock) (λ get last is_get disturbs. drop-put disturbs.writes) was
  where
    drop-put : Drop ≡ Put → ⊥
    drop-put e = cc

both-true : (x y : Bool) → x ≡ true → y ≡ true → (x && y) ≡ true
both-true true true x y = refl
both-true true false x y = y
both-true false y x e = x

pub undisturbed-put : (locks : Locks) (h : List Entry) (path : ℕ) (lock : Held) (bytes : List ℕ)
    → conflicts locks lock ≡ false → AreRecorded locks h → AreUndisturbed h
    → AreUndisturbed (h ++ put path lock bytes ∷ [])
undisturbed-put locks h path lock bytes free recorded_there was = undisturbed h (put path lock bytes) fair was
  where
    fair : (get : Entry) → IsLastEntry h get → get.kind ≡ Get → Disturbs get (put path lock bytes) → ⊥
    fair get last is_get disturbs =
        let it = recorded_there.gotten get last is_get in
        let at : Disturbs (got get.path it.0 get.bytes) (put path lock bytes) = subst (λ (entry : Entry). Disturbs entry (put path lock bytes)) it.2 disturbs in
        let differ : eqb it.0.owner.0 lock.owner.0 ≡ false = ne_eqb it.0.owner.0 lock.owner.0 (λ e. at.other (sym e)) in
        let against : is_against lock it.0 ≡ true = both-true (not (eqb it.0.owner.0 lock.owner.0))
        (is_same_file lock.file it.0.file && overlaps lock.range it.0.range) (ap not differ)
        (both-true (is_same_file lock.file it.0.file) (overlaps lock.range it.0.range) at.file at.overlap) in
        false≢true (sym free ∙ some-opposer locks lock (λ owner. true) it.0.owner.0 (record { path = get.path; lock = it.0; is = it.1; owned = refl; against = against }) refl)

pub pairs-atomic : (h : List Entry) → AreUndisturbed h → AtomicPairs h
pairs-atomic h was before between after get written is pair a c entry among disturbs =
    was before a (c ++ (written ∷ after)) get entry whole pair.is_get (none-first get.path a (entry ∷ c) (subst (λ (zs : List Entry). NoneOf get.path zs) among pair.next)) disturbs
  where
    whole : h ≡ before ++ (get ∷ a) ++ (entry ∷ (c ++ (written ∷ after)))
    whole = is ∙ ap (λ (zs : List Entry). before ++ (get ∷ zs) ++ (written ∷ after)) among ∙ shuffled
      where
        shuffled : before ++ (get ∷ (a ++ entry ∷ c)) ++ (written ∷ after) ≡ before ++ (get ∷ a) ++ (entry ∷ (c ++ (written ∷ after)))
        shuffled = append_assoc before (get ∷ (a ++ entry ∷ c)) (written ∷ after) ∙ ap (λ (zs : List Entry). before ++
            (get ∷ zs)) (append_assoc a (entry ∷ c) (written ∷ after)) ∙ sym (append_assoc before (get ∷ a)
            (entry ∷ (c ++ (written ∷ after))))
