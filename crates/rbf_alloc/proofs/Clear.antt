-- The free clusters of a map, as a test, and lists of numbers.
use Rattle.std.proofs.Common.{◌≡◌, ℕ, ◌+◌, ◌<◌, ◌≤◌, zero, suc, Bool, true, false, not, ◌==◌, ◌&&◌, ◌||◌, List, [], ◌∷◌, ◌++◌, length, refl, sym, ap, ◌∙◌, ⊎_elim, arith, eq-eqb, eqb-true}
use Rattle.std.specs.Prelude.{nat_lt, if◌then◌else◌}
use Rattle.std.proofs.lemmas.Bool.{ltb-true, lt-ltb, and_parts, and_from, or_right, both_ways, false_from_ne_true, cases_eq}
use Rattle.std.proofs.lemmas.List.Folds.{list_any-append}
use Rattle.rbf_model.specs.Segments.{has}
use Rattle.rbf_model.specs.ClusterMap.{ClusterMap, mark, clear_below, MarkedFrom, IsFreeInMap, Marks, NoneIsFree, map_free_clusters}
use Rattle.rbf_map.proofs.Marks.{mark-set_or_clear, clear_below-marked, clear_below-set}
use Rattle.rbf_map.specs.Runs.{is_clear}
use Rattle.rbf_alloc.specs.Gained.{SameMap, MarksBesides}

pub clear_is : (kept : ClusterMap) (c : ℕ) → IsFreeInMap kept c → is_clear kept c ≡ true
clear_is kept c free = and_from (nat_lt c kept.whole) (mark kept.bytes c == 0) (lt-ltb c kept.whole free.whole) (eq-eqb (mark kept.bytes c) 0 free.clear)

pub free_is : (kept : ClusterMap) (c : ℕ) → is_clear kept c ≡ true → IsFreeInMap kept c
free_is kept c h =
    let parts = and_parts (nat_lt c kept.whole) (mark kept.bytes c == 0) h in
    record { whole = ltb-true c kept.whole parts.0; clear = eqb-true (mark kept.bytes c) 0 parts.1 }

-- a whole cluster that is not free is marked
pub marked_is : (kept : ClusterMap) (c : ℕ) → is_clear kept c ≡ false → c < kept.whole → mark kept.bytes c ≡ 1
marked_is kept c h low = ⊎_elim
    (λ clear. absurd (both_ways (is_clear kept c) h (clear_is kept c (record { whole = low; clear = clear }))))
    (λ set. set) (mark-set_or_clear kept.bytes c)

pub unclear_is : (kept : ClusterMap) (c : ℕ) → mark kept.bytes c ≡ 1 → is_clear kept c ≡ false
unclear_is kept c set = false_from_ne_true (is_clear kept c) (λ h. let free = (free_is kept c h).clear in absurd (omega arith))

-- where no cluster is free, none is counted
none_below : (bytes : List ℕ) (n : ℕ) → MarkedFrom bytes 0 n → length (clear_below bytes n) ≡ 0
none_below bytes zero all = refl
none_below bytes (suc n) all =
    let next : n + 1 ≡ suc n = omega arith in
    ap (λ m. length (clear_below bytes m)) (sym next) ∙ clear_below-marked bytes n (all n (omega arith) (omega arith)) ∙ none_below bytes n (λ c low below. all c low (omega arith))

pub some_free : (kept : ClusterMap) → 1 ≤ length (map_free_clusters kept) → NoneIsFree kept → ⊥
some_free kept some none = let all = none_below kept.bytes kept.whole none in absurd (omega arith)

-- one fewer is free where one has been taken
pub one_fewer : (old new : ClusterMap) (c : ℕ) → Marks old new c 1 → IsFreeInMap old c → length (map_free_clusters new) + 1 ≡ length (map_free_clusters old)
one_fewer old new c marks free =
    ap (λ w. length (clear_below new.bytes w) + 1) marks.whole ∙ clear_below-set old.bytes new.bytes c old.whole marks.changed free.clear free.whole

-- a list with one number more
pub has_more : (xs : List ℕ) (c d : ℕ) → has (xs ++ c ∷ []) d ≡ (has xs d || (c == d))
has_more xs c d = list_any-append (λ m. m == d) xs (c ∷ []) ∙ ap (λ t. has xs d || t) (or_false (c == d))
  where
    or_false : (t : Bool) → (t || false) ≡ t
    or_false true = refl
    or_false false = refl

-- the free clusters of a map in which one has been taken
pub clear_more : (old new : ClusterMap) (c d : ℕ) → Marks old new c 1 → is_clear new d ≡ (is_clear old d && not (c == d))
clear_more old new c d marks = ⊎_elim
    (λ same.
    let gone : is_clear new d ≡ false = unclear_is new d (ap (mark new.bytes) (sym same) ∙ marks.changed.there) in
    gone ∙ sym (ap (λ t. is_clear old d && not t) (eq-eqb c d same) ∙ and_false (is_clear old d)))
    (λ differ.
    let other : (c == d) ≡ false = false_from_ne_true (c == d) (λ h. differ (eqb-true c d h)) in
    ap (λ w. nat_lt d w && (mark new.bytes d == 0)) marks.whole ∙ ap (λ m. nat_lt d old.whole && (m == 0)) (marks.changed.others d (λ e. differ (sym e)))
    ∙ sym (ap (λ t. is_clear old d && not t) other ∙ and_true (is_clear old d)))
    (cases_eq c d)
  where
    and_false : (t : Bool) → (t && false) ≡ false
    and_false true = refl
    and_false false = refl

    and_true : (t : Bool) → (t && true) ≡ t
    and_true true = refl
    and_true false = refl

-- a map that has not changed has nothing marked besides
pub no_marks : (kept : ClusterMap) → MarksBesides kept kept []
no_marks kept = record { clusters = refl; whole = refl; bytes = refl; marks = λ c. refl }

pub more_marks : (old mid new : ClusterMap) (taken : List ℕ) (c : ℕ) → MarksBesides old mid taken → Marks mid new c 1 → MarksBesides old new (taken ++ c ∷ [])
more_marks old mid new taken c before marks = record {
  clusters = marks.clusters ∙ before.clusters;
  whole = marks.whole ∙ before.whole;
  bytes = marks.changed.same_length ∙ before.bytes;
  marks = λ d. ⊎_elim
      (λ same.
      ap (mark new.bytes) (sym same) ∙ marks.changed.there
      ∙ sym (ap (λ t. if t then 1 else mark old.bytes d) (has_more taken c d ∙ or_right (has taken d) (c == d) (eq-eqb c d same))))
      (λ differ.
      let other : (c == d) ≡ false = false_from_ne_true (c == d) (λ h. differ (eqb-true c d h)) in
      marks.changed.others d (λ e. differ (sym e)) ∙ before.marks d
      ∙ sym (ap (λ t. if t then 1 else mark old.bytes d) (has_more taken c d ∙ ap (λ t. has taken d || t) other ∙ or_false (has taken d))))
      (cases_eq c d);
}
  where
    or_false : (t : Bool) → (t || false) ≡ t
    or_false true = refl
    or_false false = refl

-- a cluster that has been taken and given back
pub taken_back : (old mid new : ClusterMap) (c : ℕ) → Marks old mid c 1 → Marks mid new c 0 → mark old.bytes c ≡ 0 → SameMap old new
taken_back old mid new c one other was = record {
  clusters = other.clusters ∙ one.clusters;
  whole = other.whole ∙ one.whole;
  bytes = other.changed.same_length ∙ one.changed.same_length;
  marks = λ d. ⊎_elim
      (λ same. ap (mark new.bytes) same ∙ other.changed.there ∙ sym was ∙ ap (mark old.bytes) (sym same))
      (λ differ. other.changed.others d differ ∙ one.changed.others d differ)
      (cases_eq d c);
}
