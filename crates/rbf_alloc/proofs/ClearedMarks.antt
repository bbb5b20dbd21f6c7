-- Marks that are cleared one after the other.
use Rattle.std.proofs.Common.{◌≡◌, ℕ, ◌+◌, ◌-◌, ◌/◌, ◌%◌, ◌<◌, ◌≤◌, max, Bool, true, false, not, ◌==◌, ◌&&◌, ◌||◌, List, length, get_or, set, refl, sym, ap, ◌∙◌, subst, ⊎_elim, arith, eq-eqb, eqb-true}
use Rattle.std.specs.Prelude.{nat_le, nat_lt, if◌then◌else◌}
use Rattle.std.specs.Int.{bit_at}
use Rattle.std.proofs.lemmas.Bool.{false_from_ne_true, cases_eq}
use Rattle.std.proofs.lemmas.List.{get_or-set_same, get_or-set_other}
use Rattle.rbf_model.specs.ClusterMap.{ClusterMap, mark}
use Rattle.rbf_model.specs.ClusterMap as map
use Rattle.rbf_alloc.specs.declared.own.Stretch.{Stretch}
use Rattle.rbf_alloc.specs.Own.{sector_mark, in_stretch, AreInMap, ClearsIn, ClearsMarks}
use Rattle.rbf_alloc.proofs.Stretches.{within, none_between, one_more, all_between}

and_false : (t : Bool) → (t && false) ≡ false
and_false true = refl
and_false false = refl

and_true : (t : Bool) → (t && true) ≡ t
and_true true = refl
and_true false = refl

and_or : (t a b : Bool) → ((t && not a) && not b) ≡ (t && not (a || b))
and_or true true b = refl
and_or true false b = refl
and_or false true b = refl
and_or false false b = refl

if_or : (a b : Bool) (m : ℕ) → (if b then 0 else (if a then 0 else m)) ≡ (if (a || b) then 0 else m)
if_or true true m = refl
if_or true false m = refl
if_or false true m = refl
if_or false false m = refl

-- In the bytes of a sector of the map.

pub none_cleared : (place : ℕ) (bytes : List ℕ) (gone : ℕ → Bool) → ((c : ℕ) → gone c ≡ false) → ClearsIn place bytes bytes gone
none_cleared place bytes gone none c there = sym (ap (λ t. sector_mark bytes c && not t) (none c) ∙ and_true (sector_mark bytes c))

pub then_cleared : (place : ℕ) (old mid new : List ℕ) (one other gone : ℕ → Bool) → ((c : ℕ) → c / 2048 ≡ place → (one c || other c) ≡ gone c)
    → ClearsIn place old mid one → ClearsIn place mid new other → ClearsIn place old new gone
then_cleared place old mid new one other gone same first second c there =
    second c there ∙ ap (λ t. t && not (other c)) (first c there) ∙ and_or (sector_mark old c) (one c) (other c) ∙ ap (λ t. sector_mark old c && not t) (same c there)

pub as_cleared : (place : ℕ) (old new : List ℕ) (one gone : ℕ → Bool) → ((c : ℕ) → c / 2048 ≡ place → one c ≡ gone c) → ClearsIn place old new one → ClearsIn place old new gone
as_cleared place old new one gone same cleared c there = cleared c there ∙ ap (λ t. sector_mark old c && not t) (same c there)

-- one bit of one byte
pub bit_cleared : (bytes : List ℕ) (c byte : ℕ) → c / 8 % 256 < length bytes → bit_at byte (7 - c % 8) ≡ 0
    → ((k : ℕ) → k < 8 → (k ≡ 7 - c % 8 → ⊥) → bit_at byte k ≡ bit_at (get_or bytes (c / 8 % 256) 0) k)
    → ClearsIn (c / 2048) bytes (set bytes (c / 8 % 256) byte) (λ d. d == c)
bit_cleared bytes c byte fits there others d same = ⊎_elim
    (λ is.
    ap (sector_mark (set bytes (c / 8 % 256) byte)) is
    ∙ ap (λ b. bit_at b (7 - c % 8) == 1) (get_or-set_same bytes (c / 8 % 256) byte 0 fits) ∙ ap (λ b. b == 1) there
    ∙ sym (ap (λ t. sector_mark bytes d && not t) (eq-eqb d c is) ∙ and_false (sector_mark bytes d)))
    (λ differ.
    let other : (d == c) ≡ false = false_from_ne_true (d == c) (λ h. differ (eqb-true d c h)) in
    ⊎_elim
    (λ here.
    ap (λ i. bit_at (get_or (set bytes (c / 8 % 256) byte) i 0) (7 - d % 8) == 1) here
    ∙ ap (λ b. bit_at b (7 - d % 8) == 1) (get_or-set_same bytes (c / 8 % 256) byte 0 fits)
    ∙ ap (λ b. b == 1) (others (7 - d % 8) (omega arith) (λ e. differ (omega arith)))
    ∙ ap (λ i. bit_at (get_or bytes i 0) (7 - d % 8) == 1) (sym here))
    (λ elsewhere. ap (λ b. bit_at b (7 - d % 8) == 1) (get_or-set_other bytes (c / 8 % 256) (d / 8 % 256) byte 0 elsewhere))
    (cases_eq (d / 8 % 256) (c / 8 % 256))
    ∙ sym (ap (λ t. sector_mark bytes d && not t) other ∙ and_true (sector_mark bytes d)))
    (cases_eq d c)

-- In a map.

pub none_freed : (kept : ClusterMap) (gone : ℕ → Bool) → ((c : ℕ) → gone c ≡ false) → ClearsMarks kept kept gone
none_freed kept gone none = record {
  clusters = refl;
  whole = refl;
  bytes = refl;
  marks = λ c. sym (ap (λ t. if t then 0 else mark kept.bytes c) (none c));
}

pub then_freed : (old mid new : ClusterMap) (one other gone : ℕ → Bool) → ((c : ℕ) → (one c || other c) ≡ gone c) → ClearsMarks old mid one → ClearsMarks mid new other → ClearsMarks old new gone
then_freed old mid new one other gone same first second = record {
  clusters = second.clusters ∙ first.clusters;
  whole = second.whole ∙ first.whole;
  bytes = second.bytes ∙ first.bytes;
  marks = λ c.
      second.marks c ∙ ap (λ m. if other c then 0 else m) (first.marks c) ∙ if_or (one c) (other c) (mark old.bytes c)
      ∙ ap (λ t. if t then 0 else mark old.bytes c) (same c);
}

pub as_freed : (old new : ClusterMap) (one gone : ℕ → Bool) → ((c : ℕ) → one c ≡ gone c) → ClearsMarks old new one → ClearsMarks old new gone
as_freed old new one gone same cleared = record {
  clusters = cleared.clusters;
  whole = cleared.whole;
  bytes = cleared.bytes;
  marks = λ c. cleared.marks c ∙ ap (λ t. if t then 0 else mark old.bytes c) (same c);
}

pub one_freed : (old new : ClusterMap) (c : ℕ) → map.Marks old new c 0 → ClearsMarks old new (λ d. d == c)
one_freed old new c marks = record {
  clusters = marks.clusters;
  whole = marks.whole;
  bytes = marks.changed.same_length;
  marks = λ d. ⊎_elim
      (λ is. ap (mark new.bytes) is ∙ marks.changed.there ∙ sym (ap (λ t. if t then 0 else mark old.bytes d) (eq-eqb d c is)))
      (λ differ. marks.changed.others d differ ∙ sym (ap (λ t. if t then 0 else mark old.bytes d) (false_from_ne_true (d == c) (λ h. differ (eqb-true d c h)))))
      (cases_eq d c);
}

pub unused_freed : (kept : ClusterMap) (c : ℕ) → mark kept.bytes c ≡ 0 → ClearsMarks kept kept (λ d. d == c)
unused_freed kept c clear = record {
  clusters = refl;
  whole = refl;
  bytes = refl;
  marks = λ d. ⊎_elim
      (λ is. ap (mark kept.bytes) is ∙ clear ∙ sym (ap (λ t. if t then 0 else mark kept.bytes d) (eq-eqb d c is)))
      (λ differ. sym (ap (λ t. if t then 0 else mark kept.bytes d) (false_from_ne_true (d == c) (λ h. differ (eqb-true d c h)))))
      (cases_eq d c);
}

-- Clusters of a stretch, one after the other.

pub record IsClearedUpTo (part : Stretch) (old now : List ℕ) (at : ℕ) : Type 0 where
  pub begun : part.first ≤ at
  pub most : at ≤ max part.first part.end
  pub cleared : (place : ℕ) → ((c : ℕ) → in_stretch part c ≡ true → c / 2048 ≡ place) → ClearsIn place old now (λ c. nat_le part.first c && nat_lt c at)

pub cleared_none : (part : Stretch) (old : List ℕ) → IsClearedUpTo part old old part.first
cleared_none part old = record {
  begun = omega arith;
  most = omega arith;
  cleared = λ place there. none_cleared place old (λ c. nat_le part.first c && nat_lt c part.first) (λ c. none_between part.first part.first c (omega arith));
}

pub cleared_more : (part : Stretch) (old now new : List ℕ) (at : ℕ) → at < part.end → IsClearedUpTo part old now at → ClearsIn (at / 2048) now new (λ c. c == at) → IsClearedUpTo part old new (at + 1)
cleared_more part old now new at low far one = record {
  begun = let begun = far.begun in omega arith;
  most = omega arith;
  cleared = λ place there.
      let same : at / 2048 ≡ place = there at (within part.first part.end at far.begun low) in
      then_cleared place old now new (λ c. nat_le part.first c && nat_lt c at) (λ c. c == at) (λ c. nat_le part.first c && nat_lt c (at + 1))
      (λ c h. one_more part.first at c far.begun) (far.cleared place there) (subst (λ p. ClearsIn p now new (λ c. c == at)) same one);
}

pub cleared_all : (part : Stretch) (old now : List ℕ) (at : ℕ) → part.end ≤ at → IsClearedUpTo part old now at
    → (place : ℕ) → ((c : ℕ) → in_stretch part c ≡ true → c / 2048 ≡ place) → ClearsIn place old now (in_stretch part)
cleared_all part old now at past far place there =
    as_cleared place old now (λ c. nat_le part.first c && nat_lt c at) (in_stretch part) (λ c h. all_between part.first part.end at c past far.most) (far.cleared place there)

pub record IsFreedUpTo (part : Stretch) (old now : ClusterMap) (at : ℕ) : Type 0 where
  pub begun : part.first ≤ at
  pub most : at ≤ max part.first part.end
  pub freed : ClearsMarks old now (λ c. nat_le part.first c && nat_lt c at)

pub freed_none : (part : Stretch) (old : ClusterMap) → IsFreedUpTo part old old part.first
freed_none part old = record {
  begun = omega arith;
  most = omega arith;
  freed = none_freed old (λ c. nat_le part.first c && nat_lt c part.first) (λ c. none_between part.first part.first c (omega arith));
}

pub freed_more : (part : Stretch) (old now new : ClusterMap) (at : ℕ) → at < part.end → IsFreedUpTo part old now at → ClearsMarks now new (λ c. c == at) → IsFreedUpTo part old new (at + 1)
freed_more part old now new at low far one = record {
  begun = let begun = far.begun in omega arith;
  most = omega arith;
  freed = then_freed old now new (λ c. nat_le part.first c && nat_lt c at) (λ c. c == at) (λ c. nat_le part.first c && nat_lt c (at + 1)) (λ c. one_more part.first at c far.begun) far.freed one;
}

pub freed_all : (part : Stretch) (old now : ClusterMap) (at : ℕ) → part.end ≤ at → IsFreedUpTo part old now at → ClearsMarks old now (in_stretch part)
freed_all part old now at past far =
    as_freed old now (λ c. nat_le part.first c && nat_lt c at) (in_stretch part) (λ c. all_between part.first part.end at c past far.most) far.freed

-- the next cluster is in the map
pub next_in_map : (part : Stretch) (old now : ClusterMap) (at : ℕ) → at < part.end → AreInMap (in_stretch part) old → IsFreedUpTo part old now at → at < now.clusters
next_in_map part old now at low all far =
    let there : at < old.clusters = all at (within part.first part.end at far.begun low) in
    let same = far.freed.clusters in
    omega arith
