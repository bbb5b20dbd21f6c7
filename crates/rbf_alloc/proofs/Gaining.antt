-- Clusters that are gained one after the other, and given back.
use Rattle.std.proofs.Common.{◌≡◌, ◌⊎◌, ◌↔◌, inl, inr, ℕ, ◌+◌, ◌-◌, ◌*◌, ◌/◌, ◌<◌, ◌≤◌, zero, suc, Bool, true, false, not, ◌==◌, ◌&&◌, ◌||◌, Option, Some, IfSome, List, [], ◌∷◌, ◌++◌, length, get_or, refl, sym, ap, ◌∙◌, subst, ⊎_elim, arith, eq-eqb, eqb-true, length-append}
use Rattle.std.specs.Prelude.{if◌then◌else◌, replicate}
use Rattle.std.proofs.lemmas.List.FromFn.{map-range_with_len_more}
use mathlib.Core.Path.{fun_ext}
use Rattle.std.proofs.Math.Nat.{mul-le-mul_right}
use Rattle.std.proofs.lemmas.Bool.{false_from_ne_true, cases_Bool, both_ways, cases_eq, cases_lt, or_right}
use Rattle.rbf_model.specs.Segments.{sectors_of, appended_segments, has}
use Rattle.rbf_map.proofs.Marks.{length-clear_below}
use Rattle.rbf_model.specs.ClusterMap.{ClusterMap, mark, MayTake, map_free_clusters}
use Rattle.rbf_change.specs.Growth.{uses, MayGain, free_beside, with_clusters, Gains}
use Rattle.rbf_map.specs.Runs.{is_clear, IsChosenCluster}
use Rattle.rbf_alloc.specs.Gained.{AreSizes, AreApart, SameMap, last_cluster, GainsOne, IsOneFull, IsGain, IsChosenFor, AreChosen, IsChosenGain, IsTooMany, cluster_at, clusters_from, AreMapped, ReturnsOne, is_written, IsGivenBack}
use Rattle.rbf_alloc.proofs.Clear.{free_is, has_more, one_fewer, clear_more, no_marks, more_marks}
use Rattle.rbf_alloc.proofs.Chosen.{may_gain, chosen_for, chosen_more, uses_more, with_more, gains_more, gained_free, has_free, length-with, cluster_there, clusters_are}

-- a fact of what an option has
pub some_at : (P : ℕ → Type 0) (o : Option ℕ) (c : ℕ) → o ≡ Some c → IfSome o P → P c
some_at P o c is h = subst (λ p. IfSome p P) is h

pub taken_may : (k : ℕ) (kept : ClusterMap) (segments : List (ℕ × ℕ)) (last taken : Option ℕ) (c : ℕ) → last ≡ last_cluster k segments → taken ≡ Some c
    → IfSome taken (MayTake kept last) → MayGain k (is_clear kept) segments c
taken_may k kept segments last taken c is some may =
    may_gain k kept segments c (subst (λ o. MayTake kept o c) is (some_at (MayTake kept last) taken c some may))

pub taken_chosen : (k wanted : ℕ) (kept : ClusterMap) (segments : List (ℕ × ℕ)) (last taken : Option ℕ) (c : ℕ) → last ≡ last_cluster k segments → taken ≡ Some c
    → IfSome taken (IsChosenCluster kept last wanted) → IsChosenFor k (is_clear kept) segments wanted c
taken_chosen k wanted kept segments last taken c is some chosen =
    chosen_for k wanted kept segments c (subst (λ o. IsChosenCluster kept o wanted c) is (some_at (IsChosenCluster kept last wanted) taken c some chosen))

-- a cluster that is free begins where a segment can
pub begins_within : (k : ℕ) (kept : ClusterMap) (c : ℕ) → AreSizes k kept → c < kept.whole → c * k < 524280
begins_within k kept c sizes low =
    let most = sizes.sectors in
    let some = sizes.some in
    let more : (c + 1) * k ≤ kept.whole * k = mul-le-mul_right k (omega arith) in
    omega arith

-- so many clusters have been gained, of those that are needed
pub record IsSoFar (k count j : ℕ) (old now : ClusterMap) (before segments : List (ℕ × ℕ)) : Type 0 where
  pub gain : IsGain k j old now before segments
  pub chosen : AreChosen k (is_clear old) before count gain.taken
  pub clear : (c : ℕ) → is_clear now c ≡ free_beside k (is_clear old) segments c
  pub counted : length (map_free_clusters now) + j ≡ length (map_free_clusters old)
  pub sizes : AreSizes k now

pub none_yet : (k count : ℕ) (old : ClusterMap) (before : List (ℕ × ℕ)) → AreSizes k old → length before ≤ 48 → AreApart k old before → IsSoFar k count 0 old old before before
none_yet k count old before sizes few apart = record {
  gain = record { taken = []; counted = refl; gained = tt; segments = refl; fits = few; marks = no_marks old };
  chosen = tt;
  clear = λ c. ⊎_elim
      (λ used. apart c used ∙ sym (ap (λ t. is_clear old c && not t) used ∙ and_false (is_clear old c)))
      (λ none. sym (ap (λ t. is_clear old c && not t) none ∙ and_true (is_clear old c)))
      (cases_Bool (uses k before c));
  counted = omega arith;
  sizes = sizes;
}
  where
    and_false : (t : Bool) → (t && false) ≡ false
    and_false true = refl
    and_false false = refl

    and_true : (t : Bool) → (t && true) ≡ t
    and_true true = refl
    and_true false = refl

-- what may be gained beside what has been
may_beside : (k : ℕ) (old now : ClusterMap) (segments : List (ℕ × ℕ)) (c : ℕ) → ((d : ℕ) → is_clear now d ≡ free_beside k (is_clear old) segments d)
    → MayGain k (is_clear now) segments c → MayGain k (free_beside k (is_clear old) segments) segments c
may_beside k old now segments c same may =
    let all : is_clear now ≡ free_beside k (is_clear old) segments = fun_ext same in
    subst (λ free. MayGain k free segments c) all may

-- and what is chosen beside it
chosen_beside : (k wanted : ℕ) (old now : ClusterMap) (segments : List (ℕ × ℕ)) (c : ℕ) → ((d : ℕ) → is_clear now d ≡ free_beside k (is_clear old) segments d)
    → IsChosenFor k (is_clear now) segments wanted c → IsChosenFor k (free_beside k (is_clear old) segments) segments wanted c
chosen_beside k wanted old now segments c same chosen =
    let all : is_clear now ≡ free_beside k (is_clear old) segments = fun_ext same in
    subst (λ free. IsChosenFor k free segments wanted c) all chosen

and_or : (a b c : Bool) → ((a && not b) && not c) ≡ (a && not (b || c))
and_or true true c = refl
and_or true false c = refl
and_or false true c = refl
and_or false false c = refl

-- the places of gained clusters
module _ (k j : ℕ) (old now : ClusterMap) (before segments : List (ℕ × ℕ)) (gain : IsGain k j old now before segments) (positive : 1 ≤ k) where
  pub places_gained : old.whole * k ≤ 524280 → j ≤ length (map_free_clusters old) → (first : ℕ) → first ≡ length (sectors_of before) → first ≤ 48 * 65535 → AreMapped k now segments first j
  places_gained most enough first is few = record {
    fits =
        let free = length-clear_below old.bytes old.whole in
        let all : j * k ≤ old.whole * k = mul-le-mul_right k (omega arith) in
        omega arith;
    within =
        let size = length-with k before gain.taken in
        let all : length (sectors_of segments) ≡ length (sectors_of (with_clusters k before gain.taken)) = ap (λ xs. length (sectors_of xs)) gain.segments in
        let many : length gain.taken * k ≡ j * k = ap (λ n. n * k) gain.counted in
        omega arith;
    in_map = λ i low.
        let counted = gain.counted in
        let place : cluster_at k segments (first + i * k) ≡ get_or gain.taken i 0 =
        ap (λ xs. cluster_at k xs (first + i * k)) gain.segments ∙ ap (λ f. cluster_at k (with_clusters k before gain.taken) (f + i * k)) is
        ∙ cluster_there k before gain.taken i positive (omega arith) in
        let free = free_is old (get_or gain.taken i 0) (gained_free k (is_clear old) before gain.taken i gain.gained (omega arith)) in
        let whole = gain.marks.whole in
        let below = free.whole in
        omega arith;
  }

  -- and they are what was gained
  pub those_gained : (first : ℕ) → first ≡ length (sectors_of before) → clusters_from k segments first j ≡ gain.taken
  those_gained first is =
      ap (λ xs. clusters_from k xs first j) gain.segments ∙ ap (λ f. clusters_from k (with_clusters k before gain.taken) f j) is
      ∙ ap (clusters_from k (with_clusters k before gain.taken) (length (sectors_of before))) (sym gain.counted)
      ∙ clusters_are k before gain.taken positive

module _ (k count j : ℕ) (old now : ClusterMap) (before segments : List (ℕ × ℕ)) (far : IsSoFar k count j old now before segments) where
  abbrev taken : List ℕ
  taken = far.gain.taken

  gained_next : (c : ℕ) → MayGain k (is_clear now) segments c → Gains k (is_clear old) before (taken ++ c ∷ [])
  gained_next c may =
      gains_more k (is_clear old) before taken c far.gain.gained
      (subst (λ xs. MayGain k (free_beside k (is_clear old) xs) xs c) far.gain.segments (may_beside k old now segments c far.clear may))

  chosen_next : (c : ℕ) → IsChosenFor k (is_clear now) segments (count - j) c → AreChosen k (is_clear old) before count (taken ++ c ∷ [])
  chosen_next c chosen =
      let left : count - j ≡ count - length taken = ap (λ n. count - n) (sym far.gain.counted) in
      chosen_more k (is_clear old) before count taken c far.chosen
      (subst (λ n. IsChosenFor k (free_beside k (is_clear old) (with_clusters k before taken)) (with_clusters k before taken) n c) left
      (subst (λ xs. IsChosenFor k (free_beside k (is_clear old) xs) xs (count - j) c) far.gain.segments (chosen_beside k (count - j) old now segments c far.clear chosen)))

  segments_next : (c : ℕ) → appended_segments segments (c * k) k ≡ with_clusters k before (taken ++ c ∷ [])
  segments_next c = ap (λ xs. appended_segments xs (c * k) k) far.gain.segments ∙ sym (with_more k before taken c)

  pub one_more : (new : ClusterMap) (after : List (ℕ × ℕ)) → GainsOne k (count - j) now new segments after → IsSoFar k count (j + 1) old new before after
  one_more new after one =
      let c = one.cluster in
      let positive = far.sizes.some in
      let fewer : length (map_free_clusters new) + 1 ≡ length (map_free_clusters now) = one_fewer now new c one.marks (free_is now c one.may.is_free) in
      let were = far.counted in
      record {
        gain = record {
          taken = taken ++ c ∷ [];
          counted = length-append taken (c ∷ []) ∙ ap (λ n. n + 1) far.gain.counted;
          gained = gained_next c one.may;
          segments = one.segments ∙ segments_next c;
          fits = one.fits;
          marks = more_marks old now new taken c far.gain.marks one.marks;
        };
        chosen = chosen_next c one.chosen;
        clear = λ d.
            clear_more now new c d one.marks ∙ ap (λ t. t && not (c == d)) (far.clear d) ∙ and_or (is_clear old d) (uses k segments d) (c == d)
            ∙ ap (λ t. is_clear old d && not t) (sym (uses_more k segments c d positive))
            ∙ ap (λ xs. is_clear old d && not (uses k xs d)) (sym one.segments);
        counted = omega arith;
        sizes = record {
          some = positive;
          few = let was = far.sizes.few in let same = one.marks.whole in omega arith;
          whole_ones = let was = far.sizes.whole_ones in let same = one.marks.clusters in let whole = one.marks.whole in omega arith;
          sectors = subst (λ w. w * k ≤ 524280) (sym one.marks.whole) far.sizes.sectors;
        };
      }

  pub too_many : j < count → IsOneFull k (count - j) now segments → IsTooMany k count (is_clear old) before
  too_many low full =
      let c = full.cluster in
      let size = length-append taken (c ∷ []) in
      let counted = far.gain.counted in
      let one : length (c ∷ []) ≡ 1 = refl in
      record {
        taken = taken ++ c ∷ [];
        needed = omega arith;
        gained = gained_next c full.may;
        chosen = chosen_next c full.chosen;
        full = subst (λ xs. 48 < length xs) (segments_next c) full.full;
      }

  -- all that are needed
  pub all_gained : j ≡ count → IsChosenGain k count old now before segments
  all_gained end = record {
    gain = record {
      taken = far.gain.taken;
      counted = far.gain.counted ∙ end;
      gained = far.gain.gained;
      segments = far.gain.segments;
      fits = far.gain.fits;
      marks = far.gain.marks;
    };
    chosen = far.chosen;
  }

  -- the places of what was gained
  pub places_of : (first : ℕ) → first ≡ length (sectors_of before) → first ≤ 48 * 65535 → AreMapped k now segments first j
  places_of first is few =
      places_gained k j old now before segments far.gain far.sizes.some
      (let most = far.sizes.sectors in let whole = far.gain.marks.whole in subst (λ w. w * k ≤ 524280) whole most)
      (let counted = far.counted in omega arith) first is few

  those_are : (first : ℕ) → first ≡ length (sectors_of before) → clusters_from k segments first j ≡ taken
  those_are = those_gained k j old now before segments far.gain far.sizes.some

  -- given back, they leave the marks that were
  pub all_back : (first : ℕ) (written : List Bool) (mid new : ClusterMap) → first ≡ length (sectors_of before) → ((c : ℕ) → is_written written c ≡ false)
      → SameMap now mid → IsGivenBack k segments first j written mid new → SameMap old new
  all_back first written mid new is none same back = record {
    clusters = back.clusters ∙ same.clusters ∙ far.gain.marks.clusters;
    whole = back.whole ∙ same.whole ∙ far.gain.marks.whole;
    bytes = back.bytes ∙ same.bytes ∙ far.gain.marks.bytes;
    marks = λ c.
        let test : (has (clusters_from k segments first j) c && not (is_written written c)) ≡ has taken c =
        ap (λ xs. has xs c && not (is_written written c)) (those_are first is) ∙ ap (λ t. has taken c && not t) (none c) ∙ and_true (has taken c) in
        back.marks c ∙ ap (λ t. if t then 0 else mark mid.bytes c) test ∙ ap (λ m. if has taken c then 0 else m) (same.marks c ∙ far.gain.marks.marks c)
        ∙ ⊎_elim
        (λ there.
        let free = (free_is old c (has_free k (is_clear old) before taken c far.gain.gained there)).clear in
        ap (λ t. if t then 0 else (if t then 1 else mark old.bytes c)) there ∙ sym free)
        (λ none_there. ap (λ t. if t then 0 else (if t then 1 else mark old.bytes c)) none_there)
        (cases_Bool (has taken c));
  }
    where
      and_true : (t : Bool) → (t && true) ≡ t
      and_true true = refl
      and_true false = refl

-- no place has been given back yet
pub none_back : (k : ℕ) (segments : List (ℕ × ℕ)) (first : ℕ) (written : List Bool) (old : ClusterMap) → IsGivenBack k segments first 0 written old old
none_back k segments first written old = record { clusters = refl; whole = refl; bytes = refl; marks = λ c. refl }

one_or_not : (w : Bool) (new now old : ℕ) → new ≡ (if w then now else 0) → (w ≡ true → now ≡ old) → new ≡ (if (true && not w) then 0 else old)
one_or_not true new now old is same = is ∙ same refl
one_or_not false new now old is same = is

-- one place more
pub one_back : (k : ℕ) (segments : List (ℕ × ℕ)) (first i c : ℕ) (written : List Bool) (old now new : ClusterMap) → c ≡ cluster_at k segments (first + i * k)
    → IsGivenBack k segments first i written old now → ReturnsOne written c now new → IsGivenBack k segments first (i + 1) written old new
one_back k segments first i c written old now new is before one = record {
  clusters = one.clusters ∙ before.clusters;
  whole = one.whole ∙ before.whole;
  bytes = one.bytes ∙ before.bytes;
  marks = λ d.
      let more : clusters_from k segments first (i + 1) ≡ clusters_from k segments first i ++ c ∷ [] =
      map-range_with_len_more (λ j. cluster_at k segments (first + j * k)) 0 i i (omega arith) ∙ ap (λ x. clusters_from k segments first i ++ x ∷ []) (sym is) in
      let all : has (clusters_from k segments first (i + 1)) d ≡ (has (clusters_from k segments first i) d || (c == d)) =
      ap (λ xs. has xs d) more ∙ has_more (clusters_from k segments first i) c d in
      ⊎_elim
      (λ same.
      let there : has (clusters_from k segments first (i + 1)) d ≡ true = all ∙ or_right (has (clusters_from k segments first i) d) (c == d) (eq-eqb c d same) in
      let here : mark new.bytes d ≡ (if is_written written d then mark now.bytes d else 0) =
      subst (λ x. mark new.bytes x ≡ (if is_written written x then mark now.bytes x else 0)) same one.there in
      one_or_not (is_written written d) (mark new.bytes d) (mark now.bytes d) (mark old.bytes d) here
      (λ w. before.marks d ∙ ap (λ t. if t then 0 else mark old.bytes d) (ap (λ t. has (clusters_from k segments first i) d && not t) w ∙ and_false (has (clusters_from k segments first i) d)))
      ∙ sym (ap (λ t. if (t && not (is_written written d)) then 0 else mark old.bytes d) there))
      (λ differ.
      let other : (c == d) ≡ false = false_from_ne_true (c == d) (λ h. differ (eqb-true c d h)) in
      one.others d (λ e. differ (sym e)) ∙ before.marks d
      ∙ sym (ap (λ t. if (t && not (is_written written d)) then 0 else mark old.bytes d)
      (all ∙ ap (λ t. has (clusters_from k segments first i) d || t) other ∙ or_false
      (has (clusters_from k segments first i) d))))
      (cases_eq c d);
}
  where
    and_false : (t : Bool) → (t && false) ≡ false
    and_false true = refl
    and_false false = refl

    or_false : (t : Bool) → (t || false) ≡ t
    or_false true = refl
    or_false false = refl

-- a map with the same marks has the same sizes and places
pub sizes_same : (k : ℕ) (old new : ClusterMap) → SameMap old new → AreSizes k old → AreSizes k new
sizes_same k old new same sizes = record {
  some = sizes.some;
  few = let was = sizes.few in let whole = same.whole in omega arith;
  whole_ones = let was = sizes.whole_ones in let clusters = same.clusters in let whole = same.whole in omega arith;
  sectors = subst (λ w. w * k ≤ 524280) (sym same.whole) sizes.sectors;
}

pub places_same : (k : ℕ) (old new : ClusterMap) (before after : List (ℕ × ℕ)) (first count : ℕ) → SameMap old new
    → after ≡ before → AreMapped k old before first count → AreMapped k new after first count
places_same k old new before after first count same list places = subst (λ xs. AreMapped k new xs first count) (sym list) (record {
  within = places.within;
  fits = places.fits;
  in_map = λ i low. let below = places.in_map i low in let whole = same.whole in omega arith;
})

-- nothing of the map was written
pub none_written : (n c : ℕ) → is_written (replicate n false) c ≡ false
none_written n c = at_default n (c / 2048)
  where
    at_default : (m i : ℕ) → get_or (replicate m false) i false ≡ false
    at_default zero i = refl
    at_default (suc m) zero = refl
    at_default (suc m) (suc i) = at_default m i

-- a list that was not refused fits
pub not_full : (after longer : List (ℕ × ℕ)) → (false ≡ true) ↔ (48 < length longer) → after ≡ longer → length after ≤ 48
not_full after longer full is =
    let size : length after ≡ length longer = ap length is in
    ⊎_elim (λ fits. omega arith) (λ more. absurd (both_ways false refl (full.1 more))) (cases_le (length longer) 48)
  where
    cases_le : (a b : ℕ) → (a ≤ b) ⊎ (b < a)
    cases_le a b = elim (cases_lt b a) [ inl more ↦ inr more | inr fits ↦ inl fits ]
