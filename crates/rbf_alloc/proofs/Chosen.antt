-- The clusters that are chosen, and their places in the segments.
use Rattle.std.proofs.Common.{◌≡◌, ℕ, ◌+◌, ◌-◌, ◌*◌, ◌/◌, ◌<◌, ◌≤◌, zero, suc, Bool, true, false, not, ◌==◌, ◌||◌, Some, List, [], ◌∷◌, ◌++◌, length, get_or, refl, sym, ap, ◌∙◌, subst, inl, inr, ⊎_elim, arith, eq-eqb, eqb-true, length-append}
use Rattle.std.specs.Prelude.{slice_get, option_map, map}
use Rattle.std.specs.List.{list_any, range_with_len}
use Rattle.std.proofs.Math.Nat.{mul-div_cancel}
use Rattle.std.proofs.lemmas.Bool.{and_parts, and_from, or_left, or_right, or_cases, both_ways, false_from_ne_true, not_from_false, cases_eq}
use Rattle.std.proofs.lemmas.List.{get_or_append_left, get_or-append_right}
use Rattle.std.proofs.lemmas.List.Folds.{list_any-append}
use Rattle.std.proofs.lemmas.List.FromFn.{length-range_with_len, get_or-range_with_len}
use Rattle.std.proofs.lemmas.Option.{slice_get-get_or}
use Rattle.rbf_model.specs.Segments.{sectors_of, appended_segments, has}
use Rattle.rbf_model.proofs.Lists.{any_witness, any_from}
use Rattle.rbf_model.proofs.Segments.{has_range}
use Rattle.rbf_model.proofs.Growth.{cluster_of_range}
use Rattle.rbf_segs.proofs.Runs.{sectors_of-appended}
use Rattle.rbf_model.specs.ClusterMap.{ClusterMap, IsFreeInMap, MayTake}
use Rattle.rbf_map.specs.Runs.{is_clear, IsChosenCluster}
use Rattle.rbf_change.specs.Growth.{uses, MayGain, free_beside, with_clusters, Gains}
use Rattle.rbf_alloc.specs.Gained.{IsChosenFor, AreChosen, last_cluster, cluster_at, clusters_from}
use Rattle.rbf_alloc.proofs.Clear.{clear_is, free_is, unclear_is}

-- what the map takes is what the file may gain
last_is : (k : ℕ) (segments : List (ℕ × ℕ)) → 1 ≤ length (sectors_of segments) → last_cluster k segments ≡ Some (get_or (sectors_of segments) (length (sectors_of segments) - 1) 0 / k)
last_is k segments some = ap (option_map (λ s. s / k)) (slice_get-get_or (sectors_of segments) (length (sectors_of segments) - 1) 0 (omega arith))

some_last : (k : ℕ) (sectors : List ℕ) (at : ℕ) → option_map (λ s. s / k) (slice_get sectors (length sectors - 1)) ≡ Some at → 1 ≤ length sectors
some_last k [] at h = cc
some_last k (s ∷ sectors) at h = omega arith

pub may_gain : (k : ℕ) (kept : ClusterMap) (segments : List (ℕ × ℕ)) (c : ℕ) → MayTake kept (last_cluster k segments) c → MayGain k (is_clear kept) segments c
may_gain k kept segments c may = record {
  is_free = clear_is kept c may.free;
  next = λ d after free.
      let at : ℕ = get_or (sectors_of segments) (length (sectors_of segments) - 1) 0 / k in
      let place : d ≡ at + 1 = after.next in
      may.next at (last_is k segments after.some) (subst (IsFreeInMap kept) place (free_is kept d free)) ∙ sym place;
  run = ⊎_elim
      (λ next.
      let some = some_last k (sectors_of segments) next.0 next.1 in
      let at : ℕ = get_or (sectors_of segments) (length (sectors_of segments) - 1) 0 / k in
      let both : Some at ≡ Some next.0 = sym (last_is k segments some) ∙ next.1 in
      let same : next.0 ≡ at = cc in
      inl (record { some = some; next = next.2 ∙ ap (λ n. n + 1) same }))
      (λ begins. inr (and_from (is_clear kept c) ((c == 0) || not (is_clear kept (c - 1))) (clear_is kept c may.free)
      (⊎_elim (λ first. or_left (c == 0) (not (is_clear kept (c - 1))) (eq-eqb c 0 first))
      (λ used. or_right (c == 0) (not (is_clear kept (c - 1))) (not_from_false (is_clear kept (c - 1)) (unclear_is kept (c - 1) used))) begins)))
      may.run;
}

-- and what it chooses is chosen for the file
pub chosen_for : (k wanted : ℕ) (kept : ClusterMap) (segments : List (ℕ × ℕ)) (c : ℕ) → IsChosenCluster kept (last_cluster k segments) wanted c → IsChosenFor k (is_clear kept) segments wanted c
chosen_for k wanted kept segments c chosen none = chosen (λ at is free.
    let some = some_last k (sectors_of segments) at is in
    let last : ℕ = get_or (sectors_of segments) (length (sectors_of segments) - 1) 0 / k in
    let both : Some last ≡ Some at = sym (last_is k segments some) ∙ is in
    let same : at ≡ last = cc in
    both_ways (is_clear kept (at + 1)) (none (at + 1) (record { some = some; next = ap (λ n. n + 1) same })) (clear_is kept (at + 1) free))

-- one more is chosen
pub chosen_more : (k : ℕ) (free : ℕ → Bool) (segments : List (ℕ × ℕ)) (wanted : ℕ) (taken : List ℕ) (c : ℕ) → AreChosen k free segments wanted taken
    → IsChosenFor k (free_beside k free (with_clusters k segments taken)) (with_clusters k segments taken) (wanted - length taken) c → AreChosen k free segments wanted (taken ++ c ∷ [])
chosen_more k free segments wanted [] c chosen one =
    let all : wanted - 0 ≡ wanted = omega arith in
    (subst (λ n. IsChosenFor k (free_beside k free segments) segments n c) all one, tt)
chosen_more k free segments wanted (b ∷ taken) c chosen one =
    let fewer : wanted - suc (length taken) ≡ wanted - 1 - length taken = omega arith in (
      chosen.0,
      chosen_more k free (appended_segments segments (b * k) k) (wanted - 1) taken c chosen.1
          (subst (λ n. IsChosenFor k (free_beside k free (with_clusters k (appended_segments segments (b * k) k) taken)) (with_clusters k (appended_segments segments (b * k) k) taken) n c) fewer one),
    )

-- the sectors of one cluster are in it alone
uses_cluster : (k c d : ℕ) → 1 ≤ k → list_any (λ s. s / k == d) (range_with_len (c * k) k) ≡ (c == d)
uses_cluster k c d positive = ⊎_elim
    (λ same.
    let here : c * k / k ≡ c = mul-div_cancel c positive in
    any_from (λ s. s / k == d) (range_with_len (c * k) k) (c * k) (has_range (c * k) k (c * k) (omega arith) (omega arith)) (eq-eqb (c * k / k) d (here ∙ same)) ∙ sym (eq-eqb c d same))
    (λ differ.
    false_from_ne_true (list_any (λ s. s / k == d) (range_with_len (c * k) k))
    (λ h. let w = any_witness (λ s. s / k == d) (range_with_len (c * k) k) h in
    differ (sym (cluster_of_range k c w.0 positive w.1) ∙ eqb-true (w.0 / k) d w.2))
    ∙ sym (false_from_ne_true (c == d) (λ h. differ (eqb-true c d h))))
    (cases_eq c d)

pub uses_more : (k : ℕ) (segments : List (ℕ × ℕ)) (c d : ℕ) → 1 ≤ k → uses k (appended_segments segments (c * k) k) d ≡ (uses k segments d || (c == d))
uses_more k segments c d positive =
    ap (list_any (λ s. s / k == d)) (sectors_of-appended segments (c * k) k)
    ∙ list_any-append (λ s. s / k == d) (sectors_of segments) (range_with_len (c * k) k)
    ∙ ap (λ t. uses k segments d || t) (uses_cluster k c d positive)

-- one cluster more at the end
pub with_more : (k : ℕ) (segments : List (ℕ × ℕ)) (taken : List ℕ) (c : ℕ) → with_clusters k segments (taken ++ c ∷ []) ≡ appended_segments (with_clusters k segments taken) (c * k) k
with_more k segments [] c = refl
with_more k segments (b ∷ taken) c = with_more k (appended_segments segments (b * k) k) taken c

pub gains_more : (k : ℕ) (free : ℕ → Bool) (segments : List (ℕ × ℕ)) (taken : List ℕ) (c : ℕ) → Gains k free segments taken
    → MayGain k (free_beside k free (with_clusters k segments taken)) (with_clusters k segments taken) c → Gains k free segments (taken ++ c ∷ [])
gains_more k free segments [] c gained may = (may, tt)
gains_more k free segments (b ∷ taken) c gained may = (gained.0, gains_more k free (appended_segments segments (b * k) k) taken c gained.1 may)

-- every gained cluster was free
pub gained_free : (k : ℕ) (free : ℕ → Bool) (segments : List (ℕ × ℕ)) (taken : List ℕ) (i : ℕ) → Gains k free segments taken → i < length taken → free (get_or taken i 0) ≡ true
gained_free k free segments [] i gained low = absurd (omega arith)
gained_free k free segments (b ∷ taken) zero gained low = (and_parts (free b) (not (uses k segments b)) gained.0.is_free).0
gained_free k free segments (b ∷ taken) (suc i) gained low = gained_free k free (appended_segments segments (b * k) k) taken i gained.1 (omega arith)

pub has_free : (k : ℕ) (free : ℕ → Bool) (segments : List (ℕ × ℕ)) (taken : List ℕ) (c : ℕ) → Gains k free segments taken → has taken c ≡ true → free c ≡ true
has_free k free segments [] c gained h = absurd (both_ways false refl h)
has_free k free segments (b ∷ taken) c gained h = ⊎_elim
    (λ here. subst (λ x. free x ≡ true) (eqb-true b c here) (and_parts (free b) (not (uses k segments b)) gained.0.is_free).0)
    (λ later. has_free k free (appended_segments segments (b * k) k) taken c gained.1 later)
    (or_cases (b == c) (has taken c) h)

length-more : (k : ℕ) (segments : List (ℕ × ℕ)) (c : ℕ) → length (sectors_of (appended_segments segments (c * k) k)) ≡ length (sectors_of segments) + k
length-more k segments c =
    ap length (sectors_of-appended segments (c * k) k) ∙ length-append (sectors_of segments) (range_with_len (c * k) k) ∙ ap (λ n. length (sectors_of segments) + n) (length-range_with_len (c * k) k)

-- how many sectors the segments have then
pub length-with : (k : ℕ) (segments : List (ℕ × ℕ)) (taken : List ℕ) → length (sectors_of (with_clusters k segments taken)) ≡ length (sectors_of segments) + length taken * k
length-with k segments [] = omega arith
length-with k segments (c ∷ taken) = omega (arith, length-with k (appended_segments segments (c * k) k) taken, length-more k segments c)

-- the sectors that were there stay in their places
pub kept_place : (k : ℕ) (segments : List (ℕ × ℕ)) (taken : List ℕ) (j : ℕ) → j < length (sectors_of segments)
    → get_or (sectors_of (with_clusters k segments taken)) j 0 ≡ get_or (sectors_of segments) j 0
kept_place k segments [] j low = refl
kept_place k segments (c ∷ taken) j low =
    kept_place k (appended_segments segments (c * k) k) taken j (let more = length-more k segments c in omega arith)
    ∙ ap (λ xs. get_or xs j 0) (sectors_of-appended segments (c * k) k) ∙ get_or_append_left (sectors_of segments) (range_with_len (c * k) k) 0 j low

-- a gained cluster begins at its place
pub begins_at : (k : ℕ) (segments : List (ℕ × ℕ)) (taken : List ℕ) (i : ℕ) → 1 ≤ k → i < length taken
    → get_or (sectors_of (with_clusters k segments taken)) (length (sectors_of segments) + i * k) 0 ≡ get_or taken i 0 * k
begins_at k segments [] i positive low = absurd (omega arith)
begins_at k segments (c ∷ taken) zero positive low =
    let first : length (sectors_of segments) + 0 * k ≡ length (sectors_of segments) = omega arith in
    let here : length (sectors_of segments) - length (sectors_of segments) ≡ 0 = omega arith in
    let start : c * k + 0 ≡ c * k = omega arith in
    ap (λ j. get_or (sectors_of (with_clusters k (appended_segments segments (c * k) k) taken)) j 0) first
    ∙ kept_place k (appended_segments segments (c * k) k) taken (length (sectors_of segments)) (let more = length-more k segments c in omega arith)
    ∙ ap (λ xs. get_or xs (length (sectors_of segments)) 0) (sectors_of-appended segments (c * k) k)
    ∙ get_or-append_right (sectors_of segments) (range_with_len (c * k) k) (length (sectors_of segments)) (length (sectors_of segments)) 0 refl (omega arith)
    ∙ ap (λ j. get_or (range_with_len (c * k) k) j 0) here ∙ get_or-range_with_len (c * k) k 0 0 (omega arith) ∙ start
begins_at k segments (c ∷ taken) (suc i) positive low =
    let next : length (sectors_of segments) + suc i * k ≡ length (sectors_of (appended_segments segments (c * k) k)) + i * k = omega (arith, length-more k segments c) in
    ap (λ j. get_or (sectors_of (with_clusters k (appended_segments segments (c * k) k) taken)) j 0) next
    ∙ begins_at k (appended_segments segments (c * k) k) taken i positive (omega arith)

pub cluster_there : (k : ℕ) (segments : List (ℕ × ℕ)) (taken : List ℕ) (i : ℕ) → 1 ≤ k → i < length taken
    → cluster_at k (with_clusters k segments taken) (length (sectors_of segments) + i * k) ≡ get_or taken i 0
cluster_there k segments taken i positive low = ap (λ s. s / k) (begins_at k segments taken i positive low) ∙ mul-div_cancel (get_or taken i 0) positive

-- so the gained clusters are those of the places
map_places : (f : ℕ → ℕ) (xs : List ℕ) (a n : ℕ) → length xs ≡ n → ((i : ℕ) → i < n → f (a + i) ≡ get_or xs i 0) → map f (range_with_len a n) ≡ xs
map_places f [] a zero size each = refl
map_places f [] a (suc n) size each = absurd (omega arith)
map_places f (x ∷ xs) a zero size each = absurd (omega arith)
map_places f (x ∷ xs) a (suc n) size each =
    let here : a ≡ a + 0 = omega arith in
    let one : f a ≡ x = ap f here ∙ each 0 (omega arith) in
    ap (λ y. y ∷ map f (range_with_len (a + 1) n)) one
    ∙ ap (λ ys. x ∷ ys) (map_places f xs (a + 1) n (omega arith) (λ i low. let next : a + 1 + i ≡ a + suc i = omega arith in ap f next ∙ each (suc i) (omega arith)))

pub clusters_are : (k : ℕ) (segments : List (ℕ × ℕ)) (taken : List ℕ) → 1 ≤ k → clusters_from k (with_clusters k segments taken) (length (sectors_of segments)) (length taken) ≡ taken
clusters_are k segments taken positive =
    map_places (λ i. cluster_at k (with_clusters k segments taken) (length (sectors_of segments) + i * k)) taken 0 (length taken) refl
    (λ i low. let here : 0 + i ≡ i = omega arith in ap (λ j. cluster_at k (with_clusters k segments taken) (length (sectors_of segments) + j * k)) here ∙ cluster_there k segments taken i positive low)
