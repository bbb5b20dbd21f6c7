-- The clusters of a file are those of its segments and of its descriptor.
use Rattle.std.proofs.Common.{◌≡◌, ◌≢◌, ℕ, zero, suc, ◌+◌, ◌-◌, ◌*◌, ◌/◌, ◌<◌, ◌≤◌, Bool, true, not, ◌==◌, cond, List, [], ◌∷◌, length, get_or, ap, ◌∙◌, subst, ⊎_elim, arith, eq-eqb, eqb-true, leb-true, le-leb}
use Rattle.std.specs.Prelude.{nat_le, map, take_while}
use Rattle.std.specs.List.{range_with_len}
use Rattle.std.proofs.Math.Nat.{le-div_iff_mul-le, div-lt_iff_lt-mul}
use Rattle.std.proofs.lemmas.List.Sums.{take_while-cons}
use Rattle.std.proofs.lemmas.Bool.{and_parts, and_from, or_left, or_right, or_cases, both_ways, not-true, false≢true, cases_Bool, cases_lt}
use Rattle.rbf_model.specs.Fields.{segments_field, segment_field, has_sectors}
use Rattle.rbf_model.specs.Geometry.{Geometry}
use Rattle.rbf_model.specs.File.{DiskFile}
use Rattle.rbf_model.specs.Segments.{segment_sectors, sectors_of, has}
use Rattle.rbf_model.specs.Space.{has_cluster}
use Rattle.rbf_model.proofs.Owners.{cluster_begins, owned_cases, owns_own}
use Rattle.rbf_model.proofs.Segments.{has_cases, has_left, has_right, has_range, range_has}
use Rattle.rbf_model.proofs.Space.{cluster_from_owns, owns_from_cluster}
use Rattle.rbf_alloc.specs.Own.{in_segment, in_segments, in_own}
use Rattle.rbf_alloc.proofs.Stretches.{same_tests}

-- what is taken while a test passes, passes it
place_passes : (q : ℕ × ℕ → Bool) (x : ℕ × ℕ) (ys : List (ℕ × ℕ)) (d : ℕ × ℕ) → q x ≡ true
    → ((k : ℕ) → k < length ys → q (get_or ys k d) ≡ true) → (j : ℕ) → j < length (x ∷ ys) → q (get_or (x ∷ ys) j d) ≡ true
place_passes q x ys d passes later zero low = passes
place_passes q x ys d passes later (suc j) low = later j (omega arith)

front_passes : (q : ℕ × ℕ → Bool) (d : ℕ × ℕ) (xs : List (ℕ × ℕ)) (i : ℕ) → i < length (take_while q xs) → q (get_or (take_while q xs) i d) ≡ true
front_passes q d [] i low = absurd (omega arith)
front_passes q d (x ∷ xs) i low = ⊎_elim
    (λ passes.
    let is : take_while q (x ∷ xs) ≡ x ∷ take_while q xs = take_while-cons q x xs ∙ ap (λ t. cond t (x ∷ take_while q xs) []) passes in
    ap (λ ys. q (get_or ys i d)) is ∙ place_passes q x (take_while q xs) d passes (λ k under. front_passes q d xs k under) i (subst (λ ys. i < length ys) is low))
    (λ fails.
    let is : take_while q (x ∷ xs) ≡ [] = take_while-cons q x xs ∙ ap (λ t. cond t (x ∷ take_while q xs) []) fails in
    let none : length (take_while q (x ∷ xs)) ≡ 0 = ap length is in
    absurd (omega arith))
    (cases_Bool (q x))

-- each segment of a descriptor has a sector
pub record AreSome (segments : List (ℕ × ℕ)) : Type 0 where
  pub some : (i : ℕ) → i < length segments → 1 ≤ (get_or segments i (0, 0)).1

pub fields_some : (descriptor : List ℕ) → AreSome (segments_field descriptor)
unfolding segments_field
fields_some descriptor = record {
  some = λ i low.
      let segment = get_or (segments_field descriptor) i (0, 0) in
      let passes : not (segment.1 == 0) ≡ true = front_passes has_sectors (0, 0) (map (segment_field descriptor) (range_with_len 0 48)) i low in
      let differ : segment.1 ≢ 0 = λ none. both_ways (segment.1 == 0) (not-true (segment.1 == 0) passes) (eq-eqb segment.1 0 none) in
      omega arith;
}

some_rest : (x : ℕ × ℕ) (xs : List (ℕ × ℕ)) → AreSome (x ∷ xs) → AreSome xs
some_rest x xs all = record { some = λ i low. all.some (suc i) (omega arith) }

-- a cluster of a segment has one of its sectors
in_one : (k : ℕ) (x : ℕ × ℕ) (c : ℕ) → 1 ≤ k → 1 ≤ x.1 → in_segment k x c ≡ true → (s : ℕ) × (x.0 ≤ s) × (s < x.0 + x.1) × (s / k ≡ c)
in_one k x c positive some h =
    let parts = and_parts (nat_le (x.0 / k) c) (nat_le c ((x.0 + x.1 - 1) / k)) h in
    let low : x.0 / k ≤ c = leb-true (x.0 / k) c parts.0 in
    let high : c ≤ (x.0 + x.1 - 1) / k = leb-true c ((x.0 + x.1 - 1) / k) parts.1 in
    let most : c * k ≤ x.0 + x.1 - 1 = (le-div_iff_mul-le positive).0 high in
    ⊎_elim
    (λ inside.
    let up : c ≤ x.0 / k = (le-div_iff_mul-le positive).1 (omega arith) in
    (x.0, omega arith, omega arith, omega arith))
    (λ before.
    let here : c * k / k ≡ c =
    let up : c ≤ c * k / k = (le-div_iff_mul-le positive).1 (omega arith) in
    let down : c * k / k < c + 1 = (div-lt_iff_lt-mul positive).1 (omega arith) in
    omega arith in
    (c * k, omega arith, omega arith, here))
    (cases_lt (c * k) (x.0 + 1))

sector_of_segments : (k : ℕ) (segments : List (ℕ × ℕ)) (c : ℕ) → 1 ≤ k → AreSome segments → in_segments k segments c ≡ true → (s : ℕ) × (has (sectors_of segments) s ≡ true) × (s / k ≡ c)
sector_of_segments k [] c positive some h = absurd (false≢true h)
sector_of_segments k (x ∷ xs) c positive some h = ⊎_elim
    (λ first.
    let w = in_one k x c positive (some.some 0 (omega arith)) first in
    (w.0, has_left (segment_sectors x) (sectors_of xs) w.0 (has_range x.0 x.1 w.0 w.1 w.2), w.3))
    (λ later.
    let w = sector_of_segments k xs c positive (some_rest x xs some) later in
    (w.0, has_right (segment_sectors x) (sectors_of xs) w.0 w.1, w.2))
    (or_cases (in_segment k x c) (in_segments k xs c) h)

-- and the cluster of a sector of a segment is one of its clusters
of_one : (k : ℕ) (x : ℕ × ℕ) (s : ℕ) → 1 ≤ k → x.0 ≤ s → s < x.0 + x.1 → in_segment k x (s / k) ≡ true
of_one k x s positive low high =
    let first = cluster_begins x.0 k positive in
    let this = cluster_begins s k positive in
    let from : x.0 / k ≤ s / k = (le-div_iff_mul-le positive).1 (omega arith) in
    let to : s / k ≤ (x.0 + x.1 - 1) / k = (le-div_iff_mul-le positive).1 (omega arith) in
    and_from (nat_le (x.0 / k) (s / k)) (nat_le (s / k) ((x.0 + x.1 - 1) / k)) (le-leb (x.0 / k) (s / k) from) (le-leb (s / k) ((x.0 + x.1 - 1) / k) to)

segments_of_sector : (k : ℕ) (segments : List (ℕ × ℕ)) (s : ℕ) → 1 ≤ k → has (sectors_of segments) s ≡ true → in_segments k segments (s / k) ≡ true
segments_of_sector k [] s positive h = absurd (false≢true h)
segments_of_sector k (x ∷ xs) s positive h = ⊎_elim
    (λ first.
    let r = range_has x.0 x.1 s first in
    or_left (in_segment k x (s / k)) (in_segments k xs (s / k)) (of_one k x s positive r.0 r.1))
    (λ later. or_right (in_segment k x (s / k)) (in_segments k xs (s / k)) (segments_of_sector k xs s positive later))
    (has_cases (segment_sectors x) (sectors_of xs) s h)

-- the clusters of a file other than the root's
pub own_is : (g : Geometry) (n : ℕ) (file : DiskFile) (c : ℕ) → 1 ≤ g.cluster → n ≢ g.root → AreSome file.segments
    → in_own g.cluster (record { fd = n; segs = file.segments }) c ≡ has_cluster g n file c
own_is g n file c positive other some = same_tests (in_own g.cluster (record { fd = n; segs = file.segments }) c) (has_cluster g n file c)
    (λ h. ⊎_elim
    (λ first.
    let w = in_one g.cluster (n, 1) c positive (omega arith) first in
    let low = w.1 in
    let high = w.2 in
    let here : n ≡ w.0 = omega arith in
    subst (λ d. has_cluster g n file d ≡ true) w.3
    (cluster_from_owns g n file w.0 (owns_own g n file w.0 (or_left (n == w.0) (has (sectors_of file.segments) w.0) (eq-eqb n w.0 here)))))
    (λ later.
    let w = sector_of_segments g.cluster file.segments c positive some later in
    subst (λ d. has_cluster g n file d ≡ true) w.2
    (cluster_from_owns g n file w.0 (owns_own g n file w.0 (or_right (n == w.0) (has (sectors_of file.segments) w.0) w.1))))
    (or_cases (in_segment g.cluster (n, 1) c) (in_segments g.cluster file.segments c) h))
    (λ h.
    let w = owns_from_cluster g n file c h in
    subst (λ d. in_own g.cluster (record { fd = n; segs = file.segments }) d ≡ true) w.2
    (⊎_elim
    (λ system. absurd (other system.0))
    (λ own. ⊎_elim
    (λ here.
    let is : n ≡ w.0 = eqb-true n w.0 here in
    or_left (in_segment g.cluster (n, 1) (w.0 / g.cluster)) (in_segments g.cluster file.segments (w.0 / g.cluster)) (of_one g.cluster (n, 1) w.0 positive (omega arith) (omega arith)))
    (λ later. or_right (in_segment g.cluster (n, 1) (w.0 / g.cluster)) (in_segments g.cluster file.segments (w.0 / g.cluster)) (segments_of_sector g.cluster file.segments w.0 positive later))
    (or_cases (n == w.0) (has (sectors_of file.segments) w.0) own))
    (owned_cases g n file w.0 w.1)))
