-- The clusters of a file, segment by segment.
use Rattle.std.proofs.Common.{◌≡◌, ℕ, ◌+◌, ◌-◌, ◌*◌, ◌/◌, ◌<◌, ◌≤◌, zero, suc, Bool, true, false, ◌==◌, ◌&&◌, ◌||◌, Some, List, [], ◌∷◌, length, take, get_or, max, min, refl, sym, ap, ◌∙◌, ⊎_elim, arith, eq-eqb, eqb-true}
use Rattle.std.specs.Prelude.{slice_get, nat_le, nat_lt}
use Rattle.std.specs.List.{list_any}
use Rattle.std.proofs.lemmas.Bool.{and_parts, and_from, or_left, or_right, or_cases, both_ways, false_from_ne_true, false≢true, cases_eq}
use Rattle.std.proofs.lemmas.List.{take_more, take_all}
use Rattle.std.proofs.lemmas.List.Folds.{list_any-append}
use Rattle.rbf_alloc.specs.declared.own.OwnSectors.{OwnSectors}
use Rattle.std.proofs.lemmas.Option.{get_or_from_slice_get}
use Rattle.rbf_model.specs.ClusterMap.{ClusterMap}
use Rattle.rbf_alloc.specs.declared.own.Stretch.{Stretch}
use Rattle.rbf_alloc.proofs.Stretches.{clamped, within, none_between}
use Rattle.rbf_alloc.specs.Own.{own_segments, in_segment, in_part, in_own, in_stretch, here, AreInMap, NoneHere, in_segments}

-- a cluster has a sector of one of the first `count` segments of a file
abbrev pub in_front : ℕ → OwnSectors → ℕ → ℕ → Bool
in_front k own count c = in_segments k (take count (own_segments own)) c

or_none : (t : Bool) → (t || false) ≡ t
or_none true = refl
or_none false = refl

-- the descriptor's own sector, and the segment after it
pub segment_first : (n : ℕ) (xs : List (ℕ × ℕ)) (i : ℕ) → i ≡ 0 → slice_get ((n, 1) ∷ xs) i ≡ Some (n, n + 1 - n)
segment_first n xs i is =
    let one : 1 ≡ n + 1 - n = omega arith in
    ap (slice_get ((n, 1) ∷ xs)) is ∙ ap (λ m. Some (n, m)) one

pub segment_after : (x : ℕ × ℕ) (xs : List (ℕ × ℕ)) (i lsn count : ℕ) → 1 ≤ i → 1 ≤ count → slice_get xs (i - 1) ≡ Some (lsn, count) → slice_get (x ∷ xs) i ≡ Some (lsn, lsn + (count - 1) + 1 - lsn)
segment_after x xs zero lsn count some more is = absurd (omega arith)
segment_after x xs (suc j) lsn count some more is =
    let same : suc j - 1 ≡ j = omega arith in
    let many : count ≡ lsn + (count - 1) + 1 - lsn = omega arith in
    ap (slice_get xs) (sym same) ∙ is ∙ ap (λ m. Some (lsn, m)) many

-- a segment that passes a test, found by its place
any_place : (p : ℕ × ℕ → Bool) (xs : List (ℕ × ℕ)) (d : ℕ × ℕ) → list_any p xs ≡ true → (j : ℕ) × (j < length xs) × (p (get_or xs j d) ≡ true)
any_place p [] d h = absurd (false≢true h)
any_place p (x ∷ xs) d h = ⊎_elim
    (λ first. (0, omega arith, first))
    (λ later. let w = any_place p xs d later in let low = w.1 in (suc w.0, omega arith, w.2))
    (or_cases (p x) (list_any p xs) h)

any_at : (p : ℕ × ℕ → Bool) (xs : List (ℕ × ℕ)) (d : ℕ × ℕ) (j : ℕ) → j < length xs → p (get_or xs j d) ≡ true → list_any p xs ≡ true
any_at p [] d j low h = absurd (omega arith)
any_at p (x ∷ xs) d zero low h = or_left (p x) (list_any p xs) h
any_at p (x ∷ xs) d (suc j) low h = or_right (p x) (list_any p xs) (any_at p xs d j (omega arith) h)

module _ (k : ℕ) (own : OwnSectors) where
  -- a cluster of one segment is the file's
  pub part_in_own : (i c : ℕ) → i < length (own_segments own) → in_part k own i c ≡ true → in_own k own c ≡ true
  part_in_own i c low h = any_at (λ segment. in_segment k segment c) (own_segments own) (0, 0) i low h

  -- none has its mark there if no segment has such a cluster
  pub none_here : (place : ℕ) → ((i c : ℕ) → i < length (own_segments own) → here (in_part k own i) place c ≡ false) → NoneHere (in_own k own) place
  none_here place none c = false_from_ne_true (here (in_own k own) place c) (λ h.
      let parts = and_parts (in_own k own c) (c / 2048 == place) h in
      let w = any_place (λ segment. in_segment k segment c) (own_segments own) (0, 0) parts.0 in
      both_ways (here (in_part k own w.0) place c) (none w.0 c w.1) (and_from (in_part k own w.0 c) (c / 2048 == place) w.2 parts.1))

  pub some_here : (i place c : ℕ) → i < length (own_segments own) → here (in_part k own i) place c ≡ true → here (in_own k own) place c ≡ true
  some_here i place c low h =
      let parts = and_parts (in_part k own i c) (c / 2048 == place) h in
      and_from (in_own k own c) (c / 2048 == place) (part_in_own i c low parts.0) parts.1

  -- the first segments, one more, and all
  pub front_none : (c : ℕ) → in_front k own 0 c ≡ false
  front_none c = refl

  pub front_more : (i c : ℕ) → i < length (own_segments own) → (in_front k own i c || in_part k own i c) ≡ in_front k own (i + 1) c
  front_more i c low =
      let xs = own_segments own in
      let p : ℕ × ℕ → Bool = λ segment. in_segment k segment c in
      sym (ap (list_any p) (take_more xs i (0, 0) low) ∙ list_any-append p (take i xs) (get_or xs i (0, 0) ∷ []) ∙ ap (λ t. list_any p (take i xs) || t) (or_none (p (get_or xs i (0, 0)))))

  pub front_all : (i c : ℕ) → length (own_segments own) ≤ i → in_front k own i c ≡ in_own k own c
  front_all i c past = ap (list_any (λ segment. in_segment k segment c)) (take_all i (own_segments own) past)

-- the clusters of a segment that have their mark in one sector of the map
pub stretch_there : (own : OwnSectors) (i k place from to first end : ℕ) → slice_get (own_segments own) i ≡ Some (from, to + 1 - from) → from ≤ to
    → first ≡ max (from / k) (2048 * place) → end ≡ min (to / k) (2048 * place + 2047) + 1 → (c : ℕ) → (nat_le first c && nat_lt c end) ≡ here (in_part k own i) place c
stretch_there own i k place from to first end there order first_is end_is c =
    let last : to ≡ from + (to + 1 - from) - 1 = omega arith in
    let is : get_or (own_segments own) i (0, 0) ≡ (from, to + 1 - from) = get_or_from_slice_get (own_segments own) i (from, to + 1 - from) (0, 0) there in
    ap (λ f. nat_le f c && nat_lt c end) first_is
    ∙ ap (λ e. nat_le (max (from / k) (2048 * place)) c && nat_lt c e) end_is
    ∙ clamped (from / k) (to / k) place c
    ∙ ap (λ l. (nat_le (from / k) c && nat_le c (l / k)) && (c / 2048 == place)) last
    ∙ ap (λ s. here (in_segment k s) place c) (sym is)

-- one segment more that has no cluster there
pub none_more : (k place i : ℕ) (own : OwnSectors) (part : Stretch)
    → ((j c : ℕ) → j < i → here (in_part k own j) place c ≡ false)
    → ((c : ℕ) → in_stretch part c ≡ here (in_part k own i) place c) → part.end ≤ part.first
    → (j c : ℕ) → j < i + 1 → here (in_part k own j) place c ≡ false
none_more k place i own part none is empty j c low = ⊎_elim
    (λ same. ap (λ m. here (in_part k own m) place c) same ∙ sym (is c) ∙ none_between part.first part.end c empty)
    (λ differ. let ne : j ≡ i → ⊥ = differ in none j c (omega arith))
    (cases_eq j i)

-- the first cluster of a stretch is one of the file's
pub first_here : (k place i : ℕ) (own : OwnSectors) (part : Stretch) → i < length (own_segments own) → ((c : ℕ) → in_stretch part c ≡ here (in_part k own i) place c) → part.first < part.end
    → here (in_own k own) place part.first ≡ true
first_here k place i own part low is some = some_here k own i place part.first low (sym (is part.first) ∙ within part.first part.end part.first (omega arith) some)

-- a stretch of the clusters of one segment has all of its marks in one sector of the map
pub stretch_here : (k place i : ℕ) (own : OwnSectors) (part : Stretch) → ((c : ℕ) → in_stretch part c ≡ here (in_part k own i) place c) → (c : ℕ) → in_stretch part c ≡ true → c / 2048 ≡ place
stretch_here k place i own part is c h = eqb-true (c / 2048) place (and_parts (in_part k own i c) (c / 2048 == place) (sym (is c) ∙ h)).1

pub stretch_in_map : (k place i : ℕ) (own : OwnSectors) (part : Stretch) (old now : ClusterMap) → i < length (own_segments own) → ((c : ℕ) → in_stretch part c ≡ here (in_part k own i) place c)
    → AreInMap (in_own k own) old → now.clusters ≡ old.clusters → AreInMap (in_stretch part) now
stretch_in_map k place i own part old now low is all same c h =
    let there : c < old.clusters = all c (part_in_own k own i c low (and_parts (in_part k own i c) (c / 2048 == place) (sym (is c) ∙ h)).0) in
    omega arith

-- the clusters of the first segments, and of one more
pub front_here : (k place i c : ℕ) (own : OwnSectors) (part : Stretch) → i < length (own_segments own) → ((c : ℕ) → in_stretch part c ≡ here (in_part k own i) place c)
    → (here (in_front k own i) place c || in_stretch part c) ≡ here (in_front k own (i + 1)) place c
front_here k place i c own part low is =
    ap (λ t. here (in_front k own i) place c || t) (is c) ∙ either (in_front k own i c) (in_part k own i c) (c / 2048 == place) ∙ ap (λ t. t && (c / 2048 == place)) (front_more k own i c low)
  where
    either : (a b t : Bool) → ((a && t) || (b && t)) ≡ ((a || b) && t)
    either true true true = refl
    either true true false = refl
    either true false true = refl
    either true false false = refl
    either false b t = refl

pub front_in : (k place i c : ℕ) (own : OwnSectors) (part : Stretch) → i < length (own_segments own) → ((c : ℕ) → in_stretch part c ≡ here (in_part k own i) place c) → c / 2048 ≡ place
    → (in_front k own i c || in_stretch part c) ≡ in_front k own (i + 1) c
front_in k place i c own part low is there =
    ap (λ t. in_front k own i c || t) (is c ∙ ap (λ t. in_part k own i c && t) (eq-eqb (c / 2048) place there) ∙ and_true (in_part k own i c)) ∙ front_more k own i c low
  where
    and_true : (t : Bool) → (t && true) ≡ t
    and_true true = refl
    and_true false = refl

pub here_all : (k place i : ℕ) (own : OwnSectors) → length (own_segments own) ≤ i → (c : ℕ) → here (in_front k own i) place c ≡ here (in_own k own) place c
here_all k place i own past c = ap (λ t. t && (c / 2048 == place)) (front_all k own i c past)
