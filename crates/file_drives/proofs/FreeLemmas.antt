-- Clusters that were chosen are as many as are free at most.
use Rattle.std.proofs.Common.{◌≡◌, ℕ, zero, suc, ◌+◌, ◌-◌, ◌*◌, ◌<◌, ◌≤◌, Bool, true, false, not, ◌==◌, ◌&&◌, ◌||◌, Option, List, [], ◌∷◌, length, refl, sym, ap, ◌∙◌, subst, ⊎_elim, arith, eq-eqb, leb-true}
use Rattle.std.specs.Prelude.{filter, if◌then◌else◌}
use Rattle.std.specs.List.{range_with_len}
use Rattle.std.proofs.Math.Nat.{le-div_iff_mul-le}
use Rattle.std.proofs.lemmas.Bool.{and_parts, both_ways, cases_eq}
use Rattle.rbf_model.specs.Geometry.{Geometry, image_geometry, sector}
use Rattle.rbf_model.specs.Space.{is_whole, cluster_count}
use Rattle.rbf_model.specs.Volume.{DiskVolume, is_free}
use Rattle.rbf_model.specs.Segments.{appended_segments}
use Rattle.rbf_model.proofs.Free.{free_parts}
use Rattle.rbf_model.proofs.Owners.{cluster_positive}
use Rattle.rbf_change.specs.Calls.{shape, cluster_size, is_free_in, free_total}
use Rattle.rbf_change.specs.Growth.{Gains, IsChoice, clusters_needed, free_beside, uses}
use Rattle.rbf_change.proofs.LawfulWrites.{shape-image}
use Rattle.rbf_access.specs.Mounted.{RepresentsVolume}
use Rattle.rbf_alloc.proofs.Chosen.{uses_more}

-- how many of a range pass two tests, of which the first is stricter
module _ (f h : ℕ → Bool) (stricter : (c : ℕ) → f c ≡ true → h c ≡ true) where
  pub no_more : (a m : ℕ) → length (filter f (range_with_len a m)) ≤ length (filter h (range_with_len a m))
  no_more a zero = omega arith
  no_more a (suc m) = by (f a) (h a) refl (stricter a) (filter f (range_with_len (a + 1) m)) (filter h (range_with_len (a + 1) m)) (no_more (a + 1) m)
    where
      by : (t u : Bool) → h a ≡ u → (t ≡ true → h a ≡ true) → (xs ys : List ℕ) → length xs ≤ length ys → length (if t then a ∷ xs else xs) ≤ length (if u then a ∷ ys else ys)
      by true true eu imp xs ys low = omega arith
      by true false eu imp xs ys low = absurd (both_ways (h a) eu (imp refl))
      by false true eu imp xs ys low = omega arith
      by false false eu imp xs ys low = low

-- and where the second passes one more of it
module _ (f h : ℕ → Bool) (x : ℕ) (stricter : (c : ℕ) → f c ≡ true → h c ≡ true) (out : f x ≡ false) (passes : h x ≡ true) where
  pub one_less : (a m : ℕ) → a ≤ x → x < a + m → length (filter f (range_with_len a m)) + 1 ≤ length (filter h (range_with_len a m))
  one_less a zero low high = absurd (omega arith)
  one_less a (suc m) low high =
      by (f a) (h a) refl refl (stricter a) (filter f (range_with_len (a + 1) m)) (filter h (range_with_len (a + 1) m))
      (λ same. no_more f h stricter (a + 1) m) (λ past. one_less (a + 1) m past (omega arith))
    where
      by : (t u : Bool) → f a ≡ t → h a ≡ u → (t ≡ true → h a ≡ true) → (xs ys : List ℕ)
          → (x ≡ a → length xs ≤ length ys) → (a + 1 ≤ x → length xs + 1 ≤ length ys)
          → length (if t then a ∷ xs else xs) + 1 ≤ length (if u then a ∷ ys else ys)
      by true true et eu imp xs ys same past = let p = past (apart et) in omega arith
        where
          apart : f a ≡ true → a + 1 ≤ x
          apart passed = ⊎_elim (λ e. absurd (both_ways (f a) (subst (λ c. f c ≡ false) e out) passed)) (λ ne. omega arith) (cases_eq x a)
      by true false et eu imp xs ys same past = absurd (both_ways (h a) eu (imp refl))
      by false true et eu imp xs ys same past = ⊎_elim (λ e. let p = same e in omega arith) (λ ne. let p = past (omega arith) in omega arith) (cases_eq x a)
      by false false et eu imp xs ys same past = past (⊎_elim (λ e. absurd (both_ways (h a) eu (subst (λ c. h c ≡ true) e passes))) (λ ne. omega arith) (cases_eq x a))

-- clusters that are gained in turn are each another one
module _ (k : ℕ) (positive : 1 ≤ k) (free : ℕ → Bool) (count : ℕ) (below : (c : ℕ) → free c ≡ true → c < count) where
  pub gained-few : (segments : List (ℕ × ℕ)) (taken : List ℕ) → Gains k free segments taken → length taken ≤ length (filter (free_beside k free segments) (range_with_len 0 count))
  gained-few segments [] gains = omega arith
  gained-few segments (c ∷ taken) gains =
      let rest = gained-few (appended_segments segments (c * k) k) taken gains.1 in
      let parts = and_parts (free c) (not (uses k segments c)) gains.0.is_free in
      let fewer = one_less (free_beside k free (appended_segments segments (c * k) k)) (free_beside k free segments) c
      stricter out gains.0.is_free 0 count (omega arith) (let b = below c parts.0 in omega arith) in
      omega arith
    where
      beside_both : (a u e : Bool) → (a && not (u || e)) ≡ true → (a && not u) ≡ true
      beside_both true false e h = refl
      beside_both true true e h = h
      beside_both false u e h = h

      stricter : (d : ℕ) → free_beside k free (appended_segments segments (c * k) k) d ≡ true → free_beside k free segments d ≡ true
      stricter d h = beside_both (free d) (uses k segments d) (c == d) (sym (ap (λ u. free d && not u) (uses_more k segments c d positive)) ∙ h)

      itself : (a u e : Bool) → e ≡ true → (a && not (u || e)) ≡ false
      itself true true true h = refl
      itself true false true h = refl
      itself false u true h = refl
      itself a u false h = absurd (both_ways false refl h)

      out : free_beside k free (appended_segments segments (c * k) k) c ≡ false
      out = ap (λ u. free c && not u) (uses_more k segments c c positive) ∙ itself (free c) (uses k segments c) (c == c) (eq-eqb c c refl)

-- a cluster has a sector
pub some-cluster : (media : Option (List ℕ)) (v : DiskVolume) → RepresentsVolume media v → 1 ≤ cluster_size v
some-cluster media v on =
    subst (λ (s : Geometry). 1 ≤ s.cluster) (sym (shape-image on.image v on.vol)) (cluster_positive (image_geometry on.image).cluster on.vol.sound.shape.header.clusters)

pub chosen-free : (media : Option (List ℕ)) (v : DiskVolume) → RepresentsVolume media v → (segments : List (ℕ × ℕ))
    (size : ℕ) (taken : List ℕ) → IsChoice (cluster_size v) (is_free_in v) segments size taken
    → clusters_needed (cluster_size v) segments size ≤ free_total v
chosen-free media v on segments size taken choice =
    let few = gained-few (cluster_size v) positive (is_free_in v) (cluster_count (shape v)) below segments taken choice.gained in
    let all = no_more (free_beside (cluster_size v) (is_free_in v) segments) (is_free_in v)
    (λ c h. (and_parts (is_free_in v c) (not (uses (cluster_size v) segments c)) h).0) 0 (cluster_count (shape v))
    in
    let enough = choice.enough in
    omega (arith, few, all, enough)
  where
    same : shape v ≡ image_geometry on.image
    same = shape-image on.image v on.vol

    positive : 1 ≤ cluster_size v
    positive = some-cluster media v on

    below : (c : ℕ) → is_free_in v c ≡ true → c < cluster_count (shape v)
    below c h =
        let parts = free_parts (image_geometry on.image) (sector on.image) v on.vol.sound c (subst (λ s. is_free s v c ≡ true) same h) in
        let whole : (c + 1) * (shape v).cluster ≤ (shape v).total = leb-true ((c + 1) * (shape v).cluster) (shape v).total (subst (λ s. is_whole s c ≡ true) (sym same) parts.0) in
        let room = le-div_iff_mul-le {k = (shape v).cluster} {x = c + 1} {y = (shape v).total + ((shape v).cluster - 1)} positive in
        let fits : c + 1 ≤ cluster_count (shape v) = room.1 (omega (arith, whole)) in
        omega (arith, fits)
