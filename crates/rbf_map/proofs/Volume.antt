-- The marks and the free clusters of a map, beside those of the volume whose map it is.
use Rattle.std.proofs.Common.{◌≡◌, ◌↔◌, ℕ, ◌+◌, ◌-◌, ◌*◌, ◌/◌, ◌%◌, ◌<◌, ◌≤◌, zero, suc, Bool, true, false, cond, not, ◌==◌, List, [], ◌∷◌, filter, refl, sym, ap, ◌∙◌, ⊎_elim, arith, slice_index, eq-eqb, leb-true, le-leb}
use Rattle.std.specs.Int.{bit_at}
use Rattle.std.specs.List.{range_with_len}
use Rattle.std.proofs.Math.Nat.{le-div_iff_mul-le}
use Rattle.std.proofs.lemmas.Bool.{false_from_ne_true, both_ways, and_parts, and_from, not-true}
use Rattle.rbf_model.specs.Disk.{disk_of}
use Rattle.rbf_model.specs.Geometry.{Geometry}
use Rattle.rbf_model.specs.Space.{is_whole, is_marked, map_byte, cluster_count}
use Rattle.rbf_model.specs.Volume.{DiskVolume, Sound, is_free, free_clusters}
use Rattle.rbf_model.proofs.Free.{is_free_is}
use Rattle.rbf_model.proofs.Owners.{cluster_positive}
use Rattle.rbf_model.specs.ClusterMap.{ClusterMap, mark, IsFreeInMap, map_free_clusters}
use Rattle.rbf_map.proofs.Marks.{mark-set_or_clear}

-- the mark of a cluster in the map is the disk's if its byte is
pub marked_is : (disk : ℕ → List ℕ) (bytes : List ℕ) (c : ℕ) → slice_index bytes (c / 8) ≡ map_byte disk (c / 8) → is_marked disk c ≡ (mark bytes c == 1)
unfolding is_marked
marked_is disk bytes c same = ap (λ b. bit_at b (7 - c % 8) == 1) (sym same)

-- a test that nothing passes from a number on
filter_none : (p : ℕ → Bool) (a m : ℕ) → ((c : ℕ) → a ≤ c → p c ≡ false) → filter p (range_with_len a m) ≡ []
filter_none p a zero none = refl
filter_none p a (suc m) none =
    ap (λ t. cond t (a ∷ filter p (range_with_len (a + 1) m)) (filter p (range_with_len (a + 1) m))) (none a (omega arith)) ∙ filter_none p (a + 1) m (λ c low. none c (omega arith))

-- a test that agrees with another on the first numbers, and that nothing passes behind them
filter_front : (p q : ℕ → Bool) (a n m : ℕ) → ((c : ℕ) → a ≤ c → c < a + n → p c ≡ q c) → ((c : ℕ) → a + n ≤ c → p c ≡ false) → filter p (range_with_len a (n + m)) ≡ filter q (range_with_len a n)
filter_front p q a zero m agree none =
    let all : 0 + m ≡ m = omega arith in
    ap (λ k. filter p (range_with_len a k)) all ∙ filter_none p a m (λ c low. none c (omega arith))
filter_front p q a (suc n) m agree none =
    let more : suc n + m ≡ suc (n + m) = omega arith in
    let rest = filter_front p q (a + 1) n m (λ c low high. agree c (omega arith) (omega arith)) (λ c low. none c (omega arith)) in
    ap (λ k. filter p (range_with_len a k)) more ∙ ap (λ t. cond t (a ∷ filter p (range_with_len (a + 1) (n + m)))
    (filter p (range_with_len (a + 1) (n + m)))) (agree a (omega arith) (omega arith)) ∙ ap
    (λ r. cond (q a) (a ∷ r) r) rest

not_marked : (m : ℕ) → (m ≡ 0) → not (m == 1) ≡ true
not_marked m clear = ap (λ k. not (k == 1)) clear

-- the map has the whole clusters of the volume, and the disk's marks of them
module _ (g : Geometry) (disk : ℕ → List ℕ) (v : DiskVolume) (sound : Sound (disk_of g disk) v) (map : ClusterMap)
    (whole : map.whole ≡ g.total / g.cluster) (marks : (c : ℕ) → c < map.whole → is_marked disk c ≡
    (mark map.bytes c == 1)) where
  -- the clusters below the count of whole ones are whole
  pub whole_is : (c : ℕ) → (is_whole g c ≡ true) ↔ (c < map.whole)
  whole_is c =
      let positive = cluster_positive g.cluster sound.shape.header.clusters in
      let fits = le-div_iff_mul-le {k = g.cluster} {x = c + 1} {y = g.total} positive in (
        λ h. let below : c + 1 ≤ g.total / g.cluster = fits.1 (leb-true ((c + 1) * g.cluster) g.total h) in omega arith,
        λ below. le-leb ((c + 1) * g.cluster) g.total (fits.0 (omega arith)),
      )

  -- a cluster is free in the map exactly if it is free on the volume
  pub free_in_map : (c : ℕ) → is_free g v c ≡ true → IsFreeInMap map c
  free_in_map c free =
      let parts = and_parts (is_whole g c) (not (is_marked disk c)) (sym (is_free_is g disk v sound c) ∙ free) in
      let below = (whole_is c).0 parts.0 in
      let unmarked : (mark map.bytes c == 1) ≡ false = sym (marks c below) ∙ not-true (is_marked disk c) parts.1 in
      record {
        whole = below;
        clear = ⊎_elim (λ clear. clear) (λ set. absurd (both_ways (mark map.bytes c == 1) unmarked (eq-eqb (mark map.bytes c) 1 set))) (mark-set_or_clear map.bytes c);
      }

  pub free_on_volume : (c : ℕ) → IsFreeInMap map c → is_free g v c ≡ true
  free_on_volume c free =
      is_free_is g disk v sound c ∙ and_from (is_whole g c) (not (is_marked disk c)) ((whole_is c).1 free.whole) (ap not (marks c free.whole) ∙ not_marked (mark map.bytes c) free.clear)

  -- so the two lists of free clusters are one
  pub free_clusters_are : free_clusters g v ≡ map_free_clusters map
  free_clusters_are =
      let enough : map.whole ≤ cluster_count g = enough_clusters in
      let more : map.whole + (cluster_count g - map.whole) ≡ cluster_count g = omega arith in
      ap (λ n. filter (is_free g v) (range_with_len 0 n)) (sym more) ∙ filter_front (is_free g v)
      (λ c. mark map.bytes c == 0) 0 map.whole (cluster_count g - map.whole) agree (λ c past. false_from_ne_true
      (is_free g v c) (λ free. let below = (free_in_map c free).whole in absurd (omega arith)))
    where
      enough_clusters : map.whole ≤ cluster_count g
      enough_clusters =
          let positive = cluster_positive g.cluster sound.shape.header.clusters in
          let fits = le-div_iff_mul-le {k = g.cluster} {x = map.whole} {y = g.total} positive in
          let all = le-div_iff_mul-le {k = g.cluster} {x = map.whole} {y = g.total + (g.cluster - 1)} positive in
          let low = fits.0 (omega arith) in
          all.1 (omega arith)

      agree : (c : ℕ) → 0 ≤ c → c < 0 + map.whole → is_free g v c ≡ (mark map.bytes c == 0)
      agree c low high =
          ⊎_elim
          (λ clear. free_on_volume c (record { whole = omega arith; clear = clear }) ∙ sym (eq-eqb (mark map.bytes c) 0 clear))
          (λ set. false_from_ne_true (is_free g v c) (λ free. let clear = (free_in_map c free).clear in absurd (omega arith)) ∙ sym (ap (λ m. m == 0) set))
          (mark-set_or_clear map.bytes c)
