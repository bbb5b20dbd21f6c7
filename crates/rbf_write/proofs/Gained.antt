-- A file whose segments have gained clusters that are lost in the volume: the sectors in which its bytes are laid.
use Rattle.std.proofs.Common.{◌≡◌, ℕ, ◌+◌, ◌*◌, ◌/◌, ◌<◌, ◌≤◌, Bool, true, false, ◌==◌, Some, List, [], ◌∷◌, ◌++◌, length, refl, sym, ap, ◌∙◌, subst, ⊎_elim, arith, eq-eqb}
use Rattle.std.specs.Prelude.{if◌then◌else◌}
use Rattle.std.specs.List.{range_with_len}
use Rattle.std.proofs.lemmas.Bool.{or_left, or_right, both_ways, cases_lt}
use Rattle.std.proofs.lemmas.List.{append_assoc}
use Rattle.rbf_model.specs.Geometry.{Geometry, image_geometry, sector, map_sectors}
use Rattle.rbf_model.specs.Segments.{sectors_of, appended_segments, has, AreDistinct}
use Rattle.rbf_model.specs.File.{DiskFile, is_directory}
use Rattle.rbf_model.specs.Space.{owned, own_sectors, system_sectors, has_cluster}
use Rattle.rbf_model.specs.Volume.{DiskVolume, Vol}
use Rattle.rbf_model.specs.Writes.{with_lost}
use Rattle.rbf_model.proofs.Bytes.{distinct_second, distinct_rest, distinct_first}
use Rattle.rbf_model.proofs.Growth.{cluster_of_range}
use Rattle.rbf_model.proofs.Owners.{cluster_positive, own_after, owns_system, root_file}
use Rattle.rbf_model.proofs.Segments.{has_cases, has_range, sectors_within}
use Rattle.rbf_model.proofs.Space.{cluster_from_owns}
use Rattle.rbf_segs.proofs.Runs.{append_nil, sectors_of-appended}
use Rattle.rbf_change.specs.Calls.{shape, cluster_size}
use Rattle.rbf_change.specs.Growth.{with_clusters, Gains}
use Rattle.rbf_change.proofs.LawfulWrites.{shape-image}
use Rattle.rbf_access.proofs.ReadFile.{room_for}
use Rattle.rbf_write.specs.Laid.{IsDataOf}
use Rattle.rbf_write.proofs.Segments.{IsSpace, space_with, space_old, with_segments}

-- the sectors of clusters
abbrev pub cluster_sectors : ℕ → List ℕ → List ℕ
cluster_sectors k [] = []
cluster_sectors k (c ∷ clusters) = range_with_len (c * k) k ++ cluster_sectors k clusters

pub sectors_with : (k : ℕ) (segments : List (ℕ × ℕ)) (taken : List ℕ) → sectors_of (with_clusters k segments taken) ≡ sectors_of segments ++ cluster_sectors k taken
sectors_with k segments [] = sym (append_nil (sectors_of segments))
sectors_with k segments (c ∷ taken) =
    sectors_with k (appended_segments segments (c * k) k) taken ∙ ap (λ xs. xs ++ cluster_sectors k taken) (sectors_of-appended segments (c * k) k)
    ∙ append_assoc (sectors_of segments) (range_with_len (c * k) k) (cluster_sectors k taken)

pub in_taken : (k : ℕ) (taken : List ℕ) (s : ℕ) → 1 ≤ k → has (cluster_sectors k taken) s ≡ true → has taken (s / k) ≡ true
in_taken k [] s positive h = h
in_taken k (c ∷ taken) s positive h = ⊎_elim
    (λ here. or_left (c == s / k) (has taken (s / k)) (eq-eqb c (s / k) (sym (cluster_of_range k c s positive here))))
    (λ later. or_right (c == s / k) (has taken (s / k)) (in_taken k taken s positive later))
    (has_cases (range_with_len (c * k) k) (cluster_sectors k taken) s h)

distinct_own : (g : Geometry) (n : ℕ) (file : DiskFile) → AreDistinct (owned g n file) → AreDistinct (own_sectors n file)
unfolding owned
distinct_own g n file distinct = distinct_second (if n == g.root then system_sectors g else []) (own_sectors n file) distinct

module _ (image : List ℕ) (v : DiskVolume) (lost : ℕ → Bool) (taken : List ℕ) (vol : Vol image (with_lost v lost)) (taken_lost : (c : ℕ) → has taken c ≡ true → lost c ≡ true)
    (n : ℕ) (old : DiskFile) (is : v.files n ≡ Some old) (free : ℕ → Bool) (gained : Gains (cluster_size v) free old.segments taken) where
  abbrev g : Geometry
  g = image_geometry image

  abbrev u : DiskVolume
  u = with_lost v lost

  abbrev k : ℕ
  k = cluster_size v

  abbrev longer : List (ℕ × ℕ)
  longer = with_clusters k old.segments taken

  same_shape : shape v ≡ g
  same_shape = shape-image image u vol

  same_k : g.cluster ≡ k
  same_k = ap (λ (h : Geometry). h.cluster) (sym same_shape)

  positive : 1 ≤ k
  positive = subst (λ m. 1 ≤ m) same_k (cluster_positive g.cluster vol.sound.shape.header.clusters)

  space : IsSpace g (sector image) u vol.sound n old is longer
  space = subst (λ m. IsSpace g (sector image) u vol.sound n old is (with_clusters m old.segments taken)) same_k
      (space_with g (sector image) u vol.sound n old is free old.segments taken (subst (λ m. Gains m free old.segments taken) (sym same_k) gained) taken_lost
      (space_old g (sector image) u vol.sound n old is))

  own_distinct : AreDistinct (n ∷ sectors_of longer)
  own_distinct = distinct_own g n (with_segments old longer) space.distinct

  -- the descriptor is none of the sectors, and behind the map
  pub descriptor_apart : has (sectors_of longer) n ≡ false
  descriptor_apart = distinct_first n (sectors_of longer) own_distinct

  pub descriptor_after : map_sectors g < n
  descriptor_after = own_after g (sector image) u vol.sound n old n is (or_left (n == n) (has (sectors_of old.segments) n) (eq-eqb n n refl))

  lost_after_map : (s : ℕ) → lost (s / k) ≡ true → map_sectors g < s
  lost_after_map s gone = ⊎_elim
      (λ past. past)
      (λ in_system.
      let r = root_file g (sector image) u vol.sound in
      let there : lost (s / g.cluster) ≡ true = subst (λ m. lost (s / m) ≡ true) (sym same_k) gone in
      let known = (vol.sound.mapped.lost_are (s / g.cluster)).0 there in
      absurd (both_ways (has_cluster g g.root r.0 (s / g.cluster)) (known.unused g.root r.0 r.1)
      (cluster_from_owns g g.root r.0 s (owns_system g r.0 s (has_range 0 (1 + map_sectors g) s (omega arith) (omega arith))))))
      (cases_lt (map_sectors g) s)

  pub after_map : (s : ℕ) → has (sectors_of longer) s ≡ true → map_sectors g < s
  after_map s h = ⊎_elim
      (λ own. own_after g (sector image) u vol.sound n old s is (or_right (n == s) (has (sectors_of old.segments) s) own))
      (λ new. lost_after_map s (taken_lost (s / k) (in_taken k taken s positive new)))
      (has_cases (sectors_of old.segments) (cluster_sectors k taken) s (subst (λ xs. has xs s ≡ true) (sectors_with k old.segments taken) h))

  pub data_gained : is_directory old ≡ false → IsDataOf u n old longer (length old.contents)
  data_gained not_directory =
      record {
        is = is;
        not_directory = not_directory;
        size_is = refl;
        room = room_for (Some image) u (record { image = image; is = refl; vol = vol }) n old is;
        more = cluster_sectors k taken;
        sectors_are = sectors_with k old.segments taken;
        behind = λ s h. taken_lost (s / k) (in_taken k taken s positive h);
        distinct = distinct_rest n (sectors_of longer) own_distinct;
        past_map = λ s h. subst (λ (h : Geometry). map_sectors h < s) (sym same_shape) (after_map s h);
        below = λ s h. subst (λ (h : Geometry). s < h.total) (sym same_shape) (sectors_within g longer space.within s h).1;
      }
