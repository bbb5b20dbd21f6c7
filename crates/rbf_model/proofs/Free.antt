-- The free clusters of a volume are the whole ones that the map does not mark.
use Rattle.std.proofs.Common.{◌≡◌, ℕ, suc, ◌≤◌, true, false, not, ◌&&◌, List, Option, Some, None, refl, sym, ap, ◌∙◌, arith}
use Rattle.std.specs.Prelude.{filter}
use Rattle.std.specs.List.{range_with_len}
use Rattle.std.proofs.lemmas.Bool.{both_ways, not-true, not_from_false, false_from_ne_true, and_parts, and_from}
use Rattle.std.proofs.lemmas.Bool.Decides.{same_from_decides}
use Rattle.std.proofs.lemmas.List.Elements.{filter_agree}
use Rattle.rbf_model.specs.Disk.{disk_of}
use Rattle.rbf_model.specs.Geometry.{Geometry}
use Rattle.rbf_model.specs.File.{DiskFile}
use Rattle.rbf_model.specs.Space.{is_whole, is_marked, has_cluster, Unused, cluster_count}
use Rattle.rbf_model.specs.Volume.{DiskVolume, Sound, in_file, is_free, free_clusters}
use Rattle.rbf_model.proofs.Lists.{some_is, all_from, all_at, three_pass, three_parts}
use Rattle.rbf_model.proofs.Segments.{has_range}
use Rattle.rbf_model.proofs.Keeps.{number_of_reached}

-- a cluster of a file, if there is one
pub in_file_at : (g : Geometry) (n : ℕ) (o : Option DiskFile) (file : DiskFile) (c : ℕ) → o ≡ Some file → in_file g n o c ≡ has_cluster g n file c
in_file_at g n o file c h = ap (λ p. in_file g n p c) h

pub not_in_file : (g : Geometry) (n : ℕ) (o : Option DiskFile) (c : ℕ) → ((file : DiskFile) → o ≡ Some file → has_cluster g n file c ≡ false) → in_file g n o c ≡ false
not_in_file g n None c h = refl
not_in_file g n (Some file) c h = h file refl

module _ (g : Geometry) (disk : ℕ → List ℕ) (v : DiskVolume) (sound : Sound (disk_of g disk) v) where
  -- a descriptor number is below the total
  pub number_below : (n : ℕ) (file : DiskFile) → v.files n ≡ Some file → suc n ≤ g.total
  number_below n file h = (number_of_reached g _ sound.shape.header ((sound.tree.reached n).0 (some_is (v.files n) file h))).below

  pub free_parts : (c : ℕ) → is_free g v c ≡ true → (is_whole g c ≡ true) × (v.lost c ≡ false) × Unused g v.files c
  unfolding is_free
  free_parts c h =
      let w = three_parts (is_whole g c) (not (v.lost c)) _ h in (
        w.0,
        not-true (v.lost c) w.1,
        λ n file is.
            let all = all_at (λ m. not (in_file g m (v.files m) c)) (range_with_len 0 g.total) n w.2
            (has_range 0 g.total n (omega arith) (let b = number_below n file is in omega arith)) in
            sym (in_file_at g n (v.files n) file c is) ∙ not-true (in_file g n (v.files n) c) all,
      )

  free_from : (c : ℕ) → is_whole g c ≡ true → v.lost c ≡ false → Unused g v.files c → is_free g v c ≡ true
  unfolding is_free
  free_from c whole kept unused =
      three_pass (is_whole g c) (not (v.lost c)) _ whole (not_from_false (v.lost c) kept)
      (all_from (λ m. not (in_file g m (v.files m) c)) (range_with_len 0 g.total)
      (λ n _. not_from_false _ (not_in_file g n (v.files n) c (λ file is. unused n file is))))

  pub unmarked_of_free : (c : ℕ) → is_free g v c ≡ true → (is_whole g c ≡ true) × (is_marked disk c ≡ false)
  unmarked_of_free c h =
      let w = free_parts c h in (
        w.0,
        false_from_ne_true (is_marked disk c) (λ marked.
            both_ways (v.lost c) w.1 ((sound.mapped.lost_are c).1 (record { whole = w.0; marked_in = marked; unused = w.2 }))),
      )

  pub free_of_unmarked : (c : ℕ) → is_whole g c ≡ true → is_marked disk c ≡ false → is_free g v c ≡ true
  free_of_unmarked c whole unmarked =
      free_from c whole
      (false_from_ne_true (v.lost c) (λ lost. both_ways _ unmarked ((sound.mapped.lost_are c).0 lost).marked_in))
      (λ n file is. false_from_ne_true (has_cluster g n file c) (λ used. both_ways _ unmarked (sound.mapped.marks n file c is used)))

  pub is_free_is : (c : ℕ) → is_free g v c ≡ (is_whole g c && not (is_marked disk c))
  is_free_is c =
      same_from_decides {P = is_free g v c ≡ true} (is_free g v c) (is_whole g c && not (is_marked disk c)) (λ h. h, λ h. h) (
        λ h. let w = and_parts (is_whole g c) (not (is_marked disk c)) h in free_of_unmarked c w.0 (not-true _ w.1),
        λ h. let w = unmarked_of_free c h in and_from (is_whole g c) (not (is_marked disk c)) w.0 (not_from_false _ w.1),
      )

  -- so the free clusters are counted in the map
  pub free_clusters_are : free_clusters g v ≡ filter (λ c. is_whole g c && not (is_marked disk c)) (range_with_len 0 (cluster_count g))
  free_clusters_are = filter_agree (is_free g v) (λ c. is_whole g c && not (is_marked disk c)) is_free_is (range_with_len 0 (cluster_count g))
