-- The sector of a new file's entry, in a directory that may gain a cluster for it, is none of the map or of the file.
use Rattle.std.proofs.Common.{◌≡◌, ◌≢◌, ℕ, ◌+◌, ◌-◌, ◌*◌, ◌/◌, ◌<◌, ◌≤◌, true, false, not, ◌==◌, Option, Some, List, length, inl, inr, ◌⊎◌, sym, ap, ◌∙◌, subst, ⊎_elim, arith}
use Rattle.std.proofs.Math.Nat.{lt-div-mul-add}
use Rattle.std.proofs.lemmas.Bool.{and_parts, or_cases, or_right, both_ways, false_from_ne_true, not-true}
use Rattle.std.proofs.lemmas.Option.{same_Some}
use Rattle.rbf_model.specs.File.{DiskFile}
use Rattle.rbf_model.specs.Geometry.{Geometry, image_geometry, sector, map_sectors}
use Rattle.rbf_model.specs.Laws.{IsMapSector}
use Rattle.rbf_model.specs.Segments.{has, sectors_of}
use Rattle.rbf_model.specs.Space.{own_sectors, has_cluster, Unused}
use Rattle.rbf_model.specs.Volume.{DiskVolume, is_free}
use Rattle.rbf_model.proofs.Bytes.{has_place}
use Rattle.rbf_model.proofs.Free.{free_parts}
use Rattle.rbf_model.proofs.Owners.{cluster_positive, own_after, owns_own, owns_system, root_file}
use Rattle.rbf_model.proofs.Segments.{has_cases, has_range}
use Rattle.rbf_model.proofs.Space.{cluster_from_owns}
use Rattle.rbf_change.specs.Calls.{shape, cluster_size, is_free_in}
use Rattle.rbf_change.specs.Contents.{sector_count, written}
use Rattle.rbf_change.specs.Faults.{MayLose}
use Rattle.rbf_change.specs.Growth.{with_clusters, clusters_needed, IsChoice}
use Rattle.rbf_change.specs.NewFiles.{free_without}
use Rattle.rbf_change.proofs.LawfulWrites.{shape-image}
use Rattle.rbf_access.specs.Mounted.{RepresentsVolume}
use Rattle.rbf_access.proofs.ReadFile.{room_for}
use Rattle.rbf_alloc.proofs.Chosen.{has_free, length-with}
use Rattle.rbf_write.proofs.Gained.{cluster_sectors, sectors_with}
use Rattle.rbf_entries.specs.NewEntry.{sector_of_place}
use Rattle.rbf_entries.proofs.Longer.{in_taken}
use Rattle.rbf_entries.proofs.Needs.{needs_entry}

module _ (media : Option (List ℕ)) (v : DiskVolume) (on : RepresentsVolume media v) where
  abbrev k : ℕ
  k = cluster_size v

  abbrev g : Geometry
  g = image_geometry on.image

  volume_shape : shape v ≡ g
  volume_shape = shape-image on.image v on.vol

  some_k : 1 ≤ k
  some_k = subst (λ (s : Geometry). 1 ≤ s.cluster) (sym volume_shape) (cluster_positive g.cluster on.vol.sound.shape.header.clusters)

  unused : (c : ℕ) → is_free_in v c ≡ true → Unused (shape v) v.files c
  unused c h = subst (λ s. Unused s v.files c) (sym volume_shape) (free_parts g (sector on.image) v on.vol.sound c (subst (λ s. is_free s v c ≡ true) volume_shape h)).2

  not_lost : (c : ℕ) → is_free_in v c ≡ true → v.lost c ≡ false
  not_lost c h = (free_parts g (sector on.image) v on.vol.sound c (subst (λ s. is_free s v c ≡ true) volume_shape h)).1

  -- no free cluster has a sector of the map
  pub free_no_map : (image : List ℕ) → media ≡ Some image → (s : ℕ) → is_free_in v (s / k) ≡ true → ¬ IsMapSector (image_geometry image) s
  free_no_map image was s free = subst (λ i. ¬ IsMapSector (image_geometry i) s) (same_Some on.image image (sym on.is ∙ was)) (λ map.
      let within = map.within in
      let r = root_file g (sector on.image) v on.vol.sound in
      both_ways (has_cluster (shape v) g.root r.0 (s / k)) (unused (s / k) free g.root r.0 r.1)
      (subst (λ h. has_cluster h g.root r.0 (s / h.cluster) ≡ true) (sym volume_shape)
      (cluster_from_owns g g.root r.0 s (owns_system g r.0 s (has_range 0 (1 + map_sectors g) s (omega arith) (omega arith))))))

  module _ (d place : ℕ) (dir : DiskFile) (is : v.files d ≡ Some dir) (entry : List ℕ) (whole : length entry ≡ 32)
      (n : ℕ) (file : DiskFile) (fresh : (c : ℕ) → has_cluster (shape v) n file c ≡ true → is_free_in v c ≡ true)
      (gained : List ℕ)
      (choice : IsChoice k (free_without (shape v) (is_free_in v) n file) dir.segments (length (written dir.contents (32 * place) entry)) gained) where
    abbrev segments : List (ℕ × ℕ)
    segments = with_clusters k dir.segments gained

    abbrev at : ℕ
    at = sector_of_place segments place

    within_place : place / 8 < length (sectors_of segments)
    within_place =
        let had = length (sectors_of dir.segments) in
        let missing = sector_count (32 * (place + 1)) - had in
        let q = clusters_needed k dir.segments (32 * (place + 1)) in
        let up : missing + (k - 1) < q * k + k = lt-div-mul-add some_k in
        let many : length gained * k ≡ q * k = ap (λ m. m * k) (choice.enough ∙ needs_entry v dir place entry whole (room_for media v on d dir is)) in
        let all : length (sectors_of segments) ≡ had + length gained * k = length-with k dir.segments gained in
        let some = some_k in
        omega arith

    cases_at : (has (sectors_of dir.segments) at ≡ true) ⊎ (has gained (at / k) ≡ true)
    cases_at = ⊎_elim (λ own. inl own) (λ more. inr (in_taken k gained at some_k more))
        (has_cases (sectors_of dir.segments) (cluster_sectors k gained) at
        (subst (λ xs. has xs at ≡ true) (sectors_with k dir.segments gained) (has_place (sectors_of segments) (place / 8) within_place)))

    -- no cluster that it gains is lost where those of the new file alone have been taken
    pub untaken : (w : DiskVolume) → MayLose v w (has_cluster (shape v) n file) → (c : ℕ) → has gained c ≡ true → w.lost c ≡ false
    untaken w lose c h =
        let free = and_parts (is_free_in v c) (not (has_cluster (shape v) n file c)) (has_free k (free_without (shape v) (is_free_in v) n file) dir.segments gained c choice.gained h) in
        false_from_ne_true (w.lost c) (λ lost. ⊎_elim
        (both_ways (v.lost c) (not_lost c free.0))
        (both_ways (has_cluster (shape v) n file c) (not-true (has_cluster (shape v) n file c) free.1))
        (or_cases (v.lost c) (has_cluster (shape v) n file c) (lose.only c lost)))

    gained_free : has gained (at / k) ≡ true → (is_free_in v (at / k) ≡ true) × (has_cluster (shape v) n file (at / k) ≡ false)
    gained_free h =
        let both_are =
        and_parts (is_free_in v (at / k)) (not (has_cluster (shape v) n file (at / k)))
        (has_free k (free_without (shape v) (is_free_in v) n file) dir.segments gained (at / k) choice.gained h) in
        (both_are.0, not-true (has_cluster (shape v) n file (at / k)) both_are.1)

    pub entry_no_map : (image : List ℕ) → media ≡ Some image → ¬ IsMapSector (image_geometry image) at
    entry_no_map image was = ⊎_elim
        (λ own. subst (λ i. ¬ IsMapSector (image_geometry i) at) (same_Some on.image image (sym on.is ∙ was)) (λ map.
        let inside_map = map.within in
        let past_it = own_after g (sector on.image) v on.vol.sound d dir at is (or_right (d == at) (has (sectors_of dir.segments) at) own) in
        absurd (omega arith)))
        (λ more. free_no_map image was at (gained_free more).0)
        cases_at

    pub entry_apart : (s : ℕ) → has (own_sectors n file) s ≡ true → at ≢ s
    entry_apart s its same =
        let here : has_cluster (shape v) n file (s / k) ≡ true = cluster_from_owns (shape v) n file s (owns_own (shape v) n file s its) in
        ⊎_elim
        (λ own. both_ways (has_cluster (shape v) d dir (s / k)) (unused (s / k) (fresh (s / k) here) d dir is)
        (subst (λ t. has_cluster (shape v) d dir (t / k) ≡ true) same
        (cluster_from_owns (shape v) d dir at (owns_own (shape v) d dir at (or_right (d == at) (has (sectors_of dir.segments) at) own)))))
        (λ more. both_ways (has_cluster (shape v) n file (s / k)) (subst (λ t. has_cluster (shape v) n file (t / k) ≡ false) same (gained_free more).1) here)
        cases_at
