-- How many clusters are free: all behind those in use.
use Rattle.std.proofs.Common.{◌≡◌, ℕ, zero, suc, ◌+◌, ◌-◌, ◌*◌, ◌<◌, ◌≤◌, ◌&&◌, ltb, Bool, true, false, not, List, ◌∷◌, length, ap, ◌∙◌, ⊎_elim, arith}
use Rattle.std.specs.Prelude.{filter}
use Rattle.std.specs.List.{range_with_len}
use Rattle.std.proofs.lemmas.Bool.{cases_lt, cond-true, cond-false, lt-ltb, le-ltb, le-leb}
use Rattle.rbf_model.specs.Geometry.{Geometry, image_geometry, sector}
use Rattle.rbf_model.specs.Space.{is_whole, is_marked, cluster_count}
use Rattle.rbf_model.specs.Volume.{free_clusters}
use Rattle.rbf_model.proofs.Free.{free_clusters_are}
use Rattle.guest_mods.specs.BootDisk.{used_sectors, boot_image, boot_volume}
use Rattle.guest_mods.proofs.Marks.{marked-are}
use Rattle.guest_mods.proofs.Fields.{boot_geometry, image-geometry}
use Rattle.guest_mods.proofs.Volume.{represents-volume}

-- of a range the numbers from a place on
counted : (p : ℕ → Bool) (used a n : ℕ) → ((c : ℕ) → c < a + n → p c ≡ not (ltb c used)) → length (filter p (range_with_len a n)) ≡ n - (used - a)
counted p used a zero same = omega arith
counted p used a (suc n) same =
    let rest : length (filter p (range_with_len (a + 1) n)) ≡ n - (used - (a + 1)) = counted p used (a + 1) n (λ c low. same c (omega arith)) in
    let here : p a ≡ not (ltb a used) = same a (omega arith) in
    ⊎_elim
    (λ low.
    let out : p a ≡ false = here ∙ ap not (lt-ltb a used low) in
    ap length (cond-false (p a) (a ∷ filter p (range_with_len (a + 1) n)) (filter p (range_with_len (a + 1) n)) out) ∙ omega (arith, rest))
    (λ high.
    let within : p a ≡ true = here ∙ ap not (le-ltb a used high) in
    ap length (cond-true (p a) (a ∷ filter p (range_with_len (a + 1) n)) (filter p (range_with_len (a + 1) n)) within) ∙ omega (arith, rest))
    (cases_lt a used)

module _ (file : List ℕ) (some : 1 ≤ length file) (short : length file ≤ 57344) where
  abbrev image : List ℕ
  image = boot_image file

  whole-are : (g : Geometry) → g ≡ boot_geometry → (c : ℕ) → c < 4096 → is_whole g c ≡ true
  whole-are g is c low = ap (λ (h : Geometry). is_whole h c) is ∙ le-leb ((c + 1) * 1) 4096 (omega arith)

  pub free-count : length (free_clusters (image_geometry image) (boot_volume file)) ≡ 4096 - used_sectors (length file)
  free-count =
      let g = image_geometry image in
      let many : cluster_count (image_geometry image) ≡ 4096 = ap cluster_count (image-geometry file some short) in
      ap length (free_clusters_are (image_geometry image) (sector image) (boot_volume file) (represents-volume file some short).sound)
      ∙ counted (λ c. is_whole (image_geometry image) c && not (is_marked (sector image) c)) (used_sectors (length file)) 0 (cluster_count (image_geometry image))
      (λ c low.
      let within : c < 4096 = omega arith in
      ap (λ b. b && not (is_marked (sector image) c)) (whole-are (image_geometry image) (image-geometry file some short) c within)
      ∙ ap not (marked-are file short c within))
      ∙ omega (arith, many)
