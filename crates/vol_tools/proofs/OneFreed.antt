-- The mark of a lost cluster is cleared.
use Rattle.std.proofs.Common.{◌≡◌, ◌≢◌, ℕ, ◌+◌, ◌-◌, ◌*◌, ◌/◌, ◌%◌, ◌<◌, ◌≤◌, ◌==◌, ◌&&◌, not, Bool, true, false, List, length, refl, sym, ap, ◌∙◌, subst, inl, ⊎_elim, arith, eqb-true}
use Rattle.std.specs.Prelude.{slice_index}
use Rattle.std.specs.Int.{bit_at}
use Rattle.std.proofs.lemmas.Bool.{cases_eq, cases_lt, ne_eqb, leb-true}
use Rattle.std.proofs.Math.Nat.{mul-le-mul_right, mul-le-mul_left}
use Rattle.rbf_model.specs.Geometry.{Geometry, image_geometry, sector, map_sectors}
use Rattle.rbf_model.specs.Space.{is_marked}
use Rattle.rbf_model.specs.Volume.{DiskVolume, Vol}
use Rattle.rbf_model.specs.Writes.{put, put_sector, with_lost}
use Rattle.rbf_model.proofs.Bytes.{marked_beside, marked_here}
use Rattle.rbf_model.proofs.ImageLaws.{frees_image}
use Rattle.rbf_model.proofs.Owners.{cluster_positive}

-- the mark of a cluster in the bytes of the map's sector that has it
abbrev pub mark_in : List ℕ → ℕ → Bool
mark_in bytes c = bit_at (slice_index bytes (c / 8 % 256)) (7 - c % 8) == 1

and_true : (t : Bool) → t ≡ (t && true)
and_true true = refl
and_true false = refl

sector_mark_is : (disk : ℕ → List ℕ) (d s : ℕ) → 1 + d / 8 / 256 ≡ s → is_marked disk d ≡ mark_in (disk s) d
unfolding is_marked
sector_mark_is disk d s same = ap (λ n. bit_at (slice_index (disk n) (d / 8 % 256)) (7 - d % 8) == 1) same

le_of_mul : (a b k : ℕ) → 1 ≤ k → a * k ≤ b * k → a ≤ b
le_of_mul a b k some h =
    ⊎_elim {A = b < a} {B = a ≤ b}
    (λ past.
    let more : (b + 1) * k ≤ a * k = mul-le-mul_right {m = b + 1} {n = a} k (omega arith) in
    let sum : (b + 1) * k ≡ b * k + k = omega arith in
    absurd (omega arith))
    (λ within. within)
    (cases_lt b a)

-- a whole cluster has its bit in the map's sectors
bit_within : (c k total bytes : ℕ) → 1 ≤ k → (c + 1) * k ≤ total → total ≤ 8 * bytes * k → 1 + c / 2048 ≤ (bytes + 255) / 256
bit_within c k total bytes some whole bits =
    let both : (c + 1) * k ≤ 8 * bytes * k = omega arith in
    let few : c + 1 ≤ 8 * bytes = le_of_mul (c + 1) (8 * bytes) k some both in
    omega arith

module _ (image : List ℕ) (v : DiskVolume) (vol : Vol image v) (c : ℕ) (lost : v.lost c ≡ true) where
  abbrev g : Geometry
  g = image_geometry image

  abbrev s : ℕ
  s = 1 + c / 2048

  in_map : s ≤ map_sectors g
  in_map =
      let is = (vol.sound.mapped.lost_are c).0 lost in
      bit_within c g.cluster g.total g.map_bytes (cluster_positive g.cluster vol.sound.shape.header.clusters) (leb-true ((c + 1) * g.cluster) g.total is.whole) vol.sound.shape.map.bits

  -- its sector is one of the image
  pub in_image : 256 * (1 + c / 2048) + 256 ≤ length image
  in_image =
      let low = in_map in
      let fits = vol.sound.shape.map.fits in
      let room = vol.header.fits in
      let past : 256 * (s + 1) ≤ 256 * g.total = mul-le-mul_left 256 (omega arith) in
      omega arith

  module _ (bytes : List ℕ) (whole : length bytes ≡ 256) (clears : (d : ℕ) → d / 2048 ≡ c / 2048 → mark_in bytes d ≡ (mark_in (sector image (1 + c / 2048)) d && not (d == c))) where
    marks : (d : ℕ) → d * g.cluster < g.total → is_marked (put (sector image) s bytes) d ≡ (is_marked (sector image) d && not (d == c))
    marks d low =
        ⊎_elim
        (λ here.
        let place : d / 2048 ≡ c / 2048 = omega arith in
        marked_here (sector image) s bytes d here ∙ clears d place ∙ ap (λ t. t && not (d == c)) (sym (sector_mark_is (sector image) d s here)))
        (λ beside.
        let other : d ≢ c = λ same. beside (ap (λ x. 1 + x / 8 / 256) same ∙ place_of c) in
        marked_beside (sector image) s bytes d beside ∙ and_true (is_marked (sector image) d) ∙ ap (λ b. is_marked (sector image) d && not b) (sym (ne_eqb d c other)))
        (cases_eq (1 + d / 8 / 256) s)
      where
        place_of : (c : ℕ) → 1 + c / 8 / 256 ≡ 1 + c / 2048
        place_of c = omega arith

    pub one_freed : Vol (put_sector image s bytes) (with_lost v (λ d. v.lost d && not (d == c)))
    one_freed =
        frees_image image v vol s bytes (λ d. d == c) whole (record {
          map = record { after = omega arith; within = in_map };
          unused = λ d is. inl (subst (λ x. v.lost x ≡ true) (sym (eqb-true d c is)) lost);
          marks = marks;
        })
