-- Lost clusters become free, one after the other.
use Rattle.std.proofs.Common.{◌≡◌, ℕ, suc, ◌+◌, ◌-◌, ◌*◌, ◌/◌, ◌%◌, ◌<◌, ◌≤◌, ◌==◌, ◌&&◌, ◌||◌, not, Bool, true, false, List, [], ◌∷◌, length, take, drop, get_or, set, refl, sym, ap, ◌∙◌, subst, ⊎_elim, arith, eq-eqb, add-one, length-drop}
use mathlib.Core.Path.{fun_ext}
use Rattle.std.specs.Int.{bit_at}
use Rattle.std.specs.Prelude.{filter}
use Rattle.std.specs.List.{range_with_len}
use Rattle.std.proofs.Math.Nat.{mul-le-mul_left, mul-le-mul_right, div-mul-le_self}
use Rattle.std.proofs.Math.Seq.{drop-cons}
use Rattle.std.proofs.lemmas.Bool.{cases_eq, cases_lt, cases_Bool, ne_eqb, leb-true, false≢true, false_from_ne_true}
use Rattle.std.proofs.lemmas.List.{take_more, take_all, drop_all, length-take-le, length-set, take-set-le, get_or-take, get_or-drop}
use Rattle.std.proofs.lemmas.List.Filters.{length-filter_both}
use Rattle.std.proofs.lemmas.List.Folds.{list_any-append}
use Rattle.std.proofs.lemmas.List.FromFn.{length-range_with_len}
use Rattle.rbf_model.specs.Geometry.{image_geometry, sector}
use Rattle.rbf_model.specs.Segments.{AreDistinct, has}
use Rattle.rbf_model.specs.Space.{cluster_count}
use Rattle.rbf_model.specs.Volume.{DiskVolume, Vol, lost_clusters}
use Rattle.rbf_model.specs.Writes.{put_sector, with_lost}
use Rattle.rbf_model.proofs.Bytes.{distinct_first}
use Rattle.rbf_model.proofs.Owners.{cluster_positive}
use Rattle.rbf_model.proofs.Unique.{vol_is_unique}
use Rattle.rbf_check.specs.Lost.{IsLostOf}
use Rattle.vol_tools.specs.Tool.{repaired}
use Rattle.vol_tools.specs.Clearing.{bit_of, ClearsMark, ClearsBits, ClearsLostClusters}
use Rattle.vol_tools.proofs.Bits.{bit_cleared, set_in_sector}
use Rattle.vol_tools.proofs.Lists.{filter_has, has_filter, distinct_filter, distinct_from, within_count}
use Rattle.vol_tools.proofs.OneFreed.{mark_in, in_image, one_freed}

-- the first clusters of a list are free already, the others are still lost
pub record IsUnderRepair (old lost : List ℕ) (i : ℕ) (now : List ℕ) : Type 0 where
  pub volume : DiskVolume
  pub was : Vol old volume
  pub is : Vol now (with_lost volume (has (drop i lost)))
  pub distinct : AreDistinct lost
  pub bits : ClearsBits old now (take i lost)

-- the lost clusters are those of the list
lost_has : (image : List ℕ) (v : DiskVolume) → Vol image v → (c : ℕ) → v.lost c ≡ has (lost_clusters (image_geometry image) v) c
lost_has image v vol c =
    ⊎_elim
    (λ yes.
    let g = image_geometry image in
    let is = (vol.sound.mapped.lost_are c).0 yes in
    let low : c < cluster_count (image_geometry image) = within_count c (image_geometry image).cluster
    (image_geometry image).total (cluster_positive (image_geometry image).cluster vol.sound.shape.header.clusters)
    (leb-true ((c + 1) * (image_geometry image).cluster) (image_geometry image).total is.whole) in
    yes ∙ sym (has_filter v.lost 0 (cluster_count (image_geometry image)) c yes (omega arith) (omega arith)))
    (λ no.
    no ∙ sym (false_from_ne_true (has (lost_clusters (image_geometry image) v) c)
    (λ found. absurd (false≢true (sym no ∙ (filter_has v.lost 0 (cluster_count (image_geometry image)) c found).passes)))))
    (cases_Bool (v.lost c))

and_true : (t : Bool) → t ≡ (t && true)
and_true true = refl
and_true false = refl

and_false : (t : Bool) → (t && false) ≡ false
and_false true = refl
and_false false = refl

pub begun : (old lost : List ℕ) → IsLostOf old lost → IsUnderRepair old lost 0 old
begun old lost may =
    let v = may.volume in
    let same : v.lost ≡ has lost = fun_ext (λ c. lost_has old v may.represents c ∙ ap (λ xs. has xs c) (sym may.are)) in
    record {
      volume = v;
      was = may.represents;
      is = subst (λ l. Vol old (with_lost v l)) same may.represents;
      distinct = subst AreDistinct (sym may.are) (distinct_filter v.lost 0 (cluster_count (image_geometry old)));
      bits = record { long = refl; bits = λ c. and_true (bit_of old c); front = refl };
    }

-- a list without its first number
left_has : (c : ℕ) (rest : List ℕ) → has rest c ≡ false → (d : ℕ) → (has (c ∷ rest) d && not (d == c)) ≡ has rest d
left_has c rest none d =
    ⊎_elim
    (λ is. ap (λ t. has (c ∷ rest) d && not t) (eq-eqb d c is) ∙ and_false (has (c ∷ rest) d) ∙ sym (ap (has rest) is ∙ none))
    (λ differ.
    let other : (c == d) ≡ false = ne_eqb c d (λ same. differ (sym same)) in
    ap (λ t. has (c ∷ rest) d && not t) (ne_eqb d c differ) ∙ sym (and_true (has (c ∷ rest) d)) ∙ ap (λ t. t || has rest d) other)
    (cases_eq d c)

and_not : (t a b : Bool) → ((t && not a) && not b) ≡ (t && not (a || b))
and_not true true b = refl
and_not true false b = refl
and_not false true b = refl
and_not false false b = refl

or_false : (t : Bool) → (t || false) ≡ t
or_false true = refl
or_false false = refl

eqb_sym : (c d : ℕ) → (d == c) ≡ (c == d)
eqb_sym c d =
    ⊎_elim (λ is. eq-eqb d c is ∙ sym (eq-eqb c d (sym is))) (λ differ. ne_eqb d c differ ∙ sym (ne_eqb c d (λ same. differ (sym same)))) (cases_eq d c)

module _ (old lost : List ℕ) (i : ℕ) (now : List ℕ) (under : IsUnderRepair old lost i now) (low : i < length lost) where
  abbrev c : ℕ
  c = get_or lost i 0

  abbrev v : DiskVolume
  v = with_lost under.volume (has (drop i lost))

  abbrev rest : List ℕ
  rest = drop (suc i) lost

  first : drop i lost ≡ c ∷ rest
  first = drop-cons lost i 0 low

  still_lost : has (drop i lost) c ≡ true
  still_lost = ap (λ xs. has xs c) first ∙ ap (λ t. t || has rest c) (eq-eqb c c refl)

  no_more : has rest c ≡ false
  no_more = distinct_first c rest (subst AreDistinct first (distinct_from lost i under.distinct))

  room : 256 * (1 + c / 2048) + 256 ≤ length now
  room = in_image now v under.is c still_lost

  pub byte_within : 256 + c / 8 < length now
  byte_within = let fits = room in omega arith

  module _ (new : List ℕ) (clears : ClearsMark now new c) where
    abbrev s : ℕ
    s = 1 + c / 2048

    abbrev j : ℕ
    j = c / 8 % 256

    abbrev bytes : List ℕ
    bytes = set (sector now s) j clears.byte

    sector_long : length (sector now s) ≡ 256
    sector_long = let fits = room in length-take-le 256 (drop (256 * s) now) (omega (arith, length-drop (256 * s) now))

    put_is : new ≡ set now (256 + c / 8) clears.byte
    put_is = clears.changed

    place : 256 * s + j ≡ 256 + c / 8
    place = omega arith

    there : get_or now (256 + c / 8) 0 ≡ get_or (sector now s) j 0
    there = sym (get_or-take 256 (drop (256 * s) now) j 0 (omega arith) ∙ get_or-drop (256 * s) now j 0 ∙ ap (λ k. get_or now k 0) place)

    in_sector : (d : ℕ) → d / 2048 ≡ c / 2048 → mark_in bytes d ≡ (mark_in (sector now s) d && not (d == c))
    in_sector d same =
        bit_cleared (sector now s) j clears.byte c d (d / 8 % 256) (omega (arith, sector_long)) clears.clear
        (λ k few apart. clears.others k few apart ∙ ap (λ b. bit_at b k) there)
        (λ at. omega arith) (λ is. ap (λ x. x / 8 % 256) is)

    freed : Vol new (with_lost under.volume (has rest))
    freed =
        let one = one_freed now v under.is c still_lost bytes (length-set {A = ℕ} (sector now s) j clears.byte ∙ sector_long) in_sector in
        let image : new ≡ put_sector now s bytes = put_is ∙ ap (λ k. set now k clears.byte) (sym place) ∙ set_in_sector now s j clears.byte (omega arith) room in
        let left : (λ (d : ℕ). has (drop i lost) d && not (d == c)) ≡ has rest =
        fun_ext (λ d. ap (λ xs. has xs d && not (d == c)) first ∙ left_has c rest no_more d) in
        subst (λ l. Vol new (with_lost under.volume l)) left (subst (λ x. Vol x (with_lost under.volume (λ d. has (drop i lost) d && not (d == c)))) (sym image) one)

    bits-are : (d : ℕ) → bit_of new d ≡ (bit_of old d && not (has (take (i + 1) lost) d))
    bits-are d =
        ap (λ x. bit_of x d) put_is
        ∙ bit_cleared now (256 + c / 8) clears.byte c d (256 + d / 8) byte_within clears.clear clears.others (λ at. omega arith) (λ is. ap (λ x. 256 + x / 8) is)
        ∙ ap (λ t. t && not (d == c)) (under.bits.bits d)
        ∙ and_not (bit_of old d) (has (take i lost) d) (d == c)
        ∙ ap (λ t. bit_of old d && not (has (take i lost) d || t)) (eqb_sym c d ∙ sym (or_false (c == d)))
        ∙ ap (λ t. bit_of old d && not t) (sym (list_any-append (λ m. m == d) (take i lost) (c ∷ [])) ∙ ap (λ xs. has xs d) (sym (take_more lost i 0 low)))

    pub freed_more : IsUnderRepair old lost (i + 1) new
    freed_more = record {
      volume = under.volume;
      was = under.was;
      is = subst (λ n. Vol new (with_lost under.volume (has (drop n lost)))) (sym (add-one i)) freed;
      distinct = under.distinct;
      bits = record {
        long = ap length put_is ∙ length-set {A = ℕ} now (256 + c / 8) clears.byte ∙ under.bits.long;
        bits = bits-are;
        front = ap (take 256) put_is ∙ take-set-le 256 now (256 + c / 8) clears.byte (omega arith) ∙ under.bits.front;
      };
    }

-- when all are free
pub freed_all : (old lost : List ℕ) (i : ℕ) (now : List ℕ) → length lost ≤ i → IsUnderRepair old lost i now → ClearsLostClusters old lost now
freed_all old lost i now end under = record {
  gives = λ w is.
      let same : under.volume ≡ w = vol_is_unique old under.volume w under.was is in
      subst (λ u. Vol now (repaired u)) same (subst (λ xs. Vol now (with_lost under.volume (has xs))) (drop_all i lost end) under.is);
  bits = subst (ClearsBits old now) (take_all i lost end) under.bits;
}

-- there are few of them
pub few_lost : (image list : List ℕ) → IsLostOf image list → length list < 4294967296
few_lost image list is =
    let v = is.volume in
    let g = image_geometry image in
    let both = length-filter_both v.lost (λ c. not (v.lost c)) (λ c. refl) (range_with_len 0 (cluster_count (image_geometry image))) in
    let all = length-range_with_len 0 (cluster_count (image_geometry image)) in
    let are : length list ≡ length (filter v.lost (range_with_len 0 (cluster_count (image_geometry image)))) = ap length is.are in
    let most = is.represents.header.header.most in
    let count = count_most (image_geometry image).total (image_geometry image).cluster (cluster_positive (image_geometry image).cluster is.represents.header.header.clusters) in
    omega (arith, both, all, are, most, count)
  where
    count_most : (t k : ℕ) → 1 ≤ k → (t + (k - 1)) / k ≤ t
    count_most t k some =
        let q : ℕ = (t + (k - 1)) / k in
        ⊎_elim
        (λ past.
        let more : (t + 1) * k ≤ (t + (k - 1)) / k * k = mul-le-mul_right {m = t + 1} {n = (t + (k - 1)) / k} k (omega arith) in
        let sum : (t + 1) * k ≡ t * k + k = omega arith in
        let wide : t * 1 ≤ t * k = mul-le-mul_left t some in
        let within : (t + (k - 1)) / k * k ≤ t + (k - 1) = div-mul-le_self (t + (k - 1)) k in
        absurd (omega arith))
        (λ low. low)
        (cases_lt t ((t + (k - 1)) / k))
