-- The pairs of a segment list, written one after another.
use Rattle.std.proofs.Common.{◌≡◌, ◌⊎◌, ℕ, ◌+◌, ◌*◌, ◌<◌, ◌≤◌, true, not, eqb, List, length, get_or, map, refl, sym, ap, ap₂, ◌∙◌, inl, inr, subst, arith}
use Rattle.std.specs.List.{range_with_len}
use Rattle.std.proofs.lemmas.Bool.{cases_lt}
use Rattle.std.proofs.lemmas.Bool.Decides.{nat_tests}
use Rattle.std.proofs.lemmas.List.{ext_get_or}
use Rattle.std.proofs.lemmas.List.FromFn.{length-map-range_with_len, get_or-map-range_with_len}
use Rattle.std.proofs.lemmas.List.Elements.{All-get_or}
use Rattle.rbf_model.specs.Fields.{segment_field, has_sectors, segments_field}
use Rattle.rbf_segs.specs.Segments.{IsSegment, IsSegments}
use Rattle.rbf_sector.specs.Parts.{KeepsBeside}
use Rattle.rbf_sector.proofs.Written.{number_kept}
use Rattle.rbf_sector.proofs.SegmentList.{segments-stop, segments-all}

-- one write after another
pub keeps_then : {a b c : List ℕ} {at n from m : ℕ} → KeepsBeside a b at n → KeepsBeside b c from m → from ≡ at + n → KeepsBeside a c at (n + m)
keeps_then first next follows = record {
  same_length = next.same_length ∙ first.same_length;
  before = λ i below. next.before i (omega arith) ∙ first.before i below;
  behind = λ i past. next.behind i (omega arith) ∙ first.behind i (omega arith);
}

-- a pair that a write does not touch
pub pair_kept : (old new : List ℕ) (at count i : ℕ) → KeepsBeside old new at count → (16 + 5 * i + 5 ≤ at) ⊎ (at + count ≤ 16 + 5 * i) → segment_field new i ≡ segment_field old i
pair_kept old new at count i beside (inl before) =
    ap₂ (λ x y. (x, y)) (number_kept old new at count (16 + 5 * i) 3 beside (inl (omega arith))) (number_kept old new at count (19 + 5 * i) 2 beside (inl (omega arith)))
pair_kept old new at count i beside (inr behind) =
    ap₂ (λ x y. (x, y)) (number_kept old new at count (16 + 5 * i) 3 beside (inr (omega arith))) (number_kept old new at count (19 + 5 * i) 2 beside (inr (omega arith)))

-- the first pairs are those of the list
pub record HasPairs (old new : List ℕ) (segs : List (ℕ × ℕ)) (i : ℕ) : Type 0 where
  pub pairs : (k : ℕ) → k < i → segment_field new k ≡ get_or segs k (0, 0)
  pub beside : KeepsBeside old new 16 (5 * i)

pub pairs_none : (old : List ℕ) (segs : List (ℕ × ℕ)) → HasPairs old old segs 0
pairs_none old segs = record {
  pairs = λ k below. absurd (omega arith);
  beside = record { same_length = refl; before = λ i below. refl; behind = λ i past. refl };
}

pub pairs_more : (old mid new : List ℕ) (segs : List (ℕ × ℕ)) (i : ℕ) (pair : ℕ × ℕ) → HasPairs old mid segs i
    → pair ≡ get_or segs i (0, 0) → segment_field new i ≡ pair → KeepsBeside mid new (16 + 5 * i) 5
    → HasPairs old new segs (i + 1)
pairs_more old mid new segs i pair written here there beside = record {
  pairs = λ k below. elim (cases_lt k i) [
    | inl before ↦ pair_kept mid new (16 + 5 * i) 5 k beside (inl (omega arith)) ∙ written.pairs k before
    | inr last ↦
        let same : k ≡ i = omega arith in
        ap (segment_field new) same ∙ there ∙ here ∙ ap (λ j. get_or segs j (0, 0)) (sym same)
  ];
  beside =
      let P : ℕ → Type 0 = λ n. KeepsBeside old new 16 n in
      subst P (let more : 5 * i + 5 ≡ 5 * (i + 1) = omega arith in more) (keeps_then written.beside beside refl);
}

-- pairs that are a list's make it
list_is : (f : ℕ → ℕ × ℕ) (segs : List (ℕ × ℕ)) → ((k : ℕ) → k < length segs → f k ≡ get_or segs k (0, 0)) → map f (range_with_len 0 (length segs)) ≡ segs
list_is f segs pairs =
    let counted = length-map-range_with_len f 0 (length segs) in
    ext_get_or (0, 0) (map f (range_with_len 0 (length segs))) segs counted (λ k below. get_or-map-range_with_len f 0 (length segs) k k (0, 0) (omega arith) (omega arith) ∙ pairs k (omega arith))

segment_is : (pair : ℕ × ℕ) → IsSegment pair → has_sectors pair ≡ true
segment_is pair whole = not_zero pair.1 whole.some
  where
    not_zero : (n : ℕ) → 1 ≤ n → not (eqb n 0) ≡ true
    not_zero n some = grind (arith, nat_tests)

pass : (old new : List ℕ) (segs : List (ℕ × ℕ)) → IsSegments segs → HasPairs old new segs (length segs) → (k : ℕ) → k < length segs → has_sectors (segment_field new k) ≡ true
pass old new segs whole written k below =
    ap has_sectors (written.pairs k below) ∙ segment_is (get_or segs k (0, 0)) (All-get_or IsSegment segs k (0, 0) below whole.each)

-- a full list, and one that is ended by a pair of zeros
pub all_pairs : (old new : List ℕ) (segs : List (ℕ × ℕ)) → IsSegments segs → HasPairs old new segs (length segs) → length segs ≡ 48 → segments_field new ≡ segs
all_pairs old new segs whole written full =
    segments-all new (λ k below. pass old new segs whole written k (omega arith)) ∙ ap (λ n. map (segment_field new) (range_with_len 0 n)) (sym full) ∙ list_is (segment_field new) segs written.pairs

pub ended_pairs : (old mid new : List ℕ) (segs : List (ℕ × ℕ)) → IsSegments segs → HasPairs old mid segs (length segs)
    → length segs < 48 → segment_field new (length segs) ≡ (0, 0) → KeepsBeside mid new (16 + 5 * length segs) 5
    → (segments_field new ≡ segs) × KeepsBeside old new 16 (5 * (length segs + 1))
ended_pairs old mid new segs whole written few end beside =
    let n = length segs in
    let same : (k : ℕ) → k < n → segment_field new k ≡ segment_field mid k = λ k below. pair_kept mid new (16 + 5 * n) 5 k beside (inl (omega arith)) in
    let P : ℕ → Type 0 = λ m. KeepsBeside old new 16 m in (
      segments-stop new n few (λ k below. ap has_sectors (same k below) ∙ pass old mid segs whole written k below)
          (ap has_sectors end) ∙ list_is (segment_field new) segs (λ k below. same k below ∙ written.pairs k below),
      subst P (let more : 5 * n + 5 ≡ 5 * (n + 1) = omega arith in more) (keeps_then written.beside beside refl),
    )

-- the same with the counts as the code has them
pub ended_at : (old mid new : List ℕ) (segs : List (ℕ × ℕ)) (i n : ℕ) → IsSegments segs → HasPairs old mid segs i
    → i ≡ length segs → n ≡ length segs → n < 48 → segment_field new n ≡ (0, 0) → KeepsBeside mid new (16 + 5 * n) 5
    → segments_field new ≡ segs
ended_at old mid new segs i n whole written all count few end beside =
    let P : ℕ → Type 0 = λ m. HasPairs old mid segs m in
    let Q : ℕ → Type 0 = λ m. KeepsBeside mid new (16 + 5 * m) 5 in
    (ended_pairs old mid new segs whole (subst P all written) (omega arith) (ap (segment_field new) (sym count) ∙ end) (subst Q count beside)).0

pub full_at : (old new : List ℕ) (segs : List (ℕ × ℕ)) (i n : ℕ) → IsSegments segs → HasPairs old new segs i → i ≡ length segs → n ≡ length segs → 48 ≤ n → segments_field new ≡ segs
full_at old new segs i n whole written all count full =
    let P : ℕ → Type 0 = λ m. HasPairs old new segs m in
    all_pairs old new segs whole (subst P all written) (omega (arith, whole.few))
