-- The segment list of a descriptor, read pair by pair.
use Rattle.std.proofs.Common.{◌≡◌, ℕ, ◌+◌, ◌<◌, zero, suc, Bool, true, false, cond, List, [], ◌∷◌, ◌++◌, length, take, map, take_while, not, eqb, Result, Ok, Err, IsOk, IsErr, refl, sym, ap, ap₂, ◌∙◌, ◌*◌, arith}
use Rattle.std.specs.List.{range_with_len, prefix_len}
use Rattle.std.proofs.lemmas.List.FromFn.{map-range_with_len_more, length-map-range_with_len}
use Rattle.std.proofs.lemmas.Bool.Decides.{nat_tests}
use Rattle.byteorder.specs.Endian.{big_from}
use Rattle.rbf_model.specs.Fields.{segment_field, has_sectors, segments_field}

-- the front of a list that passes a test, where it ends at i, and where it does not end
take_while-stops : (p : ℕ × ℕ → Bool) (f : ℕ → ℕ × ℕ) (a n i : ℕ) → i < n → ((k : ℕ) → k < i → p (f (a + k)) ≡ true)
    → p (f (a + i)) ≡ false → take_while p (map f (range_with_len a n)) ≡ map f (range_with_len a i)
take_while-stops p f a zero i below pass stop = absurd (omega arith)
take_while-stops p f a (suc n) zero below pass stop =
    let here : a + 0 ≡ a = omega arith in
    let fails : p (f a) ≡ false = ap (λ b. p (f b)) (sym here) ∙ stop in
    ap (λ t. take (cond t (1 + prefix_len p (map f (range_with_len (a + 1) n))) 0) (map f (range_with_len a (suc n)))) fails
take_while-stops p f a (suc n) (suc i) below pass stop =
    let rest = map f (range_with_len (a + 1) n) in
    let here : a + 0 ≡ a = omega arith in
    let passes : p (f a) ≡ true = ap (λ b. p (f b)) (sym here) ∙ pass 0 (omega arith) in
    let next : (k : ℕ) → a + suc k ≡ a + 1 + k = λ k. omega arith in
    let more : 1 + prefix_len p rest ≡ suc (prefix_len p rest) = omega arith in
    ap (λ t. take (cond t (1 + prefix_len p rest) 0) (f a ∷ rest)) passes ∙ ap (λ m. take m (f a ∷ rest)) more ∙ ap
    (λ r. f a ∷ r) (take_while-stops p f (a + 1) n i (omega arith) (λ k low. ap (λ b. p (f b)) (sym (next k)) ∙
    pass (suc k) (omega arith)) (ap (λ b. p (f b)) (sym (next i)) ∙ stop))

take_while-all : (p : ℕ × ℕ → Bool) (f : ℕ → ℕ × ℕ) (a n : ℕ) → ((k : ℕ) → k < n → p (f (a + k)) ≡ true) → take_while p (map f (range_with_len a n)) ≡ map f (range_with_len a n)
take_while-all p f a zero pass = refl
take_while-all p f a (suc n) pass =
    let rest = map f (range_with_len (a + 1) n) in
    let here : a + 0 ≡ a = omega arith in
    let passes : p (f a) ≡ true = ap (λ b. p (f b)) (sym here) ∙ pass 0 (omega arith) in
    let next : (k : ℕ) → a + suc k ≡ a + 1 + k = λ k. omega arith in
    let more : 1 + prefix_len p rest ≡ suc (prefix_len p rest) = omega arith in
    ap (λ t. take (cond t (1 + prefix_len p rest) 0) (f a ∷ rest)) passes ∙ ap (λ m. take m (f a ∷ rest)) more ∙ ap
    (λ r. f a ∷ r) (take_while-all p f (a + 1) n (λ k low. ap (λ b. p (f b)) (sym (next k)) ∙ pass (suc k)
    (omega arith)))

pub segments-stop : (b : List ℕ) (i : ℕ) → i < 48 → ((k : ℕ) → k < i → has_sectors (segment_field b k) ≡ true)
    → has_sectors (segment_field b i) ≡ false → segments_field b ≡ map (segment_field b) (range_with_len 0 i)
unfolding segments_field
segments-stop b i below pass stop =
    let from : (k : ℕ) → 0 + k ≡ k = λ k. omega arith in
    take_while-stops has_sectors (segment_field b) 0 48 i below (λ k low. ap (λ m. has_sectors (segment_field b m)) (from k) ∙ pass k low) (ap (λ m. has_sectors (segment_field b m)) (from i) ∙ stop)

pub segments-all : (b : List ℕ) → ((k : ℕ) → k < 48 → has_sectors (segment_field b k) ≡ true) → segments_field b ≡ map (segment_field b) (range_with_len 0 48)
unfolding segments_field
segments-all b pass =
    let from : (k : ℕ) → 0 + k ≡ k = λ k. omega arith in
    take_while-all has_sectors (segment_field b) 0 48 (λ k low. ap (λ m. has_sectors (segment_field b m)) (from k) ∙ pass k low)

-- one pair more
pub segments-more : (b : List ℕ) (i lsn count : ℕ) → lsn ≡ big_from (16 + 5 * i) 3 b
    → count ≡ big_from (16 + 5 * i + 3) 2 b → map (segment_field b) (range_with_len 0 (i + 1)) ≡ map (segment_field b)
    (range_with_len 0 i) ++ (lsn, count) ∷ []
segments-more b i lsn count first sectors =
    let place : 19 + 5 * i ≡ 16 + 5 * i + 3 = omega arith in
    let pair : segment_field b i ≡ (lsn, count) = ap₂ (λ x y. (x, y)) (sym first) (ap (λ at. big_from at 2 b) place ∙ sym sectors) in
    map-range_with_len_more (segment_field b) 0 i i (omega arith) ∙ ap (λ p. map (segment_field b) (range_with_len 0 i) ++ p ∷ []) pair

pub is_segment-some : (b : List ℕ) (i count : ℕ) → count ≡ big_from (16 + 5 * i + 3) 2 b → (count ≡ 0 → ⊥) → has_sectors (segment_field b i) ≡ true
is_segment-some b i count sectors some =
    let place : 19 + 5 * i ≡ 16 + 5 * i + 3 = omega arith in
    let same : big_from (19 + 5 * i) 2 b ≡ count = ap (λ at. big_from at 2 b) place ∙ sym sectors in
    ap (λ n. not (eqb n 0)) same ∙ not_zero count some
  where
    not_zero : (n : ℕ) → (n ≡ 0 → ⊥) → not (eqb n 0) ≡ true
    not_zero n some = grind (arith, nat_tests)

pub is_segment-none : (b : List ℕ) (i count : ℕ) → count ≡ big_from (16 + 5 * i + 3) 2 b → count ≡ 0 → has_sectors (segment_field b i) ≡ false
is_segment-none b i count sectors none =
    let place : 19 + 5 * i ≡ 16 + 5 * i + 3 = omega arith in
    let same : big_from (19 + 5 * i) 2 b ≡ 0 = ap (λ at. big_from at 2 b) place ∙ sym sectors ∙ none in
    ap (λ n. not (eqb n 0)) same

pub length-segments : (b : List ℕ) (i : ℕ) → length (map (segment_field b) (range_with_len 0 i)) ≡ i
length-segments b i = length-map-range_with_len (segment_field b) 0 i

pub ok_unless : {T E : Type 0} (r : Result T E) → (IsErr r → ⊥) → IsOk r
ok_unless (Ok x) not_err = refl
ok_unless (Err e) not_err = absurd (not_err refl)
