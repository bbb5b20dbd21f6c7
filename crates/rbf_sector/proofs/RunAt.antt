-- The run in a place of a segment list, which is read pair by pair.
use Rattle.std.proofs.Common.{◌≡◌, ℕ, ◌+◌, ◌-◌, ◌*◌, ◌<◌, ◌≤◌, zero, suc, Bool, true, cond, List, ◌∷◌, length, take, drop, take_while, map, get_or, slice_get, Some, refl, sym, ap, ◌∙◌, below_more, arith}
use Rattle.std.specs.List.{range_with_len, prefix_len}
use Rattle.std.proofs.lemmas.List.{take_all}
use Rattle.byteorder.specs.Endian.{big_from}
use Rattle.rbf_model.specs.Fields.{segment_field, has_sectors, segments_field}
use Rattle.rbf_model.specs.Segments.{sectors_of}
use Rattle.rbf_segs.proofs.Runs.{sector_in_run, sector_past_run, length-sectors_of_more}
use Rattle.rbf_sector.specs.Run.{IsRunAt}
use Rattle.rbf_sector.proofs.SegmentList.{segments-stop, segments-all, is_segment-some, is_segment-none, length-segments}

-- one more pair that passes
take_while-pass : (p : ℕ × ℕ → Bool) (f : ℕ → ℕ × ℕ) (a n : ℕ) → p (f a) ≡ true
    → take_while p (map f (range_with_len a (suc n))) ≡ f a ∷ take_while p (map f (range_with_len (a + 1) n))
take_while-pass p f a n passes =
    let rest = map f (range_with_len (a + 1) n) in
    let more : 1 + prefix_len p rest ≡ suc (prefix_len p rest) = omega arith in
    ap (λ t. take (cond t (1 + prefix_len p rest) 0) (f a ∷ rest)) passes ∙ ap (λ m. take m (f a ∷ rest)) more

-- a pair is in the list if it passes, and so do all before it
take_while-has : (p : ℕ × ℕ → Bool) (f : ℕ → ℕ × ℕ) (a n i : ℕ) (d : ℕ × ℕ) → i < n → ((k : ℕ) → k < i + 1 → p (f (a + k)) ≡ true)
    → (i < length (take_while p (map f (range_with_len a n)))) × (get_or (take_while p (map f (range_with_len a n))) i d ≡ f (a + i))
take_while-has p f a zero i d below pass = absurd (omega arith)
take_while-has p f a (suc n) zero d below pass =
    let here : a + 0 ≡ a = omega arith in
    rw (take_while-pass p f a n (ap (λ b. p (f b)) (sym here) ∙ pass 0 (omega arith))) (omega arith, ap f (sym here))
take_while-has p f a (suc n) (suc i) d below pass =
    let here : a + 0 ≡ a = omega arith in
    let next : (k : ℕ) → a + suc k ≡ a + 1 + k = λ k. omega arith in
    let further = take_while-has p f (a + 1) n i d (omega arith) (λ k low. ap (λ b. p (f b)) (sym (next k)) ∙ pass (suc k) (omega arith)) in
    let low = further.0 in
    rw (take_while-pass p f a n (ap (λ b. p (f b)) (sym here) ∙ pass 0 (omega arith))) (omega arith, further.1 ∙ ap f (sym (next i)))

-- the place in the list is not in the segments before this one
pub record IsLeft (b : List ℕ) (place i left : ℕ) : Type 0 where
  pub pass : (k : ℕ) → k < i → has_sectors (segment_field b k) ≡ true
  pub before : left + length (sectors_of (take i (segments_field b))) ≡ place
  pub ahead : (j : ℕ) → slice_get (sectors_of (drop i (segments_field b))) (left + j) ≡ slice_get (sectors_of (segments_field b)) (place + j)

pub all_left : (b : List ℕ) (place : ℕ) → IsLeft b place 0 place
all_left b place = record {
  pass = λ k below. absurd (omega arith);
  before = omega arith;
  ahead = λ j. refl;
}

-- the list ends before the place
pub none_here : (b : List ℕ) (place i left count : ℕ) → IsLeft b place i left → i < 48 → count ≡ big_from (16 + 5 * i + 3) 2 b → count ≡ 0
    → length (sectors_of (segments_field b)) ≤ place
none_here b place i left count so_far low sectors none =
    let all = segments-stop b i low so_far.pass (is_segment-none b i count sectors none) in
    let whole : take i (segments_field b) ≡ segments_field b = take_all i (segments_field b) (omega (arith, ap length all, length-segments b i)) in
    omega (arith, so_far.before, ap (λ segs. length (sectors_of segs)) whole)

pub none_left : (b : List ℕ) (place i left : ℕ) → IsLeft b place i left → i ≡ 48 → length (sectors_of (segments_field b)) ≤ place
none_left b place i left so_far end =
    let all = segments-all b (λ k low. so_far.pass k (omega arith)) in
    let whole : take i (segments_field b) ≡ segments_field b = take_all i (segments_field b) (omega (arith, ap length all, length-segments b 48)) in
    omega (arith, so_far.before, ap (λ segs. length (sectors_of segs)) whole)

module _ (b : List ℕ) (place i left count : ℕ) (so_far : IsLeft b place i left) (low : i < 48) (sectors : count ≡ big_from (16 + 5 * i + 3) 2 b) (some : count ≡ 0 → ⊥) where
  passing : (k : ℕ) → k < i + 1 → has_sectors (segment_field b k) ≡ true
  passing = below_more (λ k. has_sectors (segment_field b k) ≡ true) i so_far.pass (is_segment-some b i count sectors some)

  -- the pair is the next segment
  there : (i < length (segments_field b)) × (get_or (segments_field b) i (0, 0) ≡ segment_field b i)
  unfolding segments_field
  there =
      let from : (k : ℕ) → 0 + k ≡ k = λ k. omega arith in
      let both = take_while-has has_sectors (segment_field b) 0 48 i (0, 0) low (λ k under. ap (λ m. has_sectors (segment_field b m)) (from k) ∙ passing k under) in
      (both.0, both.1 ∙ ap (segment_field b) (from i))

  count_is : (get_or (segments_field b) i (0, 0)).1 ≡ count
  count_is =
      let place_is : 19 + 5 * i ≡ 16 + 5 * i + 3 = omega arith in
      ap (λ (pair : ℕ × ℕ). pair.1) there.1 ∙ ap (λ at. big_from at 2 b) place_is ∙ sym sectors

  pub one_further : count ≤ left → IsLeft b place (i + 1) (left - count)
  one_further past =
      let is = count_is in
      let more = length-sectors_of_more (segments_field b) i (0, 0) there.0 in
      let was = so_far.before in
      record {
        pass = passing;
        before = omega arith;
        ahead = λ j.
            let rest : left + j - (get_or (segments_field b) i (0, 0)).1 ≡ left - count + j = omega arith in
            ap (slice_get (sectors_of (drop (i + 1) (segments_field b)))) (sym rest)
            ∙ sym (sector_past_run (segments_field b) i (left + j) (0, 0) there.0 (omega arith)) ∙ so_far.ahead j;
      }

  pub run_here : (lsn : ℕ) → lsn ≡ big_from (16 + 5 * i) 3 b → left < count → IsRunAt (segments_field b) place (record { lsn = lsn + left; count = count - left })
  run_here lsn first within =
      let is = count_is in
      let more = length-sectors_of_more (segments_field b) i (0, 0) there.0 in
      let was = so_far.before in
      let lsn_is : (get_or (segments_field b) i (0, 0)).0 ≡ lsn = ap (λ (pair : ℕ × ℕ). pair.0) there.1 ∙ sym first in
      record {
        segment = i;
        begins = omega arith;
        some = omega arith;
        ends = omega arith;
        sectors_are = λ k under.
            sym (so_far.ahead k) ∙ sector_in_run (segments_field b) i (left + k) (0, 0) there.0 (omega arith)
            ∙ ap Some (omega arith);
      }
