-- The sectors of a list of runs, one run after another.
use Rattle.std.proofs.Common.{◌≡◌, ℕ, ◌+◌, ◌-◌, ◌<◌, ◌≤◌, zero, suc, Bool, true, false, cond, eqb, List, [], ◌∷◌, ◌++◌, Some, length, get_or, take, drop, set, replicate, min, All, slice_get, refl, subst, sym, ap, ◌∙◌, append_assoc, arith, rules, length-append}
use Rattle.std.specs.List.{range_with_len}
use Rattle.std.proofs.lemmas.List.FromFn.{length-range_with_len, get_or-range_with_len}
use Rattle.std.proofs.lemmas.List.Elements.{All-nil, All-cons, All-head, All-tail, All-same, All-get_or}
use Rattle.std.proofs.lemmas.Option.{slice_get-get_or, slice_get_within, get_or_from_slice_get}
use Rattle.std.proofs.lemmas.List.{get_or-append-add, take_more, drop_more, take_more_set, drop-set-lt, drop_all, take_all}
use Rattle.std.proofs.lemmas.List.Concat.{flat_map-append}
use Rattle.std.proofs.lemmas.Bool.Decides.{nat_tests}
use Rattle.std.proofs.lemmas.Grind.{drop_more_same}
use Rattle.rbf_model.specs.Segments.{segment_sectors, sectors_of, joins, appended_segments, shortened_segments}
use Rattle.rbf_segs.specs.Segments.{IsSegment, Lengthens}

-- a run has as many sectors as its count says
pub length-run : (segment : ℕ × ℕ) → length (segment_sectors segment) ≡ segment.1
length-run segment = length-range_with_len segment.0 segment.1

pub append_nil : {A : Type 0} (xs : List A) → xs ++ [] ≡ xs
append_nil xs = search rules

-- one run more
pub sectors_of-push : (runs : List (ℕ × ℕ)) (segment : ℕ × ℕ) → sectors_of (runs ++ segment ∷ []) ≡ sectors_of runs ++ segment_sectors segment
sectors_of-push runs segment =
    flat_map-append segment_sectors runs (segment ∷ []) ∙ ap (λ s. sectors_of runs ++ s) (append_nil (segment_sectors segment))

-- the count of sectors, one run further
pub length-sectors_of_more : (runs : List (ℕ × ℕ)) (i : ℕ) (d : ℕ × ℕ) → i < length runs → length (sectors_of (take (i + 1) runs)) ≡ length (sectors_of (take i runs)) + (get_or runs i d).1
length-sectors_of_more runs i d within =
    ap (λ s. length (sectors_of s)) (take_more runs i d within) ∙ ap length (sectors_of-push (take i runs)
    (get_or runs i d)) ∙ length-append (sectors_of (take i runs)) (segment_sectors (get_or runs i d)) ∙ ap
    (λ n. length (sectors_of (take i runs)) + n) (length-run (get_or runs i d))

-- a place in the first run, and one behind it
pub slice_get-in_run : (lsn count place : ℕ) (rest : List ℕ) → place < count → slice_get (range_with_len lsn count ++ rest) place ≡ Some (lsn + place)
slice_get-in_run lsn zero place rest within = absurd (omega arith)
slice_get-in_run lsn (suc n) zero rest within = ap Some (omega arith)
slice_get-in_run lsn (suc n) (suc place) rest within =
    slice_get-in_run (lsn + 1) n place rest (omega arith) ∙ ap Some (omega arith)

pub slice_get-past_run : (lsn count place : ℕ) (rest : List ℕ) → count ≤ place → slice_get (range_with_len lsn count ++ rest) place ≡ slice_get rest (place - count)
slice_get-past_run lsn zero place rest past = ap (slice_get rest) (omega arith)
slice_get-past_run lsn (suc n) zero rest past = absurd (omega arith)
slice_get-past_run lsn (suc n) (suc place) rest past =
    slice_get-past_run (lsn + 1) n place rest (omega arith) ∙ ap (slice_get rest) (omega arith)

-- a place in the i-th run, and one behind it, of what is left from the i-th run on
pub sector_in_run : (runs : List (ℕ × ℕ)) (i left : ℕ) (d : ℕ × ℕ) → i < length runs → left < (get_or runs i d).1 → slice_get (sectors_of (drop i runs)) left ≡ Some ((get_or runs i d).0 + left)
sector_in_run runs i left d within inside =
    ap (λ r. slice_get (sectors_of r) left) (drop_more runs i d within) ∙ slice_get-in_run _ _ left _ inside

pub sector_past_run : (runs : List (ℕ × ℕ)) (i left : ℕ) (d : ℕ × ℕ) → i < length runs → (get_or runs i d).1 ≤ left
    → slice_get (sectors_of (drop i runs)) left ≡ slice_get (sectors_of (drop (i + 1) runs))
    (left - (get_or runs i d).1)
sector_past_run runs i left d within past =
    ap (λ r. slice_get (sectors_of r) left) (drop_more runs i d within) ∙ slice_get-past_run _ _ left _ past

-- a choice at a count that is not 0
at_some : {A : Type 0} (n : ℕ) (a b : A) → 0 < n → cond (eqb n 0) a b ≡ b
at_some n a b some = grind (arith, nat_tests)

-- the runs cut off one after another, each place kept: zeros stand for runs of which nothing is left
abbrev pub cut_places : ℕ → List (ℕ × ℕ) → List (ℕ × ℕ)
cut_places left [] = []
cut_places left (segment ∷ runs) =
    cond (eqb left 0) (0, 0) (segment.0, min left segment.1) ∷ cut_places (left - segment.1) runs

length-cut_places : (left : ℕ) (runs : List (ℕ × ℕ)) → length (cut_places left runs) ≡ length runs
length-cut_places left [] = refl
length-cut_places left (segment ∷ runs) = ap suc (length-cut_places (left - segment.1) runs)

cut_places-none : (runs : List (ℕ × ℕ)) → cut_places 0 runs ≡ replicate (length runs) (0, 0)
cut_places-none [] = refl
cut_places-none (segment ∷ runs) =
    (let none : 0 - segment.1 ≡ 0 = omega arith in ap (λ left. (0, 0) ∷ cut_places left runs) none) ∙ ap (λ places. (0, 0) ∷ places) (cut_places-none runs)

-- what is left of the runs, and zeros behind it
pub cut_places_is : (left : ℕ) (runs : List (ℕ × ℕ)) → cut_places left runs ≡ shortened_segments left runs ++ replicate (length runs - length (shortened_segments left runs)) (0, 0)
cut_places_is left [] = refl
cut_places_is zero (segment ∷ runs) =
    let all : length (segment ∷ runs) ≡ length (segment ∷ runs) - 0 = omega arith in
    cut_places-none (segment ∷ runs) ∙ ap (λ n. replicate n (0, 0)) all
cut_places_is (suc n) (segment ∷ runs) =
    let rest = shortened_segments (suc n - segment.1) runs in
    let front : ℕ × ℕ = (segment.0, min (suc n) segment.1) in
    let some : 0 < suc n = omega arith in
    let cut_is : cut_places (suc n) (segment ∷ runs) ≡ front ∷ cut_places (suc n - segment.1) runs = ap (λ r. r ∷ cut_places (suc n - segment.1) runs) (at_some (suc n) (0, 0) front some) in
    let left_is : shortened_segments (suc n) (segment ∷ runs) ≡ front ∷ rest = at_some (suc n) [] (front ∷ rest) some in
    let zeros : length runs - length rest ≡ length (segment ∷ runs) - length (front ∷ rest) = omega arith in
    cut_is ∙ ap (λ places. front ∷ places) (cut_places_is (suc n - segment.1) runs) ∙ ap
    (λ k. (front ∷ rest) ++ replicate k (0, 0)) zeros ∙ ap
    (λ r. r ++ replicate (length (segment ∷ runs) - length r) (0, 0)) (sym left_is)

shortened-none : (runs : List (ℕ × ℕ)) → shortened_segments 0 runs ≡ []
shortened-none [] = refl
shortened-none (segment ∷ runs) = refl

-- the first places are cut and the others are as they were
pub record IsCutTo (old places : List (ℕ × ℕ)) (sectors i left runs : ℕ) : Type 0 where
  pub cut : take i places ++ cut_places left (drop i old) ≡ cut_places sectors old
  pub rest : drop i places ≡ drop i old
  pub counted : runs + length (shortened_segments left (drop i old)) ≡ length (shortened_segments sectors old)
  pub few : runs ≤ i

pub IsCutTo-same : {old places places' : List (ℕ × ℕ)} {sectors i left left' runs runs' : ℕ} → places' ≡ places
    → left' ≡ left → runs' ≡ runs → IsCutTo old places sectors i left runs → IsCutTo old places' sectors i left' runs'
IsCutTo-same same_places same_left same_runs cutting = rw (same_places, same_left, same_runs) cutting

-- all the places
pub cut_all : (old places : List (ℕ × ℕ)) (sectors i left runs : ℕ) → IsCutTo old places sectors i left runs
    → length places ≡ length old → length old ≤ i → (places ≡ shortened_segments sectors old ++ replicate
    (length old - runs) (0, 0)) × (runs ≡ length (shortened_segments sectors old))
cut_all old places sectors i left runs cutting same_length all =
    let past : drop i old ≡ [] = drop_all i old all in
    let none : length (shortened_segments left (drop i old)) ≡ 0 = ap (λ r. length (shortened_segments left r)) past in
    let counted : runs ≡ length (shortened_segments sectors old) = omega (arith, cutting.counted) in
    let whole : take i places ≡ places = take_all i places (omega arith) in
    let cut : places ≡ cut_places sectors old = sym (append_nil places) ∙ ap (λ p. p ++ []) (sym whole) ∙ ap (λ r. take i places ++ cut_places left r) (sym past) ∙ cutting.cut in
    (cut ∙ cut_places_is sectors old ∙ ap (λ n. shortened_segments sectors old ++ replicate (length old - n) (0, 0)) (sym counted), counted)

-- one place more
module _ (old places : List (ℕ × ℕ)) (sectors i left runs : ℕ) (d : ℕ × ℕ) (cutting : IsCutTo old places sectors i left runs) (within : i < length places) where
  rest_again : drop (i + 1) places ≡ drop (i + 1) old
  rest_again = drop_more_same places old i cutting.rest

  rest_is : drop i old ≡ get_or places i d ∷ drop (i + 1) old
  rest_is =
      sym cutting.rest ∙ drop_more places i d within ∙ ap (λ rest. get_or places i d ∷ rest) rest_again

  rest_kept : (segment : ℕ × ℕ) → drop (i + 1) (set places i segment) ≡ drop (i + 1) old
  rest_kept segment = drop-set-lt (i + 1) places i segment (omega arith) ∙ rest_again

  front_is : (segment : ℕ × ℕ) (rest : List (ℕ × ℕ)) → take (i + 1) (set places i segment) ++ rest ≡ take i places ++ segment ∷ rest
  front_is segment rest =
      ap (λ front. front ++ rest) (take_more_set places i segment within) ∙ append_assoc (take i places) (segment ∷ []) rest

  pub cut_further : 0 < left → IsCutTo old (set places i ((get_or places i d).0, min left (get_or places i d).1)) sectors (i + 1) (left - (get_or places i d).1) (runs + 1)
  cut_further some =
      let segment = get_or places i d in
      let kept : ℕ × ℕ = (segment.0, min left segment.1) in
      let rest = drop (i + 1) old in
      record {
        cut =
            front_is kept (cut_places (left - segment.1) rest) ∙ ap (λ r. take i places ++ r)
            (ap (λ r. r ∷ cut_places (left - segment.1) rest) (sym (at_some left (0, 0) kept some)) ∙ ap
            (cut_places left) (sym rest_is)) ∙ cutting.cut;
        rest = rest_kept kept;
        counted =
            let now : length (shortened_segments left (drop i old)) ≡ suc
            (length (shortened_segments (left - segment.1) rest)) = ap (λ r. length (shortened_segments left r))
            rest_is ∙ ap length (at_some left [] (kept ∷ shortened_segments (left - segment.1) rest) some) in
            omega (arith, cutting.counted);
        few = omega (arith, cutting.few);
      }

  pub cut_away : left ≡ 0 → IsCutTo old (set places i (0, 0)) sectors (i + 1) 0 runs
  cut_away none =
      let segment = get_or places i d in
      let rest = drop (i + 1) old in
      let zero_left : 0 - segment.1 ≡ 0 = omega arith in
      record {
        cut =
            front_is (0, 0) (cut_places 0 rest) ∙ ap (λ r. take i places ++ (0, 0) ∷ cut_places r rest)
            (sym zero_left) ∙ ap (λ n. take i places ++ cut_places n (segment ∷ rest)) (sym none) ∙ ap
            (λ r. take i places ++ cut_places left r) (sym rest_is) ∙ cutting.cut;
        rest = rest_kept (0, 0);
        counted =
            let all_cut : length (shortened_segments left (drop i old)) ≡ 0 = ap (λ n. length (shortened_segments n (drop i old))) none ∙ ap length (shortened-none (drop i old)) in
            let still : length (shortened_segments 0 rest) ≡ 0 = ap length (shortened-none rest) in
            omega (arith, cutting.counted);
        few = omega (arith, cutting.few);
      }

-- a list of one run or more is what stands before the last run, and the last run
pub front_and_last : (runs : List (ℕ × ℕ)) (d : ℕ × ℕ) → 1 ≤ length runs → runs ≡ take (length runs - 1) runs ++ get_or runs (length runs - 1) d ∷ []
front_and_last runs d some =
    let n = length runs - 1 in
    let all : length runs ≤ n + 1 = omega arith in
    sym (take_all (n + 1) runs all) ∙ take_more runs n d (omega arith)

-- the last sector of all is the last of the last run
pub last_sector_is : (runs : List (ℕ × ℕ)) (d : ℕ × ℕ) → 1 ≤ length runs → 1 ≤ (get_or runs (length runs - 1) d).1
    → slice_get (sectors_of runs) (length (sectors_of runs) - 1) ≡ Some ((get_or runs (length runs - 1) d).0 +
    ((get_or runs (length runs - 1) d).1 - 1))
last_sector_is runs d some has =
    let n = length runs - 1 in
    let segment = get_or runs n d in
    let front = sectors_of (take n runs) in
    let k = segment.1 - 1 in
    let all : sectors_of runs ≡ front ++ segment_sectors segment = ap sectors_of (front_and_last runs d some) ∙ sectors_of-push (take n runs) segment in
    let len : length (front ++ segment_sectors segment) ≡ length front + segment.1 = omega (arith, length-append front (segment_sectors segment), length-run segment) in
    let place : length (front ++ segment_sectors segment) - 1 ≡ length front + k = omega arith in
    ap (λ xs. slice_get xs (length xs - 1)) all ∙ ap (slice_get (front ++ segment_sectors segment)) place ∙
    slice_get-get_or (front ++ segment_sectors segment) (length front + k) 0 (omega arith) ∙ ap Some
    (get_or-append-add front (segment_sectors segment) k 0 ∙ get_or-range_with_len segment.0 segment.1 k 0
    (omega arith))

module _ (lsn count : ℕ) where
  joined_to : ℕ × ℕ → ℕ × ℕ
  joined_to segment = (segment.0, segment.1 + count)

  cond-cons : (test : Bool) (segment : ℕ × ℕ) (a b : List (ℕ × ℕ)) → segment ∷ cond test a b ≡ cond test (segment ∷ a) (segment ∷ b)
  cond-cons true segment a b = refl
  cond-cons false segment a b = refl

  -- sectors behind a list whose last run is known
  pub appended-push : (front : List (ℕ × ℕ)) (segment : ℕ × ℕ) → appended_segments (front ++ segment ∷ []) lsn count ≡
      cond (joins segment lsn count) (front ++ (segment.0, segment.1 + count) ∷ []) (front ++ segment ∷ (lsn, count) ∷
      [])
  appended-push [] segment = refl
  appended-push (x ∷ []) segment = cond-cons (joins segment lsn count) x _ _
  appended-push (x ∷ y ∷ front) segment =
      ap (λ rest. x ∷ rest) (appended-push (y ∷ front) segment) ∙ cond-cons (joins segment lsn count) x _ _

  joins_true : (segment : ℕ × ℕ) → segment.0 + segment.1 ≡ lsn → segment.1 + count < 65536 → joins segment lsn count ≡ true
  joins_true segment follows room = grind (arith, nat_tests)

-- what `last` finds
abbrev pub IsLast : List (ℕ × ℕ) → ℕ × ℕ → Type 0
IsLast runs segment = Some segment ≡ slice_get runs (length runs - 1)

last_is : (runs : List (ℕ × ℕ)) (segment : ℕ × ℕ) → 1 ≤ length runs → segment ≡ get_or runs (length runs - 1) segment → runs ≡ take (length runs - 1) runs ++ segment ∷ []
last_is runs segment some last =
    front_and_last runs segment some ∙ ap (λ r. take (length runs - 1) runs ++ r ∷ []) (sym last)

-- the last run has room
pub lengthens : (runs : List (ℕ × ℕ)) (segment : ℕ × ℕ) (lsn count : ℕ) → IsLast runs segment → segment.0 + segment.1
    ≡ lsn → segment.1 + count < 65536 → All IsSegment runs → Lengthens runs lsn count (segment.0, segment.1 + count)
lengthens runs segment lsn count found follows room each =
    let n = length runs - 1 in
    let inside = slice_get_within runs n segment (sym found) in
    let some : 1 ≤ length runs = omega arith in
    let last = sym (get_or_from_slice_get runs n segment segment (sym found)) in
    let split = last_is runs segment some last in
    let whole : IsSegment segment = let P : (ℕ × ℕ) → Type 0 = IsSegment in subst P (sym last) (All-get_or IsSegment runs n segment (omega arith) each) in
    record {
      some = some;
      list =
          ap (λ r. appended_segments r lsn count) split ∙ appended-push lsn count (take n runs) segment ∙ ap
          (λ test. cond test (take n runs ++ (segment.0, segment.1 + count) ∷ [])
          (take n runs ++ segment ∷ (lsn, count) ∷ [])) (joins_true lsn count segment follows room);
      whole = record { lsn = whole.lsn; some = omega (arith, whole.some); count = room };
    }

-- the last run does not end at `lsn`, or has no room
pub adds_run : (runs : List (ℕ × ℕ)) (segment : ℕ × ℕ) (lsn count : ℕ) → IsLast runs segment → joins segment lsn count ≡ false → appended_segments runs lsn count ≡ runs ++ (lsn, count) ∷ []
adds_run runs segment lsn count found apart =
    let n = length runs - 1 in
    let inside = slice_get_within runs n segment (sym found) in
    let some : 1 ≤ length runs = omega arith in
    let last = sym (get_or_from_slice_get runs n segment segment (sym found)) in
    let split = last_is runs segment some last in
    ap (λ r. appended_segments r lsn count) split ∙ appended-push lsn count (take n runs) segment ∙ ap
    (λ test. cond test (take n runs ++ (segment.0, segment.1 + count) ∷ []) (take n runs ++ segment ∷ (lsn, count)
    ∷ [])) apart ∙ sym (append_assoc (take n runs) (segment ∷ []) ((lsn, count) ∷ [])) ∙ ap
    (λ r. r ++ (lsn, count) ∷ []) (sym split)

range_with_len-append : (a m n : ℕ) → range_with_len a (m + n) ≡ range_with_len a m ++ range_with_len (a + m) n
range_with_len-append a zero n =
    let from : a ≡ a + 0 = omega arith in
    let count : 0 + n ≡ n = omega arith in
    ap (range_with_len a) count ∙ ap (λ b. range_with_len b n) from
range_with_len-append a (suc m) n =
    let from : a + 1 + m ≡ a + suc m = omega arith in
    let count : suc m + n ≡ suc (m + n) = omega arith in
    ap (range_with_len a) count ∙ ap (λ rest. a ∷ rest) (range_with_len-append (a + 1) m n) ∙ ap (λ b. a ∷ (range_with_len (a + 1) m ++ range_with_len b n)) from

take-run : (n a count : ℕ) (rest : List ℕ) → take n (range_with_len a count ++ rest) ≡ range_with_len a (min n count) ++ take (n - count) rest
take-run n a zero rest =
    let none : 0 ≡ min n 0 = omega arith in
    let all : n ≡ n - 0 = omega arith in
    ap (λ m. take m rest) all ∙ ap (λ m. range_with_len a m ++ take (n - 0) rest) none
take-run zero a (suc count) rest =
    let none : 0 ≡ min 0 (suc count) = omega arith in
    let left : 0 ≡ 0 - suc count = omega arith in
    ap (λ m. range_with_len a m ++ []) none ∙ ap (λ m. range_with_len a (min 0 (suc count)) ++ take m rest) left
take-run (suc n) a (suc count) rest =
    let more : suc (min n count) ≡ min (suc n) (suc count) = omega arith in
    let left : n - count ≡ suc n - suc count = omega arith in
    ap (λ r. a ∷ r) (take-run n (a + 1) count rest) ∙ ap (λ m. range_with_len a m ++ take (n - count) rest) more ∙ ap (λ m. range_with_len a (min (suc n) (suc count)) ++ take m rest) left

joins-follows : (segment : ℕ × ℕ) (lsn count : ℕ) → joins segment lsn count ≡ true → segment.0 + segment.1 ≡ lsn
joins-follows segment lsn count joined = grind (arith, nat_tests)

sectors_of-joined : (segment : ℕ × ℕ) (lsn count : ℕ) (test : Bool) → joins segment lsn count ≡ test
    → sectors_of (cond test ((segment.0, segment.1 + count) ∷ []) (segment ∷ (lsn, count) ∷ [])) ≡ sectors_of
    (segment ∷ []) ++ segment_sectors (lsn, count)
sectors_of-joined segment lsn count true joined =
    append_nil _ ∙ range_with_len-append segment.0 segment.1 count ∙ ap (λ b. segment_sectors segment ++
    range_with_len b count) (joins-follows segment lsn count joined) ∙ ap (λ front. front ++ segment_sectors
    (lsn, count)) (sym (append_nil (segment_sectors segment)))
sectors_of-joined segment lsn count false apart =
    ap (λ rest. segment_sectors segment ++ rest) (append_nil (segment_sectors (lsn, count))) ∙ ap (λ front. front ++ segment_sectors (lsn, count)) (sym (append_nil (segment_sectors segment)))

pub last_sector_found : (runs : List (ℕ × ℕ)) (segment : ℕ × ℕ) → IsLast runs segment → All IsSegment runs
    → Some (segment.0 + segment.1 - 1) ≡ slice_get (sectors_of runs) (length (sectors_of runs) - 1)
last_sector_found runs segment found each =
    let n = length runs - 1 in
    let inside = slice_get_within runs n segment (sym found) in
    let last = get_or_from_slice_get runs n segment segment (sym found) in
    let whole : IsSegment segment = let P : (ℕ × ℕ) → Type 0 = IsSegment in subst P last (All-get_or IsSegment runs n segment inside each) in
    let has : 1 ≤ (get_or runs n segment).1 = rw last whole.some in
    let place : (get_or runs n segment).0 + ((get_or runs n segment).1 - 1) ≡ segment.0 + segment.1 - 1 = rw last (omega (arith, whole.some)) in
    sym (last_sector_is runs segment (omega arith) has ∙ ap Some place)

pub joins-elsewhere : (segment : ℕ × ℕ) (lsn count : ℕ) → (segment.0 + segment.1 ≡ lsn → ⊥) → joins segment lsn count ≡ false
joins-elsewhere segment lsn count apart = grind (arith, nat_tests)

pub joins-no_room : (segment : ℕ × ℕ) (lsn count : ℕ) → (segment.1 + count < 65536 → ⊥) → joins segment lsn count ≡ false
joins-no_room segment lsn count full = grind (arith, nat_tests)

-- the sectors of the list with more sectors behind it
pub sectors_of-appended : (runs : List (ℕ × ℕ)) (lsn count : ℕ) → sectors_of (appended_segments runs lsn count) ≡ sectors_of runs ++ segment_sectors (lsn, count)
sectors_of-appended [] lsn count = append_nil (segment_sectors (lsn, count))
sectors_of-appended (segment ∷ []) lsn count =
    sectors_of-joined segment lsn count (joins segment lsn count) refl
sectors_of-appended (segment ∷ next ∷ runs) lsn count =
    ap (λ rest. segment_sectors segment ++ rest) (sectors_of-appended (next ∷ runs) lsn count) ∙ sym (append_assoc (segment_sectors segment) (sectors_of (next ∷ runs)) (segment_sectors (lsn, count)))

-- the sectors of the list cut off
pub sectors_of-shortened : (n : ℕ) (runs : List (ℕ × ℕ)) → sectors_of (shortened_segments n runs) ≡ take n (sectors_of runs)
sectors_of-shortened n [] = sym (take_all n [] (omega arith))
sectors_of-shortened zero (segment ∷ runs) = refl
sectors_of-shortened (suc n) (segment ∷ runs) =
    let left = suc n - segment.1 in
    let front : ℕ × ℕ = (segment.0, min (suc n) segment.1) in
    let some : 0 < suc n = omega arith in
    ap sectors_of (at_some (suc n) [] (front ∷ shortened_segments left runs) some) ∙ ap (λ rest. segment_sectors front
    ++ rest) (sectors_of-shortened left runs) ∙ sym (take-run (suc n) segment.0 segment.1 (sectors_of runs))

-- no more of a list is seen than the sectors that are kept
pub shortened-append : (n : ℕ) (runs more : List (ℕ × ℕ)) → n ≤ length (sectors_of runs) → shortened_segments n (runs ++ more) ≡ shortened_segments n runs
shortened-append n [] more within =
    let none : n ≡ 0 = omega arith in
    ap (λ m. shortened_segments m more) none ∙ shortened-none more
shortened-append zero (segment ∷ runs) more within = refl
shortened-append (suc n) (segment ∷ runs) more within =
    let left = suc n - segment.1 in
    let front : ℕ × ℕ = (segment.0, min (suc n) segment.1) in
    let some : 0 < suc n = omega arith in
    let fits : left ≤ length (sectors_of runs) = omega (arith, length-append (segment_sectors segment) (sectors_of runs), length-run segment) in
    at_some (suc n) [] (front ∷ shortened_segments left (runs ++ more)) some ∙ ap (λ rest. front ∷ rest)
    (shortened-append left runs more fits) ∙ sym (at_some (suc n) [] (front ∷ shortened_segments left runs) some)

-- runs cut off are runs
pub All-shortened : (n : ℕ) (runs : List (ℕ × ℕ)) → All IsSegment runs → All IsSegment (shortened_segments n runs)
All-shortened n [] each = each
All-shortened zero (segment ∷ runs) each = All-nil IsSegment
All-shortened (suc n) (segment ∷ runs) each =
    let left = suc n - segment.1 in
    let front : ℕ × ℕ = (segment.0, min (suc n) segment.1) in
    let some : 0 < suc n = omega arith in
    let whole = All-head IsSegment segment runs each in
    let kept : IsSegment front = record { lsn = whole.lsn; some = omega (arith, whole.some); count = omega (arith, whole.count) } in
    All-same IsSegment _ _ (at_some (suc n) [] (front ∷ shortened_segments left runs) some)
    (All-cons IsSegment front (shortened_segments left runs) kept
    (All-shortened left runs (All-tail IsSegment segment runs each)))

-- a list cut off has no more runs
pub length-shortened : (n : ℕ) (runs : List (ℕ × ℕ)) → length (shortened_segments n runs) ≤ length runs
length-shortened n [] = omega arith
length-shortened zero (segment ∷ runs) = omega arith
length-shortened (suc n) (segment ∷ runs) =
    let left = suc n - segment.1 in
    let front : ℕ × ℕ = (segment.0, min (suc n) segment.1) in
    let some : 0 < suc n = omega arith in
    let now : length (shortened_segments (suc n) (segment ∷ runs)) ≡ suc (length (shortened_segments left runs)) = ap length (at_some (suc n) [] (front ∷ shortened_segments left runs) some) in
    omega (arith, length-shortened left runs)
