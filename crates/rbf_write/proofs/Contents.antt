-- The contents of a file over which bytes are laid, byte by byte.
use Rattle.std.proofs.Common.{◌≡◌, ℕ, zero, suc, ◌+◌, ◌-◌, ◌*◌, ◌%◌, ◌<◌, ◌≤◌, min, max, List, [], ◌++◌, length, take, drop, get_or, refl, sym, ap, ◌∙◌, subst, ⊎_elim, arith, length-append, length-drop}
use Rattle.std.specs.Prelude.{replicate}
use Rattle.std.proofs.lemmas.Bool.{cases_lt}
use Rattle.std.proofs.lemmas.List.{get_or_append_left, get_or-append_right, get_or-take, get_or-drop, length-take-le, length-replicate, take-append-drop}
use Rattle.std.proofs.lemmas.Grind.{same_number_lists}
use Rattle.rbf_model.specs.Writes.{put_at}
use Rattle.rbf_segs.proofs.Runs.{append_nil}
use Rattle.rbf_change.specs.Contents.{extended}
use Rattle.rbf_change.specs.Faults.{IsWriteFront, none, sector, end}
use Rattle.rbf_write.specs.Laid.{laid_byte, laid_bytes}
use Rattle.rbf_write.proofs.LaidBytes.{laid_in, laid_after, laid_zero, laid_before, put_before, put_in, put_behind, target_byte, length-target}
use Rattle.rbf_model.proofs.Pieces.{length-put_at}

-- a byte of a list over which bytes are laid that may go past its end
module _ (c b : List ℕ) (a : ℕ) (fits : a ≤ length c) (p : ℕ) where
  front : length (take a c) ≡ a
  front = length-take-le a c fits

  both : length (take a c ++ b) ≡ a + length b
  both = length-append (take a c) b ∙ ap (λ n. n + length b) front

  pub over_before : p < a → get_or (put_at c a b) p 0 ≡ get_or c p 0
  over_before low =
      get_or_append_left (take a c ++ b) (drop (a + length b) c) 0 p (let f = both in omega arith) ∙ get_or_append_left (take a c) b 0 p (let f = front in omega arith) ∙ get_or-take a c p 0 low

  pub over_in : a ≤ p → p < a + length b → get_or (put_at c a b) p 0 ≡ get_or b (p - a) 0
  over_in low high = get_or_append_left (take a c ++ b) (drop (a + length b) c) 0 p (let f = both in omega arith) ∙ get_or-append_right (take a c) b a p 0 front low

  pub over_behind : a + length b ≤ p → get_or (put_at c a b) p 0 ≡ get_or c p 0
  over_behind high =
      let place : a + length b + (p - (a + length b)) ≡ p = omega arith in
      get_or-append_right (take a c ++ b) (drop (a + length b) c) (a + length b) p 0 both high
      ∙ get_or-drop (a + length b) c (p - (a + length b)) 0 ∙ ap (λ k. get_or c k 0) place

pub length_over : (c b : List ℕ) (a : ℕ) → a ≤ length c → length (put_at c a b) ≡ max (length c) (a + length b)
length_over c b a fits =
    let front_is = length-take-le a c fits in
    let both_are : length (take a c ++ b) ≡ a + length b = length-append (take a c) b ∙ ap (λ n. n + length b) front_is in
    let rest = length-drop (a + length b) c in
    length-append (take a c ++ b) (drop (a + length b) c) ∙ omega arith

abbrev zeros : ℕ → List ℕ
zeros n = replicate n 0

-- contents with zeros behind them
pub length-extended : (contents : List ℕ) (at : ℕ) → length (extended contents at) ≡ max (length contents) at
length-extended contents at =
    let z : length (zeros (at - length contents)) ≡ at - length contents = length-replicate (at - length contents) 0 in
    length-append contents (zeros (at - length contents)) ∙ omega arith

pub length-laid : (contents bytes : List ℕ) (at : ℕ) → length (put_at (extended contents at) at bytes) ≡ max (length contents) (at + length bytes)
length-laid contents bytes at = let e = length-extended contents at in length_over (extended contents at) bytes at (omega arith) ∙ omega arith

extended_before : (contents : List ℕ) (at p : ℕ) → p < length contents → get_or (extended contents at) p 0 ≡ get_or contents p 0
extended_before contents at p low = get_or_append_left contents (zeros (at - length contents)) 0 p low

zero_at : (n i : ℕ) → get_or (zeros n) i 0 ≡ 0
zero_at zero i = refl
zero_at (suc n) zero = refl
zero_at (suc n) (suc i) = zero_at n i

extended_behind : (contents : List ℕ) (at p : ℕ) → length contents ≤ p → get_or (extended contents at) p 0 ≡ 0
extended_behind contents at p high =
    get_or-append_right contents (zeros (at - length contents)) (length contents) p 0 refl high ∙ zero_at (at - length contents) (p - length contents)

pub put_none : (c : List ℕ) (a : ℕ) → put_at c a [] ≡ c
put_none c a =
    let n : a + 0 ≡ a = omega arith in
    ap (λ k. take a c ++ [] ++ drop k c) n ∙ ap (λ xs. xs ++ drop a c) (append_nil (take a c)) ∙ take-append-drop a c

-- the bytes of a file's sectors, of which the first are its contents
module _ (whole contents : List ℕ) (at : ℕ) (from : List ℕ) (first : contents ≡ take (length contents) whole) (in_size : length contents ≤ length whole) (room : at + length from ≤ length whole) where
  abbrev size : ℕ
  size = length contents

  abbrev target : List ℕ
  target = laid_bytes whole size at from

  contents_byte : (p : ℕ) → p < size → get_or contents p 0 ≡ get_or whole p 0
  contents_byte p low = ap (λ xs. get_or xs p 0) first ∙ get_or-take size whole p 0 low

  -- all bytes up to a new size
  pub laid_all : (new : ℕ) → new ≡ max size (at + length from) → take new target ≡ put_at (extended contents at) at from
  laid_all new is =
      let all = length-target whole size at from in_size room in
      let ext = length-extended contents at in
      let sized : length (take new target) ≡ new = length-take-le new target (omega arith) in
      let laid = length-laid contents from at in
      same_number_lists (take new target) (put_at (extended contents at) at from) (omega arith) (λ p within.
      get_or-take new target p 0 (omega arith) ∙ target_byte whole size at from in_size room p ∙ ⊎_elim
      (λ low. ⊎_elim
      (λ below.
      laid_before size at from p (get_or whole p 0) low below ∙ sym (contents_byte p below)
      ∙ sym (over_before (extended contents at) from at (omega arith) p low ∙ extended_before contents at p below))
      (λ past. laid_zero size at from p (get_or whole p 0) low past ∙ sym (over_before (extended contents at) from at (omega arith) p low ∙ extended_behind contents at p past))
      (cases_lt p size))
      (λ high. ⊎_elim
      (λ inside. laid_in size at from p (get_or whole p 0) high inside ∙ sym (over_in (extended contents at) from at (omega arith) p high inside))
      (λ behind.
      laid_after size at from p (get_or whole p 0) behind ∙ sym (contents_byte p (omega arith))
      ∙ sym (over_behind (extended contents at) from at (omega arith) p behind ∙ extended_before contents at p (omega arith)))
      (cases_lt p (at + length from)))
      (cases_lt p at))

  -- the contents where only the bytes before a place have been laid
  module _ (now : List ℕ) (q : ℕ) (same : length now ≡ length whole) (laid : (p : ℕ) → p < q → get_or now p 0 ≡ get_or target p 0) (rest : (p : ℕ) → q ≤ p → get_or now p 0 ≡ get_or whole p 0)
      (within : min q size ≤ at + length from) where
    abbrev count : ℕ
    count = min q size - at

    counted : length (take count from) ≡ count
    counted = length-take-le count from (omega arith)

    byte_now : (p : ℕ) → p < size → get_or now p 0 ≡ laid_byte size at (take count from) p (get_or contents p 0)
    byte_now p below =
        let is = counted in
        ⊎_elim
        (λ low.
        before p low below ∙ sym (laid_before size at (take count from) p (get_or contents p 0) low below))
        (λ high. ⊎_elim
        (λ inside.
        laid p (omega arith) ∙ target_byte whole size at from in_size room p ∙ laid_in size at from p (get_or whole p 0) high (omega arith)
        ∙ sym (laid_in size at (take count from) p (get_or contents p 0) high (omega arith) ∙ get_or-take count from (p - at) 0 (omega arith)))
        (λ behind.
        rest p (omega arith) ∙ sym (contents_byte p below) ∙ sym (laid_after size at (take count from) p (get_or contents p 0) (omega arith)))
        (cases_lt p (at + count)))
        (cases_lt p at)
      where
        before : (p : ℕ) → p < at → p < size → get_or now p 0 ≡ get_or contents p 0
        before p low below = ⊎_elim
            (λ early. laid p early ∙ target_byte whole size at from in_size room p ∙ laid_before size at from p (get_or whole p 0) low below ∙ sym (contents_byte p below))
            (λ late. rest p late ∙ sym (contents_byte p below))
            (cases_lt p q)

    pub laid_part : take size now ≡ put_at contents at (take count from)
    laid_part = ⊎_elim short long (cases_lt at size)
      where
        sized : length (take size now) ≡ size
        sized = length-take-le size now (omega arith)

        short : at < size → take size now ≡ put_at contents at (take count from)
        short inside =
            let is = counted in
            let all = sized in
            let put = length-put_at contents (take count from) at (omega arith) in
            same_number_lists (take size now) (put_at contents at (take count from)) (omega arith) (λ p low.
            get_or-take size now p 0 (omega arith) ∙ byte_now p (omega arith) ∙ ⊎_elim
            (λ b. laid_before size at (take count from) p (get_or contents p 0) b (omega arith) ∙ sym (put_before contents (take count from) at (omega arith) p b))
            (λ high. ⊎_elim
            (λ i. laid_in size at (take count from) p (get_or contents p 0) high i ∙ sym (put_in contents (take count from) at (omega arith) p high i))
            (λ a. laid_after size at (take count from) p (get_or contents p 0) a ∙ sym (put_behind contents (take count from) at (omega arith) p a))
            (cases_lt p (at + length (take count from))))
            (cases_lt p at))

        long : size ≤ at → take size now ≡ put_at contents at (take count from)
        long past =
            let none_is : count ≡ 0 = omega arith in
            let all = sized in
            same_number_lists (take size now) contents (omega arith) (λ p low.
            get_or-take size now p 0 (omega arith) ∙ byte_now p (omega arith) ∙ laid_before size at (take count from) p (get_or contents p 0) (omega arith) (omega arith))
            ∙ sym (ap (λ k. put_at contents at (take k from)) none_is ∙ put_none contents at)

-- how many bytes of a write the file has where the sectors before a place have been written
pub front_of_sectors : (size at j : ℕ) (bytes : List ℕ) → 256 * j < at + length bytes → IsWriteFront size at bytes (min (256 * j) size - at)
front_of_sectors size at j bytes unfinished = ⊎_elim
    (λ inside. ⊎_elim
    (λ early.
    let place : at + (min (256 * j) size - at) ≡ 256 * j = omega arith in
    let whole : 256 * j % 256 ≡ 0 = omega arith in
    sector (omega arith) (omega arith) (ap (λ n. n % 256) place ∙ whole))
    (λ late. end (omega arith) (omega arith))
    (cases_lt (256 * j) size))
    (λ past. let nothing : min (256 * j) size - at ≡ 0 = omega arith in subst (IsWriteFront size at bytes) (sym nothing) none)
    (cases_lt at (min (256 * j) size))

-- and where all have been, but not the descriptor
pub front_of_all : (size at : ℕ) (bytes : List ℕ) → size < at + length bytes → IsWriteFront size at bytes (min (at + length bytes) size - at)
front_of_all size at bytes longer = ⊎_elim
    (λ inside. end (omega arith) (omega arith))
    (λ past. let nothing : min (at + length bytes) size - at ≡ 0 = omega arith in subst (IsWriteFront size at bytes) (sym nothing) none)
    (cases_lt at size)
