-- The bytes of a file that are laid over, place by place.
use Rattle.std.proofs.Common.{◌≡◌, ℕ, ◌+◌, ◌-◌, ◌*◌, ◌<◌, ◌≤◌, min, zero, suc, false, List, ◌++◌, length, take, drop, get_or, refl, sym, ap, ◌∙◌, ⊎_elim, arith, slice_index, le-leb, length-drop, length-append}
use Rattle.std.specs.Prelude.{if◌then◌else◌, nat_le, nat_lt, replicate}
use Rattle.std.proofs.lemmas.Bool.{cases_lt, false_from_ne_true, ltb-true, lt-ltb}
use Rattle.std.proofs.Common.{leb-true}
use Rattle.std.proofs.lemmas.List.{get_or_append_left, get_or-append_right, get_or-take, get_or-drop, length-take-le}
use Rattle.std.proofs.lemmas.Grind.{same_number_lists}
use Rattle.rbf_model.specs.Writes.{put_at}
use Rattle.rbf_model.proofs.Pieces.{length-put_at}
use Rattle.rbf_write.specs.Laid.{laid_byte, laid_bytes, laid_front}

not_le : (a b : ℕ) → b < a → nat_le a b ≡ false
not_le a b low = false_from_ne_true (nat_le a b) (λ h. let is = leb-true a b h in absurd (omega arith))

not_lt : (a b : ℕ) → b ≤ a → nat_lt a b ≡ false
not_lt a b low = false_from_ne_true (nat_lt a b) (λ h. let is = ltb-true a b h in absurd (omega arith))

module _ (size at : ℕ) (from : List ℕ) (p old : ℕ) where
  pub laid_in : at ≤ p → p < at + length from → laid_byte size at from p old ≡ get_or from (p - at) 0
  laid_in low high =
      ap (λ t. if t then (if nat_lt (p - at) (length from) then slice_index from (p - at) else old) else (if nat_le size p then 0 else old)) (le-leb at p low)
      ∙ ap (λ t. if t then slice_index from (p - at) else old) (lt-ltb (p - at) (length from) (omega arith))

  pub laid_after : at + length from ≤ p → laid_byte size at from p old ≡ old
  laid_after high =
      ap (λ t. if t then (if nat_lt (p - at) (length from) then slice_index from (p - at) else old) else (if nat_le size p then 0 else old)) (le-leb at p (omega arith))
      ∙ ap (λ t. if t then slice_index from (p - at) else old) (not_lt (p - at) (length from) (omega arith))

  pub laid_zero : p < at → size ≤ p → laid_byte size at from p old ≡ 0
  laid_zero low high =
      ap (λ t. if t then (if nat_lt (p - at) (length from) then slice_index from (p - at) else old) else (if nat_le size p then 0 else old)) (not_le at p low)
      ∙ ap (λ t. if t then 0 else old) (le-leb size p high)

  pub laid_before : p < at → p < size → laid_byte size at from p old ≡ old
  laid_before low below =
      ap (λ t. if t then (if nat_lt (p - at) (length from) then slice_index from (p - at) else old) else (if nat_le size p then 0 else old)) (not_le at p low)
      ∙ ap (λ t. if t then 0 else old) (not_le size p below)

-- a byte of a list of which a part is another
module _ (c b : List ℕ) (a : ℕ) (fits : a + length b ≤ length c) (p : ℕ) where
  front : length (take a c) ≡ a
  front = length-take-le a c (omega arith)

  both : length (take a c ++ b) ≡ a + length b
  both = length-append (take a c) b ∙ ap (λ n. n + length b) front

  pub put_before : p < a → get_or (put_at c a b) p 0 ≡ get_or c p 0
  put_before low =
      get_or_append_left (take a c ++ b) (drop (a + length b) c) 0 p (let f = both in omega arith) ∙ get_or_append_left (take a c) b 0 p (let f = front in omega arith) ∙ get_or-take a c p 0 low

  pub put_in : a ≤ p → p < a + length b → get_or (put_at c a b) p 0 ≡ get_or b (p - a) 0
  put_in low high = get_or_append_left (take a c ++ b) (drop (a + length b) c) 0 p (let f = both in omega arith) ∙ get_or-append_right (take a c) b a p 0 front low

  pub put_behind : a + length b ≤ p → get_or (put_at c a b) p 0 ≡ get_or c p 0
  put_behind high =
      let place : a + length b + (p - (a + length b)) ≡ p = omega arith in
      get_or-append_right (take a c ++ b) (drop (a + length b) c) (a + length b) p 0 both high
      ∙ get_or-drop (a + length b) c (p - (a + length b)) 0 ∙ ap (λ k. get_or c k 0) place

abbrev pub zeros : ℕ → List ℕ
zeros n = replicate n 0

pub zeros_are : (n i : ℕ) → get_or (zeros n) i 0 ≡ 0
zeros_are zero i = refl
zeros_are (suc n) zero = refl
zeros_are (suc n) (suc i) = zeros_are n i

length-zeros : (n : ℕ) → length (zeros n) ≡ n
length-zeros zero = refl
length-zeros (suc n) = ap (λ k. suc k) (length-zeros n)

module _ (whole : List ℕ) (size at : ℕ) (from : List ℕ) (in_size : size ≤ length whole) (room : at + length from ≤ length whole) where
  abbrev zeroed : List ℕ
  zeroed = put_at whole size (zeros (at - size))

  abbrev target : List ℕ
  target = laid_bytes whole size at from

  zeros_fit : size + length (zeros (at - size)) ≤ length whole
  zeros_fit = let n = length-zeros (at - size) in omega arith

  length-zeroed : length zeroed ≡ length whole
  length-zeroed = length-put_at whole (zeros (at - size)) size zeros_fit

  pub length-target : length target ≡ length whole
  length-target = length-put_at zeroed from at (let same = length-zeroed in omega arith) ∙ length-zeroed

  from_fits : at + length from ≤ length zeroed
  from_fits = let same = length-zeroed in omega arith

  pub target_byte : (p : ℕ) → get_or target p 0 ≡ laid_byte size at from p (get_or whole p 0)
  target_byte p = ⊎_elim
      (λ low. put_before zeroed from at from_fits p low ∙ ⊎_elim
      (λ below. put_before whole (zeros (at - size)) size zeros_fit p below ∙ sym (laid_before size at from p (get_or whole p 0) low below))
      (λ past.
      put_in whole (zeros (at - size)) size zeros_fit p past (let n = length-zeros (at - size) in omega arith) ∙ zeros_are (at - size) (p - size)
      ∙ sym (laid_zero size at from p (get_or whole p 0) low past))
      (cases_lt p size))
      (λ high. ⊎_elim
      (λ inside. put_in zeroed from at from_fits p high inside ∙ sym (laid_in size at from p (get_or whole p 0) high inside))
      (λ behind.
      put_behind zeroed from at from_fits p behind
      ∙ put_behind_zeros p high
      ∙ sym (laid_after size at from p (get_or whole p 0) behind))
      (cases_lt p (at + length from)))
      (cases_lt p at)
    where
      put_behind_zeros : (q : ℕ) → at ≤ q → get_or zeroed q 0 ≡ get_or whole q 0
      put_behind_zeros q high = ⊎_elim
          (λ below. put_before whole (zeros (at - size)) size zeros_fit q below)
          (λ past. put_behind whole (zeros (at - size)) size zeros_fit q (let n = length-zeros (at - size) in omega arith))
          (cases_lt q size)

  -- a byte where the sectors before a place have been written
  module _ (j : ℕ) (in_whole : 256 * j ≤ length whole) (p : ℕ) where
    part : length (take (256 * j) target) ≡ 256 * j
    part = length-take-le (256 * j) target (let same = length-target in omega arith)

    pub front_byte : p < 256 * j → get_or (laid_front target whole j) p 0 ≡ get_or target p 0
    front_byte low = get_or_append_left (take (256 * j) target) (drop (256 * j) whole) 0 p (let l = part in omega arith) ∙ get_or-take (256 * j) target p 0 low

    pub rest_byte : 256 * j ≤ p → get_or (laid_front target whole j) p 0 ≡ get_or whole p 0
    rest_byte high =
        let place : 256 * j + (p - 256 * j) ≡ p = omega arith in
        get_or-append_right (take (256 * j) target) (drop (256 * j) whole) (256 * j) p 0 part high ∙ get_or-drop (256 * j) whole (p - 256 * j) 0 ∙ ap (λ k. get_or whole k 0) place

  pub length-front : (j : ℕ) → 256 * j ≤ length whole → length (laid_front target whole j) ≡ length whole
  length-front j fits =
      let l = length-take-le (256 * j) target (let same = length-target in omega arith) in
      length-append (take (256 * j) target) (drop (256 * j) whole) ∙ (let d = length-drop (256 * j) whole in omega arith)

  -- before the first sector nothing is laid, and behind the last nothing more
  pub front_first : (j : ℕ) → 256 * j ≤ length whole → 256 * j ≤ min size at → laid_front target whole j ≡ whole
  front_first j fits low = same_number_lists (laid_front target whole j) whole (length-front j fits) (λ p within. ⊎_elim
      (λ below. front_byte j fits p below ∙ target_byte p ∙ laid_before size at from p (get_or whole p 0) (omega arith) (omega arith))
      (λ past. rest_byte j fits p past)
      (cases_lt p (256 * j)))

  pub front_all : (j : ℕ) → 256 * j ≤ length whole → at + length from ≤ 256 * j → laid_front target whole j ≡ target
  front_all j fits high = same_number_lists (laid_front target whole j) target (length-front j fits ∙ sym length-target) (λ p within. ⊎_elim
      (λ below. front_byte j fits p below)
      (λ past. rest_byte j fits p past ∙ sym (target_byte p ∙ laid_after size at from p (get_or whole p 0) (omega arith)))
      (cases_lt p (256 * j)))

  -- one sector more
  pub front_more : (j : ℕ) (piece : List ℕ) → 256 * (j + 1) ≤ length whole → length piece ≡ 256
      → ((q : ℕ) → q < 256 → get_or piece q 0 ≡ laid_byte size at from (256 * j + q) (get_or whole (256 * j + q) 0))
      → put_at (laid_front target whole j) (256 * j) piece ≡ laid_front target whole (j + 1)
  front_more j piece fits size_is each =
      let all = length-front j (omega arith) in
      let room_there : 256 * j + length piece ≤ length (laid_front target whole j) = omega arith in
      same_number_lists (put_at (laid_front target whole j) (256 * j) piece) (laid_front target whole (j + 1))
      (length-put_at (laid_front target whole j) piece (256 * j) room_there ∙ all ∙ sym (length-front (j + 1) fits))
      (λ p within. ⊎_elim
      (λ low.
      put_before (laid_front target whole j) piece (256 * j) room_there p low ∙ front_byte j (omega arith) p low ∙ sym (front_byte (j + 1) fits p (omega arith)))
      (λ high. ⊎_elim
      (λ inside.
      let place : 256 * j + (p - 256 * j) ≡ p = omega arith in
      put_in (laid_front target whole j) piece (256 * j) room_there p high (omega arith) ∙ each (p - 256 * j) (omega arith)
      ∙ ap (λ k. laid_byte size at from k (get_or whole k 0)) place ∙ sym (target_byte p) ∙ sym (front_byte (j + 1) fits p (omega arith)))
      (λ behind.
      put_behind (laid_front target whole j) piece (256 * j) room_there p (omega arith) ∙ rest_byte j (omega arith) p (omega arith) ∙ sym (rest_byte (j + 1) fits p (omega arith)))
      (cases_lt p (256 * (j + 1))))
      (cases_lt p (256 * j)))
