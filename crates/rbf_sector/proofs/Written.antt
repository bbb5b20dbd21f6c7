-- What a write to a part of a sector leaves.
use Rattle.std.proofs.Common.{◌≡◌, ◌⊎◌, ℕ, ◌+◌, ◌-◌, ◌*◌, ◌^◌, ◌<◌, ◌≤◌, zero, suc, List, [], ◌∷◌, ◌++◌, length, take, drop, get_or, set, length-set, get_or-set_other, slice_index, refl, sym, ap, ap₂, ◌∙◌, inl, inr, arith, append_assoc, length-append, length-drop, length-take, length-take-le, subst}
use borrow.Rule.Slice.PartMut.{put_mid}
use Rattle.std.proofs.lemmas.List.{take_rest, drop-drop, drop_all, get_or_append_left, get_or-append_right, get_or-take, get_or-drop, take_at, drop_at}
use Rattle.std.proofs.lemmas.Grind.{same_number_lists}
use Rattle.byteorder.specs.Endian.{big_from, big_bytes}
use Rattle.rbf_model.specs.Writes.{put_at}
use Rattle.rbf_model.proofs.Pieces.{length-put_at}
use Rattle.rbf_sector.specs.Parts.{KeepsBeside, PutsNumber}

append_nil : (xs : List ℕ) → xs ++ [] ≡ xs
append_nil [] = refl
append_nil (x ∷ xs) = ap (λ r. x ∷ r) (append_nil xs)

-- a number reads the bytes from its place on
big_from-kept : (i n : ℕ) (xs ys : List ℕ) → ((k : ℕ) → i ≤ k → k < i + n → slice_index xs k ≡ slice_index ys k) → big_from i n xs ≡ big_from i n ys
big_from-kept i zero xs ys same = refl
big_from-kept i (suc n) xs ys same =
    ap₂ (λ x rest. x * 256 ^ n + rest) (same i (omega arith) (omega arith)) (big_from-kept (suc i) n xs ys (λ k from below. same k (omega arith) (omega arith)))

-- bytes in front move the places on
pub big_from-behind : (i n m : ℕ) (front xs : List ℕ) → length front + i ≡ m → big_from m n (front ++ xs) ≡ big_from i n xs
big_from-behind i zero m front xs place = refl
big_from-behind i (suc n) m front xs place =
    let here : get_or (front ++ xs) m 0 ≡ get_or xs i 0 = get_or-append_right front xs (length front) m 0 refl (omega arith) ∙ ap (λ k. get_or xs k 0) (omega arith) in
    ap₂ (λ x rest. x * 256 ^ n + rest) here (big_from-behind (suc i) n (suc m) front xs (omega arith))

pub big_from-drop : (i n at : ℕ) (xs : List ℕ) → big_from i n (drop at xs) ≡ big_from (at + i) n xs
big_from-drop i zero at xs = refl
big_from-drop i (suc n) at xs =
    let next : at + suc i ≡ suc (at + i) = omega arith in
    ap₂ (λ x rest. x * 256 ^ n + rest) (get_or-drop at xs i 0) (big_from-drop (suc i) n at xs ∙ ap (λ m. big_from m n xs) next)

pub number_kept : (old new : List ℕ) (at count i n : ℕ) → KeepsBeside old new at count → (i + n ≤ at) ⊎ (at + count ≤ i) → big_from i n new ≡ big_from i n old
number_kept old new at count i n beside (inl before) =
    big_from-kept i n new old (λ k from below. beside.before k (omega arith))
number_kept old new at count i n beside (inr behind) =
    big_from-kept i n new old (λ k from below. beside.behind k (omega arith))

pub byte_kept : (old new : List ℕ) (at count i : ℕ) → KeepsBeside old new at count → (i + 1 ≤ at) ⊎ (at + count ≤ i) → slice_index new i ≡ slice_index old i
byte_kept old new at count i beside (inl before) = beside.before i (omega arith)
byte_kept old new at count i beside (inr behind) = beside.behind i behind

pub bytes_kept : (old new : List ℕ) (at count i n : ℕ) → KeepsBeside old new at count → (i + n ≤ at) ⊎ (at + count ≤ i) → take n (drop i new) ≡ take n (drop i old)
bytes_kept old new at count i n beside apart =
    let same = beside.same_length in
    same_number_lists (take n (drop i new)) (take n (drop i old)) (omega (arith, length-take n (drop i new), length-take n (drop i old), length-drop i new, length-drop i old)) (λ k below.
    let shorter = length-take n (drop i new) in
    get_or-take n (drop i new) k 0 (omega arith) ∙ get_or-drop i new k 0 ∙ byte_kept old new at count (i + k) beside
    (elim apart [ inl before ↦ inl (omega arith) | inr behind ↦ inr (omega arith) ]) ∙ sym (get_or-drop i old k 0)
    ∙ sym (get_or-take n (drop i old) k 0 (omega arith)))

-- one byte is written
pub set_beside : (xs : List ℕ) (at byte : ℕ) → KeepsBeside xs (set xs at byte) at 1
set_beside xs at byte = record {
  same_length = length-set xs at byte;
  before = λ i below. get_or-set_other xs at i byte 0 (λ e. absurd (omega arith));
  behind = λ i past. get_or-set_other xs at i byte 0 (λ e. absurd (omega arith));
}

-- bytes are written: they are there, and those beside them are kept
pub puts_there : (old new bytes : List ℕ) (at : ℕ) → at ≤ length old → new ≡ put_at old at bytes → take (length bytes) (drop at new) ≡ bytes
puts_there old new bytes at fits is =
    let behind = drop (at + length bytes) old in
    let joined : put_at old at bytes ≡ take at old ++ (bytes ++ behind) = simp append_assoc in
    ap (λ b. take (length bytes) (drop at b)) (is ∙ joined)
    ∙ ap (take (length bytes)) (drop_at (take at old) (bytes ++ behind) at (omega (arith, length-take at old)))
    ∙ take_at bytes behind (length bytes) refl

puts_keeps : (old bytes : List ℕ) (at : ℕ) → at + length bytes ≤ length old → KeepsBeside old (put_at old at bytes) at (length bytes)
puts_keeps old bytes at fits =
    let first : length (take at old) ≡ at = omega (arith, length-take at old) in
    let both : length (take at old ++ bytes) ≡ at + length bytes = omega (arith, length-append (take at old) bytes) in
    record {
      same_length = length-put_at old bytes at fits;
      before = λ i low.
          get_or_append_left (take at old ++ bytes) (drop (at + length bytes) old) 0 i (omega arith) ∙ get_or_append_left (take at old) bytes 0 i (omega arith) ∙ get_or-take at old i 0 low;
      behind = λ i past.
          let place : at + length bytes + (i - (at + length bytes)) ≡ i = omega arith in
          get_or-append_right (take at old ++ bytes) (drop (at + length bytes) old) (at + length bytes) i 0 both past
          ∙ get_or-drop (at + length bytes) old (i - (at + length bytes)) 0 ∙ ap (λ k. get_or old k 0) place;
    }

pub puts_beside : (old new bytes : List ℕ) (at : ℕ) → at + length bytes ≤ length old → new ≡ put_at old at bytes → KeepsBeside old new at (length bytes)
puts_beside old new bytes at fits is =
    subst (λ now. KeepsBeside old now at (length bytes)) (sym is) (puts_keeps old bytes at fits)

-- a number of n bytes, as it is written
length-big_bytes : (n x : ℕ) → length (big_bytes n x) ≡ n
length-big_bytes zero x = refl
length-big_bytes (suc n) x = let e = length-big_bytes n x in omega (arith, e)

pub puts_number : (xs new : List ℕ) (at n value : ℕ) → at + n ≤ length xs
    → big_from 0 n (big_bytes n value ++ drop (at + n) xs) ≡ value → new ≡ big_bytes n value ++ drop n
    (take (length xs - at) (drop at xs)) → PutsNumber xs (put_mid at (length xs - at) xs new) at n value
puts_number xs new at n value within reads_back written =
    let bytes = big_bytes n value in
    let front = take at xs in
    let behind = drop (at + n) xs in
    let now : new ≡ bytes ++ behind = written ∙ ap (λ r. bytes ++ drop n r) (take_rest xs at) ∙ ap (λ r. bytes ++ r) (drop-drop n at xs) in
    let none : drop (length xs - at) (drop at xs) ≡ [] = drop_all (length xs - at) (drop at xs) (omega (arith, length-drop at xs)) in
    let all : put_mid at (length xs - at) xs new ≡ front ++ (bytes ++ behind) = ap (λ r. front ++ (new ++ r)) none ∙ ap (λ r. front ++ r) (append_nil new ∙ now) in
    let front_length : length front ≡ at = length-take-le at xs (omega arith) in
    let bytes_length : length bytes ≡ n = length-big_bytes n value in
    let P : List ℕ → Type 0 = λ r. PutsNumber xs r at n value in
    subst P (sym all) (record {
      number = big_from-behind 0 n at front (bytes ++ behind) (omega arith) ∙ reads_back;
      beside = record {
        same_length = omega (arith, length-append front (bytes ++ behind), length-append bytes behind, length-drop (at + n) xs);
        before = λ i below. get_or_append_left front (bytes ++ behind) 0 i (omega arith) ∙ get_or-take at xs i 0 below;
        behind = λ i past.
            let rest : at + n + (i - at - n) ≡ i = omega arith in
            get_or-append_right front (bytes ++ behind) at i 0 front_length (omega arith) ∙ get_or-append_right bytes
            behind n (i - at) 0 bytes_length (omega arith) ∙ get_or-drop (at + n) xs (i - at - n) 0 ∙ ap
            (λ k. get_or xs k 0) rest;
      };
    })

-- what is written reads back
pub two_back : (x : ℕ) (rest : List ℕ) → x < 65536 → big_from 0 2 (big_bytes 2 x ++ rest) ≡ x
two_back x rest fits = omega arith

pub three_back : (x : ℕ) (rest : List ℕ) → x < 16777216 → big_from 0 3 (big_bytes 3 x ++ rest) ≡ x
three_back x rest fits = omega arith

pub four_back : (x : ℕ) (rest : List ℕ) → x < 4294967296 → big_from 0 4 (big_bytes 4 x ++ rest) ≡ x
four_back x rest fits = omega arith
