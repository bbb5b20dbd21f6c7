-- Bytes that are put in the midst of others.
use Rattle.std.proofs.Common.{◌≡◌, ◌≢◌, ℕ, zero, suc, ◌+◌, ◌-◌, ◌*◌, ◌<◌, ◌≤◌, List, [], ◌++◌, length, take, drop, refl, sym, ap, ◌∙◌, ⊎_elim, arith, append_assoc, append-nil, length-append, length-take, length-drop}
use Rattle.std.proofs.lemmas.Bool.{cases_lt, cases_order}
use Rattle.std.proofs.lemmas.List.{take-append-le, take_all, take-take, take_at, drop_at, drop_all, drop-take, drop-drop, drop-append-le, take-append-drop, length-take-le}
use Rattle.std.proofs.Math.Nat.{mul-le-mul_left}
use Rattle.std.proofs.Math.Seq.{take-append-add, drop-append-add}
use Rattle.rbf_model.specs.Fields.{directory_entry}
use Rattle.rbf_model.specs.Writes.{put_at}

-- a directory's bytes of which no entry but the one in place i has changed, come or gone
pub record ChangesEntry (old new : List ℕ) (i : ℕ) : Type 0 where
  pub beside : (j : ℕ) → j ≢ i → directory_entry new j ≡ directory_entry old j
  pub kept : (j : ℕ) → j ≢ i → 32 * (j + 1) ≤ length old → 32 * (j + 1) ≤ length new
  pub no_more : (j : ℕ) → j ≢ i → 32 * (j + 1) ≤ length new → 32 * (j + 1) ≤ length old

-- the front of two lists joined
pub take_append : (n : ℕ) (xs ys : List ℕ) → take n (xs ++ ys) ≡ take n xs ++ take (n - length xs) ys
take_append n xs ys =
    ⊎_elim
    (λ short.
    let none : n - length xs ≡ 0 = omega arith in
    take-append-le n xs ys (omega arith) ∙ sym (append-nil (take n xs)) ∙ ap (λ k. take n xs ++ take k ys) (sym none))
    (λ long.
    let whole : length xs + (n - length xs) ≡ n = omega arith in
    ap (λ k. take k (xs ++ ys)) (sym whole) ∙ take-append-add xs ys (n - length xs) ∙ ap (λ f. f ++ take (n - length xs) ys) (sym (take_all n xs long)))
    (cases_lt n (length xs))

-- what is left of two lists joined, past the first
pub drop_append : (n : ℕ) (xs ys : List ℕ) → length xs ≤ n → drop n (xs ++ ys) ≡ drop (n - length xs) ys
drop_append n xs ys long =
    let whole : length xs + (n - length xs) ≡ n = omega arith in
    ap (λ k. drop k (xs ++ ys)) (sym whole) ∙ drop-append-add xs ys (n - length xs)

pub length-put_at : (contents bytes : List ℕ) (at : ℕ) → at + length bytes ≤ length contents → length (put_at contents at bytes) ≡ length contents
length-put_at contents bytes at fits =
    length-append (take at contents ++ bytes) (drop (at + length bytes) contents)
    ∙ omega (arith, length-append (take at contents) bytes, length-take-le at contents (omega arith), length-drop (at + length bytes) contents)

-- the front of such bytes has the front of the piece
pub take_put_at : (whole bytes : List ℕ) (at size : ℕ) → at ≤ size → size ≤ length whole → at + length bytes ≤ length whole
    → take size (put_at whole at bytes) ≡ put_at (take size whole) at (take (size - at) bytes)
take_put_at whole bytes at size low high fits =
    let front : length (take at whole) ≡ at = length-take-le at whole (omega arith) in
    let piece : length (take at whole ++ bytes) ≡ at + length bytes = length-append (take at whole) bytes ∙ omega arith in
    take_append size (take at whole ++ bytes) (drop (at + length bytes) whole)
    ∙ ap (λ k. take size (take at whole ++ bytes) ++ take (size - k) (drop (at + length bytes) whole)) piece
    ∙ ap (λ f. f ++ take (size - (at + length bytes)) (drop (at + length bytes) whole))
    (take_append size (take at whole) bytes
    ∙ ap (λ k. take size (take at whole) ++ take (size - k) bytes) front
    ∙ ap (λ f. f ++ take (size - at) bytes) (take_all size (take at whole) (omega arith) ∙ sym (take-take at size whole low)))
    ∙ ap (λ b. (take at (take size whole) ++ take (size - at) bytes) ++ b) rest
  where
    rest : take (size - (at + length bytes)) (drop (at + length bytes) whole) ≡ drop (at + length (take (size - at) bytes)) (take size whole)
    rest =
        ⊎_elim
        (λ short.
        let none : size - (at + length bytes) ≡ 0 = omega arith in
        let end : at + length (take (size - at) bytes) ≡ size = omega (arith, length-take (size - at) bytes) in
        ap (λ k. take k (drop (at + length bytes) whole)) none
        ∙ sym (ap (λ k. drop k (take size whole)) end ∙ drop_all size (take size whole) (omega (arith, length-take size whole))))
        (λ long.
        let end : at + length (take (size - at) bytes) ≡ at + length bytes = omega (arith, length-take (size - at) bytes) in
        let split : at + length bytes + (size - (at + length bytes)) ≡ size = omega arith in
        sym (drop-take (at + length bytes) (size - (at + length bytes)) whole) ∙ ap (λ k. drop (at + length bytes) (take k whole)) split
        ∙ ap (λ k. drop k (take size whole)) (sym end))
        (cases_lt size (at + length bytes))

-- two pieces that agree as far as a front goes
pub front_same : (whole one other : List ℕ) (at size : ℕ) → at ≤ length whole → length one ≡ length other → take (size - at) one ≡ take (size - at) other
    → take size (put_at whole at one) ≡ take size (put_at whole at other)
front_same whole one other at size fits same agree =
    split one ∙ ap (λ f. (take size (take at whole) ++ f) ++ take (size - (at + length one)) (drop (at + length one) whole)) agree
    ∙ ap (λ k. (take size (take at whole) ++ take (size - at) other) ++ take (size - (at + k)) (drop (at + k) whole)) same
    ∙ sym (split other)
  where
    front : length (take at whole) ≡ at
    front = length-take-le at whole fits

    split : (bytes : List ℕ) → take size (put_at whole at bytes) ≡ (take size (take at whole) ++ take (size - at) bytes) ++ take (size - (at + length bytes)) (drop (at + length bytes) whole)
    split bytes =
        let piece : length (take at whole ++ bytes) ≡ at + length bytes = length-append (take at whole) bytes ∙ ap (λ k. k + length bytes) front in
        take_append size (take at whole ++ bytes) (drop (at + length bytes) whole)
        ∙ ap (λ k. take size (take at whole ++ bytes) ++ take (size - k) (drop (at + length bytes) whole)) piece
        ∙ ap (λ f. f ++ take (size - (at + length bytes)) (drop (at + length bytes) whole))
        (take_append size (take at whole) bytes ∙ ap (λ k. take size (take at whole) ++ take (size - k) bytes) front)

-- a piece in the second of two lists
pub put_at_append : (xs ys bytes : List ℕ) (at : ℕ) → put_at (xs ++ ys) (length xs + at) bytes ≡ xs ++ put_at ys at bytes
put_at_append xs ys bytes at =
    let further : length xs + at + length bytes ≡ length xs + (at + length bytes) = omega arith in
    ap (λ f. f ++ bytes ++ drop (length xs + at + length bytes) (xs ++ ys)) (take-append-add xs ys at)
    ∙ ap (λ k. (xs ++ take at ys) ++ bytes ++ drop k (xs ++ ys)) further
    ∙ ap (λ b. (xs ++ take at ys) ++ bytes ++ b) (drop-append-add xs ys (at + length bytes))
    ∙ ap (λ f. f ++ drop (at + length bytes) ys) (append_assoc xs (take at ys) bytes)
    ∙ append_assoc xs (take at ys ++ bytes) (drop (at + length bytes) ys)

-- The pieces of a width that a list is cut into.
abbrev pub piece_at : ℕ → List ℕ → ℕ → List ℕ
piece_at w contents i = take w (drop (w * i) contents)

-- a piece that lies in the first of two lists
piece_in_front : (w : ℕ) (front rest : List ℕ) (j : ℕ) → w * (j + 1) ≤ length front → piece_at w (front ++ rest) j ≡ piece_at w front j
piece_in_front w front rest j fits =
    ap (take w) (drop-append-le (w * j) front rest (omega arith))
    ∙ take-append-le w (drop (w * j) front) rest (omega (arith, length-drop (w * j) front))

piece_past : (w : ℕ) (contents : List ℕ) (j : ℕ) → length contents ≤ w * j → piece_at w contents j ≡ []
piece_past w contents j past = ap (take w) (drop_all (w * j) contents past) ∙ take_nil w
  where
    take_nil : (k : ℕ) → take {A = ℕ} k [] ≡ []
    take_nil zero = refl
    take_nil (suc k) = refl

-- a list of which one piece is another
module _ (w : ℕ) (contents piece : List ℕ) (i : ℕ) (whole : length piece ≡ w) (fits : w * (i + 1) ≤ length contents) where
  front_length : length (take (w * i) contents) ≡ w * i
  front_length = length-take-le (w * i) contents (omega arith)

  pub length_piece : length (put_at contents (w * i) piece) ≡ length contents
  length_piece = length-put_at contents piece (w * i) (omega arith)

  pub piece_put : piece_at w (put_at contents (w * i) piece) i ≡ piece
  piece_put =
      ap (λ c. take w (drop (w * i) c)) (append_assoc (take (w * i) contents) piece (drop (w * i + length piece) contents))
      ∙ ap (take w) (drop_at (take (w * i) contents) (piece ++ drop (w * i + length piece) contents) (w * i) front_length)
      ∙ take_at piece (drop (w * i + length piece) contents) w whole

  pub piece_before : (j : ℕ) → j < i → piece_at w (put_at contents (w * i) piece) j ≡ piece_at w contents j
  piece_before j low =
      let place : w * (j + 1) ≤ w * i = mul-le-mul_left w (omega arith) in
      ap (λ c. piece_at w c j) (append_assoc (take (w * i) contents) piece (drop (w * i + length piece) contents))
      ∙ piece_in_front w (take (w * i) contents) (piece ++ drop (w * i + length piece) contents) j (omega (arith, front_length))
      ∙ sym (piece_in_front w (take (w * i) contents) (drop (w * i) contents) j (omega (arith, front_length)))
      ∙ ap (λ c. piece_at w c j) (take-append-drop (w * i) contents)

  -- what is left of the list past the piece
  pub drop_past_piece : (n : ℕ) → w * i + w ≤ n → drop n (put_at contents (w * i) piece) ≡ drop n contents
  drop_past_piece n past =
      let front : length (take (w * i) contents ++ piece) ≡ w * i + w = length-append (take (w * i) contents) piece ∙ omega (arith, front_length) in
      let there : w * i + length piece + (n - length (take (w * i) contents ++ piece)) ≡ n = omega arith in
      drop_append n (take (w * i) contents ++ piece) (drop (w * i + length piece) contents) (omega arith)
      ∙ drop-drop (n - length (take (w * i) contents ++ piece)) (w * i + length piece) contents ∙ ap (λ k. drop k contents) there

  pub piece_behind : (j : ℕ) → i < j → piece_at w (put_at contents (w * i) piece) j ≡ piece_at w contents j
  piece_behind j high =
      let place : w * (i + 1) ≤ w * j = mul-le-mul_left w (omega arith) in
      ap (take w) (drop_past_piece (w * j) (omega arith))

  pub piece_beside : (j : ℕ) → j ≢ i → piece_at w (put_at contents (w * i) piece) j ≡ piece_at w contents j
  piece_beside j differ =
      ⊎_elim (λ same. absurd (differ same)) (λ apart. ⊎_elim (λ low. piece_before j low) (λ high. piece_behind j high) apart) (cases_order j i)

module _ (contents entry : List ℕ) (i : ℕ) (whole : length entry ≡ 32) (fits : 32 * (i + 1) ≤ length contents) where
  -- the entry that was put
  pub entry_put : directory_entry (put_at contents (32 * i) entry) i ≡ entry
  entry_put = piece_put 32 contents entry i whole fits

  -- no other entry has changed
  pub changes_put : ChangesEntry contents (put_at contents (32 * i) entry) i
  changes_put = record {
    beside = λ j differ. piece_beside 32 contents entry i whole fits j differ;
    kept = λ j differ h. omega (arith, length_piece 32 contents entry i whole fits);
    no_more = λ j differ h. omega (arith, length_piece 32 contents entry i whole fits);
  }

module _ (contents entry : List ℕ) (i : ℕ) (whole : length entry ≡ 32) (end : length contents ≡ 32 * i) where
  -- the entry that was added at the end
  pub entry_added : directory_entry (contents ++ entry) i ≡ entry
  entry_added = ap (take 32) (drop_at contents entry (32 * i) end) ∙ take_all 32 entry (omega arith)

  pub changes_added : ChangesEntry contents (contents ++ entry) i
  changes_added = record {
    beside = λ j differ.
        ⊎_elim (λ same. absurd (differ same))
        (λ apart. ⊎_elim
        (λ low. piece_in_front 32 contents entry j (omega arith))
        (λ high. piece_past 32 (contents ++ entry) j (omega (arith, length-append contents entry)) ∙ sym (piece_past 32 contents j (omega arith)))
        apart)
        (cases_order j i);
    kept = λ j differ h. omega (arith, length-append contents entry);
    no_more = λ j differ h. omega (arith, length-append contents entry);
  }
