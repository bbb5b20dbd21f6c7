-- Lines that are read piece by piece into the front of a buffer.
use Rattle.std.proofs.Common.{◌≡◌, ◌≢◌, ℕ, zero, suc, ◌+◌, ◌-◌, ◌<◌, ◌≤◌, ◌==◌, nat_lt, Bool, Option, Some, None, List, [], ◌∷◌, ◌++◌, length, get_or, take, drop, slice_get, refl, ap, ◌∙◌, append_assoc, sym, subst, true, false, inl, inr, arith, length-drop}
use borrow.Rule.Slice.PartMut.{put_mid}
use Rattle.std.specs.Prelude.{option_map, is_some, if◌then◌else◌}
use Rattle.std.specs.List.{position, position_or_len}
use Rattle.std.specs.Option.{option_map_or}
use Rattle.std.proofs.lemmas.List.{append-nil, length-append, length-take-le, take_more}
use Rattle.std.proofs.lemmas.List.Quantifiers.{position-Some}
use Rattle.std.proofs.lemmas.List.Sums.{fails_before_first}
use Rattle.std.proofs.lemmas.Option.{none-some, slice_get-get_or}
use Rattle.std.proofs.lemmas.Bool.{cases_lt, cond-true, ne_eqb, eqb-false, lt-ltb, false≢true}
use Rattle.os9_base.specs.Cells.{Cells, HoldsBytes}
use Rattle.os9_base.specs.UserNames.{user_cell}
use Rattle.os9_base.specs.UserLines.{line_at}
use Rattle.guest_memory.specs.Pieces.{IsPiece}

line_at-unnamed : (cells : Cells) (at most : ℕ) → user_cell cells at ≡ None → line_at cells at (suc most) ≡ None
line_at-unnamed cells at most is = rw is refl

line_at-named : (cells : Cells) (at most byte : ℕ) → user_cell cells at ≡ Some byte → line_at cells at (suc most) ≡
    (if byte == 13 then Some (byte ∷ []) else option_map (λ line. byte ∷ line) (line_at cells (at + 1) most))
line_at-named cells at most byte is = rw is refl

-- bytes before others, and others before these
longer : (one two : List ℕ) (rest : Option (List ℕ)) → option_map (λ line. one ++ line) (option_map (λ line. two ++ line) rest) ≡ option_map (λ line. (one ++ two) ++ line) rest
longer one two None = refl
longer one two (Some line) = rw append_assoc refl

-- the bytes of a range that is read are the cells there
user_cell-held : (cells : Cells) (at byte : ℕ) (bytes : List ℕ) → at + length (byte ∷ bytes) ≤ 65536 → HoldsBytes cells at (byte ∷ bytes) → user_cell cells at ≡ Some byte
user_cell-held cells at byte bytes fits holds =
    cond-true (nat_lt at 65536) (cells at) None (lt-ltb at 65536 (omega arith))
    ∙ subst (λ (n : ℕ). cells n ≡ Some byte) (let e : at + 0 ≡ at = omega arith in e) (holds 0 (omega arith))

user_cell-in : (cells : Cells) (at : ℕ) (bytes : List ℕ) (place : ℕ) → at + length bytes ≤ 65536
    → place < length bytes → HoldsBytes cells at bytes → user_cell cells (at + place) ≡ Some (get_or bytes place 0)
user_cell-in cells at bytes place fits within holds =
    cond-true (nat_lt (at + place) 65536) (cells (at + place)) None (lt-ltb (at + place) 65536 (omega arith))
    ∙ holds place within ∙ slice_get-get_or bytes place 0 within

held-behind : (cells : Cells) (at byte : ℕ) (bytes : List ℕ) → HoldsBytes cells at (byte ∷ bytes) → HoldsBytes cells (at + 1) bytes
held-behind cells at byte bytes holds k within =
    subst (λ (n : ℕ). cells n ≡ slice_get bytes k) (let e : at + suc k ≡ (at + 1) + k = omega arith in e) (holds (suc k) (omega arith))

-- a line that begins with so many bytes that are no carriage return
line-through : (cells : Cells) (at most count : ℕ) (piece : List ℕ) → HoldsBytes cells at piece → at + length piece ≤ 65536
    → count ≤ length piece → count ≤ most → ((k : ℕ) → k < count → get_or piece k 0 ≢ 13)
    → line_at cells at most ≡ option_map (λ rest. take count piece ++ rest) (line_at cells (at + count) (most - count))
line-through cells at most zero piece holds fits inside few none =
    let e : at + 0 ≡ at = omega arith in
    let f : most - 0 ≡ most = omega arith in
    by_line (line_at cells at most) ∙ sym (λ i. option_map (λ (rest : List ℕ). rest) (line_at cells (e i) (f i)))
  where
    by_line : (line : Option (List ℕ)) → line ≡ option_map (λ (rest : List ℕ). rest) line
    by_line None = refl
    by_line (Some line) = refl
line-through cells at most (suc count) [] holds fits inside few none = absurd (omega arith)
line-through cells at zero (suc count) (byte ∷ piece) holds fits inside few none = absurd (omega arith)
line-through cells at (suc most) (suc count) (byte ∷ piece) holds fits inside few none =
    let other : (byte == 13) ≡ false = ne_eqb byte 13 (none 0 (omega arith)) in
    let here : line_at cells at (suc most) ≡ option_map (λ line. byte ∷ line) (line_at cells (at + 1) most) =
    line_at-named cells at most byte (user_cell-held cells at byte piece fits holds) ∙ rw other refl in
    let rest : line_at cells (at + 1) most ≡ option_map (λ line. take count piece ++ line)
    (line_at cells ((at + 1) + count) (most - count)) = line-through cells (at + 1) most count piece
    (held-behind cells at byte piece holds) (omega arith) (omega arith) (omega arith)
    (λ k within. none (suc k) (omega arith)) in
    let e : (at + 1) + count ≡ at + suc count = omega arith in
    let f : most - count ≡ suc most - suc count = omega arith in
    here ∙ ap (option_map (λ line. byte ∷ line)) rest ∙ longer (byte ∷ []) (take count piece) (line_at cells ((at + 1) + count) (most - count))
    ∙ (λ i. option_map (λ line. (byte ∷ take count piece) ++ line) (line_at cells (e i) (f i)))

-- a line whose first bytes were read into the front of a buffer goes on behind them
abbrev pub IsReadTo : Cells → ℕ → ℕ → ℕ → List ℕ → Type 0
IsReadTo cells at most count into =
    line_at cells at most ≡ option_map (λ rest. take count into ++ rest) (line_at cells (at + count) (most - count))

-- nothing is read yet
pub IsReadTo-none : (cells : Cells) (at most : ℕ) (into : List ℕ) → IsReadTo cells at most 0 into
IsReadTo-none cells at most into =
    let e : at + 0 ≡ at = omega arith in
    let f : most - 0 ≡ most = omega arith in
    by_line (line_at cells at most) ∙ sym (λ i. option_map (λ (rest : List ℕ). rest) (line_at cells (e i) (f i)))
  where
    by_line : (line : Option (List ℕ)) → line ≡ option_map (λ (rest : List ℕ). rest) line
    by_line None = refl
    by_line (Some line) = refl

-- all is read
pub IsReadTo-all : (cells : Cells) (at most count : ℕ) (into : List ℕ) → count ≡ most → IsReadTo cells at most count into → line_at cells at most ≡ Some (take most into)
IsReadTo-all cells at most count into all so_far =
    let nothing : most - count ≡ 0 = omega arith in
    let end : line_at cells (at + count) (most - count) ≡ Some [] = rw nothing refl in
    so_far ∙ ap (option_map (λ rest. take count into ++ rest)) end ∙ ap Some (append-nil (take count into) ∙ ap (λ n. take n into) all)

-- a buffer of which a part was written has as many places as before
pub put-room : (first count : ℕ) (into new : List ℕ) → first + count ≤ length into → length new ≡ count → length (put_mid first count into new) ≡ length into
put-room first count into new within same =
    let rest : List ℕ = drop count (drop first into) in
    omega (arith, length-append (take first into) (new ++ rest), length-append new rest, length-take-le first into (omega arith), length-drop count (drop first into), length-drop first into)

-- no byte of a list passes
none-passes : (p : ℕ → Bool) (xs : List ℕ) → position p xs ≡ None → (k : ℕ) → k < length xs → p (get_or xs k 0) ≡ false
none-passes p xs none k within =
    elim (cases_lt (position_or_len p xs) (length xs)) [
      | inl first ↦ absurd (none-some (position_or_len p xs)
          (sym none ∙ cond-true (nat_lt (position_or_len p xs) (length xs)) (Some (position_or_len p xs)) None
          (lt-ltb (position_or_len p xs) (length xs) first)))
      | inr past ↦ fails_before_first p xs k 0 (omega arith)
    ]

module _ (cells : Cells) (at most count : ℕ) (into : List ℕ) (left : count < most) (so_far : IsReadTo cells at most count into) where
  -- a byte that may not be used
  pub line-unnamed : user_cell cells (at + count) ≡ None → line_at cells at most ≡ None
  line-unnamed is =
      let still : most - count ≡ suc (most - (count + 1)) = omega arith in
      so_far ∙ ap (λ n. option_map (λ rest. take count into ++ rest) (line_at cells (at + count) n)) still
      ∙ ap (option_map (λ rest. take count into ++ rest)) (line_at-unnamed cells (at + count) (most - (count + 1)) is)

  module _ (bytes : List ℕ) (piece : IsPiece cells (at + count) (most - count) bytes) (now : List ℕ) where
    -- a carriage return ends the line
    pub line-ends : (place : ℕ) → position (λ byte. byte == 13) bytes ≡ Some place → take (count + (place + 1)) now ≡
        take count into ++ take (place + 1) bytes → line_at cells at most ≡ Some (take (count + (place + 1)) now)
    line-ends place found is =
        let first = position-Some (λ byte. byte == 13) bytes place 0 found in
        let through = line-through cells (at + count) (most - count) place bytes piece.holds piece.fits
        (omega (arith, first.0)) (omega (arith, first.0, piece.few)) (λ k within. eqb-false (get_or bytes k 0) 13
        (first.2 k within)) in
        let still : (most - count) - place ≡ suc (most - (count + (place + 1))) = omega (arith, first.0, piece.few) in
        let here : line_at cells ((at + count) + place) (suc (most - (count + (place + 1)))) ≡ Some (get_or bytes place 0 ∷ []) =
        line_at-named cells ((at + count) + place) (most - (count + (place + 1))) (get_or bytes place 0)
        (user_cell-in cells (at + count) bytes place piece.fits first.0 piece.holds) ∙ rw first.1 refl in
        so_far
        ∙ ap (option_map (λ rest. take count into ++ rest))
        (through ∙ ap (λ n. option_map (λ rest. take place bytes ++ rest) (line_at cells ((at + count) + place)
        n)) still ∙ ap (option_map (λ rest. take place bytes ++ rest)) here)
        ∙ ap Some (ap (λ front. take count into ++ front) (sym (take_more bytes place 0 first.0)) ∙ sym is)

    -- other bytes go onto it
    pub line-more : position (λ byte. byte == 13) bytes ≡ None → take (count + length bytes) now ≡ take count into ++ take (length bytes) bytes → IsReadTo cells at most (count + length bytes) now
    line-more none is =
        let through = line-through cells (at + count) (most - count) (length bytes) bytes piece.holds piece.fits
        (omega arith) piece.few (λ k within. eqb-false (get_or bytes k 0) 13 (none-passes (λ byte. byte == 13)
        bytes none k within)) in
        let e : (at + count) + length bytes ≡ at + (count + length bytes) = omega arith in
        let f : (most - count) - length bytes ≡ most - (count + length bytes) = omega arith in
        let rest = line_at cells ((at + count) + length bytes) ((most - count) - length bytes) in
        so_far
        ∙ ap (option_map (λ rest. take count into ++ rest)) through
        ∙ longer (take count into) (take (length bytes) bytes) rest
        ∙ ap (λ front. option_map (λ line. front ++ line) rest) (sym is)
        ∙ (λ i. option_map (λ line. take (count + length bytes) now ++ line) (line_at cells (e i) (f i)))

    -- so many of them are read
    pub len-within : (found : Option ℕ) → position (λ byte. byte == 13) bytes ≡ found → (len : ℕ) → len ≡ option_map_or (λ place. place + 1) found (length bytes) → (len ≤ length bytes) × (0 < len)
    len-within None is len len_is = (omega (arith, len_is), omega (arith, len_is, piece.some))
    len-within (Some place) is len len_is =
        let within = (position-Some (λ byte. byte == 13) bytes place 0 is).0 in
        (omega (arith, len_is, within), omega (arith, len_is))

    -- the line ends with them
    pub line-found : (found : Option ℕ) → position (λ byte. byte == 13) bytes ≡ found → (len : ℕ)
        → len ≡ option_map_or (λ place. place + 1) found (length bytes) → take (count + len) now ≡ take count into ++
        take len bytes → is_some found ≡ true → line_at cells at most ≡ Some (take (count + len) now)
    line-found None is len len_is written some = absurd (false≢true some)
    line-found (Some place) is len len_is written some =
        subst (λ (n : ℕ). line_at cells at most ≡ Some (take (count + n) now)) (sym len_is)
        (line-ends place is (subst (λ (n : ℕ). take (count + n) now ≡ take count into ++ take n bytes) len_is written))

    -- the line goes on behind them
    pub line-open : (found : Option ℕ) → position (λ byte. byte == 13) bytes ≡ found → (len : ℕ) → len ≡ option_map_or
        (λ place. place + 1) found (length bytes) → take (count + len) now ≡ take count into ++ take len bytes
        → is_some found ≡ false → IsReadTo cells at most (count + len) now
    line-open (Some place) is len len_is written none = absurd (false≢true (sym none))
    line-open None is len len_is written none =
        subst (λ (n : ℕ). IsReadTo cells at most (count + n) now) (sym len_is)
        (line-more is (subst (λ (n : ℕ). take (count + n) now ≡ take count into ++ take n bytes) len_is written))
