-- The words of a line, one after another.
use Rattle.std.proofs.Common.{◌≡◌, ℕ, suc, ◌<◌, ◌≤◌, Bool, true, false, not, cond, ltb, Option, Some, None, unwrap_or, inl, inr, List, [], ◌∷◌, length, take, drop, filter, refl, sym, ap, subst, ◌∙◌, arith}
use Rattle.std.specs.List.{position_or_len, prefix_len, slice_split}
use Rattle.std.proofs.lemmas.Bool.{cases_lt, lt-ltb, le-ltb}
use Rattle.std.proofs.lemmas.List.{length-take}
use Rattle.std.proofs.lemmas.List.Folds.{length-prefix_len}
use Rattle.text_values.specs.Cuts.{is_space, without_spaces, first_word as front_of, behind_word as back_of}
use Rattle.text_values.proofs.Places.{position_or_len-next}
use Rattle.script_text.specs.Lines.{is_word, line_words}

-- the front of a list up to its first space, with what follows
record Cut (line front back : List ℕ) : Type 0 where
  rest : List (List ℕ)
  whole : slice_split is_space line ≡ front ∷ rest
  behind : slice_split is_space back ≡ [] ∷ rest

cut-byte : (byte : ℕ) (bytes : List ℕ) (b : Bool) → is_space byte ≡ b → Cut bytes (front_of bytes) (back_of bytes) → Cut (byte ∷ bytes) (front_of (byte ∷ bytes)) (back_of (byte ∷ bytes))
cut-byte byte bytes true is cut = record {
  rest = slice_split is_space bytes;
  whole = simp is;
  behind = simp is;
}
cut-byte byte bytes false is cut =
    let place = position_or_len-next is_space byte bytes is in
    record {
      rest = cut.rest;
      whole = rw place (simp (is, cut.whole));
      behind = rw place cut.behind;
    }

cut : (line : List ℕ) → Cut line (front_of line) (back_of line)
cut [] = record { rest = []; whole = refl; behind = refl }
cut (byte ∷ bytes) = cut-byte byte bytes (is_space byte) refl (cut bytes)

-- the words of a line that does not begin with a space
line_words-byte : (byte : ℕ) (bytes : List ℕ) → is_space byte ≡ false → line_words (byte ∷ bytes) ≡ front_of (byte ∷ bytes) ∷ line_words (back_of (byte ∷ bytes))
line_words-byte byte bytes is =
    let parts = cut (byte ∷ bytes) in
    let front : front_of (byte ∷ bytes) ≡ byte ∷ take (position_or_len is_space bytes) bytes = rw (position_or_len-next is_space byte bytes is) refl in
    let whole : slice_split is_space (byte ∷ bytes) ≡ (byte ∷ take (position_or_len is_space bytes) bytes) ∷ parts.rest = parts.whole ∙ ap (λ w. w ∷ parts.rest) front in
    ap (filter is_word) whole
    ∙ ap (λ w. w ∷ filter is_word parts.rest) (sym front)
    ∙ ap (λ ws. front_of (byte ∷ bytes) ∷ filter is_word ws) (sym parts.behind)

-- what the search for the next word finds: a word and what is left behind it, or no word
pub record Found (line front back : List ℕ) : Type 0 where
  pub word : 0 < length front → line_words line ≡ front ∷ line_words back
  pub end : length front ≡ 0 → line_words line ≡ []
  pub left : length front ≡ 0 → line_words back ≡ []

abbrev IsFoundIn : List ℕ → List ℕ → Type 0
IsFoundIn line left = Found line (front_of left) (back_of left)

found-byte : (byte : ℕ) (bytes : List ℕ) (b : Bool) → is_space byte ≡ b → IsFoundIn bytes (without_spaces bytes) → IsFoundIn (byte ∷ bytes) (without_spaces (byte ∷ bytes))
found-byte byte bytes true is found =
    let left : without_spaces (byte ∷ bytes) ≡ without_spaces bytes = rw (position_or_len-next (λ b. not (is_space b)) byte bytes (ap not is)) refl in
    let words : line_words (byte ∷ bytes) ≡ line_words bytes = simp is in
    subst (IsFoundIn (byte ∷ bytes)) (sym left)
    record {
      word = λ some. words ∙ found.word some;
      end = λ none. words ∙ found.end none;
      left = found.left;
    }
found-byte byte bytes false is found =
    let left : without_spaces (byte ∷ bytes) ≡ byte ∷ bytes = simp is in
    let long : length (front_of (byte ∷ bytes)) ≡ suc (length (take (position_or_len is_space bytes) bytes)) = rw (position_or_len-next is_space byte bytes is) refl in
    let never : length (front_of (byte ∷ bytes)) ≡ 0 → ⊥ = λ none. (let bad : suc (length (take (position_or_len is_space bytes) bytes)) ≡ 0 = sym long ∙ none in omega arith) in
    subst (IsFoundIn (byte ∷ bytes)) (sym left)
    record {
      word = λ some. line_words-byte byte bytes is;
      end = λ none. absurd (never none);
      left = λ none. absurd (never none);
    }

found_in : (line : List ℕ) → IsFoundIn line (without_spaces line)
found_in [] = record { word = λ some. absurd (omega arith); end = λ none. refl; left = λ none. refl }
found_in (byte ∷ bytes) = found-byte byte bytes (is_space byte) refl (found_in bytes)

pub found_by : (line left front back : List ℕ) (place : ℕ) → left ≡ without_spaces line → place ≡ position_or_len
    is_space left → front ≡ take place left → back ≡ drop place left → Found line front back
found_by line left front back place is_left is_place is_front is_back =
    rw (is_front, is_back, is_place, is_left) (found_in line)

-- the next word leaves fewer
pub fewer_words : (before : List (List ℕ)) (word : List ℕ) (after : List (List ℕ)) → before ≡ word ∷ after → length after < length before
fewer_words before word after is = rw is (omega arith)
