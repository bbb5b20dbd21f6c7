-- Texts that are cut at the first byte of a kind.
use Rattle.std.proofs.Common.{◌≡◌, ℕ, suc, ◌+◌, ◌<◌, ◌≤◌, Bool, true, false, Some, None, List, [], ◌∷◌, length, take, drop, refl, ap, sym, ◌∙◌, arith}
use Rattle.std.specs.Prelude.{if◌then◌else◌, ◌&&◌}
use Rattle.std.specs.List.{slice_split, onto_first, position_or_len, before_first, after_first, list_any}
use Rattle.std.proofs.lemmas.List.Splits.{slice_split-cons_no, slice_split_first}
use Rattle.text_values.proofs.Places.{position_or_len-first, position_or_len-next, position_or_len-within}
use Rattle.asm_model.specs.Characters.{is_quote}
use Rattle.asm_model.specs.Statements.{quoted, ends_there}

split-first : (p : ℕ → Bool) (x : ℕ) (xs : List ℕ) (b : Bool) → p x ≡ b → length (x ∷ xs) ≤ position_or_len p (x ∷ xs) →
    (length xs ≤ position_or_len p xs → slice_split p xs ≡ xs ∷ []) → slice_split p (x ∷ xs) ≡ (x ∷ xs) ∷ []
split-first p x xs true is past rest =
    let none : position_or_len p (x ∷ xs) ≡ 0 = position_or_len-first p x xs is in
    absurd (omega arith)
split-first p x xs false is past rest =
    let next : position_or_len p (x ∷ xs) ≡ suc (position_or_len p xs) = position_or_len-next p x xs is in
    slice_split-cons_no p x xs is ∙ ap (onto_first x) (rest (omega arith))

-- a text without such a byte is one part
pub split_none : (p : ℕ → Bool) (xs : List ℕ) → length xs ≤ position_or_len p xs → slice_split p xs ≡ xs ∷ []
split_none p [] past = refl
split_none p (x ∷ xs) past = split-first p x xs (p x) refl past (split_none p xs)

-- and another one is the part before the first, and the parts behind it
pub split_at : (p : ℕ → Bool) (xs : List ℕ) → position_or_len p xs < length xs →
    slice_split p xs ≡ take (position_or_len p xs) xs ∷ slice_split p (drop (position_or_len p xs + 1) xs)
split_at p xs below = slice_split_first p xs 0 below

pub split_around : (p : ℕ → Bool) (xs : List ℕ) (n : ℕ) → n ≡ position_or_len p xs → n < length xs →
    slice_split p xs ≡ take n xs ∷ slice_split p (drop (n + 1) xs)
split_around p xs n is below =
    let within : position_or_len p xs < length xs = omega arith in
    split_at p xs within ∙ ap (λ k. take k xs ∷ slice_split p (drop (k + 1) xs)) (sym is)

any-first : (p : ℕ → Bool) (x : ℕ) (xs : List ℕ) (b : Bool) → p x ≡ b → position_or_len p (x ∷ xs) < length (x ∷ xs) →
    (position_or_len p xs < length xs → list_any p xs ≡ true) → list_any p (x ∷ xs) ≡ true
any-first p x xs true is below rest = simp is
any-first p x xs false is below rest =
    let next : position_or_len p (x ∷ xs) ≡ suc (position_or_len p xs) = position_or_len-next p x xs is in
    let found : list_any p xs ≡ true = rest (omega arith) in
    simp (is, found)

any-found : (p : ℕ → Bool) (xs : List ℕ) → position_or_len p xs < length xs → list_any p xs ≡ true
any-found p [] below = absurd (omega (arith, position_or_len-within p []))
any-found p (x ∷ xs) below = any-first p x xs (p x) refl below (any-found p xs)

none-first : (p : ℕ → Bool) (x : ℕ) (xs : List ℕ) (b : Bool) → p x ≡ b → length (x ∷ xs) ≤ position_or_len p (x ∷ xs) →
    (length xs ≤ position_or_len p xs → list_any p xs ≡ false) → list_any p (x ∷ xs) ≡ false
none-first p x xs true is past rest =
    let none : position_or_len p (x ∷ xs) ≡ 0 = position_or_len-first p x xs is in
    absurd (omega arith)
none-first p x xs false is past rest =
    let next : position_or_len p (x ∷ xs) ≡ suc (position_or_len p xs) = position_or_len-next p x xs is in
    let free : list_any p xs ≡ false = rest (omega arith) in
    simp (is, free)

none-found : (p : ℕ → Bool) (xs : List ℕ) → length xs ≤ position_or_len p xs → list_any p xs ≡ false
none-found p [] past = refl
none-found p (x ∷ xs) past = none-first p x xs (p x) refl past (none-found p xs)

-- ---- texts between quotes

pub quoted_open : (text : List ℕ) → length text ≤ position_or_len is_quote text → quoted (34 ∷ text) ≡ None
quoted_open text past = ap (λ any. if any && ends_there (after_first is_quote text) then Some (before_first is_quote text) else None) (none-found is_quote text past)

pub quoted_closed : (text : List ℕ) → position_or_len is_quote text < length text →
    quoted (34 ∷ text) ≡ (if ends_there (drop (position_or_len is_quote text + 1) text) then Some (take (position_or_len is_quote text) text) else None)
quoted_closed text below =
    ap (λ any. if any && ends_there (after_first is_quote text) then Some (before_first is_quote text) else None) (any-found is_quote text below)

pub quoted_around : (text : List ℕ) (n : ℕ) → n ≡ position_or_len is_quote text → n < length text → ends_there (drop (n + 1) text) ≡ true →
    Some (take n text) ≡ quoted (34 ∷ text)
quoted_around text n is below ends =
    let within : position_or_len is_quote text < length text = omega arith in
    sym (quoted_closed text within ∙ ap (λ k. if ends_there (drop (k + 1) text) then Some (take k text) else None) (sym is)
    ∙ ap (λ b. if b then Some (take n text) else None) ends)
