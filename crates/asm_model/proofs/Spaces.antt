-- A line of a word and an operand, taken apart again.
use Rattle.std.proofs.Common.{◌≡◌, ℕ, suc, Bool, true, false, not, ◌||◌, List, [], ◌∷◌, ◌++◌, take, drop, refl, ap, ◌∙◌, arith}
use Rattle.std.specs.Prelude.{◌&&◌, nat_le}
use Rattle.std.specs.List.{position_or_len, list_any, list_all}
use Rattle.std.proofs.lemmas.Bool.{and_parts, and_from}
use Rattle.std.proofs.lemmas.Bool.Decides.{nat_tests}
use Rattle.text_values.specs.Cuts.{is_space, first_word, behind_word, without_spaces}
use Rattle.asm_model.specs.Characters.{is_line_byte}
use Rattle.asm_model.specs.Print.{with_operand}
use Rattle.asm_model.specs.Instructions.{operand_text}

pub or_left : (a b : Bool) → (a || b) ≡ false → a ≡ false
or_left true b is = is
or_left false b is = refl

pub or_right : (a b : Bool) → (a || b) ≡ false → b ≡ false
or_right true b is = absurd (cc)
or_right false b is = is

place_next : (c : ℕ) (text : List ℕ) → is_space c ≡ false → position_or_len is_space (c ∷ text) ≡ suc (position_or_len is_space text)
place_next c text is = simp is (omega arith)

pub first_next : (c : ℕ) (text : List ℕ) → is_space c ≡ false → first_word (c ∷ text) ≡ c ∷ first_word text
first_next c text is = ap (λ n. take n (c ∷ text)) (place_next c text is)

pub behind_next : (c : ℕ) (text : List ℕ) → is_space c ≡ false → behind_word (c ∷ text) ≡ behind_word text
behind_next c text is = ap (λ n. drop n (c ∷ text)) (place_next c text is)

-- a text without spaces is one word
pub first_all : (text : List ℕ) → list_any is_space text ≡ false → first_word text ≡ text
first_all [] free = refl
first_all (c ∷ text) free =
    first_next c text (or_left (is_space c) (list_any is_space text) free)
    ∙ ap (λ rest. c ∷ rest) (first_all text (or_right (is_space c) (list_any is_space text) free))

pub behind_all : (text : List ℕ) → list_any is_space text ≡ false → behind_word text ≡ []
behind_all [] free = refl
behind_all (c ∷ text) free =
    behind_next c text (or_left (is_space c) (list_any is_space text) free)
    ∙ behind_all text (or_right (is_space c) (list_any is_space text) free)

-- a word ends at the space behind it
pub first_of : (word rest : List ℕ) → list_any is_space word ≡ false → first_word (word ++ (32 ∷ rest)) ≡ word
first_of [] rest free = refl
first_of (c ∷ word) rest free =
    first_next c (word ++ (32 ∷ rest)) (or_left (is_space c) (list_any is_space word) free)
    ∙ ap (λ front. c ∷ front) (first_of word rest (or_right (is_space c) (list_any is_space word) free))

pub behind_of : (word rest : List ℕ) → list_any is_space word ≡ false → behind_word (word ++ (32 ∷ rest)) ≡ 32 ∷ rest
behind_of [] rest free = refl
behind_of (c ∷ word) rest free =
    behind_next c (word ++ (32 ∷ rest)) (or_left (is_space c) (list_any is_space word) free)
    ∙ behind_of word rest (or_right (is_space c) (list_any is_space word) free)

skip_place : (c : ℕ) (text : List ℕ) → is_space c ≡ false → position_or_len (λ b. not (is_space b)) (32 ∷ c ∷ text) ≡ 1
skip_place c text is = simp is

skips : (c : ℕ) (text : List ℕ) → is_space c ≡ false → without_spaces (32 ∷ c ∷ text) ≡ c ∷ text
skips c text is = ap (λ n. drop n (32 ∷ c ∷ text)) (skip_place c text is)

pub line_word : (word text : List ℕ) → list_any is_space word ≡ false → first_word (with_operand word text) ≡ word
line_word word [] free = first_all word free
line_word word (c ∷ text) free = first_of word (c ∷ text) free

pub line_operand : (word text : List ℕ) → list_any is_space word ≡ false → list_any is_space text ≡ false → operand_text (with_operand word text) ≡ text
line_operand word [] free free' = ap (λ rest. first_word (without_spaces rest)) (behind_all word free)
line_operand word (c ∷ text) free free' =
    ap (λ rest. first_word (without_spaces rest)) (behind_of word (c ∷ text) free)
    ∙ ap first_word (skips c text (or_left (is_space c) (list_any is_space text) free'))
    ∙ first_all (c ∷ text) free'

-- ---- texts of characters that are shown

-- not one of the characters from `!` to `~`
abbrev pub is_blank : ℕ → Bool
is_blank c = not (nat_le 33 c && nat_le c 126)

pub free_append : (xs ys : List ℕ) → list_any is_blank xs ≡ false → list_any is_blank ys ≡ false → list_any is_blank (xs ++ ys) ≡ false
free_append [] ys free free' = free'
free_append (c ∷ xs) ys free free' =
    let first : is_blank c ≡ false = or_left (is_blank c) (list_any is_blank xs) free in
    let others = free_append xs ys (or_right (is_blank c) (list_any is_blank xs) free) free' in
    simp (first, others)

no_space : (c : ℕ) → is_blank c ≡ false → is_space c ≡ false
no_space c is = grind (arith, nat_tests)

line_byte : (c : ℕ) → is_blank c ≡ false → is_line_byte c ≡ true
line_byte c is = grind (arith, nat_tests)

pub shown_space : (text : List ℕ) → list_any is_blank text ≡ false → list_any is_space text ≡ false
shown_space [] is = refl
shown_space (c ∷ text) is =
    let first : is_space c ≡ false = no_space c (or_left (is_blank c) (list_any is_blank text) is) in
    let others = shown_space text (or_right (is_blank c) (list_any is_blank text) is) in
    simp (first, others)

pub shown_line : (text : List ℕ) → list_any is_blank text ≡ false → list_all is_line_byte text ≡ true
shown_line [] is = refl
shown_line (c ∷ text) is =
    let first : is_line_byte c ≡ true = line_byte c (or_left (is_blank c) (list_any is_blank text) is) in
    let others = shown_line text (or_right (is_blank c) (list_any is_blank text) is) in
    simp (first, others)

line_append : (xs ys : List ℕ) → list_all is_line_byte xs ≡ true → list_all is_line_byte ys ≡ true → list_all is_line_byte (xs ++ ys) ≡ true
line_append [] ys are are' = are'
line_append (c ∷ xs) ys are are' =
    let both = and_parts (is_line_byte c) (list_all is_line_byte xs) are in
    and_from (is_line_byte c) (list_all is_line_byte (xs ++ ys)) both.0 (line_append xs ys both.1 are')

-- a word and an operand make a line
pub with_operand_line : (word text : List ℕ) → list_any is_blank word ≡ false → list_any is_blank text ≡ false → list_all is_line_byte (with_operand word text) ≡ true
with_operand_line word [] free free' = shown_line word free
with_operand_line word (c ∷ text) free free' = line_append word (32 ∷ c ∷ text) (shown_line word free) (shown_line (c ∷ text) free')
