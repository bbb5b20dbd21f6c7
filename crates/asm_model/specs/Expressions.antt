-- Expressions: terms joined by `+` and `-`, evaluated from the left (this project's own).
use Rattle.std.specs.Prelude.{ℕ, ◌==◌, ◌&&◌, ◌||◌, not, nat_le, Bool, false, Option, Some, None, option_map, option_and_then, List, [], ◌∷◌, length, filter, codes, ℤ, pos, ◌+ℤ◌, ◌-ℤ◌, if◌then◌else◌}
use Rattle.std.specs.List.{slice_split, list_all, list_any}
use Rattle.asm_model.specs.Characters.{is_minus, is_sign, is_star, same_word}
use Rattle.asm_model.specs.Numbers.{number}

-- ---- labels

-- a letter or `_`
abbrev pub is_letter : ℕ → Bool
is_letter c = (nat_le 65 c && nat_le c 90) || (nat_le 97 c && nat_le c 122) || (c == 95)

abbrev pub is_label_character : ℕ → Bool
is_label_character c = is_letter c || (nat_le 48 c && nat_le c 57)

-- the registers of the MC6809 (programming manual, "Programming model")
abbrev pub register_names : List (List ℕ)
register_names =
    codes "A" ∷ codes "B" ∷ codes "D" ∷ codes "X" ∷ codes "Y" ∷ codes "U" ∷ codes "S" ∷ codes "PC" ∷ codes "CC"
    ∷ codes "DP" ∷ []

abbrev pub is_register_name : List ℕ → Bool
is_register_name text = list_any (λ r. same_word r text) register_names

-- the greatest number of characters of a label
abbrev pub longest_label : ℕ
longest_label = 29

-- a letter or `_`, then letters, digits and `_`; a register's name is not a label
abbrev pub is_label : List ℕ → Bool
is_label [] = false
is_label (c ∷ text) =
    is_letter c && list_all is_label_character text && nat_le (length (c ∷ text)) longest_label
    && not (is_register_name (c ∷ text))

-- ---- terms

-- a number, a label, or the offset of the statement itself
pub data Term : Type 0 where
  constant : ℕ → Term
  label : List ℕ → Term
  here : Term

-- `*` alone
abbrev pub star : List ℕ → Option Term
star [] = Some here
star _ = None

-- the term that a text spells, if it is one
abbrev pub term : List ℕ → Option Term
term [] = None
term (c ∷ text) =
    if is_star c then star text
    else (if is_label (c ∷ text) then Some (label (c ∷ text)) else option_map constant (number (c ∷ text)))

-- ---- expressions

-- a term, and whether it is subtracted
pub record Signed : Type 0 where
  pub minus : Bool
  pub term : Term

abbrev pub signed : ℕ → Term → Signed
signed sign t = record { minus = is_minus sign; term = t }

-- the terms of the parts of a text, each with the sign before it
abbrev pub terms_with : List ℕ → List (List ℕ) → Option (List Signed)
terms_with (sign ∷ signs) (part ∷ parts) =
    option_and_then (λ t. option_map (λ ts. signed sign t ∷ ts) (terms_with signs parts)) (term part)
terms_with [] [] = Some []
terms_with _ _ = None

-- the terms of a text that follows a sign
abbrev pub terms_after : ℕ → List ℕ → Option (List Signed)
terms_after sign text = terms_with (sign ∷ filter is_sign text) (slice_split is_sign text)

-- the terms of an expression, if the text is one: an optional `-`, then terms joined by `+` and `-`
abbrev pub terms : List ℕ → Option (List Signed)
terms [] = None
terms (c ∷ text) = if is_minus c then terms_after 45 text else terms_after 43 (c ∷ text)

-- ---- values

-- the value with these terms added to it or subtracted from it
abbrev pub value_after : (Term → Option ℤ) → ℤ → List Signed → Option ℤ
value_after meaning value [] = Some value
value_after meaning value (t ∷ ts) =
    option_and_then (λ n. value_after meaning (if t.minus then value -ℤ n else value +ℤ n) ts) (meaning t.term)

-- the value of terms, each of which has this meaning
abbrev pub value_of : (Term → Option ℤ) → List Signed → Option ℤ
value_of meaning ts = value_after meaning (pos 0) ts

-- the value of a number; labels and `*` have none
abbrev pub constant_meaning : Term → Option ℤ
constant_meaning (constant n) = Some (pos n)
constant_meaning _ = None

-- the value of an expression of one number, with or without `-`
abbrev pub lone_value : List Signed → Option ℤ
lone_value (t ∷ []) = value_of constant_meaning (t ∷ [])
lone_value _ = None
