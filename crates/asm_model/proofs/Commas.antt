-- Texts in which a comma or a bracket is put.
use Rattle.std.proofs.Common.{◌≡◌, ℕ, Bool, true, false, Some, List, [], ◌∷◌, ◌++◌, refl, ◌||◌}
use Rattle.std.specs.List.{slice_split, list_any}
use Rattle.asm_model.specs.Characters.{is_comma}
use Rattle.asm_model.specs.Operands.{before_bracket}

or_false_left : (a b : Bool) → (a || b) ≡ false → a ≡ false
or_false_left true b is = is
or_false_left false b is = refl

or_false_right : (a b : Bool) → (a || b) ≡ false → b ≡ false
or_false_right true b is = absurd (cc)
or_false_right false b is = is

pub split_comma : (e rest : List ℕ) → list_any is_comma e ≡ false → slice_split is_comma (e ++ (44 ∷ rest)) ≡ e ∷ slice_split is_comma rest
split_comma [] rest none = refl
split_comma (c ∷ e) rest none =
    let first : is_comma c ≡ false = or_false_left (is_comma c) (list_any is_comma e) none in
    let others = split_comma e rest (or_false_right (is_comma c) (list_any is_comma e) none) in
    simp (first, others)

pub any_comma : (e rest : List ℕ) → list_any is_comma (e ++ (44 ∷ rest)) ≡ true
any_comma [] rest = refl
any_comma (c ∷ e) rest = or_any (is_comma c) (any_comma e rest)
  where
    or_any : (b : Bool) {d : Bool} → d ≡ true → (b || d) ≡ true
    or_any true is = refl
    or_any false is = is

bracket_next : (c : ℕ) (text : List ℕ) → before_bracket (text ++ (93 ∷ [])) ≡ Some text → before_bracket (c ∷ (text ++ (93 ∷ []))) ≡ Some (c ∷ text)
bracket_next c [] is = refl
bracket_next c (d ∷ text) is = rw is refl

pub bracket_back : (text : List ℕ) → before_bracket (text ++ (93 ∷ [])) ≡ Some text
bracket_back [] = refl
bracket_back (c ∷ text) = bracket_next c text (bracket_back text)
