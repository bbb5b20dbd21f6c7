-- A line taken apart into its word, spaces, operand and comment, and put together again.
use Rattle.std.proofs.Common.{◌≡◌, ℕ, ◌&&◌, ◌||◌, not, Bool, true, false, List, [], ◌∷◌, ◌++◌, take, drop, refl, ap, sym, subst, ◌∙◌, append-nil}
use Rattle.std.specs.List.{position_or_len, list_all, list_any}
use Rattle.std.proofs.lemmas.Bool.{and_parts, eqb-true}
use Rattle.text_values.specs.Cuts.{is_space, first_word, behind_word, without_spaces}
use Rattle.text_values.proofs.Places.{position_or_len-first, position_or_len-next}
use Rattle.asm_model.proofs.Spaces.{or_left, first_next, behind_next, first_all, behind_all, first_of, behind_of}
use Rattle.asm_model.specs.Instructions.{operand_text}
use Rattle.asm_lines.specs.Instructions.{EndsThere, nothing, space}

-- ---- the parts that are put together

pub first-part : (word rest : List ℕ) → list_any is_space word ≡ false → EndsThere rest → first_word (word ++ rest) ≡ word
first-part word _ free nothing = ap first_word (append-nil word) ∙ first_all word free
first-part word _ free (space {rest = rest}) = first_of word rest free

pub behind-part : (word rest : List ℕ) → list_any is_space word ≡ false → EndsThere rest → behind_word (word ++ rest) ≡ rest
behind-part word _ free nothing = ap behind_word (append-nil word) ∙ behind_all word free
behind-part word _ free (space {rest = rest}) = behind_of word rest free

pub skip-space : (c : ℕ) (text : List ℕ) → is_space c ≡ true → without_spaces (c ∷ text) ≡ without_spaces text
skip-space c text is =
    let other : not (is_space c) ≡ false = ap not is in
    ap (λ n. drop n (c ∷ text)) (position_or_len-next (λ b. not (is_space b)) c text other)

pub skip-none : (c : ℕ) (text : List ℕ) → is_space c ≡ false → without_spaces (c ∷ text) ≡ c ∷ text
skip-none c text is =
    let other : not (is_space c) ≡ true = ap not is in
    ap (λ n. drop n (c ∷ text)) (position_or_len-first (λ b. not (is_space b)) c text other)

pub skip-all : (spaces rest : List ℕ) → list_all is_space spaces ≡ true → without_spaces (spaces ++ rest) ≡ without_spaces rest
skip-all [] rest all = refl
skip-all (c ∷ spaces) rest all =
    let both = and_parts (is_space c) (list_all is_space spaces) all in skip-space c (spaces ++ rest) both.0 ∙ skip-all spaces rest both.1

-- the operand, with the comment that follows it
pub operand-part : (operand comment : List ℕ) → list_any is_space operand ≡ false → EndsThere comment → (operand ≡ [] → comment ≡ []) →
    first_word (without_spaces (operand ++ comment)) ≡ operand
operand-part [] comment free apart last = ap (λ c. first_word (without_spaces c)) (last refl)
operand-part (c ∷ operand) comment free apart last =
    ap first_word (skip-none c (operand ++ comment) (or_left (is_space c) (list_any is_space operand) free)) ∙ first-part (c ∷ operand) comment free apart

pub operand-back : (word spaces operand comment : List ℕ) → list_any is_space word ≡ false → list_all is_space spaces ≡ true →
    EndsThere (spaces ++ (operand ++ comment)) → list_any is_space operand ≡ false → EndsThere comment → (operand ≡ [] → comment ≡ []) →
    operand_text (word ++ (spaces ++ (operand ++ comment))) ≡ operand
operand-back word spaces operand comment one all apart free after last =
    ap (λ rest. first_word (without_spaces rest)) (behind-part word (spaces ++ (operand ++ comment)) one apart)
    ∙ ap first_word (skip-all spaces (operand ++ comment) all) ∙ operand-part operand comment free after last

-- ---- the parts of a line

pub first-none : (c : ℕ) (text : List ℕ) → is_space c ≡ true → first_word (c ∷ text) ≡ []
first-none c text is = ap (λ n. take n (c ∷ text)) (position_or_len-first is_space c text is)

pub behind-whole : (c : ℕ) (text : List ℕ) → is_space c ≡ true → behind_word (c ∷ text) ≡ c ∷ text
behind-whole c text is = ap (λ n. drop n (c ∷ text)) (position_or_len-first is_space c text is)

pub word-free : (text : List ℕ) → list_any is_space (first_word text) ≡ false
word-free [] = refl
word-free (c ∷ text) = by-first (is_space c) refl (word-free text)
  where
    by-first : (b : Bool) → is_space c ≡ b → list_any is_space (first_word text) ≡ false → list_any is_space (first_word (c ∷ text)) ≡ false
    by-first true is more = ap (list_any is_space) (first-none c text is)
    by-first false is more = ap (list_any is_space) (first_next c text is) ∙ ap (λ b. b || list_any is_space (first_word text)) is ∙ more

pub ends-there : (text : List ℕ) → EndsThere (behind_word text)
ends-there [] = nothing
ends-there (c ∷ text) = by-first (is_space c) refl (ends-there text)
  where
    by-first : (b : Bool) → is_space c ≡ b → EndsThere (behind_word text) → EndsThere (behind_word (c ∷ text))
    by-first true is more =
        let begun : EndsThere (c ∷ text) = subst (λ (d : ℕ). EndsThere (d ∷ text)) (sym (eqb-true c 32 is)) (space {rest = text}) in
        subst EndsThere (sym (behind-whole c text is)) begun
    by-first false is more = subst EndsThere (sym (behind_next c text is)) more

pub word-and-rest : (text : List ℕ) → first_word text ++ behind_word text ≡ text
word-and-rest [] = refl
word-and-rest (c ∷ text) = by-first (is_space c) refl (word-and-rest text)
  where
    by-first : (b : Bool) → is_space c ≡ b → first_word text ++ behind_word text ≡ text → first_word (c ∷ text) ++ behind_word (c ∷ text) ≡ c ∷ text
    by-first true is more = ap (λ word. word ++ behind_word (c ∷ text)) (first-none c text is) ∙ behind-whole c text is
    by-first false is more =
        ap (λ word. word ++ behind_word (c ∷ text)) (first_next c text is) ∙ ap (λ rest. (c ∷ first_word text) ++ rest) (behind_next c text is)
        ∙ ap (λ rest. c ∷ rest) more

-- the spaces that a text begins with
pub spaces_of : List ℕ → List ℕ
spaces_of text = take (position_or_len (λ b. not (is_space b)) text) text

spaces-next : (c : ℕ) (text : List ℕ) → is_space c ≡ true → spaces_of (c ∷ text) ≡ c ∷ spaces_of text
unfolding spaces_of
spaces-next c text is =
    let other : not (is_space c) ≡ false = ap not is in
    ap (λ n. take n (c ∷ text)) (position_or_len-next (λ b. not (is_space b)) c text other)

spaces-none : (c : ℕ) (text : List ℕ) → is_space c ≡ false → spaces_of (c ∷ text) ≡ []
unfolding spaces_of
spaces-none c text is =
    let other : not (is_space c) ≡ true = ap not is in
    ap (λ n. take n (c ∷ text)) (position_or_len-first (λ b. not (is_space b)) c text other)

spaces-empty : spaces_of [] ≡ []
unfolding spaces_of
spaces-empty = refl

pub spaces-all : (text : List ℕ) → list_all is_space (spaces_of text) ≡ true
spaces-all [] = ap (list_all is_space) spaces-empty
spaces-all (c ∷ text) = by-first (is_space c) refl (spaces-all text)
  where
    by-first : (b : Bool) → is_space c ≡ b → list_all is_space (spaces_of text) ≡ true → list_all is_space (spaces_of (c ∷ text)) ≡ true
    by-first true is more = ap (list_all is_space) (spaces-next c text is) ∙ ap (λ b. b && list_all is_space (spaces_of text)) is ∙ more
    by-first false is more = ap (list_all is_space) (spaces-none c text is)

pub spaces-and-rest : (text : List ℕ) → spaces_of text ++ without_spaces text ≡ text
spaces-and-rest [] = ap (λ spaces. spaces ++ []) spaces-empty
spaces-and-rest (c ∷ text) = by-first (is_space c) refl (spaces-and-rest text)
  where
    by-first : (b : Bool) → is_space c ≡ b → spaces_of text ++ without_spaces text ≡ text → spaces_of (c ∷ text) ++ without_spaces (c ∷ text) ≡ c ∷ text
    by-first true is more =
        ap (λ spaces. spaces ++ without_spaces (c ∷ text)) (spaces-next c text is) ∙ ap (λ rest. (c ∷ spaces_of text) ++ rest) (skip-space c text is)
        ∙ ap (λ rest. c ∷ rest) more
    by-first false is more =
        ap (λ spaces. spaces ++ without_spaces (c ∷ text)) (spaces-none c text is) ∙ skip-none c text is

-- what follows the spaces is nothing, or begins with another byte
pub no-more : (text : List ℕ) → first_word (without_spaces text) ≡ [] → behind_word (without_spaces text) ≡ []
no-more [] none = refl
no-more (c ∷ text) none = by-first (is_space c) refl (λ others. no-more text others)
  where
    by-first : (b : Bool) → is_space c ≡ b → (first_word (without_spaces text) ≡ [] → behind_word (without_spaces text) ≡ []) → behind_word (without_spaces (c ∷ text)) ≡ []
    by-first true is more = ap behind_word (skip-space c text is) ∙ more (sym (ap first_word (skip-space c text is)) ∙ none)
    by-first false is more =
        let some : c ∷ first_word text ≡ [] = sym (ap first_word (skip-none c text is) ∙ first_next c text is) ∙ none in absurd (cc)
