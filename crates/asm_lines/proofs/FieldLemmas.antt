-- Operands of `mod`, and words with the rest of their lines.
use Rattle.std.proofs.Common.{◌≡◌, ℕ, ◌==◌, Bool, true, false, cond, Option, Some, None, List, [], ◌∷◌, length, refl, ap, ◌∙◌}
use Rattle.std.specs.Prelude.{is_some, IfSome}
use Rattle.std.specs.List.{slice_split, onto_first}
use Rattle.text_values.specs.Cuts.{first_word, behind_word, without_spaces}
use Rattle.asm_model.specs.Characters.{is_comma}
use Rattle.asm_model.specs.Statements.{module_fields, action_of, statement, after_label}
use Rattle.asm_lines.specs.declared.cuts.Cut.{Cut}

-- a text has a first part
some-parts : (p : ℕ → Bool) (text : List ℕ) → (first : List ℕ) × (more : List (List ℕ)) × (slice_split p text ≡ first ∷ more)
some-parts p [] = ([], [], refl)
some-parts p (c ∷ text) = by-first (p c) refl
  where
    onto : (parts : List (List ℕ)) → (first : List ℕ) × (more : List (List ℕ)) × (onto_first c parts ≡ first ∷ more)
    onto [] = (c ∷ [], [], refl)
    onto (part ∷ parts) = (c ∷ part, parts, refl)

    by-first : (b : Bool) → p c ≡ b → (first : List ℕ) × (more : List (List ℕ)) × (slice_split p (c ∷ text) ≡ first ∷ more)
    by-first true is = ([], slice_split p text, ap (λ b. cond b ([] ∷ slice_split p text) (onto_first c (slice_split p text))) is)
    by-first false is =
        let rest = onto (slice_split p text) in
        (rest.0, rest.1, ap (λ b. cond b ([] ∷ slice_split p text) (onto_first c (slice_split p text))) is ∙ rest.2)

five-fields : (name kind attributes storage : List ℕ) (rest : List ℕ) → module_fields (name ∷ kind ∷ attributes ∷ storage ∷ slice_split is_comma rest) ≡ None
five-fields name kind attributes storage rest =
    let parts = some-parts is_comma rest in
    ap (λ more. module_fields (name ∷ kind ∷ attributes ∷ storage ∷ more)) parts.2

-- more than four operands
pub more-fields : (name kind attributes text : List ℕ) (found : Option Cut) → is_some found ≡ true →
    IfSome found (λ cut. slice_split is_comma text ≡ cut.before.now ∷ slice_split is_comma cut.behind.now) →
    module_fields (name ∷ kind ∷ attributes ∷ slice_split is_comma text) ≡ None
more-fields name kind attributes text None some parts = absurd (cc)
more-fields name kind attributes text (Some cut) some parts =
    ap (λ more. module_fields (name ∷ kind ∷ attributes ∷ more)) parts ∙ five-fields name kind attributes cut.before.now cut.behind.now

-- the statement of a word and the rest of its line
pub worded : (name : Option (List ℕ)) (rest : List ℕ) (empty : Bool) → empty ≡ (length rest == 0) → empty ≡ false →
    statement name (action_of (first_word rest) (without_spaces (behind_word rest))) ≡ after_label name rest
worded name [] empty is some = absurd (cc)
worded None (c ∷ text) empty is some = refl
worded (Some n) (c ∷ text) empty is some = refl
