-- Texts that are cut at bytes of a kind, and texts that commas join.
use Rattle.std.proofs.Common.{◌≡◌, ℕ, Bool, true, false, cond, List, [], ◌∷◌, ◌++◌, refl, ap, sym, ◌∙◌}
use Rattle.std.specs.List.{slice_split, onto_first, list_any}
use Rattle.asm_model.specs.Characters.{is_comma}
use Rattle.asm_model.proofs.Spaces.{or_left, or_right}

-- ---- bytes of any kind

module _ (p : ℕ → Bool) where
  -- a text without one is one part
  pub split-one : (text : List ℕ) → list_any p text ≡ false → slice_split p text ≡ text ∷ []
  split-one [] free = refl
  split-one (c ∷ text) free =
      let first : p c ≡ false = or_left (p c) (list_any p text) free in
      let others = split-one text (or_right (p c) (list_any p text) free) in
      simp (first, others)

  pub split-some : (text : List ℕ) → (first : List ℕ) × (more : List (List ℕ)) × (slice_split p text ≡ first ∷ more)
  split-some [] = ([], [], refl)
  split-some (c ∷ text) = by-first (p c) refl
    where
      onto : (parts : List (List ℕ)) → (first : List ℕ) × (more : List (List ℕ)) × (onto_first c parts ≡ first ∷ more)
      onto [] = (c ∷ [], [], refl)
      onto (part ∷ parts) = (c ∷ part, parts, refl)

      by-first : (b : Bool) → p c ≡ b → (first : List ℕ) × (more : List (List ℕ)) × (slice_split p (c ∷ text) ≡ first ∷ more)
      by-first true is = ([], slice_split p text, ap (λ b. cond b ([] ∷ slice_split p text) (onto_first c (slice_split p text))) is)
      by-first false is =
          let rest = onto (slice_split p text) in
          (rest.0, rest.1, ap (λ b. cond b ([] ∷ slice_split p text) (onto_first c (slice_split p text))) is ∙ rest.2)

  onto-more : (c : ℕ) (parts : List (List ℕ)) (first : List ℕ) (more : List (List ℕ)) (name : List ℕ) → parts ≡ first ∷ more → onto_first c (parts ++ (name ∷ [])) ≡ onto_first c parts ++ (name ∷ [])
  onto-more c parts first more name is =
      ap (λ ps. onto_first c (ps ++ (name ∷ []))) is ∙ sym (ap (λ ps. onto_first c ps ++ (name ∷ [])) is)

  cut-here : (k : ℕ) (name : List ℕ) → p k ≡ true → list_any p name ≡ false → slice_split p (k ∷ name) ≡ [] ∷ name ∷ []
  cut-here k name cut free =
      ap (λ b. cond b ([] ∷ slice_split p name) (onto_first k (slice_split p name))) cut ∙ ap (λ parts. [] ∷ parts) (split-one name free)

  -- one part more
  pub split-more : (k : ℕ) → p k ≡ true → (text name : List ℕ) → list_any p name ≡ false → slice_split p (text ++ (k ∷ name)) ≡ slice_split p text ++ (name ∷ [])
  split-more k cut [] name free = cut-here k name cut free
  split-more k cut (c ∷ text) name free = by-first (p c) refl (split-more k cut text name free)
    where
      by-first : (b : Bool) → p c ≡ b → slice_split p (text ++ (k ∷ name)) ≡ slice_split p text ++ (name ∷ []) →
          slice_split p ((c ∷ text) ++ (k ∷ name)) ≡ slice_split p (c ∷ text) ++ (name ∷ [])
      by-first true is more =
          ap (λ b. cond b ([] ∷ slice_split p (text ++ (k ∷ name))) (onto_first c (slice_split p (text ++ (k ∷ name))))) is
          ∙ ap (λ parts. [] ∷ parts) more
          ∙ sym (ap (λ b. cond b ([] ∷ slice_split p text) (onto_first c (slice_split p text)) ++ (name ∷ [])) is)
      by-first false is more =
          let parts = split-some text in
          ap (λ b. cond b ([] ∷ slice_split p (text ++ (k ∷ name))) (onto_first c (slice_split p (text ++ (k ∷ name))))) is
          ∙ ap (onto_first c) more
          ∙ onto-more c (slice_split p text) parts.0 parts.1 name parts.2
          ∙ sym (ap (λ b. cond b ([] ∷ slice_split p text) (onto_first c (slice_split p text)) ++ (name ∷ [])) is)

-- ---- commas

-- a text without a comma is one part
pub one-part : (text : List ℕ) → list_any is_comma text ≡ false → slice_split is_comma text ≡ text ∷ []
one-part text free = split-one is_comma text free

pub some-parts : (text : List ℕ) → (first : List ℕ) × (more : List (List ℕ)) × (slice_split is_comma text ≡ first ∷ more)
some-parts text = split-some is_comma text

-- one part more
pub part-more : (text name : List ℕ) → list_any is_comma name ≡ false → slice_split is_comma (text ++ (44 ∷ name)) ≡ slice_split is_comma text ++ (name ∷ [])
part-more text name free = split-more is_comma 44 refl text name free
