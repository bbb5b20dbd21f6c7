-- Texts cut at a comma, and the text before a bracket.
use Rattle.std.proofs.Common.{◌≡◌, ◌≢◌, ℕ, ◌+◌, ◌<◌, ◌≤◌, Bool, true, false, cond, Option, Some, None, List, [], ◌∷◌, ◌++◌, length, take, drop, refl, ap, sym, ◌∙◌, arith}
use Rattle.std.specs.Prelude.{MatchOption, option_map, if◌then◌else◌}
use Rattle.std.specs.Borrow.{Bor}
use Rattle.std.specs.List.{slice_split, onto_first, position_or_len}
use Rattle.std.proofs.lemmas.List.Splits.{slice_split_first}
use Rattle.std.proofs.lemmas.Bool.{eqb-true}
use Rattle.text_values.proofs.Places.{position_or_len-first, position_or_len-next}
use Rattle.asm_model.specs.Characters.{is_closing}
use Rattle.asm_model.specs.Operands.{before_bracket}
use Rattle.asm_text.specs.Cuts.{two, two_of}

-- ---- commas

pub split-first : (p : ℕ → Bool) (text : List ℕ) (place : ℕ) → place ≡ position_or_len p text → place < length text →
    slice_split p text ≡ take place text ∷ slice_split p (drop (place + 1) text)
split-first p text place is below =
    let within : position_or_len p text < length text = omega arith in
    slice_split_first p text 0 within
    ∙ ap (λ n. take n text ∷ slice_split p (drop (n + 1) text)) (sym is)

pub split-none : (p : ℕ → Bool) (text : List ℕ) → length text ≤ position_or_len p text → slice_split p text ≡ text ∷ []
split-none p [] past = refl
split-none p (c ∷ text) past = by-first (p c) refl (λ others. split-none p text others)
  where
    by-first : (b : Bool) → p c ≡ b → (length text ≤ position_or_len p text → slice_split p text ≡ text ∷ []) → slice_split p (c ∷ text) ≡ (c ∷ text) ∷ []
    by-first true is more =
        let place : position_or_len p (c ∷ text) ≡ 0 = position_or_len-first p c text is in
        let some : 1 ≤ length (c ∷ text) = omega arith in
        absurd (omega arith)
    by-first false is more =
        let place = position_or_len-next p c text is in
        let others : length text ≤ position_or_len p text = omega arith in
        let rest = more others in
        simp (is, rest)

two-more : (first second third : List ℕ) (more : List (List ℕ)) → two_of (first ∷ second ∷ third ∷ more) ≡ None
two-more first second third more = refl

-- two parts are all the parts
pub two-back : (parts : List (List ℕ)) (first second : List ℕ) → Some (two first second) ≡ two_of parts → parts ≡ first ∷ second ∷ []
two-back [] first second is = absurd (cc)
two-back (a ∷ []) first second is = absurd (cc)
two-back (a ∷ b ∷ []) first second is = let same : two first second ≡ two a b = cc in ap (λ t. t.first ∷ t.second ∷ []) (sym same)
two-back (a ∷ b ∷ c ∷ more) first second is = absurd (cc)

some-parts : (p : ℕ → Bool) (text : List ℕ) → (first : List ℕ) × (more : List (List ℕ)) × (slice_split p text ≡ first ∷ more)
some-parts p [] = ([], [], refl)
some-parts p (c ∷ text) = by-first (p c) refl
  where
    onto : (parts : List (List ℕ)) → (first : List ℕ) × (more : List (List ℕ)) × (onto_first c parts ≡ first ∷ more)
    onto [] = (c ∷ [], [], refl)
    onto (part ∷ parts) = (c ∷ part, parts, refl)

    by-first : (b : Bool) → p c ≡ b → (first : List ℕ) × (more : List (List ℕ)) × (slice_split p (c ∷ text) ≡ first ∷ more)
    by-first true is = ([], slice_split p text, ap (λ b. cond b ([] ∷ slice_split p text) (onto_first c (slice_split p text))) is)
    by-first false is =
        let rest = onto (slice_split p text) in
        (rest.0, rest.1, ap (λ b. cond b ([] ∷ slice_split p text) (onto_first c (slice_split p text))) is ∙ rest.2)

pub three-parts : (p : ℕ → Bool) (first second rest : List ℕ) → two_of (first ∷ second ∷ slice_split p rest) ≡ None
three-parts p first second rest =
    let parts = some-parts p rest in
    ap (λ more. two_of (first ∷ second ∷ more)) parts.2 ∙ two-more first second parts.0 parts.1

-- ---- the bracket at the end

closed-next : (c : ℕ) (text : List ℕ) → before_bracket (text ++ (93 ∷ [])) ≡ Some text → before_bracket (c ∷ (text ++ (93 ∷ []))) ≡ Some (c ∷ text)
closed-next c [] is = ap (option_map (λ inner. c ∷ inner)) is
closed-next c (d ∷ text) is = ap (option_map (λ inner. c ∷ inner)) is

bracket-closed : (inner : List ℕ) → before_bracket (inner ++ (93 ∷ [])) ≡ Some inner
bracket-closed [] = refl
bracket-closed (c ∷ inner) = closed-next c inner (bracket-closed inner)

no-bracket : (text : List ℕ) → ((front : List ℕ) → text ≢ front ++ (93 ∷ [])) → before_bracket text ≡ None
no-bracket [] none = refl
no-bracket (c ∷ []) none = by-last (is_closing c) refl
  where
    by-last : (b : Bool) → is_closing c ≡ b → before_bracket (c ∷ []) ≡ None
    by-last true is = absurd (none [] (ap (λ d. d ∷ []) (eqb-true c 93 is)))
    by-last false is = ap (λ (b : Bool). if b then Some [] else None) is
no-bracket (c ∷ d ∷ text) none = ap (option_map (λ inner. c ∷ inner)) (no-bracket (d ∷ text) (λ front is. none (c ∷ front) (ap (λ t. c ∷ t) is)))

-- a text without a bracket at its end, or without that bracket
pub bracket-stripped : (text : List ℕ) (found : Option (Bor (List ℕ))) → MatchOption found ((front : List ℕ) → text ≢ front ++ (93 ∷ [])) (λ x. text ≡ x.now ++ (93 ∷ [])) →
    option_map (λ inner. inner.now) found ≡ before_bracket text
bracket-stripped text None none = sym (no-bracket text none)
bracket-stripped text (Some inner) is = sym (ap before_bracket is ∙ bracket-closed inner.now)
