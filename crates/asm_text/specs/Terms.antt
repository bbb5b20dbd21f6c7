-- The terms of texts, one after another.
use Rattle.std.specs.Prelude.{ℕ, Bool, ◌&&◌, Option, option_map, option_and_then, List, ℤ, ◌+ℤ◌, ◌-ℤ◌, if◌then◌else◌}
use Rattle.asm_model.specs.Characters.{is_minus}
use Rattle.asm_model.specs.Expressions.{Term as TermOf, constant, label, here, term}
use Rattle.asm_text.specs.declared.term.Term.{Term}
use Rattle.asm_text.specs.declared.term.Term.TheVariants.{Number, Label, Here}

-- the term as the model has it
abbrev pub term_of : Term → TermOf
term_of (Number n) = constant n
term_of (Label name) = label name.now
term_of Here = here

-- a value with a number of this sign
abbrev pub joined : ℤ → Bool → ℤ → ℤ
joined value minus n = if minus then value -ℤ n else value +ℤ n

-- a value with the term of this text and sign, if the text is a term that has a value
abbrev pub with_part : (TermOf → Option ℤ) → ℤ → ℕ → List ℕ → Option ℤ
with_part meaning value sign part =
    option_and_then (λ t. option_map (joined value (is_minus sign)) (meaning t)) (term part)

-- a test so far, with the term of this text, if the text is a term
abbrev pub tested : (TermOf → Bool) → Bool → List ℕ → Option Bool
tested passes so_far part = option_map (λ t. so_far && passes t) (term part)
