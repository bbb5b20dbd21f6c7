-- Texts with one comma (this project's own).
use Rattle.std.specs.Prelude.{ℕ, Option, Some, None, List, [], ◌∷◌}
use Rattle.asm_text.specs.declared.cuts.Parts.{Parts}

-- two texts
pub record Two : Type 0 where
  pub first : List ℕ
  pub second : List ℕ

abbrev pub two : List ℕ → List ℕ → Two
two first second = record { first = first; second = second }

-- the two parts, if there are two
abbrev pub two_of : List (List ℕ) → Option Two
two_of (first ∷ second ∷ []) = Some (two first second)
two_of _ = None

-- the two texts as the model has them
abbrev pub two_as : Parts → Two
two_as p = two p.first.now p.rest.now
