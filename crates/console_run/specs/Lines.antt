-- The lines of a keyboard, and what is typed of them.
use Rattle.std.specs.Prelude.{◌≡◌, ◌≢◌, ◌⊎◌, ◌↔◌, ℕ, IsSome, Option, Some, None, List, [], ◌∷◌, ◌++◌, drop, length, take}
use Rattle.std.specs.List.{flat_map}
use Rattle.console_run.specs.Typed.{kept_bytes}
use Rattle.console_run.specs.declared.typed.Typed.{Typed}
use Rattle.console_run.specs.Keyboard.{FailsToGive, GivesEnd, KeyboardState, TakesLines}
use Rattle.console_run.specs.declared.part.TheConstants.{PART}

-- what is typed for a line: its bytes, and then Return
abbrev pub line_bytes : List ℕ → List ℕ
line_bytes line = line ++ 13 ∷ []

-- for the line that the keyboard gives, if it is asked for one
abbrev pub asked_bytes : Option (List ℕ) → List ℕ
asked_bytes None = []
asked_bytes (Some line) = line_bytes line

-- ---- before a slice

-- these bytes are typed: the next ones of the line whose rest is left, or of this line, for which the keyboard is asked
-- if and only if no rest is left
pub record TypesPart (rest : List ℕ) (line : Option (List ℕ)) (bytes : List ℕ) : Type 0 where
  pub asked : IsSome line ↔ (rest ≡ [])
  pub part : bytes ≡ take PART (rest ++ asked_bytes line)

-- the keyboard is not asked, and nothing is typed
pub record TypesNothing (line : Option (List ℕ)) (bytes : List ℕ) : Type 0 where
  pub unasked : line ≡ None
  pub none : bytes ≡ []

-- something is typed if and only if every process waits for keys
abbrev pub TypesIf : Type 0 → List ℕ → Option (List ℕ) → List ℕ → Type 0
TypesIf waits rest line bytes = (waits × TypesPart rest line bytes) ⊎ (¬ waits × TypesNothing line bytes)

-- what is left then
abbrev pub left_after : List ℕ → Option (List ℕ) → List ℕ → List ℕ
left_after rest line bytes = drop (length bytes) (rest ++ asked_bytes line)

-- ---- if memory was out

-- it was out for the keys of this line or of this rest; or no rest was left, and the keyboard was asked and found none
-- for a line
abbrev pub LacksKeys : Option (List ℕ) → List ℕ → KeyboardState → KeyboardState → Type 0
LacksKeys lost rest mid to =
    ((IsSome lost ⊎ (rest ≢ [])) × (to ≡ mid)) ⊎ ((lost ≡ None) × (rest ≡ []) × FailsToGive mid to)

-- ---- of a session, however it ended

-- for the last of these lines
abbrev pub last_bytes : List (List ℕ) → List ℕ
last_bytes [] = []
last_bytes (line ∷ []) = line_bytes line
last_bytes (line ∷ next ∷ lines) = last_bytes (next ∷ lines)

-- these bytes of lines were typed, in their order, and only of the last one this rest was not
pub record AreTyped (lines : List (List ℕ)) (bytes rest : List ℕ) : Type 0 where
  pub all : bytes ++ rest ≡ flat_map line_bytes lines
  pub of_last : (done : List ℕ) × (done ++ rest ≡ last_bytes lines)

-- the keyboard was asked for lines, once for each, and of these they were typed
pub record GaveLines (bytes rest : List ℕ) (from to : KeyboardState) : Type 0 where
  pub lines : List (List ℕ)
  pub shown : List ℕ
  pub taken : TakesLines lines shown from to
  pub once : length shown ≡ length lines
  pub typed : AreTyped lines bytes rest

-- The keys that are kept are those of lines that the keyboard gave, in their order. Then it was asked no more, or once
-- more, and gave its end or found no memory.
pub record KeepsLines (typed : Typed) (from to : KeyboardState) : Type 0 where
  pub rest : List ℕ
  pub mid : KeyboardState
  pub gave : GaveLines (kept_bytes typed) rest from mid
  pub end : (to ≡ mid) ⊎ (((shown : ℕ) × GivesEnd shown mid to) ⊎ FailsToGive mid to)
