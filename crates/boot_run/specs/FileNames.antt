-- The names of the files that a run or a boot reads, and parts of a list of names (this project's own).
use Rattle.std.specs.Prelude.{◌≡◌, ℕ, List, [], ◌∷◌, ◌++◌}
use Rattle.std.specs.Option.{option_map_or}
use Rattle.os9_words.specs.declared.command.RunWords.{RunWords}

-- ---- the names

-- the script, if the words name one
abbrev pub script_names : RunWords → List (List ℕ)
script_names run = option_map_or (λ script. script ∷ []) run.script []

-- the files that the words of a run or a boot name, in the order in which they are read: the script, the slice text,
-- and the modules or the images
abbrev pub run_inputs : RunWords → List (List ℕ)
run_inputs run = script_names run ++ run.slices ∷ run.files

-- ---- parts of a list of names

-- the first of these names: all, some or none
abbrev pub AreFirstNames : List (List ℕ) → List (List ℕ) → Type 0
AreFirstNames front names = (rest : List (List ℕ)) × (names ≡ front ++ rest)

-- those up to this name, which is included
pub record IsUpTo (name : List ℕ) (front names : List (List ℕ)) : Type 0 where
  pub earlier : List (List ℕ)
  pub later : List (List ℕ)
  pub whole : names ≡ earlier ++ name ∷ later
  pub is : front ≡ earlier ++ name ∷ []
