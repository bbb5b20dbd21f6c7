-- The files that a boot writes after its run: its images, and its history if a file is named for it (this project's
-- own).
use Rattle.std.specs.Prelude.{ℕ, Option, None, List, [], ◌∷◌, ◌++◌}
use Rattle.std.specs.Option.{option_map_or}
use Rattle.lock_model.specs.Lines.{history_text}
use Rattle.lock_model.specs.declared.history.Entry.{Entry}
use Rattle.os9_words.specs.declared.command.RunWords.{RunWords}

-- the files that it writes: the images under their names, and the history
pub record Outputs : Type 0 where
  pub images : List (List ℕ)
  pub history : Option (List ℕ)

-- those of a boot; a run writes none
abbrev pub outputs_of : RunWords → Outputs
outputs_of boot = record { images = boot.files; history = boot.history }

abbrev pub no_outputs : Outputs
no_outputs = record { images = []; history = None }

-- their names, in the order in which they are written
abbrev pub output_names : Outputs → List (List ℕ)
output_names outputs = outputs.images ++ option_map_or (λ name. name ∷ []) outputs.history []

-- what they hold: the images, and a line for each entry of the history, oldest first
abbrev pub output_bytes : Outputs → List (List ℕ) → List Entry → List (List ℕ)
output_bytes outputs images history =
    images ++ option_map_or (λ name. history_text history ∷ []) outputs.history []
