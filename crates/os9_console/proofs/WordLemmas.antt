-- The words of the console, as they are read.
use Rattle.std.proofs.Common.{◌≡◌, ℕ, ◌+◌, ◌||◌, Bool, true, false, Option, Some, None, List, [], ◌∷◌, ◌++◌, take, get_or, slice_get, bytes_eq, ap, ◌∙◌, append_assoc}
use Rattle.std.specs.Prelude.{codes, option_map, unwrap_or}
use Rattle.std.specs.List.{list_any}
use Rattle.std.proofs.lemmas.List.Folds.{list_any_at, list_any_more}
use Rattle.std.proofs.lemmas.Option.{get_or_from_slice_get, slice_get_within}
use Rattle.option_reader.specs.Given.{Given, value_of}
use Rattle.os9_words.specs.Command.{most_images}
use Rattle.os9_console.specs.Words.{option_words, record_name, replay_words}

-- ---- images and their names

module _ (name : List ℕ) (files : List (List ℕ)) (place : ℕ) (word : List ℕ) (at : slice_get files place ≡ Some word) where
  pub none-more : list_any (bytes_eq name) (take place files) ≡ false → bytes_eq name word ≡ false → list_any (bytes_eq name) (take (place + 1) files) ≡ false
  none-more none other =
      list_any_more (bytes_eq name) files place word (slice_get_within files place word at)
      ∙ ap (λ (found : Bool). found || bytes_eq name (get_or files place word)) none
      ∙ ap (bytes_eq name) (get_or_from_slice_get files place word word at)
      ∙ other

  pub some-there : bytes_eq name word ≡ true → list_any (bytes_eq name) files ≡ true
  some-there same =
      list_any_at (bytes_eq name) files place word (slice_get_within files place word at) (ap (bytes_eq name) (get_or_from_slice_get files place word word at) ∙ same)

-- ---- the boot that gives a session again

-- a name that was given, or another
pub named-so : {Word : Type 0} (text : Word → List ℕ) (found : Option Word) (other name : Word)
    (value : Option (List ℕ)) → name ≡ unwrap_or found other → option_map text found ≡ value → text name ≡ unwrap_or
    value (text other)
named-so text None other name value is kept = ap text is ∙ ap (λ (value : Option (List ℕ)). unwrap_or value (text other)) kept
named-so text (Some word) other name value is kept = ap text is ∙ ap (λ (value : Option (List ℕ)). unwrap_or value (text other)) kept

-- the words that are appended one after the other
pub replay-is : (given : Given) (one two three four five six all : List (List ℕ)) (script slices : List ℕ) → one ≡ codes "boot" ∷ [] → two ≡ one ++ script ∷ [] → three ≡ two ++ slices ∷ []
    → script ≡ codes "--script=" ++ record_name given ++ codes ".script" → slices ≡ codes "--slices=" ++ record_name given ++ codes ".slices"
    → four ≡ three ++ option_words (codes "--blocks=") (value_of given (codes "blocks")) → five ≡ four ++ option_words
    (codes "--time=") (value_of given (codes "time")) → six ≡ five ++ codes "--" ∷ [] → all ≡ six ++ take
    (most_images + 1) given.arguments
    → all ≡ replay_words given
replay-is given one two three four five six all script slices is_one is_two is_three is_script is_slices is_four is_five is_six is_all =
    let blocks : List (List ℕ) = option_words (codes "--blocks=") (value_of given (codes "blocks")) in
    let time : List (List ℕ) = option_words (codes "--time=") (value_of given (codes "time")) in
    let images : List (List ℕ) = take (most_images + 1) given.arguments in
    let names : three ≡ codes "boot" ∷ script ∷ slices ∷ [] = is_three ∙ ap (λ (front : List (List ℕ)). front ++ slices ∷ []) (is_two ∙ ap (λ (front : List (List ℕ)). front ++ script ∷ []) is_one) in
    let options : five ≡ (codes "boot" ∷ script ∷ slices ∷ blocks) ++ time = is_five ∙ ap (λ (front : List (List ℕ)).
    front ++ time) (is_four ∙ ap (λ (front : List (List ℕ)). front ++ blocks) names) in
    is_all
    ∙ ap (λ (front : List (List ℕ)). front ++ images) (is_six ∙ ap (λ (front : List (List ℕ)). front ++ codes "--" ∷ []) options)
    ∙ append_assoc ((codes "boot" ∷ script ∷ slices ∷ blocks) ++ time) (codes "--" ∷ []) images
    ∙ (λ i. ((codes "boot" ∷ is_script i ∷ is_slices i ∷ blocks) ++ time) ++ codes "--" ∷ images)
