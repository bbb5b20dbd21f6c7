use Rattle.std.proofs.Common.{◌≡◌, [], ◌∷◌, ◌++◌, ℕ, List, Option, map, ap, ◌∙◌, rules, string_bytes}
use Rattle.std.specs.Prelude.{codes}
use Rattle.std.proofs.lemmas.List.{map_push}
use Rattle.option_reader.specs.Given.{value_of}
use Rattle.os9_console.specs.Words.{option_words, record_name}
use Rattle.os9_console.proofs.WordLemmas.{named-so, replay-is}
use Rattle.os9_console.proofs.words.words_of_boot.Goals as goal

pub returns : goal.returns
returns c =
    let given = c.args.given.now in
    let one : map string_bytes c.push.new.self.items ≡ codes "boot" ∷ [] = search rules in
    let six : map string_bytes c.push-2.new.self.items ≡ map string_bytes c.push_value-2.new.words.items ++ codes "--" ∷ []
    = ap (map string_bytes) c.in_ok-push-2.ensures.items ∙ map_push string_bytes c.push_value-2.new.words.items _ ∙ ap
    (λ (word : List ℕ). map string_bytes c.push_value-2.new.words.items ++ word ∷ [])
    c.in_ok-from_str-2.ensures.ok in
    let name : c.unwrap_or-name.result.now ≡ record_name given = named-so (λ word. word.now) c.value.result _ c.unwrap_or-name.result _ c.unwrap_or-name.ensures c.value.ensures in
    let blocks : map string_bytes c.push_value.new.words.items ≡ map string_bytes c.push_option-2.new.words.items ++ option_words (codes "--blocks=") (value_of given (codes "blocks"))
    = c.in_ok-push_value.ensures ∙ ap (λ (value : Option (List ℕ)). map string_bytes c.push_option-2.new.words.items ++ option_words (codes "--blocks=") value) c.value-2.ensures in
    let time : map string_bytes c.push_value-2.new.words.items ≡ map string_bytes c.push_value.new.words.items ++ option_words (codes "--time=") (value_of given (codes "time"))
    = c.in_ok-push_value-2.ensures ∙ ap (λ (value : Option (List ℕ)). map string_bytes c.push_value.new.words.items ++ option_words (codes "--time=") value) c.value-3.ensures in
    replay-is given _ _ _ _ _ _ _ _ _ one c.in_ok-push_option.ensures c.in_ok-push_option-2.ensures
    (ap (λ (name : List ℕ). codes "--script=" ++ name ++ codes ".script") name)
    (ap (λ (name : List ℕ). codes "--slices=" ++ name ++ codes ".slices") name) blocks time six
    c.in_ok-push_images.ensures
