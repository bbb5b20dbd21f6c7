use Rattle.std.proofs.Common.{rules, ◌≡◌, ◌∙◌, ap, sym, option_map, slice_get, is_some, true≢false, refl, Some, None, List, [], ◌∷◌, ℕ}
use Rattle.option_reader.specs.Given.{only}
use Rattle.option_reader.proofs.given.GivenWords.only_argument.Goals as goal

only_one : (texts : List (List ℕ)) → slice_get texts 1 ≡ None → slice_get texts 0 ≡ only texts
only_one [] none = refl
only_one (text ∷ []) none = refl
only_one (first ∷ second ∷ texts) none = absurd (true≢false (ap is_some none))

not_one : (texts : List (List ℕ)) (text : List ℕ) → Some text ≡ slice_get texts 1 → None ≡ only texts
not_one [] text some = absurd (true≢false (ap is_some some))
not_one (first ∷ []) text some = absurd (true≢false (ap is_some some))
not_one (first ∷ second ∷ texts) text some = refl

pub returns-in-Some : goal.returns-in-Some
returns-in-Some c =
    let some : c.argument.result ≡ Some c.in-Some.field-0 = search rules in
    not_one c.args.self.now.arguments c.in-Some.field-0.now (sym (ap (option_map (λ argument. argument.now)) some) ∙ c.argument.ensures)

pub returns-in-None : goal.returns-in-None
returns-in-None c =
    let none : c.argument.result ≡ None = search rules in
    c.argument-in-None.ensures ∙ only_one c.args.self.now.arguments (sym c.argument.ensures ∙ ap (option_map (λ argument. argument.now)) none)
