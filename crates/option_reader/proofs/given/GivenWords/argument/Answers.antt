use Rattle.std.proofs.Common.{rules, ◌≡◌, ◌∙◌, ap, sym, option_map, option_copied, slice_get, Some, None, Option, List, ℕ, length, refl}
use Rattle.std.specs.Borrow.{Bor}
use Rattle.std.specs.Slice.{IsItemAt}
use Rattle.std.proofs.lemmas.Option.{slice_get-map, slice_get_past, slice_get_read}
use Rattle.clap.specs.Words.{found_of}
use Rattle.option_reader.proofs.RowLemmas.{no_arguments, some_arguments}
use Rattle.option_reader.proofs.given.GivenWords.argument.Goals as goal

item_copied : (texts : List (Bor (List ℕ))) (i : ℕ) (item : Option (Bor (Bor (List ℕ)))) → IsItemAt texts i item → option_copied item ≡ slice_get texts i
item_copied texts i None is = sym (slice_get_past texts i is.3)
item_copied texts i (Some text) is = sym (slice_get_read texts (length texts) i text.now refl is.3.0 is.1)

pub returns-in_err-get_raw : goal.returns-in_err-get_raw
returns-in_err-get_raw c =
    let none : c.from_residual.result ≡ None = search rules in
    let missing : c.get_raw.result ≡ None = search rules in
    let empty = no_arguments (found_of c.self.inside.matches) c.get_raw.result c.get_raw.ensures missing in
    ap (option_map (λ argument. argument.now)) none
    ∙ sym (ap (λ given. slice_get given.arguments c.args.place) (sym c.self.view_is) ∙ ap (λ all. slice_get all c.args.place) empty)

pub returns : goal.returns
returns c =
    let texts = c.in_ok-get_raw.field-0 in
    let found : c.get_raw.result ≡ Some texts = search rules in
    let copied : c.copied.result ≡ option_copied c.get.result = search rules in
    ap (option_map (λ argument. argument.now)) (copied ∙ item_copied texts.now c.args.place c.get.result c.get.ensures.lookup)
    ∙ sym (slice_get-map (λ v. v.now) texts.now c.args.place)
    ∙ sym (ap (λ given. slice_get given.arguments c.args.place) (sym c.self.view_is)
    ∙ ap (λ all. slice_get all c.args.place) (some_arguments (found_of c.self.inside.matches) c.get_raw.result c.get_raw.ensures texts found))
