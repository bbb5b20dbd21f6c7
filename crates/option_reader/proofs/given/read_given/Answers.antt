use Rattle.std.proofs.Common.{◌≡◌, ◌≢◌, get_or, ◌∙◌, ℕ, List, [], map, All, IsUtf8, String, string_bytes, Global, Some, sym, ap, subst}
use Rattle.std.specs.Borrow.{Bor}
use Rattle.std.proofs.lemmas.Str.{IsUtf8-string_bytes}
use Rattle.std.proofs.lemmas.List.Elements.{All-map}
use Rattle.clap.specs.Words.{fault_of, found_of, is_simple, is_simple_and_free, matches_of, rows_of, HasKind}
use Rattle.option_reader.specs.Rows.{app_with, given_of}
use Rattle.option_reader.proofs.Dashes.{dash-refused}
use Rattle.option_reader.proofs.Parses.{refused, taken}
use Rattle.option_reader.proofs.Rules.{simple, simple_and_free}
use Rattle.option_reader.proofs.given.read_given.Goals as goal

pub returns-then-has_dash_value : goal.returns-then-has_dash_value
returns-then-has_dash_value c =
    sym (dash-refused (map (λ name. name.now) c.args.names.now) (map string_bytes c.args.words.now) (sym c.has_dash_value.ensures ∙ c.if-has_dash_value.true))

texts : (words : List (String Global)) → All IsUtf8 (map string_bytes words)
texts words = All-map IsUtf8 string_bytes words (λ k d lt. IsUtf8-string_bytes {Z = Global} (get_or words k d))

names_named : (names : List (Bor (List ℕ))) → All (λ name. name.now ≢ []) names → All (λ name. name ≢ []) (map (λ name. name.now) names)
names_named names named = All-map (λ name. name ≢ []) (λ name. name.now) names named

module _ (c : goal.In-Ok) where
  taken-here : (Some (given_of (rows_of (found_of c.in-Ok.matches))) ≡ Rattle.option_reader.specs.Given.words_give
      (map (λ name. name.now) c.args.names.now) (map string_bytes c.args.words.now)) × All
      Rattle.option_reader.specs.Rows.HasOptionValue (rows_of (found_of c.in-Ok.matches))
  taken-here =
      let names = map (λ name. name.now) c.args.names.now in
      let words = map string_bytes c.args.words.now in
      let app = c.in_ok-command.ensures in
      taken names words (rows_of (found_of c.in-Ok.matches)) (names_named c.args.names.now c.requires) (texts c.args.words.now) (sym c.has_dash_value.ensures ∙ c.if-has_dash_value.false)
      (ap (λ a. fault_of a words) (sym app) ∙ c.in-Ok.ensures.kinds (ap is_simple_and_free app ∙ simple_and_free names))
      ((c.in-Ok.ensures.matches (ap is_simple app ∙ simple names)).0 ∙ ap (λ a. matches_of a words) app)

pub invariant_of-result : goal.invariant_of-result
invariant_of-result c = (taken-here c).1

pub returns-in-Ok : goal.returns-in-Ok
returns-in-Ok c = (taken-here c).0

pub returns : goal.returns
returns c =
    let names = map (λ name. name.now) c.args.names.now in
    let words = map string_bytes c.args.words.now in
    let app = c.in_ok-command.ensures in
    refused names words c.in-Err.error (names_named c.args.names.now c.requires) (texts c.args.words.now) (sym c.has_dash_value.ensures ∙ c.if-has_dash_value.false)
    (subst (λ a. HasKind (fault_of a words) c.in-Err.error) app (c.in-Err.ensures.kinds (ap is_simple_and_free app ∙ simple_and_free names)))
    (λ memory. c.in_default.not-OutOfMemory (c.kind.ensures ∙ memory))
