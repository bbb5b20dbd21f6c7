-- One more name is one more option.
use Rattle.std.proofs.Common.{◌≡◌, ◌∙◌, ◌+◌, ◌<◌, ap, ap₂, map, take, get_or, [], ◌∷◌, ◌++◌, List, length, ℕ, sym}
use Rattle.std.specs.Borrow.{Bor}
use Rattle.std.proofs.lemmas.List.{map-append, take_more}
use Rattle.clap.specs.Words.{Rule, with_rule}
use Rattle.option_reader.specs.Rows.{app_with, arguments_rule, option_rule}
use Rattle.option_reader.proofs.command.command_with.Goals as goal

abbrev names_of : List (Bor (List ℕ)) → List (List ℕ)
names_of = map (λ name. name.now)

one-more : (names : List (Bor (List ℕ))) (i : ℕ) (name : Bor (List ℕ)) → i < length names
    → map option_rule (names_of (take i names)) ++ option_rule (get_or names i name).now ∷ [] ≡ map option_rule (names_of (take (i + 1) names))
one-more names i name below =
    let x = get_or names i name in
    sym (ap (λ all. map option_rule (names_of all)) (take_more names i name below)
    ∙ ap (map option_rule) (map-append (λ name. name.now) (take i names) (x ∷ []))
    ∙ map-append option_rule (names_of (take i names)) (x.now ∷ []))

joined : (names : List (Bor (List ℕ))) (i : ℕ) (name : Bor (List ℕ)) → i < length names
    → with_rule (app_with (names_of (take i names))) (option_rule (get_or names i name).now) ≡ app_with (names_of (take (i + 1) names))
joined names i name below =
    ap (λ (rules : List Rule). record (app_with []) { top = record (app_with []).top { rules = arguments_rule ∷ rules } }) (one-more names i name below)

pub loop-name-preserved : goal.loop-name-preserved
loop-name-preserved c =
    c.in_ok-command-2.ensures.shape c.option_named.ensures.local
    ∙ ap₂ with_rule c.loop-name.invariant c.option_named.ensures.rule
    ∙ joined c.args.names.now c.loop-name.name-index _ c.loop-name-test.true
