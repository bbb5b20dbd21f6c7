use Rattle.std.proofs.Common.{not, ◌≡◌, length, rules, tests}
use Rattle.std.specs.List.{position_or_len}
use Rattle.std.proofs.lemmas.List.{take_rest}
use Rattle.std.proofs.lemmas.Iterator.{YieldsList-from_slice}
use Rattle.std.proofs.lemmas.Iterator.Search.{position_from_yields_List}
use Rattle.text_values.specs.Cuts.{is_space}
use Rattle.text_values.proofs.Places.{unwrap_or-position, position_or_len-within}
use Rattle.text_values.proofs.without_spaces.Goals as goal

pub returns : goal.returns
returns c =
    let line = c.args.line.now in
    let place : c.unwrap_or-spaces.result ≡ position_or_len (λ byte. not (is_space byte)) line = unwrap_or-position
    (position_or_len (λ byte. not (is_space byte)) line) (length line) c.position.result _
    (position_from_yields_List (λ byte. not (is_space byte)) _ _ c.position.result c.position.ensures.ran
    (YieldsList-from_slice line cc) (λ x b q k. search (rules, tests))) (position_or_len-within _ _)
    c.unwrap_or-spaces.ensures in
    rw place (take_rest line _)
