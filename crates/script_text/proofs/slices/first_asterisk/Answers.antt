use Rattle.std.proofs.Common.{length, rules, tests}
use Rattle.std.specs.List.{position_or_len}
use Rattle.std.proofs.lemmas.Iterator.{YieldsList-from_slice}
use Rattle.std.proofs.lemmas.Iterator.Search.{position_from_yields_List}
use Rattle.script_text.specs.Slices.{is_asterisk}
use Rattle.text_values.proofs.Places.{unwrap_or-position, position_or_len-within}
use Rattle.script_text.proofs.slices.first_asterisk.Goals as goal

pub returns-clause-place : goal.returns-clause-place
returns-clause-place c =
    unwrap_or-position (position_or_len is_asterisk c.args.word.now) (length c.args.word.now) c.position.result _
    (position_from_yields_List is_asterisk _ _ c.position.result c.position.ensures.ran
    (YieldsList-from_slice c.args.word.now cc) (λ x b q k. search (rules, tests))) (position_or_len-within _ _)
    c.unwrap_or.ensures
