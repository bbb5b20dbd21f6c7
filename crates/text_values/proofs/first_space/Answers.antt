use Rattle.std.proofs.Common.{length, rules, tests}
use Rattle.std.specs.List.{position_or_len}
use Rattle.std.proofs.lemmas.Iterator.{YieldsList-from_slice}
use Rattle.std.proofs.lemmas.Iterator.Search.{position_from_yields_List}
use Rattle.text_values.specs.Cuts.{is_space}
use Rattle.text_values.proofs.Places.{unwrap_or-position, position_or_len-within}
use Rattle.text_values.proofs.first_space.Goals as goal

pub returns-clause-place : goal.returns-clause-place
returns-clause-place c =
    unwrap_or-position (position_or_len is_space c.args.line.now) (length c.args.line.now) c.position.result _
    (position_from_yields_List is_space _ _ c.position.result c.position.ensures.ran
    (YieldsList-from_slice c.args.line.now cc) (λ x b q k. search (rules, tests))) (position_or_len-within _ _)
    c.unwrap_or.ensures
