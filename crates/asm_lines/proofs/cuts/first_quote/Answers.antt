use Rattle.std.proofs.Common.{length, rules, tests}
use Rattle.std.specs.List.{position_or_len}
use Rattle.std.proofs.lemmas.Iterator.{YieldsList-from_slice}
use Rattle.std.proofs.lemmas.Iterator.Search.{position_from_yields_List}
use Rattle.asm_model.specs.Characters.{is_quote}
use Rattle.text_values.proofs.Places.{unwrap_or-position, position_or_len-within}
use Rattle.asm_lines.proofs.cuts.first_quote.Goals as goal

pub returns-clause-place : goal.returns-clause-place
returns-clause-place c =
    unwrap_or-position (position_or_len is_quote c.args.text.now) (length c.args.text.now) c.position.result _
    (position_from_yields_List is_quote _ _ c.position.result c.position.ensures.ran (YieldsList-from_slice c.args.text.now cc) (λ x b q k. search (rules, tests)))
    (position_or_len-within _ _) c.unwrap_or.ensures
