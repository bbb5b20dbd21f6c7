-- Each part of the list is tested.
use Rattle.std.proofs.Common.{rules, tests}
use Rattle.std.proofs.lemmas.Iterator.Search.{all_from_yields_List}
use Rattle.std.proofs.lemmas.Iterator.Splits.{YieldsList-from_slice_split}
use Rattle.asm_model.specs.Characters.{is_comma}
use Rattle.asm_lines.specs.Labels.{names_in}
use Rattle.asm_lines.proofs.faults.are_list_names_known.Goals as goal

pub returns : goal.returns
returns c =
    all_from_yields_List (names_in c.args.labels.now) _ _ c.all.result c.all.ensures.ran
    (YieldsList-from_slice_split _ is_comma c.args.text.now (cc) (cc) (cc) (λ x b q k. search (rules, tests))) (λ x b q k. search (rules, tests))
