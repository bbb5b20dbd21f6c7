-- Each part of the list is tested.
use Rattle.std.proofs.Common.{ℕ, List, rules, tests}
use Rattle.std.proofs.lemmas.Iterator.Search.{any_from_yields_List}
use Rattle.std.proofs.lemmas.Iterator.Splits.{YieldsList-from_slice_split}
use Rattle.asm_model.specs.Characters.{is_comma}
use Rattle.asm_model.specs.Placement.{is_out}
use Rattle.asm_lines.specs.Labels.{expression_in}
use Rattle.asm_lines.proofs.faults.is_list_out.Goals as goal

pub returns : goal.returns
returns c =
    any_from_yields_List (λ (t : List ℕ). is_out c.args.field c.args.next (expression_in c.args.place.labels.now c.args.place.offset t)) _ _ c.any.result c.any.ensures.ran
    (YieldsList-from_slice_split _ is_comma c.args.text.now (cc) (cc) (cc) (λ x b q k. search (rules, tests))) (λ x b q k. search (rules, tests))
