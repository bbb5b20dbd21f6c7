-- Each part of the text is tested.
use Rattle.std.proofs.Common.{◌≡◌, ap, sym, ◌∙◌, Some, None, rules, tests}
use Rattle.std.specs.Prelude.{if◌then◌else◌}
use Rattle.std.specs.List.{list_all, slice_split}
use Rattle.std.proofs.lemmas.Iterator.Search.{all_from_yields_List}
use Rattle.std.proofs.lemmas.Iterator.Splits.{YieldsList-from_slice_split}
use Rattle.asm_model.specs.Characters.{is_comma}
use Rattle.asm_model.specs.Statements.{is_expression}
use Rattle.asm_lines.proofs.operands.expression_list.Goals as goal

pub returns-then-all : goal.returns-then-all
returns-then-all c =
    let tested : c.all.result ≡ list_all is_expression (slice_split is_comma c.args.text.now) =
    all_from_yields_List is_expression _ _ c.all.result c.all.ensures.ran
    (YieldsList-from_slice_split _ is_comma c.args.text.now (cc) (cc) (cc) (λ x b q k. search (rules, tests))) (λ x b q k. search (rules, tests)) in
    ap (λ b. if b then Some (slice_split is_comma c.args.text.now) else None) (sym c.if-all.true ∙ tested)

pub returns-else-all : goal.returns-else-all
returns-else-all c =
    let tested : c.all.result ≡ list_all is_expression (slice_split is_comma c.args.text.now) =
    all_from_yields_List is_expression _ _ c.all.result c.all.ensures.ran
    (YieldsList-from_slice_split _ is_comma c.args.text.now (cc) (cc) (cc) (λ x b q k. search (rules, tests))) (λ x b q k. search (rules, tests)) in
    ap (λ b. if b then Some (slice_split is_comma c.args.text.now) else None) (sym c.if-all.false ∙ tested)
