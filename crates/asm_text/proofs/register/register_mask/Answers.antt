use Rattle.std.proofs.Common.{◌==◌, length, sym, ◌∙◌, rules, tests}
use Rattle.std.specs.List.{slice_split}
use Rattle.std.proofs.lemmas.List.{length_push}
use Rattle.std.proofs.lemmas.Iterator.Consumers.{YieldsList-turn, YieldsList-end}
use Rattle.std.proofs.lemmas.Iterator.Splits.{YieldsList-from_slice_split}
use Rattle.asm_model.specs.Characters.{is_comma}
use Rattle.asm_text.proofs.Masks.{mask-next, mask-none, mask-all}
use Rattle.asm_text.proofs.register.register_mask.Goals as goal

pub returns-in_err-mask : goal.returns-in_err-mask
returns-in_err-mask c =
    let turn =
    YieldsList-turn (YieldsList-from_slice_split _ (λ byte. byte == 44) c.args.text.now (cc) (cc) (cc) (λ x b q k. search (rules, tests)))
    c.loop-name.yielded _ c.loop-name.yielded_by _ _ c.in-Some.name c.in-Some.is c.next.ensures.steps in
    c.from_residual.ensures
    ∙ mask-none c.args.stack c.loop-name.mask (length c.loop-name.yielded) (slice_split is_comma c.args.text.now) c.in-Some.name.now _ _ turn.0 turn.1 c.loop-name.invariant
    (sym c.mask_weight.ensures ∙ c.in_err-mask.was)

pub loop-name-preserved : goal.loop-name-preserved
loop-name-preserved c =
    let turn =
    YieldsList-turn (YieldsList-from_slice_split _ (λ byte. byte == 44) c.args.text.now (cc) (cc) (cc) (λ x b q k. search (rules, tests)))
    c.loop-name.yielded _ c.loop-name.yielded_by _ _ c.in-Some.name c.in-Some.is c.next.ensures.steps in
    let count = length_push c.loop-name.yielded c.in-Some.name in
    rw count
    (mask-next c.args.stack c.loop-name.mask (length c.loop-name.yielded) (slice_split is_comma c.args.text.now) c.in-Some.name.now _ _ turn.0 turn.1 c.loop-name.invariant
    _ (sym c.mask_weight.ensures ∙ c.in_ok-mask.was))

pub returns : goal.returns
returns c =
    let end =
    YieldsList-end (YieldsList-from_slice_split _ (λ byte. byte == 44) c.args.text.now (cc) (cc) (cc) (λ x b q k. search (rules, tests)))
    c.loop-name.yielded _ c.loop-name.yielded_by _ _ c.in-None.is c.next.ensures.steps in
    mask-all c.args.stack c.loop-name.mask _ (slice_split is_comma c.args.text.now) _ end.1 c.loop-name.invariant
