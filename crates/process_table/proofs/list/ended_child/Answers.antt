use Rattle.std.proofs.Common.{◌≡◌, ◌∙◌, option_map, ap, sym, position, rules}
use Rattle.std.proofs.lemmas.Iterator.{YieldsList-from_slice}
use Rattle.std.proofs.lemmas.Iterator.Search.{position_from_yields_List}
use Rattle.os9_base.specs.declared.registers.Pid.{Pid}
use Rattle.proc_model.specs.Records.{record_passes}
use Rattle.proc_model.specs.Ends.{is_ended_child}
use Rattle.process_table.proofs.list.ended_child.Goals as goal

pub returns-in_err-place-clause-number : goal.returns-in_err-place-clause-number
returns-in_err-place-clause-number c =
    let e : c.position.result ≡ position (record_passes (is_ended_child c.args.parent.0)) c.args.records.now =
    position_from_yields_List (λ place. record_passes (is_ended_child c.args.parent.0) place) _ _ c.position.result
    c.position.ensures.ran (YieldsList-from_slice _ c.iter.ensures.rest) (λ x b q k. search rules)
    in ap (option_map (λ (p : Pid). p.0)) c.from_residual.ensures ∙ sym c.in_err-place.was ∙ e

pub returns-clause-number : goal.returns-clause-number
returns-clause-number c =
    let e : c.position.result ≡ position (record_passes (is_ended_child c.args.parent.0)) c.args.records.now =
    position_from_yields_List (λ place. record_passes (is_ended_child c.args.parent.0) place) _ _ c.position.result
    c.position.ensures.ran (YieldsList-from_slice _ c.iter.ensures.rest) (λ x b q k. search rules)
    in sym c.in_ok-place.was ∙ e
