use Rattle.std.proofs.Common.{◌≡◌, ◌∙◌, ◌+◌, ◌-◌, ℕ, Option, option_map, List, ap, sym, is_none, position, take, drop, length, arith, rules, length-drop}
use Rattle.std.proofs.lemmas.Iterator.{YieldsList-from_slice}
use Rattle.std.proofs.lemmas.Iterator.Search.{position_from_yields_List}
use Rattle.std.proofs.lemmas.Grind.{common_steps}
use Rattle.os9_base.specs.declared.registers.Pid.{Pid}
use Rattle.proc_model.specs.declared.record.Record.{Record}
use Rattle.process_table.proofs.list.free_process.Goals as goal

-- the whole of what follows the first two
rest : (records : List (Option Record)) → take (length records - 2) (drop 2 records) ≡ drop 2 records
rest records = grind (arith, common_steps, length-drop 2 records)

pub returns-in_err-place-clause-number : goal.returns-in_err-place-clause-number
returns-in_err-place-clause-number c =
    let e : c.position.result ≡ position is_none (take (length c.args.records.now - 2) (drop 2 c.args.records.now)) =
    position_from_yields_List (λ place. is_none place) _ _ c.position.result c.position.ensures.ran (YieldsList-from_slice _ c.iter.ensures.rest) (λ x b q k. search rules)
    in
    let found = c.in_err-place.was in
    ap (option_map (λ (p : Pid). p.0)) c.from_residual.ensures
    ∙ ap (option_map (λ (k : ℕ). k + 2)) (sym found ∙ e ∙ ap (position is_none) (rest c.args.records.now))

pub returns-clause-number : goal.returns-clause-number
returns-clause-number c =
    let e : c.position.result ≡ position is_none (take (length c.args.records.now - 2) (drop 2 c.args.records.now)) =
    position_from_yields_List (λ place. is_none place) _ _ c.position.result c.position.ensures.ran (YieldsList-from_slice _ c.iter.ensures.rest) (λ x b q k. search rules)
    in ap (λ (o : Option ℕ). option_map (λ k. k + 2) o) (sym c.in_ok-place.was ∙ e ∙ ap (position is_none) (rest c.args.records.now))
