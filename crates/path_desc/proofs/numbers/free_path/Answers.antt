use Rattle.std.proofs.Common.{◌≡◌, ◌∙◌, ◌+◌, ◌-◌, ℕ, Option, option_map, List, ap, sym, is_none, position, take, drop, length, arith, rules, length-drop}
use Rattle.std.proofs.lemmas.Iterator.{YieldsList-from_slice}
use Rattle.std.proofs.lemmas.Iterator.Search.{position_from_yields_List}
use Rattle.std.proofs.lemmas.Grind.{common_steps}
use Rattle.io_model.specs.declared.path.SysPath.{SysPath}
use Rattle.io_model.specs.declared.path.Desc.{Desc}
use Rattle.path_desc.proofs.numbers.free_path.Goals as goal

-- the whole of what follows the first place
rest : (descs : List (Option Desc)) → take (length descs - 1) (drop 1 descs) ≡ drop 1 descs
rest descs = grind (arith, common_steps, length-drop 1 descs)

pub returns-in_err-place-clause-number : goal.returns-in_err-place-clause-number
returns-in_err-place-clause-number c =
    let e : c.position.result ≡ position is_none (take (length c.args.descs.now - 1) (drop 1 c.args.descs.now)) =
    position_from_yields_List (λ place. is_none place) _ _ c.position.result c.position.ensures.ran (YieldsList-from_slice _ c.iter.ensures.rest) (λ x b q k. search rules)
    in
    let found = c.in_err-place.was in
    ap (option_map (λ (s : SysPath). s.0)) c.from_residual.ensures
    ∙ ap (option_map (λ (k : ℕ). k + 1)) (sym found ∙ e ∙ ap (position is_none) (rest c.args.descs.now))

pub returns-clause-number : goal.returns-clause-number
returns-clause-number c =
    let e : c.position.result ≡ position is_none (take (length c.args.descs.now - 1) (drop 1 c.args.descs.now)) =
    position_from_yields_List (λ place. is_none place) _ _ c.position.result c.position.ensures.ran (YieldsList-from_slice _ c.iter.ensures.rest) (λ x b q k. search rules)
    in ap (λ (o : Option ℕ). option_map (λ k. k + 1) o) (sym c.in_ok-place.was ∙ e ∙ ap (position is_none) (rest c.args.descs.now))
