use Rattle.std.proofs.Common.{◌≡◌, ◌∙◌, ◌+◌, ◌-◌, ℕ, Option, option_map, List, ap, sym, is_none, position, take, drop, length, arith, rules, length-drop}
use Rattle.std.proofs.lemmas.Iterator.{YieldsList-from_slice}
use Rattle.std.proofs.lemmas.Iterator.Search.{position_from_yields_List}
use Rattle.std.proofs.lemmas.Grind.{common_steps}
use Rattle.io_model.specs.declared.pipe.PipeId.{PipeId}
use Rattle.pipe_mgr.proofs.pipes.free_pipe.Goals as goal

-- the whole of what follows the first place
rest : (pipes : List (Option (List ℕ))) → take (length pipes - 1) (drop 1 pipes) ≡ drop 1 pipes
rest pipes = grind (arith, common_steps, length-drop 1 pipes)

pub returns-in_err-place-clause-number : goal.returns-in_err-place-clause-number
returns-in_err-place-clause-number c =
    let e : c.position.result ≡ position is_none (take (length c.args.pipes.now - 1) (drop 1 c.args.pipes.now)) =
    position_from_yields_List (λ place. is_none place) _ _ c.position.result c.position.ensures.ran (YieldsList-from_slice _ c.iter.ensures.rest) (λ x b q k. search rules)
    in
    let found = c.in_err-place.was in
    ap (option_map (λ (id : PipeId). id.0)) c.from_residual.ensures
    ∙ ap (option_map (λ (k : ℕ). k + 1)) (sym found ∙ e ∙ ap (position is_none) (rest c.args.pipes.now))

pub returns-clause-number : goal.returns-clause-number
returns-clause-number c =
    let e : c.position.result ≡ position is_none (take (length c.args.pipes.now - 1) (drop 1 c.args.pipes.now)) =
    position_from_yields_List (λ place. is_none place) _ _ c.position.result c.position.ensures.ran (YieldsList-from_slice _ c.iter.ensures.rest) (λ x b q k. search rules)
    in ap (λ (o : Option ℕ). option_map (λ k. k + 1) o) (sym c.in_ok-place.was ∙ e ∙ ap (position is_none) (rest c.args.pipes.now))
