use Rattle.std.proofs.Common.{◌≡◌, ◌∙◌, sym, is_none, position, rules}
use Rattle.std.proofs.lemmas.Iterator.{YieldsList-from_slice}
use Rattle.std.proofs.lemmas.Iterator.Search.{position_from_yields_List}
use Rattle.path_desc.proofs.numbers.free_number.Goals as goal

pub returns-in_err-place-clause-number : goal.returns-in_err-place-clause-number
returns-in_err-place-clause-number c =
    let e : c.position.result ≡ position is_none c.args.numbers.now =
    position_from_yields_List (λ place. is_none place) _ _ c.position.result c.position.ensures.ran (YieldsList-from_slice _ c.iter.ensures.rest) (λ x b q k. search rules)
    in c.from_residual.ensures ∙ sym c.in_err-place.was ∙ e

pub returns-clause-number : goal.returns-clause-number
returns-clause-number c =
    let e : c.position.result ≡ position is_none c.args.numbers.now =
    position_from_yields_List (λ place. is_none place) _ _ c.position.result c.position.ensures.ran (YieldsList-from_slice _ c.iter.ensures.rest) (λ x b q k. search rules)
    in sym c.in_ok-place.was ∙ e
