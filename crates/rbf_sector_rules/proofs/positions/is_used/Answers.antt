use Rattle.std.proofs.Common.{◌≡◌, ◌∙◌, ◌+◌, ◌*◌, ◌/◌, ◌%◌, ◌==◌, not, drop, get_or, sym, ap, arith}
use Rattle.std.proofs.lemmas.List.{get_or-take, get_or-drop}
use Rattle.rbf_sector_rules.proofs.Searched.{entry_in_image}
use Rattle.rbf_sector_rules.proofs.positions.is_used.Goals as goal

pub returns : goal.returns
returns c =
    let image = c.args.image.now in
    let e = c.args.e in
    let at = 256 * (e / 8) + 32 * (e % 8) in
    let place : at + 0 ≡ 32 * e = omega arith in
    ap (λ byte. not (byte == 0)) (sym
    (ap (λ entry. get_or entry 0 0) (entry_in_image image (e / 8) (e % 8) (omega arith))
    ∙ get_or-take 32 (drop at image) 0 0 (omega arith) ∙ get_or-drop at image 0 0 ∙ ap (λ k. get_or image k 0) place))
