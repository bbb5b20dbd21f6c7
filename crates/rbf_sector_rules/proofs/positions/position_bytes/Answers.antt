use Rattle.std.proofs.Common.{◌≡◌, ◌∙◌, ◌+◌, ◌-◌, ◌*◌, ◌/◌, ◌%◌, take, drop, sym, ap, arith}
use Rattle.rbf_sector_rules.proofs.Searched.{entry_in_image}
use Rattle.rbf_sector_rules.proofs.positions.position_bytes.Goals as goal

pub returns : goal.returns
returns c =
    let image = c.args.image.now in
    let e = c.args.e in
    let count : 32 * e + 32 - 32 * e ≡ 32 = omega arith in
    let place : 32 * e ≡ 256 * (e / 8) + 32 * (e % 8) = omega arith in
    c.copy_from_slice.ensures.after ∙ ap (λ n. take n (drop (32 * e) image)) count ∙ ap (λ at. take 32 (drop at image)) place
    ∙ sym (entry_in_image image (e / 8) (e % 8) (omega arith))
