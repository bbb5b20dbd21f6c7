-- One bit of one byte.
use Rattle.std.proofs.Common.{◌+◌, ◌/◌, ◌∙◌, ap, arith}
use Rattle.std.specs.Int.{bit_at, w8}
use Rattle.std.proofs.lemmas.Nat.Bits.{bit_at_clear_same, bit_at_clear_other}
use Rattle.std.proofs.lemmas.List.{get_or_read}
use Rattle.vol_tools.proofs.Bits.{clears_mark}
use Rattle.vol_tools.proofs.clear.clear_mark.Goals as goal

pub returns : goal.returns
returns c =
    let value = get_or_read c.args.image.now.items (256 + c.args.c / 8) _ (omega arith) c.index_mut.ensures.value 0 in
    clears_mark c.args.image.now.items c.args.c _ (bit_at_clear_same w8 _ _ (omega arith)) (λ k below apart. bit_at_clear_other w8 _ _ (omega arith) k below apart ∙ ap (λ byte. bit_at byte k) value)
