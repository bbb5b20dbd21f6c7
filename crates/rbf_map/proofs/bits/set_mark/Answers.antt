use Rattle.std.proofs.Common.{◌/◌, ◌∙◌, ap, arith}
use Rattle.std.specs.Int.{bit_at, w8}
use Rattle.std.proofs.lemmas.Nat.Bits.{bit_at_set_same, bit_at_set_other}
use Rattle.std.proofs.lemmas.List.{get_or_read}
use Rattle.rbf_map.proofs.Marks.{changes_mark}
use Rattle.rbf_map.proofs.bits.set_mark.Goals as goal

pub returns : goal.returns
returns c =
    let value = get_or_read c.args.bytes.now.items (c.args.cluster / 8) _ (omega arith) c.index_mut.ensures.value 0 in
    changes_mark c.args.bytes.now.items c.args.cluster _ 1 (omega arith) (bit_at_set_same w8 _ _ (omega arith))
    (λ k below apart. bit_at_set_other w8 _ _ (omega arith) k apart ∙ ap (λ byte. bit_at byte k) value)
