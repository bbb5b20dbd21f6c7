use Rattle.std.proofs.Common.{arith}
use Rattle.std.specs.Int.{w8}
use Rattle.std.proofs.lemmas.Nat.Bits.{bit_at_clear_same, bit_at_clear_other}
use Rattle.rbf_alloc.proofs.ClearedMarks.{bit_cleared}
use Rattle.rbf_alloc.proofs.bits.clear_mark.Goals as goal

pub returns : goal.returns
returns c = bit_cleared c.args.bytes.now c.args.c _ (omega arith) (bit_at_clear_same w8 _ _ (omega arith)) (λ k below apart. bit_at_clear_other w8 _ _ (omega arith) k below apart)
