use Rattle.std.proofs.Common.{◌≡◌, ℕ, ◌%◌, ◌*◌, ◌-◌, ◌^◌, ◌<◌, bit_and, bit_xor, sym, ap, subst, ◌∙◌, arith}
use Rattle.std.proofs.lemmas.Nat.{and_mask}
use Rattle.proc_model.proofs.CrcLaws.{byte_by_table, byte_lt}
use Rattle.module_format.proofs.crc.after_byte.Goals as goal

-- the register moved up by a byte
moved : (register : ℕ) → bit_and (register * 256 % 2 ^ 32) (2 ^ 24 - 1) ≡ register * 256 % 2 ^ 24
moved register = and_mask (register * 256 % 2 ^ 32) 24 ∙ (let shorter : register * 256 % 2 ^ 32 % 2 ^ 24 ≡ register * 256 % 2 ^ 24 = omega arith in shorter)

pub returns-clause-divided : goal.returns-clause-divided
returns-clause-divided c =
    ap (λ (x : ℕ). bit_xor x c.table_word.result) (moved c.args.register)
    ∙ ap (bit_xor (c.args.register * 256 % 2 ^ 24)) c.table_word.ensures
    ∙ sym (byte_by_table c.args.register c.args.byte c.requires c.ranges.byte.fits)

pub returns-clause-below : goal.returns-clause-below
returns-clause-below c =
    let P : ℕ → Type 0 = λ x. x < 2 ^ 24 in subst P (sym (returns-clause-divided c)) (byte_lt c.args.register c.args.byte c.requires)
