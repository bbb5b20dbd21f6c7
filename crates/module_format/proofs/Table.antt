-- The table of the CRC has what the division by eight zero bits leaves of each byte.
use Rattle.std.proofs.Common.{◌≡◌, ℕ, ◌*◌, ◌<◌, map, get_or, List, refl, ap, ◌∙◌, arith}
use Rattle.std.specs.List.{range_with_len}
use Rattle.std.proofs.lemmas.List.FromFn.{get_or-map-range_with_len}
use Rattle.proc_model.specs.CrcModel.{divided_once, divided, bits_of}
use Rattle.module_format.specs.declared.crc.TheConstants.{TABLE}

abbrev word : ℕ → ℕ
word top = divided (top * 65536) (bits_of 0)

all_words : TABLE ≡ map word (range_with_len 0 256)
unfolding divided_once
all_words = refl

pub table_entry : (top : ℕ) → top < 256 → get_or TABLE top 0 ≡ divided (top * 65536) (bits_of 0)
table_entry top p =
    ap (λ (xs : List ℕ). get_or xs top 0) all_words ∙ get_or-map-range_with_len word 0 256 top top 0 p (omega arith)
