-- Two registers of one size, with a comma between their names.
use Rattle.std.proofs.Common.{◌≡◌, ℕ, ◌+◌, ◌*◌, Bool, true, false, Option, Some, None, List, refl, ap, sym, ◌∙◌}
use Rattle.std.specs.Prelude.{option_and_then, if◌then◌else◌}
use Rattle.std.specs.Bool.{then_some}
use Rattle.std.specs.List.{slice_split}
use Rattle.asm_model.specs.Characters.{is_comma}
use Rattle.asm_model.specs.Operands.{if_pair, pair_among, register_code, register_pair}
use Rattle.asm_text.specs.Cuts.{two, two_of}
use Rattle.asm_text.proofs.Parts.{two-back}

pub some-if : (b : Bool) (n : ℕ) → then_some b n ≡ (if b then Some n else None)
some-if true n = refl
some-if false n = refl

pub pair-read : (text first second : List ℕ) (source : ℕ) (destination : Option ℕ) → Some (two first second) ≡ two_of (slice_split is_comma text) →
    Some source ≡ register_code first → destination ≡ register_code second → option_and_then (λ low. if_pair (16 * source + low)) destination ≡ register_pair text
pair-read text first second source destination parts from to =
    ap (option_and_then (λ low. if_pair (16 * source + low))) to
    ∙ ap (option_and_then (λ high. option_and_then (λ low. if_pair (16 * high + low)) (register_code second))) from
    ∙ ap pair_among (sym (two-back (slice_split is_comma text) first second parts))
