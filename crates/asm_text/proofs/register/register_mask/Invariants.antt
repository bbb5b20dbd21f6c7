-- The registers that are left complete the mask.
use Rattle.std.proofs.Common.{◌≡◌, drop, length}
use Rattle.std.specs.List.{slice_split}
use Rattle.asm_model.specs.Characters.{is_comma}
use Rattle.asm_model.specs.Operands.{mask_with}
use Rattle.asm_text.proofs.register.register_mask.Given as goal

abbrev pub invariant-loop-name : goal.invariant-loop-name
invariant-loop-name l =
    mask_with l.stack l.mask (drop (length l.yielded) (slice_split is_comma l.text)) ≡ mask_with l.stack 0 (slice_split is_comma l.text)
