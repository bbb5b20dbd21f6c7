-- The digits that are left complete the value.
use Rattle.std.proofs.Common.{◌≡◌, ◌<◌, drop}
use Rattle.asm_model.specs.Numbers.{hex_after}
use Rattle.asm_text.proofs.DigitLemmas.{limit}
use Rattle.asm_text.proofs.numbers.hexadecimal.Given as goal

abbrev pub invariant-loop-c : goal.invariant-loop-c
invariant-loop-c l = record {
  rest : hex_after l.value (drop l.c-index l.text) ≡ hex_after 0 l.text;
  small : l.value < limit l.c-index;
}
