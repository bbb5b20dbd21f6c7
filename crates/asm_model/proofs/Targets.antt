-- A target that is printed is read as the offset that leads to it.
use Rattle.std.proofs.Common.{◌≡◌, ℕ, ◌-◌, ◌%◌, ◌<◌, true, false, inl, inr, Option, Some, None, refl, ap, ◌∙◌, arith, pos, negsuc, ◌-ℤ◌}
use Rattle.std.proofs.lemmas.Bool.{cases_lt, ltb-true}
use Rattle.std.proofs.lemmas.Int.{ints}
use Rattle.std.specs.Prelude.{nat_lt, if◌then◌else◌}
use Rattle.cpu_model.specs.Flags.{signed16}
use Rattle.cpu_model.specs.declared.instruction.Tail.{Tail}
use Rattle.cpu_model.specs.declared.instruction.Tail.TheVariants.{Byte, Word}
use Rattle.asm_model.specs.declared.operand.Field.TheVariants as field
use Rattle.cpu_model.specs.Arithmetic.{extended}
use Rattle.asm_model.specs.Print.{target}
use Rattle.asm_model.specs.Operands.{modulo, distance, filled, between}
use Rattle.asm_model.proofs.Finite.{on_bytes}

-- the distance is the offset
pub distance_back : (next offset : ℕ) → offset < 65536 → distance next (pos (target next offset)) ≡ offset
distance_back next offset h =
    elim (cases_lt (target next offset) next) [
      | inl below ↦
          let is : pos (target next offset) -ℤ pos next ≡ negsuc (next - target next offset - 1) = omega (arith, ints) in
          ap (modulo 65536) is ∙ (omega arith)
      | inr above ↦
          let is : pos (target next offset) -ℤ pos next ≡ pos (target next offset - next) = omega (arith, ints) in
          ap (modulo 65536) is ∙ (omega arith)
    ]

extended_fits : (b : ℕ) → b < 256 → extended b < 65536
extended_fits b h = ltb-true (extended b) 65536 (on_bytes (λ b. nat_lt (extended b) 65536) (λ b. true) refl b h)

filled_by : ℕ → Option Tail
filled_by d = if between (negsuc 127) (pos 127) (signed16 d) then Some (Byte (d % 256)) else None

byte_back : (b : ℕ) → b < 256 → filled_by (extended b) ≡ Some (Byte b)
unfolding filled_by
byte_back = on_bytes (λ b. filled_by (extended b)) (λ b. Some (Byte b)) refl

pub target8_filled : (next b : ℕ) → b < 256 → filled field.Target8 next (pos (target next (extended b))) ≡ Some (Byte b)
unfolding filled_by
target8_filled next b h = ap filled_by (distance_back next (extended b) (extended_fits b h)) ∙ byte_back b h

pub target16_filled : (next w : ℕ) → w < 65536 → filled field.Target16 next (pos (target next w)) ≡ Some (Word w)
target16_filled next w h = ap (λ d. Some (Word d)) (distance_back next w h)

pub word_filled : (next w : ℕ) → w < 65536 → filled field.Word next (pos w) ≡ Some (Word w)
word_filled next w h =
    let same : w % 65536 ≡ w = omega arith in
    let small : nat_lt 65535 w ≡ false = grind arith in
    simp (small, same)

pub offset16_filled : (next w : ℕ) → w < 65536 → filled field.Offset16 next (pos w) ≡ Some (Word w)
offset16_filled next w h = ap (λ d. Some (Word d)) (omega arith)
