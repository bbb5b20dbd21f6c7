-- The texts of operands, with the postbyte and the operand bytes that they mean (programming manual,
-- "Addressing modes").
use Rattle.std.specs.Prelude.{◌≡◌, ℕ, ◌+◌, ◌*◌, ◌<◌, ◌≤◌, bit_or, Bool, true, false, Some, None, List, [], ◌∷◌, ◌++◌, codes, ℤ, pos, negsuc}
use Rattle.cpu_model.specs.declared.rows.Operation.{Operation}
use Rattle.cpu_model.specs.declared.rows.Operation.TheVariants.{Psh, Pul}
use Rattle.cpu_model.specs.declared.rows.Mode.{Mode}
use Rattle.cpu_model.specs.declared.rows.Mode.TheVariants.{Inherent, Immediate8, Immediate16, Direct, Indexed, Extended, Relative8, Relative16, Pair}
use Rattle.cpu_model.specs.declared.rows.Stack.{Stack}
use Rattle.cpu_model.specs.declared.instruction.Tail.{Tail}
use Rattle.cpu_model.specs.declared.instruction.Tail.TheVariants.{Empty, Byte}
use Rattle.cpu_model.specs.declared.indexing.Indexing.{Indexing}
use Rattle.cpu_model.specs.Reading.{extent_of_form}
use Rattle.cpu_model.specs.Table.{postbyte, is_pair}
use Rattle.asm_model.specs.declared.operand.Field.{Field}
use Rattle.asm_model.specs.declared.operand.Field.TheVariants as field
use Rattle.asm_model.specs.declared.operand.Wanted.{Wanted}
use Rattle.asm_model.specs.declared.operand.Wanted.TheVariants.{Nothing, Fixed, Value}
use Rattle.asm_model.specs.declared.operand.Size.{Size}
use Rattle.asm_model.specs.declared.operand.Size.TheVariants.{Five, Eight, Sixteen}
use Rattle.asm_model.specs.declared.operand.Width.{Width}
use Rattle.asm_model.specs.declared.operand.Width.TheVariants.{Narrow, Wide, Unmarked}
use Rattle.asm_model.specs.Characters.{same_word}
use Rattle.asm_model.specs.Print.{mask_registers, plain_index, in_brackets}
use Rattle.asm_model.specs.Operands.{Operand, operand, between, modulo, filled, is_bare_extent, index_number, indirect_bit, mask_weight, register_code, offset8_post, offset16_post, target8_post, target16_post, absolute_post}
use Rattle.asm_lines.specs.Sums.{IsOneNumber, HasValue}
use Rattle.asm_lines.specs.Expressions.{IsExpression}

-- ---- registers

-- registers of a push or pull, their names separated by commas, and their mask
pub data IsRegisterList (stack : Stack) : List ℕ → ℕ → Type 0 where
  one : {name : List ℕ} {weight : ℕ} → mask_weight (mask_registers stack) 1 name ≡ Some weight
      → IsRegisterList stack name weight
  more : {list : List ℕ} {mask weight : ℕ} (name : List ℕ) → IsRegisterList stack list mask
      → mask_weight (mask_registers stack) 1 name ≡ Some weight
      → IsRegisterList stack (list ++ (44 ∷ name)) (bit_or mask weight)

-- the operation is a push to this stack or a pull from it
pub data IsPushOrPull (stack : Stack) : Operation → Type 0 where
  push : IsPushOrPull stack (Psh stack)
  pull : IsPushOrPull stack (Pul stack)

-- ---- indexed operands

-- `<` asks for eight bits and `>` for sixteen
abbrev pub width_mark : Width → List ℕ
width_mark Narrow = codes "<"
width_mark Wide = codes ">"
width_mark Unmarked = []

-- the size of an offset from a register: without a mark an expression of one number has the least size that holds it
pub data IsOffsetSize (indirect : Bool) (e : List ℕ) : Width → Size → Type 0 where
  narrow : IsOffsetSize indirect e Narrow Eight
  wide : IsOffsetSize indirect e Wide Sixteen
  five : {z : ℤ} → IsOneNumber e z → indirect ≡ false → between (negsuc 15) (pos 15) z ≡ true
      → IsOffsetSize indirect e Unmarked (Five z)
  eight : {z : ℤ} → IsOneNumber e z → (indirect ≡ false → between (negsuc 15) (pos 15) z ≡ false)
      → between (negsuc 127) (pos 127) z ≡ true → IsOffsetSize indirect e Unmarked Eight
  sixteen : ((z : ℤ) → IsOneNumber e z → between (negsuc 127) (pos 127) z ≡ false)
      → IsOffsetSize indirect e Unmarked Sixteen

-- an offset of this size from the register of this number
abbrev pub sized : Size → Bool → ℕ → List ℕ → Operand
sized (Five z) indirect r e = operand (Some (32 * r + modulo 32 z)) Nothing []
sized Eight indirect r e = operand (Some (offset8_post + 32 * r + indirect_bit indirect)) (Value field.Offset8) e
sized Sixteen indirect r e = operand (Some (offset16_post + 32 * r + indirect_bit indirect)) (Value field.Offset16) e

-- a target by its distance from the next instruction: a byte with the mark `<`, otherwise a word
abbrev pub target_post : Width → ℕ
target_post Narrow = target8_post
target_post _ = target16_post

abbrev pub target_field : Width → Field
target_field Narrow = field.Target8
target_field _ = field.Target16

-- `e,R` or `e,PCR`, with or without a mark
pub data IsOffset (indirect : Bool) : List ℕ → Operand → Type 0 where
  from_register : {e : List ℕ} {width : Width} {size : Size} {r : ℕ} (name : List ℕ) → IsExpression e
      → index_number name ≡ Some r → IsOffsetSize indirect e width size
      → IsOffset indirect (width_mark width ++ (e ++ (44 ∷ name))) (sized size indirect r e)
  from_pc : {e : List ℕ} (width : Width) (name : List ℕ) → IsExpression e → same_word (codes "PCR") name ≡ true
      → IsOffset indirect (width_mark width ++ (e ++ (44 ∷ name)))
      (operand (Some (target_post width + indirect_bit indirect)) (Value (target_field width)) e)

-- an operand of indexed addressing
pub data IsIndexed : List ℕ → Operand → Type 0 where
  -- without a number: `,R` `,R+` `,R++` `,-R` `,--R` `A,R` `B,R` `D,R`, in brackets if the postbyte is indirect
  bare : {text : List ℕ} {post : ℕ} {meaning : Indexing} → 128 ≤ post → post < 256 → postbyte post ≡ Some meaning
      → is_bare_extent (extent_of_form meaning.0) ≡ true
      → same_word (in_brackets meaning.2 (plain_index meaning.0 meaning.1)) text ≡ true
      → IsIndexed text (operand (Some post) Nothing [])
  offset : {text : List ℕ} {o : Operand} → IsOffset false text o → IsIndexed text o
  offset_in : {text : List ℕ} {o : Operand} → IsOffset true text o → IsIndexed (in_brackets true text) o
  -- `[e]`
  absolute : {e : List ℕ} → IsExpression e
      → IsIndexed (in_brackets true e) (operand (Some absolute_post) (Value field.Word) e)

-- ---- operands

-- the operand of an operation in a mode; its expression may name labels
pub data IsOperand (op : Operation) : Mode → List ℕ → Operand → Type 0 where
  -- the text after the word is a comment
  inherent : {text : List ℕ} → IsOperand op Inherent text (operand None Nothing [])
  immediate8 : {e : List ℕ} → IsExpression e → IsOperand op Immediate8 (35 ∷ e) (operand None (Value field.Byte) e)
  registers : {list : List ℕ} {mask : ℕ} (stack : Stack) → IsPushOrPull stack op → IsRegisterList stack list mask
      → IsOperand op Immediate8 list (operand None (Fixed mask) [])
  immediate16 : {e : List ℕ} → IsExpression e → IsOperand op Immediate16 (35 ∷ e) (operand None (Value field.Word) e)
  direct : {e : List ℕ} → IsExpression e → IsOperand op Direct (60 ∷ e) (operand None (Value field.Direct) e)
  extended : {e : List ℕ} → IsExpression e → IsOperand op Extended e (operand None (Value field.Word) e)
  extended_marked : {e : List ℕ} → IsExpression e → IsOperand op Extended (62 ∷ e) (operand None (Value field.Word) e)
  indexed : {text : List ℕ} {o : Operand} → IsIndexed text o → IsOperand op Indexed text o
  relative8 : {e : List ℕ} → IsExpression e → IsOperand op Relative8 e (operand None (Value field.Target8) e)
  relative16 : {e : List ℕ} → IsExpression e → IsOperand op Relative16 e (operand None (Value field.Target16) e)
  -- two registers of one size
  pair : {high low : ℕ} (source destination : List ℕ) → register_code source ≡ Some high
      → register_code destination ≡ Some low → is_pair (16 * high + low) ≡ true
      → IsOperand op Pair (source ++ (44 ∷ destination)) (operand None (Fixed (16 * high + low)) [])

-- the operand bytes that are needed, before this next instruction, if the expression has numbers alone
pub data IsTail (next : ℕ) : Wanted → List ℕ → Tail → Type 0 where
  no_tail : {e : List ℕ} → IsTail next Nothing e Empty
  fixed_tail : {e : List ℕ} {b : ℕ} → IsTail next (Fixed b) e (Byte b)
  value_tail : {e : List ℕ} {f : Field} {z : ℤ} {tail : Tail} → HasValue e z → filled f next z ≡ Some tail
      → IsTail next (Value f) e tail
