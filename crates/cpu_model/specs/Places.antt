-- The places of operands. The registers are those after the instruction's own bytes: PC is the address of the next
-- instruction.
use Rattle.std.specs.Prelude.{ℕ, ◌+◌, ◌-◌, ◌*◌, ◌%◌, nat_le, Option, Some, None, option_map, option_and_then, unwrap_or, if◌then◌else◌}
use Rattle.os9_base.specs.declared.registers.Regs.{Regs}
use Rattle.cpu_model.specs.declared.rows.Mode.{Mode}
use Rattle.cpu_model.specs.declared.rows.Mode.TheVariants.{Immediate8, Immediate16, Direct, Indexed, Extended, Relative8}
use Rattle.cpu_model.specs.declared.rows.IndexRegister.{IndexRegister}
use Rattle.cpu_model.specs.declared.indexing.Form.{Form}
use Rattle.cpu_model.specs.declared.indexing.Form.TheVariants.{Offset5, Increment1, Increment2, Decrement1, Decrement2, NoOffset, OffsetB, OffsetA, Offset8, Offset16, OffsetD, FromPc8, FromPc16, Absolute}
use Rattle.cpu_model.specs.declared.indexing.Indexing.{Indexing}
use Rattle.cpu_model.specs.declared.instruction.Tail.{Tail}
use Rattle.cpu_model.specs.declared.instruction.Tail.TheVariants.{Byte, Word}
use Rattle.cpu_model.specs.declared.instruction.Instr.{Instr}
use Rattle.cpu_model.specs.declared.operand.Place.{Place}
use Rattle.cpu_model.specs.declared.operand.ByteOperand.{ByteOperand}
use Rattle.cpu_model.specs.declared.operand.WordOperand.{WordOperand}
use Rattle.cpu_model.specs.Arithmetic.{extended}
use Rattle.cpu_model.specs.Registers.{wrapped, d_of, index_register, with_index_register}
use Rattle.cpu_model.specs.Table.{postbyte}

-- ---- the operand bytes

abbrev pub tail_byte : Tail → ℕ
tail_byte (Byte b) = b
tail_byte _ = 0

abbrev pub tail_word : Tail → ℕ
tail_word (Word w) = w
tail_word _ = 0

-- the signed five bits of a postbyte, as a word
abbrev pub five_bits : ℕ → ℕ
five_bits post = if nat_le 16 (post % 32) then 65504 + post % 32 else post % 32

-- the word at an address, high byte first
abbrev pub word_at : (ℕ → Option ℕ) → ℕ → Option ℕ
word_at cells at =
    option_and_then (λ high. option_map (λ low. high * 256 + low) (cells (wrapped (at + 1)))) (cells at)

-- ---- addresses

abbrev pub place : ℕ → Regs → Place
place at r = record { at = at; regs = r }

-- at this distance from an index register
abbrev pub offset_place : Regs → IndexRegister → ℕ → Place
offset_place r base offset = place (wrapped (index_register r base + offset)) r

-- at an index register, which is then increased by this number
abbrev pub increment_place : Regs → IndexRegister → ℕ → Place
increment_place r base by =
    place (index_register r base) (with_index_register r base (wrapped (index_register r base + by)))

-- at an index register, after it is decreased by this number
abbrev pub decrement_place : Regs → IndexRegister → ℕ → Place
decrement_place r base by =
    let at = wrapped (index_register r base + 65536 - by) in place at (with_index_register r base at)

-- the address of a form of indexed addressing
abbrev pub form_place : Regs → Form → IndexRegister → ℕ → Tail → Place
form_place r Offset5 base post tail = offset_place r base (five_bits post)
form_place r Increment1 base post tail = increment_place r base 1
form_place r Increment2 base post tail = increment_place r base 2
form_place r Decrement1 base post tail = decrement_place r base 1
form_place r Decrement2 base post tail = decrement_place r base 2
form_place r NoOffset base post tail = place (index_register r base) r
form_place r OffsetB base post tail = offset_place r base (extended r.b)
form_place r OffsetA base post tail = offset_place r base (extended r.a)
form_place r Offset8 base post tail = offset_place r base (extended (tail_byte tail))
form_place r Offset16 base post tail = offset_place r base (tail_word tail)
form_place r OffsetD base post tail = offset_place r base (d_of r)
form_place r FromPc8 base post tail = place (wrapped (r.pc + extended (tail_byte tail))) r
form_place r FromPc16 base post tail = place (wrapped (r.pc + tail_word tail)) r
form_place r Absolute base post tail = place (tail_word tail) r

-- the address in the word there
abbrev pub pointed : (ℕ → Option ℕ) → Place → Option Place
pointed cells p = option_map (λ at. place at p.regs) (word_at cells p.at)

-- the address of indexed addressing: the operand's own, or the one in the pointer
abbrev pub indexed_place : (ℕ → Option ℕ) → Regs → ℕ → Tail → Indexing → Option Place
indexed_place cells r post tail indexing =
    let p = form_place r indexing.0 indexing.1 post tail in if indexing.2 then pointed cells p else Some p

-- the address of an instruction's operand
unfoldable pub place_of : (ℕ → Option ℕ) → Regs → Mode → Instr → Option Place
place_of cells r Direct i = Some (place (r.dp * 256 + tail_byte i.tail) r)
place_of cells r Extended i = Some (place (tail_word i.tail) r)
place_of cells r Indexed i =
    let post = unwrap_or i.post 0 in option_and_then (λ x. indexed_place cells r post i.tail x) (postbyte post)
place_of cells r _ i = None

-- the target of a branch
abbrev pub target_of : Regs → Mode → Tail → ℕ
target_of r Relative8 tail = wrapped (r.pc + extended (tail_byte tail))
target_of r _ tail = wrapped (r.pc + tail_word tail)

-- ---- operands

abbrev pub byte_operand_at : (ℕ → Option ℕ) → Place → Option ByteOperand
byte_operand_at cells p = option_map (λ value. record { value = value; regs = p.regs }) (cells p.at)

abbrev pub word_operand_at : (ℕ → Option ℕ) → Place → Option WordOperand
word_operand_at cells p = option_map (λ value. record { value = value; regs = p.regs }) (word_at cells p.at)

-- the byte after the opcode, or at the operand's address
unfoldable pub byte_operand : (ℕ → Option ℕ) → Regs → Mode → Instr → Option ByteOperand
byte_operand cells r Immediate8 i = Some (record { value = tail_byte i.tail; regs = r })
byte_operand cells r mode i = option_and_then (λ p. byte_operand_at cells p) (place_of cells r mode i)

-- the word after the opcode, or at the operand's address
unfoldable pub word_operand : (ℕ → Option ℕ) → Regs → Mode → Instr → Option WordOperand
word_operand cells r Immediate16 i = Some (record { value = tail_word i.tail; regs = r })
word_operand cells r mode i = option_and_then (λ p. word_operand_at cells p) (place_of cells r mode i)
