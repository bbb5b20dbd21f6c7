-- The operands of instructions, by the addressing modes of the opcode map (programming manual, "Addressing modes").
use Rattle.std.specs.Prelude.{ℕ, ◌+◌, ◌-◌, ◌*◌, ◌%◌, ◌&&◌, ◌||◌, not, bit_or, Bool, true, false, Option, Some, None, is_some, option_map, option_and_then, position, List, [], ◌∷◌, codes, ℤ, pos, negsuc, ◌-ℤ◌, int_lt, if◌then◌else◌}
use Rattle.std.specs.List.{slice_split, list_any, find, range_with_len}
use Rattle.cpu_model.specs.declared.rows.Row.{Row}
use Rattle.cpu_model.specs.declared.rows.Operation.{Operation}
use Rattle.cpu_model.specs.declared.rows.Operation.TheVariants.{Psh, Pul}
use Rattle.cpu_model.specs.declared.rows.Mode.{Mode}
use Rattle.cpu_model.specs.declared.rows.Mode.TheVariants.{Inherent, Immediate8, Immediate16, Direct, Indexed, Extended, Relative8, Relative16, Pair}
use Rattle.cpu_model.specs.declared.rows.Stack.{Stack}
use Rattle.cpu_model.specs.declared.rows.Register.{Register}
use Rattle.cpu_model.specs.declared.instruction.Tail.{Tail}
use Rattle.cpu_model.specs.declared.instruction.Tail.TheVariants.{Byte, Word}
use Rattle.cpu_model.specs.declared.indexing.Indexing.{Indexing}
use Rattle.cpu_model.specs.Flags.{signed16}
use Rattle.cpu_model.specs.Registers.{register_coded}
use Rattle.cpu_model.specs.Reading.{Extent, none, extent_of_form}
use Rattle.cpu_model.specs.Table.{postbyte, is_word_code, is_byte_code, is_pair}
use Rattle.asm_model.specs.declared.operand.Field.{Field}
use Rattle.asm_model.specs.declared.operand.Field.TheVariants as field
use Rattle.asm_model.specs.declared.operand.Wanted.{Wanted}
use Rattle.asm_model.specs.declared.operand.Wanted.TheVariants.{Nothing, Fixed, Value}
use Rattle.asm_model.specs.declared.operand.Size.{Size}
use Rattle.asm_model.specs.declared.operand.Size.TheVariants.{Five, Eight, Sixteen}
use Rattle.asm_model.specs.declared.operand.Width.{Width}
use Rattle.asm_model.specs.declared.operand.Width.TheVariants.{Narrow, Wide, Unmarked}
use Rattle.asm_model.specs.declared.operand.Mark.{Mark}
use Rattle.asm_model.specs.declared.operand.Mark.TheVariants as mark
use Rattle.asm_model.specs.Characters.{is_hash, is_comma, is_less, is_greater, is_opening, is_closing, same_word}
use Rattle.asm_model.specs.Expressions.{terms, lone_value}
use Rattle.asm_model.specs.Print.{register_word, mask_registers, plain_index, in_brackets}

-- an operand: its postbyte, the bytes that follow, and the text of the expression with their value
pub record Operand : Type 0 where
  pub post : Option ℕ
  pub wanted : Wanted
  pub expression : List ℕ

abbrev pub operand : Option ℕ → Wanted → List ℕ → Operand
operand post wanted expression = record { post = post; wanted = wanted; expression = expression }

-- the operand with the value of this text, if the text is an expression
abbrev pub valued : Option ℕ → Field → List ℕ → Option Operand
valued post f text = if is_some (terms text) then Some (operand post (Value f) text) else None

-- ---- the mode of an operand

-- `#` marks an immediate operand, a bracket or a comma an indexed one, and `<` a direct one
abbrev pub mark_of : List ℕ → Mark
mark_of [] = mark.Address
mark_of (c ∷ text) =
    if is_hash c then mark.Immediate
    else (if is_opening c || list_any is_comma (c ∷ text) then mark.Indexed
    else (if is_less c then mark.Direct else mark.Address))

-- an operand with this mark may be of the mode
abbrev pub mode_fits : Mode → Mark → Bool
mode_fits Immediate8 mark.Immediate = true
mode_fits Immediate16 mark.Immediate = true
mode_fits Indexed mark.Indexed = true
mode_fits Direct mark.Direct = true
mode_fits Extended mark.Address = true
mode_fits Inherent m = true
mode_fits Relative8 m = true
mode_fits Relative16 m = true
mode_fits Pair m = true
mode_fits _ m = false

-- an operand with this mark may be of the row; pushes and pulls take registers, too
abbrev pub operation_fits : Operation → Mode → Mark → Bool
operation_fits (Psh s) mode m = true
operation_fits (Pul s) mode m = true
operation_fits _ mode m = mode_fits mode m

abbrev pub fits : Row → Mark → Bool
fits r m = operation_fits r.0 r.1 m

-- ---- registers

-- the weight of the register of this name among the registers of a push mask; the first has the given weight
abbrev pub mask_weight : List Register → ℕ → List ℕ → Option ℕ
mask_weight [] weight name = None
mask_weight (r ∷ rs) weight name =
    if same_word (register_word r) name then Some weight else mask_weight rs (2 * weight) name

-- a mask with the registers of these names; a name given twice counts once
abbrev pub mask_with : Stack → ℕ → List (List ℕ) → Option ℕ
mask_with stack mask [] = Some mask
mask_with stack mask (name ∷ names) =
    option_and_then (λ weight. mask_with stack (bit_or mask weight) names) (mask_weight (mask_registers stack) 1 name)

-- the mask of these registers: names separated by commas
abbrev pub register_mask : Stack → List ℕ → Option ℕ
register_mask stack text = mask_with stack 0 (slice_split is_comma text)

-- this code of EXG and TFR is that of the register of this name
abbrev pub is_code_of : List ℕ → ℕ → Bool
is_code_of name code = (is_word_code code || is_byte_code code) && same_word (register_word (register_coded code)) name

-- the code of the register of this name in EXG and TFR
abbrev pub register_code : List ℕ → Option ℕ
register_code name = find (is_code_of name) (range_with_len 0 16)

-- both halves of the postbyte name registers of one size
abbrev pub if_pair : ℕ → Option ℕ
if_pair pair = if is_pair pair then Some pair else None

-- the postbyte of a source and a destination
abbrev pub pair_among : List (List ℕ) → Option ℕ
pair_among (source ∷ destination ∷ []) =
    option_and_then (λ high. option_and_then (λ low. if_pair (16 * high + low)) (register_code destination))
    (register_code source)
pair_among _ = None

-- source and destination, two registers of one size, separated by a comma
abbrev pub register_pair : List ℕ → Option ℕ
register_pair text = pair_among (slice_split is_comma text)

-- ---- immediate, direct and extended operands

-- the operand that follows a character of this kind
abbrev pub after_mark : (ℕ → Bool) → (List ℕ → Option Operand) → List ℕ → Option Operand
after_mark is_mark read [] = None
after_mark is_mark read (c ∷ text) = if is_mark c then read text else None

-- `#` and an expression
abbrev pub immediate_operand : Field → List ℕ → Option Operand
immediate_operand f text = after_mark is_hash (valued None f) text

-- the operand of a push or pull: registers, or `#` and the whole mask
abbrev pub mask_operand : Stack → List ℕ → Option Operand
mask_operand stack [] = None
mask_operand stack (c ∷ text) =
    if is_hash c then valued None field.Byte text
    else option_map (λ mask. operand None (Fixed mask) []) (register_mask stack (c ∷ text))

abbrev pub immediate8 : Operation → List ℕ → Option Operand
immediate8 (Psh stack) text = mask_operand stack text
immediate8 (Pul stack) text = mask_operand stack text
immediate8 _ text = immediate_operand field.Byte text

-- `<` and an expression
abbrev pub direct_operand : List ℕ → Option Operand
direct_operand text = after_mark is_less (valued None field.Direct) text

-- an expression, with or without `>`
abbrev pub address_operand : List ℕ → Option Operand
address_operand [] = None
address_operand (c ∷ text) = if is_greater c then valued None field.Word text else valued None field.Word (c ∷ text)

-- ---- indexed operands

-- a form without operand bytes: its text has no number, or one in the postbyte
abbrev pub is_bare_extent : Extent → Bool
is_bare_extent none = true
is_bare_extent _ = false

-- the text is the operand of a postbyte without a number
abbrev pub is_bare : List ℕ → Option Indexing → Bool
is_bare text None = false
is_bare text (Some i) = is_bare_extent (extent_of_form i.0) && same_word (in_brackets i.2 (plain_index i.0 i.1)) text

-- the postbyte whose operand is this text without a number
abbrev pub bare_post : List ℕ → Option ℕ
bare_post text = find (λ post. is_bare text (postbyte post)) (range_with_len 128 128)

-- the number of an index register in bits 6 and 5 of a postbyte
abbrev pub index_number : List ℕ → Option ℕ
index_number name = position (λ r. same_word r name) (codes "X" ∷ codes "Y" ∷ codes "U" ∷ codes "S" ∷ [])

-- postbytes with an offset (programming manual, "Indexed addressing"): from X, with bit 4 clear
abbrev pub offset8_post : ℕ
offset8_post = 0x88

abbrev pub offset16_post : ℕ
offset16_post = 0x89

-- from PC, with bit 4 clear
abbrev pub target8_post : ℕ
target8_post = 0x8C

abbrev pub target16_post : ℕ
target16_post = 0x8D

-- extended indirect
abbrev pub absolute_post : ℕ
absolute_post = 0x9F

-- bit 4 makes an operand indirect
abbrev pub indirect_bit : Bool → ℕ
indirect_bit indirect = if indirect then 16 else 0

-- a whole number modulo this one
abbrev pub modulo : ℕ → ℤ → ℕ
modulo count (pos n) = n % count
modulo count (negsuc n) = count - 1 - n % count

-- from the least number to the greatest
abbrev pub between : ℤ → ℤ → ℤ → Bool
between least most z = not (int_lt z least) && not (int_lt most z)

-- the size of an offset of this value, if its expression is one number
abbrev pub size_of_value : Bool → Option ℤ → Size
size_of_value indirect None = Sixteen
size_of_value indirect (Some z) =
    if not indirect && between (negsuc 15) (pos 15) z then Five z
    else (if between (negsuc 127) (pos 127) z then Eight else Sixteen)

-- an offset as its mark and its expression
pub record Offset : Type 0 where
  pub width : Width
  pub expression : List ℕ

abbrev pub offset_of : Width → List ℕ → Offset
offset_of width expression = record { width = width; expression = expression }

abbrev pub marked : List ℕ → Offset
marked [] = offset_of Unmarked []
marked (c ∷ text) =
    if is_less c then offset_of Narrow text
    else (if is_greater c then offset_of Wide text else offset_of Unmarked (c ∷ text))

-- an offset of this size from the index register of this number
abbrev pub sized_offset : Size → Bool → ℕ → List ℕ → Option Operand
sized_offset (Five z) indirect r text = Some (operand (Some (32 * r + modulo 32 z)) Nothing [])
sized_offset Eight indirect r text = valued (Some (offset8_post + 32 * r + indirect_bit indirect)) field.Offset8 text
sized_offset Sixteen indirect r text =
    valued (Some (offset16_post + 32 * r + indirect_bit indirect)) field.Offset16 text

-- an offset from an index register
abbrev pub offset_operand : Width → Bool → ℕ → List ℕ → Option Operand
offset_operand Narrow indirect r text = sized_offset Eight indirect r text
offset_operand Wide indirect r text = sized_offset Sixteen indirect r text
offset_operand Unmarked indirect r text =
    sized_offset (size_of_value indirect (option_and_then lone_value (terms text))) indirect r text

-- a target, by its offset from PC
abbrev pub target_operand : Width → Bool → List ℕ → Option Operand
target_operand Narrow indirect text = valued (Some (target8_post + indirect_bit indirect)) field.Target8 text
target_operand _ indirect text = valued (Some (target16_post + indirect_bit indirect)) field.Target16 text

-- an offset from PC or from an index register
abbrev pub offset_from : Bool → Offset → List ℕ → Option Operand
offset_from indirect offset base =
    if same_word (codes "PCR") base then target_operand offset.width indirect offset.expression
    else option_and_then (λ r. offset_operand offset.width indirect r offset.expression) (index_number base)

-- an offset and a base, separated by a comma
abbrev pub offset_among : Bool → List (List ℕ) → Option Operand
offset_among indirect (offset ∷ base ∷ []) = offset_from indirect (marked offset) base
offset_among indirect _ = None

-- the text up to a bracket at its end
abbrev pub before_bracket : List ℕ → Option (List ℕ)
before_bracket [] = None
before_bracket (c ∷ []) = if is_closing c then Some [] else None
before_bracket (c ∷ d ∷ text) = option_map (λ inner. c ∷ inner) (before_bracket (d ∷ text))

-- the operand whose text is between brackets
abbrev pub inside : List ℕ → Option Operand
inside text =
    if list_any is_comma text then offset_among true (slice_split is_comma text)
    else valued (Some absolute_post) field.Word text

-- an indexed operand with an offset, or extended indirect
abbrev pub numbered : List ℕ → Option Operand
numbered [] = None
numbered (c ∷ text) =
    if is_opening c then option_and_then inside (before_bracket text)
    else offset_among false (slice_split is_comma (c ∷ text))

-- the operand of this postbyte, or otherwise one with a number
abbrev pub bare_or : Option ℕ → List ℕ → Option Operand
bare_or (Some post) text = Some (operand (Some post) Nothing [])
bare_or None text = numbered text

-- the operand of indexed addressing
abbrev pub indexed_operand : List ℕ → Option Operand
indexed_operand text = bare_or (bare_post text) text

-- ---- operands

-- the operand of a row of the opcode map, if the text is one
abbrev pub mode_operand : Operation → Mode → List ℕ → Option Operand
mode_operand operation Inherent text = Some (operand None Nothing [])
mode_operand operation Immediate8 text = immediate8 operation text
mode_operand operation Immediate16 text = immediate_operand field.Word text
mode_operand operation Direct text = direct_operand text
mode_operand operation Indexed text = indexed_operand text
mode_operand operation Extended text = address_operand text
mode_operand operation Relative8 text = valued None field.Target8 text
mode_operand operation Relative16 text = valued None field.Target16 text
mode_operand operation Pair text = option_map (λ pair. operand None (Fixed pair) []) (register_pair text)

unfoldable pub row_operand : Row → List ℕ → Option Operand
row_operand r text = mode_operand r.0 r.1 text

-- ---- values

abbrev pub if_between : ℤ → ℤ → ℤ → Tail → Option Tail
if_between least most z tail = if between least most z then Some tail else None

-- the distance of a target from the next instruction, modulo 65536
abbrev pub distance : ℕ → ℤ → ℕ
distance next z = modulo 65536 (z -ℤ pos next)

-- the operand bytes of a value, if it is in the range of its field; a target's distance is counted from the next
-- instruction
abbrev pub filled : Field → ℕ → ℤ → Option Tail
filled field.Byte next z = if_between (negsuc 127) (pos 255) z (Byte (modulo 256 z))
filled field.Word next z = if_between (negsuc 32767) (pos 65535) z (Word (modulo 65536 z))
filled field.Direct next z = if_between (pos 0) (pos 255) z (Byte (modulo 256 z))
filled field.Offset8 next z = if_between (negsuc 127) (pos 127) z (Byte (modulo 256 z))
filled field.Offset16 next z = Some (Word (modulo 65536 z))
filled field.Target8 next z =
    if_between (negsuc 127) (pos 127) (signed16 (distance next z)) (Byte (distance next z % 256))
filled field.Target16 next z = Some (Word (distance next z))
