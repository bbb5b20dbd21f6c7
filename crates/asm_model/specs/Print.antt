-- The text of an instruction (this project's own, in the manner of the usual assemblers of the 6809).
use Rattle.std.specs.Prelude.{ℕ, ◌+◌, ◌-◌, ◌/◌, ◌%◌, ◌==◌, ◌&&◌, not, nat_lt, Bool, true, false, Option, Some, None, List, [], ◌∷◌, ◌++◌, length, codes, if◌then◌else◌}
use Rattle.cpu_model.specs.declared.rows.Row.{Row}
use Rattle.cpu_model.specs.declared.rows.Operation.{Operation}
use Rattle.cpu_model.specs.declared.rows.Operation.TheVariants.{Psh, Pul}
use Rattle.cpu_model.specs.declared.rows.Mode.{Mode}
use Rattle.cpu_model.specs.declared.rows.Mode.TheVariants.{Immediate8, Immediate16, Direct, Extended, Relative8, Relative16, Pair}
use Rattle.cpu_model.specs.declared.rows.Stack.{Stack}
use Rattle.cpu_model.specs.declared.rows.Register.{Register}
use Rattle.cpu_model.specs.declared.rows.Register.TheVariants as register
use Rattle.cpu_model.specs.declared.rows.IndexRegister.{IndexRegister}
use Rattle.cpu_model.specs.declared.indexing.Form.{Form}
use Rattle.cpu_model.specs.declared.indexing.Form.TheVariants.{Offset5, Increment1, Increment2, Decrement1, Decrement2, NoOffset, OffsetB, OffsetA, Offset8, Offset16, OffsetD, FromPc8, FromPc16, Absolute}
use Rattle.cpu_model.specs.declared.indexing.Indexing.{Indexing}
use Rattle.cpu_model.specs.declared.instruction.Tail.{Tail}
use Rattle.cpu_model.specs.declared.instruction.Tail.TheVariants.{Empty, Byte, Word}
use Rattle.cpu_model.specs.declared.instruction.Instr.{Instr}
use Rattle.cpu_model.specs.Arithmetic.{extended}
use Rattle.cpu_model.specs.Registers.{register_coded, other_pointer}
use Rattle.cpu_model.specs.Table.{row, postbyte}
use Rattle.cpu_table.specs.Spelling.{spelling}
use Rattle.asm_model.specs.Mnemonics.{row_word, index_register_word}
use Rattle.asm_model.specs.Numbers.{two_digits, four_digits}

-- `$` and the digits of a byte or a word
abbrev pub byte_number : ℕ → List ℕ
byte_number n = 36 ∷ two_digits n

abbrev pub word_number : ℕ → List ℕ
word_number n = 36 ∷ four_digits n

-- ---- registers

abbrev pub register_word : Register → List ℕ
register_word register.D = codes "D"
register_word register.X = codes "X"
register_word register.Y = codes "Y"
register_word register.U = codes "U"
register_word register.S = codes "S"
register_word register.Pc = codes "PC"
register_word register.A = codes "A"
register_word register.B = codes "B"
register_word register.Cc = codes "CC"
register_word register.Dp = codes "DP"

-- the registers of a push mask, from bit 0 up
abbrev pub mask_registers : Stack → List Register
mask_registers stack =
    register.Cc ∷ register.A ∷ register.B ∷ register.Dp ∷ register.X ∷ register.Y ∷ other_pointer stack ∷ register.Pc
    ∷ []

-- the registers whose bits are set, separated by commas
abbrev pub comma_before : Bool → List ℕ
comma_before true = []
comma_before false = 44 ∷ []

-- the text of the register of bit 0, if the bit is set
abbrev pub masked_part : Bool → Register → ℕ → List ℕ
masked_part is_first r mask = if mask % 2 == 1 then comma_before is_first ++ register_word r else []

abbrev pub stays_first : Bool → ℕ → Bool
stays_first is_first mask = is_first && not (mask % 2 == 1)

abbrev pub masked : Bool → List Register → ℕ → List ℕ
masked is_first [] mask = []
masked is_first (r ∷ rs) mask = masked_part is_first r mask ++ masked (stays_first is_first mask) rs (mask / 2)

abbrev pub printed_mask : Stack → ℕ → List ℕ
printed_mask stack mask = if mask == 0 then codes "#$00" else masked true (mask_registers stack) mask

abbrev pub printed_pair : ℕ → List ℕ
printed_pair pair = register_word (register_coded (pair / 16)) ++ (44 ∷ register_word (register_coded (pair % 16)))

-- ---- indexed operands

-- a number below 20 in decimal digits
abbrev pub decimal : ℕ → List ℕ
decimal n = if nat_lt n 10 then (48 + n) ∷ [] else 49 ∷ (38 + n) ∷ []

-- the signed five bits of a postbyte
abbrev pub five_bits : ℕ → List ℕ
five_bits n = if nat_lt n 16 then decimal n else 45 ∷ decimal (32 - n)

-- a signed byte
abbrev pub signed_number : ℕ → List ℕ
signed_number n = if nat_lt n 128 then byte_number n else 45 ∷ byte_number (256 - n)

-- the operands without a number
abbrev pub plain_index : Form → IndexRegister → List ℕ
plain_index Increment1 r = codes "," ++ index_register_word r ++ codes "+"
plain_index Increment2 r = codes "," ++ index_register_word r ++ codes "++"
plain_index Decrement1 r = codes ",-" ++ index_register_word r
plain_index Decrement2 r = codes ",--" ++ index_register_word r
plain_index NoOffset r = codes "," ++ index_register_word r
plain_index OffsetA r = codes "A," ++ index_register_word r
plain_index OffsetB r = codes "B," ++ index_register_word r
plain_index OffsetD r = codes "D," ++ index_register_word r
plain_index _ r = []

-- the target of an offset from the next instruction
abbrev pub target : ℕ → ℕ → ℕ
target next offset = (next + offset) % 65536

abbrev pub printed_index : Form → IndexRegister → ℕ → Tail → ℕ → List ℕ
printed_index Offset5 r post tail next = five_bits (post % 32) ++ (44 ∷ index_register_word r)
printed_index Offset8 r post (Byte b) next = 60 ∷ signed_number b ++ (44 ∷ index_register_word r)
printed_index Offset16 r post (Word w) next = 62 ∷ word_number w ++ (44 ∷ index_register_word r)
printed_index FromPc8 r post (Byte b) next = 60 ∷ word_number (target next (extended b)) ++ codes ",PCR"
printed_index FromPc16 r post (Word w) next = word_number (target next w) ++ codes ",PCR"
printed_index Absolute r post (Word w) next = word_number w
printed_index form r post tail next = plain_index form r

abbrev pub in_brackets : Bool → List ℕ → List ℕ
in_brackets true text = 91 ∷ text ++ (93 ∷ [])
in_brackets false text = text

abbrev pub printed_indexing : Option Indexing → ℕ → Tail → ℕ → List ℕ
printed_indexing None post tail next = []
printed_indexing (Some meaning) post tail next =
    in_brackets meaning.2 (printed_index meaning.0 meaning.1 post tail next)

-- ---- operands

abbrev pub printed_immediate : Operation → ℕ → List ℕ
printed_immediate (Psh stack) b = printed_mask stack b
printed_immediate (Pul stack) b = printed_mask stack b
printed_immediate _ b = 35 ∷ byte_number b

-- the operand if one byte follows the opcode, and if a word does
abbrev pub printed_byte : Operation → Mode → ℕ → ℕ → List ℕ
printed_byte operation Immediate8 b next = printed_immediate operation b
printed_byte operation Direct b next = 60 ∷ byte_number b
printed_byte operation Relative8 b next = word_number (target next (extended b))
printed_byte operation Pair b next = printed_pair b
printed_byte operation _ b next = []

abbrev pub printed_word : Mode → ℕ → ℕ → List ℕ
printed_word Immediate16 w next = 35 ∷ word_number w
printed_word Extended w next = 62 ∷ word_number w
printed_word Relative16 w next = word_number (target next w)
printed_word _ w next = []

-- the operand of a row of the opcode map, with this postbyte and these bytes, before this next instruction
abbrev pub printed_operand : Row → Option ℕ → Tail → ℕ → List ℕ
printed_operand r (Some post) tail next = printed_indexing (postbyte post) post tail next
printed_operand r None Empty next = []
printed_operand r None (Byte b) next = printed_byte r.0 r.1 b next
printed_operand r None (Word w) next = printed_word r.1 w next

abbrev pub with_operand : List ℕ → List ℕ → List ℕ
with_operand word [] = word
with_operand word operand = word ++ (32 ∷ operand)

abbrev pub printed_row : Option Row → Instr → ℕ → List ℕ
printed_row None i next = []
printed_row (Some r) i next = with_operand (row_word r) (printed_operand r i.post i.tail next)

-- the text of an instruction at an offset
unfoldable pub printed : Instr → ℕ → List ℕ
printed i at = printed_row (row i.page i.opcode) i (at + length (spelling i))
