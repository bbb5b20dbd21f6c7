-- The two tables of the MC6809: the opcode map, and the postbytes of indexed addressing.
use Rattle.std.specs.Prelude.{ℕ, ◌+◌, ◌/◌, ◌%◌, ◌==◌, ◌||◌, ◌&&◌, not, nat_le, nat_lt, Bool, true, false, Option, Some, None, option_and_then, List, [], ◌∷◌, if◌then◌else◌}
use Rattle.cpu_model.specs.declared.rows.Row.{Row}
use Rattle.cpu_model.specs.declared.rows.IndexRegister.{IndexRegister}
use Rattle.cpu_model.specs.declared.rows.IndexRegister.TheVariants.{X, Y, U, S}
use Rattle.cpu_model.specs.declared.instruction.Page.{Page}
use Rattle.cpu_model.specs.declared.instruction.Page.TheVariants.{Base, Ten, Eleven}
use Rattle.cpu_model.specs.declared.indexing.Form.{Form}
use Rattle.cpu_model.specs.declared.indexing.Form.TheVariants.{Offset5, Increment1, Increment2, Decrement1, Decrement2, NoOffset, OffsetB, OffsetA, Offset8, Offset16, OffsetD, FromPc8, FromPc16, Absolute}
use Rattle.cpu_model.specs.declared.indexing.Indexing.{Indexing}
use Rattle.cpu_model.specs.Line.{Line, row_among}
use Rattle.cpu_model.specs.BasePage.{base_page}
use Rattle.cpu_model.specs.TenPage.{ten_page}
use Rattle.cpu_model.specs.ElevenPage.{eleven_page}
use Rattle.cpu_model.specs.Flags.{has_bit}

-- ---- the opcode map

abbrev pub page_lines : Page → List Line
page_lines Base = base_page
page_lines Ten = ten_page
page_lines Eleven = eleven_page

-- the row of an opcode of a page, or nothing if the opcode is not documented
unfoldable pub row : Page → ℕ → Option Row
row page opcode = row_among (page_lines page) opcode

-- ---- the postbyte of indexed addressing (programming manual, "Indexed addressing")

-- the low half of a postbyte with bit 7, its form, and whether bit 4 may make it indirect
pub record FormLine : Type 0 where
  pub low : ℕ
  pub form : Form
  pub may_be_indirect : Bool

abbrev form_line : ℕ → Form → Bool → FormLine
form_line low form may_be_indirect = record { low = low; form = form; may_be_indirect = may_be_indirect }

unfoldable pub form_lines : List FormLine
form_lines =
    form_line 0x0 Increment1 false ∷
    form_line 0x1 Increment2 true ∷
    form_line 0x2 Decrement1 false ∷
    form_line 0x3 Decrement2 true ∷
    form_line 0x4 NoOffset true ∷
    form_line 0x5 OffsetB true ∷
    form_line 0x6 OffsetA true ∷
    form_line 0x8 Offset8 true ∷
    form_line 0x9 Offset16 true ∷
    form_line 0xB OffsetD true ∷
    form_line 0xC FromPc8 true ∷
    form_line 0xD FromPc16 true ∷
    []

abbrev form_among : List FormLine → ℕ → Option FormLine
form_among [] low = None
form_among (l ∷ ls) low = if l.low == low then Some l else form_among ls low

-- bits 6 and 5 name the register
abbrev pub base_register : ℕ → IndexRegister
base_register post =
    if post / 32 % 4 == 0 then X else (if post / 32 % 4 == 1 then Y else (if post / 32 % 4 == 2 then U else S))

abbrev indexing : Form → ℕ → Bool → Indexing
indexing form post indirect = record { 0 = form; 1 = base_register post; 2 = indirect }

-- bit 4 of a postbyte with bit 7 asks for a pointer, if the form may have one
abbrev indexing_of_line : ℕ → FormLine → Option Indexing
indexing_of_line post l =
    if has_bit 16 post && not l.may_be_indirect then None else Some (indexing l.form post (has_bit 16 post))

-- the meaning of a postbyte, or nothing if it is not documented
unfoldable pub postbyte : ℕ → Option Indexing
postbyte post =
    if nat_lt post 128 then Some (indexing Offset5 post false)
    else (if post == 0x9F then Some (indexing Absolute post true)
    else option_and_then (λ l. indexing_of_line post l) (form_among form_lines (post % 16)))

-- bits 6 and 5 do not matter if the offset is counted from PC; they are read as 0
abbrev pub plain_postbyte : Form → ℕ → ℕ
plain_postbyte FromPc8 post = post % 32 + 128
plain_postbyte FromPc16 post = post % 32 + 128
plain_postbyte _ post = post

-- ---- the postbyte of EXG and TFR

-- the codes of registers of sixteen bits, and of eight
abbrev pub is_word_code : ℕ → Bool
is_word_code code = nat_le code 5

abbrev pub is_byte_code : ℕ → Bool
is_byte_code code = nat_le 8 code && nat_le code 11

-- both halves name registers of one size
abbrev pub is_pair : ℕ → Bool
is_pair post =
    (is_word_code (post / 16) && is_word_code (post % 16)) || (is_byte_code (post / 16) && is_byte_code (post % 16))
