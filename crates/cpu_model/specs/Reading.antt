-- How bytes are read as an instruction.
use Rattle.std.specs.Prelude.{ℕ, ◌+◌, ◌*◌, ◌==◌, Option, Some, None, Result, Ok, Err, List, [], ◌∷◌, if◌then◌else◌}
use Rattle.cpu_model.specs.declared.rows.Row.{Row}
use Rattle.cpu_model.specs.declared.rows.Mode.{Mode}
use Rattle.cpu_model.specs.declared.rows.Mode.TheVariants.{Immediate8, Immediate16, Direct, Indexed, Extended, Relative8, Relative16, Pair}
use Rattle.cpu_model.specs.declared.indexing.Form.{Form}
use Rattle.cpu_model.specs.declared.indexing.Form.TheVariants.{Offset8, Offset16, FromPc8, FromPc16, Absolute}
use Rattle.cpu_model.specs.declared.indexing.Indexing.{Indexing}
use Rattle.cpu_model.specs.declared.instruction.Page.{Page}
use Rattle.cpu_model.specs.declared.instruction.Page.TheVariants.{Base, Ten, Eleven}
use Rattle.cpu_model.specs.declared.instruction.Tail.{Tail}
use Rattle.cpu_model.specs.declared.instruction.Tail.TheVariants.{Empty, Byte, Word}
use Rattle.cpu_model.specs.declared.instruction.Instr.{Instr}
use Rattle.cpu_model.specs.declared.instruction.DecodeFault.{DecodeFault}
use Rattle.cpu_model.specs.declared.instruction.DecodeFault.TheVariants.{NotDocumented, Short}
use Rattle.cpu_model.specs.Table.{row, postbyte, plain_postbyte, is_pair}

-- what is read from bytes: an instruction and the number of its bytes, or why there is none
abbrev pub Reading : Type 0
Reading = Result (Instr × ℕ) DecodeFault

-- the number of bytes that follow the opcode or the postbyte
pub data Extent : Type 0 where
  none : Extent
  byte : Extent
  word : Extent

-- after an opcode whose mode is neither indexed nor a pair
abbrev pub extent_of_mode : Mode → Extent
extent_of_mode Immediate8 = byte
extent_of_mode Direct = byte
extent_of_mode Relative8 = byte
extent_of_mode Immediate16 = word
extent_of_mode Extended = word
extent_of_mode Relative16 = word
extent_of_mode _ = none

-- after a postbyte
abbrev pub extent_of_form : Form → Extent
extent_of_form Offset8 = byte
extent_of_form FromPc8 = byte
extent_of_form Offset16 = word
extent_of_form FromPc16 = word
extent_of_form Absolute = word
extent_of_form _ = none

abbrev pub instruction : Page → ℕ → Option ℕ → Tail → ℕ → Reading
instruction page opcode post tail length =
    Ok (record { page = page; opcode = opcode; post = post; tail = tail }, length)

-- the operand bytes at the front of the rest, of an instruction with this number of bytes before them
abbrev pub read_tail : Page → ℕ → Option ℕ → ℕ → Extent → List ℕ → Reading
read_tail page opcode post length none rest = instruction page opcode post Empty length
read_tail page opcode post length byte [] = Err Short
read_tail page opcode post length byte (b ∷ rest) = instruction page opcode post (Byte b) (length + 1)
read_tail page opcode post length word [] = Err Short
read_tail page opcode post length word (high ∷ []) = Err Short
read_tail page opcode post length word (high ∷ low ∷ rest) =
    instruction page opcode post (Word (high * 256 + low)) (length + 2)

-- a pair of registers, which must be documented
abbrev pub read_pair : Page → ℕ → ℕ → List ℕ → Reading
read_pair page opcode length [] = Err Short
read_pair page opcode length (pair ∷ rest) =
    if is_pair pair then instruction page opcode None (Byte pair) (length + 1) else Err NotDocumented

-- the bytes after a postbyte of this meaning
abbrev pub read_form : Page → ℕ → ℕ → ℕ → Option Indexing → List ℕ → Reading
read_form page opcode length post None rest = Err NotDocumented
read_form page opcode length post (Some indexing) rest =
    read_tail page opcode (Some (plain_postbyte indexing.0 post)) (length + 1) (extent_of_form indexing.0) rest

abbrev pub read_indexed : Page → ℕ → ℕ → List ℕ → Reading
read_indexed page opcode length [] = Err Short
read_indexed page opcode length (post ∷ rest) = read_form page opcode length post (postbyte post) rest

abbrev pub read_operand : Page → ℕ → ℕ → Mode → List ℕ → Reading
read_operand page opcode length Indexed rest = read_indexed page opcode length rest
read_operand page opcode length Pair rest = read_pair page opcode length rest
read_operand page opcode length mode rest = read_tail page opcode None length (extent_of_mode mode) rest

abbrev pub read_row : Page → ℕ → ℕ → Option Row → List ℕ → Reading
read_row page opcode length None rest = Err NotDocumented
read_row page opcode length (Some r) rest = read_operand page opcode length r.1 rest

-- an opcode of this page, with this number of bytes up to it
abbrev pub read_opcode : Page → ℕ → List ℕ → Reading
read_opcode page length [] = Err Short
read_opcode page length (opcode ∷ rest) = read_row page opcode length (row page opcode) rest

-- the instruction that the bytes at the front of a list spell
unfoldable pub reading : List ℕ → Reading
reading [] = Err Short
reading (b ∷ rest) =
    if b == 0x10 then read_opcode Ten 2 rest
    else (if b == 0x11 then read_opcode Eleven 2 rest else read_opcode Base 1 (b ∷ rest))
