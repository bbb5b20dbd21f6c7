-- The spelling of instructions: which are documented, the bytes of each, and which bytes spell it; no reading.
use Rattle.std.specs.Prelude.{◌≡◌, ◌≢◌, ℕ, ◌/◌, ◌%◌, ◌<◌, ◌≤◌, true, Option, Some, None, IsSomeAnd, option_map, option_to_list, List, [], ◌∷◌, ◌++◌, length, take, All, ⊤}
use Rattle.std.specs.Option.{option_map_or}
use Rattle.cpu_model.specs.declared.rows.Mode.{Mode}
use Rattle.cpu_model.specs.declared.rows.Mode.TheVariants.{Indexed, Pair}
use Rattle.cpu_model.specs.declared.instruction.Page.{Page}
use Rattle.cpu_model.specs.declared.instruction.Page.TheVariants.{Base, Ten, Eleven}
use Rattle.cpu_model.specs.declared.instruction.Tail.{Tail}
use Rattle.cpu_model.specs.declared.instruction.Tail.TheVariants.{Empty, Byte, Word}
use Rattle.cpu_model.specs.declared.instruction.Instr.{Instr}
use Rattle.cpu_model.specs.Table.{row, postbyte, plain_postbyte, is_pair}
use Rattle.cpu_model.specs.Reading.{Extent, none, byte, word, extent_of_mode, extent_of_form}

-- ---- which instructions are documented (programming manual, "Addressing modes" and appendix B)

-- the operand bytes have this extent
abbrev pub HasExtent : Extent → Tail → Type 0
HasExtent none Empty = ⊤
HasExtent byte (Byte _) = ⊤
HasExtent word (Word _) = ⊤
HasExtent _ _ = ⊥

-- the postbyte and the operand bytes are those of this mode
abbrev pub HasOperand : Mode → Option ℕ → Tail → Type 0
HasOperand Indexed (Some post) tail = IsSomeAnd (postbyte post) (λ indexing. HasExtent (extent_of_form indexing.0) tail)
HasOperand Indexed None tail = ⊥
HasOperand Pair None (Byte pair) = is_pair pair ≡ true
HasOperand Pair _ _ = ⊥
HasOperand mode None tail = HasExtent (extent_of_mode mode) tail
HasOperand _ (Some _) tail = ⊥

-- the opcode map has a row for the opcode, and the rest is as the row's mode asks
abbrev pub IsDocumented : Instr → Type 0
IsDocumented i = IsSomeAnd (row i.page i.opcode) (λ r. HasOperand r.1 i.post i.tail)

-- ---- the bytes of an instruction

-- the prefix of a page
abbrev pub prefix : Page → List ℕ
prefix Base = []
prefix Ten = 0x10 ∷ []
prefix Eleven = 0x11 ∷ []

-- the operand bytes, the high byte of a word first
abbrev pub tail_bytes : Tail → List ℕ
tail_bytes Empty = []
tail_bytes (Byte b) = b ∷ []
tail_bytes (Word w) = w / 256 ∷ w % 256 ∷ []

-- prefix, opcode, postbyte and operand bytes, in this order
abbrev pub spelling : Instr → List ℕ
spelling i = prefix i.page ++ (i.opcode ∷ (option_to_list i.post ++ tail_bytes i.tail))

-- ---- which bytes spell an instruction

-- the same instruction, with bits 6 and 5 of its postbyte 0 if its offset is counted from PC: they do not matter then
abbrev pub plain_post : ℕ → ℕ
plain_post post = option_map_or (λ indexing. plain_postbyte indexing.0 post) (postbyte post) post

abbrev pub plain : Instr → Instr
plain i = record i { post = option_map plain_post i.post }

-- an instruction that decoding can return
abbrev pub IsPlainInstr : Instr → Type 0
IsPlainInstr i = IsDocumented i × (plain i ≡ i)

-- exactly these bytes spell the instruction
pub record Spells (i : Instr) (bytes : List ℕ) : Type 0 where
  pub written : Instr
  pub documented : IsDocumented written
  pub bytes_are : bytes ≡ spelling written
  pub plainly : i ≡ plain written

-- the first `count` of these bytes spell the instruction
pub record BeginsWithInstruction (bytes : List ℕ) (i : Instr) (count : ℕ) : Type 0 where
  pub enough : count ≤ length bytes
  pub spells : Spells i (take count bytes)

-- these bytes are the beginning of a longer spelling
pub record IsBegun (bytes : List ℕ) : Type 0 where
  pub more : List ℕ
  pub bytes_more : All (λ b. b < 256) more
  pub some_more : more ≢ []
  pub i : Instr
  pub spells : Spells i (bytes ++ more)

-- the bytes begin with the spelling of some instruction
abbrev pub IsSpelled : List ℕ → Type 0
IsSpelled bytes = (i : Instr) × (count : ℕ) × BeginsWithInstruction bytes i count
