-- What is spelled is read: one lemma for each kind of operand, and one for the prefixes.
use Rattle.std.proofs.Common.{◌≡◌, ◌≢◌, ℕ, ◌+◌, ◌*◌, ◌/◌, ◌%◌, Option, Some, None, List, ◌∷◌, ◌++◌, length, refl, ap, ◌∙◌, arith, add-zero, append_assoc, length-append}
use Rattle.std.specs.Prelude.{Ok, option_to_list, option_map, IsSome, IsSomeAnd}
use Rattle.cpu_model.specs.declared.rows.Row.{Row}
use Rattle.cpu_model.specs.declared.rows.Mode.{Mode}
use Rattle.cpu_model.specs.declared.rows.Mode.TheVariants.{Inherent, Immediate8, Immediate16, Direct, Indexed, Extended, Relative8, Relative16, Pair}
use Rattle.cpu_model.specs.declared.indexing.Indexing.{Indexing}
use Rattle.cpu_model.specs.declared.instruction.Page.{Page}
use Rattle.cpu_model.specs.declared.instruction.Page.TheVariants.{Base, Ten, Eleven}
use Rattle.cpu_model.specs.declared.instruction.Tail.{Tail}
use Rattle.cpu_model.specs.declared.instruction.Tail.TheVariants.{Empty, Byte, Word}
use Rattle.cpu_model.specs.declared.instruction.Instr.{Instr}
use Rattle.cpu_model.specs.Table.{row, postbyte, plain_postbyte}
use Rattle.cpu_model.specs.Reading.{Extent, none, byte, word, extent_of_form, Reading, read_tail, read_form, read_operand, read_row, reading}
use Rattle.cpu_model.specs.BasePage.{base_page}
use Rattle.cpu_table.specs.Spelling.{HasExtent, HasOperand, IsDocumented, prefix, tail_bytes, spelling, plain_post, plain, IsPlainInstr}

-- ---- what is spelled is read

-- the instruction of these parts
abbrev made : Page → ℕ → Option ℕ → Tail → ℕ → Reading
made page opcode post tail count = Ok (record { page = page; opcode = opcode; post = post; tail = tail }, count)

module _ (page : Page) (opcode : ℕ) where
  tail_read : (before : ℕ) (post : Option ℕ) (extent : Extent) (tail : Tail) (rest : List ℕ) → HasExtent extent tail →
      read_tail page opcode post before extent (tail_bytes tail ++ rest) ≡ made page opcode post tail (before + length (tail_bytes tail))
  tail_read before post none Empty rest h = rw add-zero refl
  tail_read before post byte (Byte b) rest h = refl
  tail_read before post word (Word w) rest h =
      let whole : w / 256 * 256 + w % 256 ≡ w = omega arith in
      rw whole refl
  tail_read before post none (Byte b) rest h = absurd h
  tail_read before post none (Word w) rest h = absurd h
  tail_read before post byte Empty rest h = absurd h
  tail_read before post byte (Word w) rest h = absurd h
  tail_read before post word Empty rest h = absurd h
  tail_read before post word (Byte b) rest h = absurd h

  -- what the operand of an instruction makes of it
  abbrev operand_made : ℕ → Option ℕ → Tail → Reading
  operand_made before post tail =
      made page opcode (option_map plain_post post) tail (before + length (option_to_list post ++ tail_bytes tail))

  form_read : (before post : ℕ) (tail : Tail) (rest : List ℕ) (found : Option Indexing) → postbyte post ≡ found →
      IsSomeAnd found (λ indexing. HasExtent (extent_of_form indexing.0) tail) →
      read_form page opcode before post found (tail_bytes tail ++ rest) ≡ operand_made before (Some post) tail
  form_read before post tail rest None e h = absurd h
  form_read before post tail rest (Some indexing) e h =
      let count : before + 1 + length (tail_bytes tail) ≡ before + length (post ∷ tail_bytes tail) = omega arith in
      rw (e, ← count) (tail_read (before + 1) (Some (plain_postbyte indexing.0 post)) (extent_of_form indexing.0) tail rest h)

  operand_read : (before : ℕ) (mode : Mode) (post : Option ℕ) (tail : Tail) (rest : List ℕ) → HasOperand mode post tail →
      read_operand page opcode before mode (option_to_list post ++ tail_bytes tail ++ rest) ≡ operand_made before post tail
  operand_read before Indexed (Some post) tail rest h = form_read before post tail rest (postbyte post) refl h
  operand_read before Indexed None tail rest h = absurd h
  operand_read before Pair None (Byte pair) rest h = rw h refl
  operand_read before Pair None Empty rest h = absurd h
  operand_read before Pair None (Word w) rest h = absurd h
  operand_read before Pair (Some post) tail rest h = absurd h
  operand_read before Inherent None tail rest h = tail_read before None none tail rest h
  operand_read before Immediate8 None tail rest h = tail_read before None byte tail rest h
  operand_read before Immediate16 None tail rest h = tail_read before None word tail rest h
  operand_read before Direct None tail rest h = tail_read before None byte tail rest h
  operand_read before Extended None tail rest h = tail_read before None word tail rest h
  operand_read before Relative8 None tail rest h = tail_read before None byte tail rest h
  operand_read before Relative16 None tail rest h = tail_read before None word tail rest h
  operand_read before Inherent (Some post) tail rest h = absurd h
  operand_read before Immediate8 (Some post) tail rest h = absurd h
  operand_read before Immediate16 (Some post) tail rest h = absurd h
  operand_read before Direct (Some post) tail rest h = absurd h
  operand_read before Extended (Some post) tail rest h = absurd h
  operand_read before Relative8 (Some post) tail rest h = absurd h
  operand_read before Relative16 (Some post) tail rest h = absurd h

  row_read : (before : ℕ) (found : Option Row) (post : Option ℕ) (tail : Tail) (rest : List ℕ) →
      IsSomeAnd found (λ r. HasOperand r.1 post tail) →
      read_row page opcode before found (option_to_list post ++ tail_bytes tail ++ rest) ≡ operand_made before post tail
  row_read before None post tail rest h = absurd h
  row_read before (Some r) post tail rest h = operand_read before r.1 post tail rest h

-- the prefixes are no opcodes of the first page
row-10 : row Base 0x10 ≡ None
unfolding row base_page
row-10 = refl

row-11 : row Base 0x11 ≡ None
unfolding row base_page
row-11 = refl

apart : (opcode other : ℕ) → IsSome (row Base opcode) → row Base other ≡ None → opcode ≢ other
apart opcode other h no_row e =
    let at_other : IsSome (row Base other) = rw e at h in
    let at_none : IsSome {T = Row} None = rw no_row at at_other in
    cc

some_row : (P : Row → Type 0) (found : Option Row) → IsSomeAnd found P → IsSome found
some_row P None h = absurd h
some_row P (Some r) h = refl

-- an opcode is read by its page
page_read : (page : Page) (opcode : ℕ) (rest : List ℕ) → IsSome (row page opcode) →
    reading (prefix page ++ (opcode ∷ rest)) ≡ read_row page opcode (length (prefix page) + 1) (row page opcode) rest
unfolding reading
page_read Base opcode rest h =
    let ten : opcode ≢ 0x10 = apart opcode 0x10 h row-10 in
    let eleven : opcode ≢ 0x11 = apart opcode 0x11 h row-11 in
    grind arith
page_read Ten opcode rest h = refl
page_read Eleven opcode rest h = refl

-- an opcode of the first page is read by its row
pub first_read : (opcode : ℕ) (rest : List ℕ) (line : Row) → row Base opcode ≡ Some line →
    reading (opcode ∷ rest) ≡ read_operand Base opcode 1 line.1 rest
first_read opcode rest line e =
    let some : IsSome (row Base opcode) = rw e refl in
    page_read Base opcode rest some ∙ rw e refl

-- every documented instruction is read from its spelling, whatever follows
pub spelling_read : (i : Instr) (rest : List ℕ) → IsDocumented i → reading (spelling i ++ rest) ≡ Ok (plain i, length (spelling i))
spelling_read i rest h =
    let operand : List ℕ = option_to_list i.post ++ tail_bytes i.tail in
    let found : IsSome (row i.page i.opcode) = some_row (λ r. HasOperand r.1 i.post i.tail) (row i.page i.opcode) h in
    let split : spelling i ++ rest ≡ prefix i.page ++ (i.opcode ∷ (operand ++ rest)) =
    append_assoc (prefix i.page) (i.opcode ∷ operand) rest in
    let count : length (prefix i.page) + 1 + length operand ≡ length (spelling i) = simp length-append (omega arith) in
    rw (split, page_read i.page i.opcode (operand ++ rest) found, ← count)
    (row_read i.page i.opcode (length (prefix i.page) + 1) (row i.page i.opcode) i.post i.tail rest h)

-- and a plain one as itself
pub plain_read : (i : Instr) (rest : List ℕ) → IsPlainInstr i → reading (spelling i ++ rest) ≡ Ok (i, length (spelling i))
plain_read i rest p = spelling_read i rest p.0 ∙ ap (λ j. Ok (j, length (spelling i))) p.1
