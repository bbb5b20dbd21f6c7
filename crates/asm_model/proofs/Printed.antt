-- What is printed of an instruction is read as it again.
use Rattle.std.proofs.Common.{◌≡◌, ℕ, ◌+◌, ◌<◌, Bool, true, false, Option, Some, None, List, ◌∷◌, ◌++◌, length, refl, ap, sym, subst, ◌∙◌, arith, length-append, ℤ}
use Rattle.std.specs.Prelude.{option_map, option_and_then, option_to_list, IsSomeAnd, IfSome, if◌then◌else◌}
use Rattle.std.specs.Option.{option_map_or}
use Rattle.cpu_model.specs.declared.rows.Row.{Row}
use Rattle.cpu_model.specs.declared.indexing.Indexing.{Indexing}
use Rattle.cpu_model.specs.declared.instruction.Page.{Page}
use Rattle.cpu_model.specs.declared.instruction.Tail.{Tail}
use Rattle.cpu_model.specs.declared.instruction.Tail.TheVariants.{Empty, Byte, Word}
use Rattle.cpu_model.specs.declared.instruction.Instr.{Instr}
use Rattle.cpu_model.specs.Table.{row, postbyte, plain_postbyte}
use Rattle.cpu_table.specs.Spelling.{HasOperand, prefix, tail_bytes, spelling, plain, plain_post, IsPlainInstr}
use Rattle.asm_model.specs.declared.operand.Wanted.{Wanted}
use Rattle.asm_model.specs.declared.operand.Wanted.TheVariants.{Nothing, Fixed, Value}
use Rattle.asm_model.specs.declared.operand.Field.{Field}
use Rattle.asm_model.specs.declared.operand.Field.TheVariants as field
use Rattle.text_values.specs.Cuts.{first_word}
use Rattle.asm_model.specs.Mnemonics.{row_word}
use Rattle.asm_model.specs.Print.{printed, printed_row, printed_operand, with_operand}
use Rattle.asm_model.specs.Operands.{Operand, mark_of, row_operand, filled, modulo, distance}
use Rattle.asm_model.specs.Instructions.{Shape, shape_of, shape_with, shape_length, shape_instr, wanted_tail, with_tail, wanted_length, post_length, field_length, entry, line_of, operand_text, worded_instr, instr_of}
use Rattle.asm_model.proofs.Finite.{tail_of}
use Rattle.asm_model.specs.Laws.{TailFits}
use Rattle.asm_model.proofs.Entries.{entry_found, word_free}
use Rattle.asm_model.proofs.Spaces.{shown_space, with_operand_line, line_word, line_operand}
use Rattle.asm_model.proofs.ReadBack.{IsPlainPost, operand_back}
use Rattle.asm_model.proofs.Marks.{operand_text_is}

-- an operand that is read as this postbyte and tail
record Reads (read : Option Operand) (next : ℕ) (post : Option ℕ) (tail : Tail) : Type 0 where
  its : Operand
  is : read ≡ Some its
  post_is : its.post ≡ post
  tail_is : wanted_tail its.wanted next its.expression ≡ Some tail

tail_parts : (o : Operand) (found : Option Tail) (post : Option ℕ) (tail : Tail) → option_map {U = Option ℕ × Tail} (λ t. (o.post, t)) found ≡ Some (post, tail) → (o.post ≡ post) × (found ≡ Some tail)
tail_parts o None post tail is = absurd (cc)
tail_parts o (Some t) post tail is =
    let both : ◌≡◌ {A = Option ℕ × Tail} (o.post, t) (post, tail) = cc in
    (ap (λ p. p.0) both, ap (λ p. Some p.1) both)

reads : (read : Option Operand) (next : ℕ) (post : Option ℕ) (tail : Tail) → option_and_then (tail_of next) read ≡ Some (post, tail) → Reads read next post tail
reads None next post tail is = absurd (cc)
reads (Some o) next post tail is =
    let both = tail_parts o (wanted_tail o.wanted next o.expression) post tail is in
    record { its = o; is = refl; post_is = both.0; tail_is = both.1 }

-- the bytes behind the opcode and the postbyte are as many as are wanted
if_length : (b : Bool) (t tail : Tail) → (if b then Some t else None) ≡ Some tail → t ≡ tail
if_length true t tail is = cc
if_length false t tail is = absurd (cc)

filled_length : (f : Field) (next : ℕ) (z : ℤ) (tail : Tail) → filled f next z ≡ Some tail → field_length f ≡ length (tail_bytes tail)
filled_length field.Byte next z tail is = ap (λ t. length (tail_bytes t)) (if_length _ _ tail is)
filled_length field.Direct next z tail is = ap (λ t. length (tail_bytes t)) (if_length _ _ tail is)
filled_length field.Offset8 next z tail is = ap (λ t. length (tail_bytes t)) (if_length _ _ tail is)
filled_length field.Target8 next z tail is = ap (λ t. length (tail_bytes t)) (if_length _ _ tail is)
filled_length field.Word next z tail is = ap (λ t. length (tail_bytes t)) (if_length _ _ tail is)
filled_length field.Offset16 next z tail is = let same : Word (modulo 65536 z) ≡ tail = cc in ap (λ t. length (tail_bytes t)) same
filled_length field.Target16 next z tail is = let same : Word (distance next z) ≡ tail = cc in ap (λ t. length (tail_bytes t)) same

value_fits : (f : Field) (next : ℕ) (value : Option ℤ) (tail : Tail) → option_and_then (filled f next) value ≡ Some tail → field_length f ≡ length (tail_bytes tail)
value_fits f next None tail is = absurd (cc)
value_fits f next (Some z) tail is = filled_length f next z tail is

wanted_fits : (w : Wanted) (next : ℕ) (text : List ℕ) (tail : Tail) → wanted_tail w next text ≡ Some tail → wanted_length w ≡ length (tail_bytes tail)
wanted_fits Nothing next text tail is = let same : Empty ≡ tail = cc in ap (λ t. length (tail_bytes t)) same
wanted_fits (Fixed b) next text tail is = let same : Byte b ≡ tail = cc in ap (λ t. length (tail_bytes t)) same
wanted_fits (Value f) next text tail is = value_fits f next _ tail is

long_list : (front : List ℕ) (c : ℕ) (rest : List ℕ) → length front + 1 + length rest ≡ length (front ++ (c ∷ rest))
long_list front c rest = omega (arith, length-append front (c ∷ rest))

post_fits : (post : Option ℕ) → post_length post ≡ length (option_to_list post)
post_fits None = refl
post_fits (Some post) = refl

if_plain_post : (post : ℕ) (found : Option Indexing) → postbyte post ≡ found → plain_post post ≡ post → IsPlainPost found post
if_plain_post post None is plain = tt
if_plain_post post (Some i) is plain = subst (λ (p : Option Indexing). option_map_or (λ i. plain_postbyte i.0 post) p post ≡ post) is plain

plain_parts : (post : Option ℕ) → option_map plain_post post ≡ post → IfSome post (λ p. p < 256) → IfSome post (λ p. IsPlainPost (postbyte p) p × (p < 256))
plain_parts None same k = tt
plain_parts (Some post) same k = (if_plain_post post (postbyte post) refl (let one : plain_post post ≡ post = cc in one), k)

module _ (page : Page) (opcode : ℕ) (post : Option ℕ) (tail : Tail) (at : ℕ) where
  abbrev it : Instr
  it = record { page = page; opcode = opcode; post = post; tail = tail }

  abbrev next_at : ℕ
  next_at = at + length (spelling it)

  with_row : (r : Row) → row page opcode ≡ Some r → HasOperand r.1 post tail → option_map plain_post post ≡ post → IfSome post (λ p. p < 256) → TailFits tail →
      instr_of (with_operand (row_word r) (printed_operand r post tail next_at)) at ≡ Some it
  unfolding row_operand
  with_row r is has same k h =
      let text : List ℕ = printed_operand r post tail next_at in
      let facts = operand_text_is next_at r.0 r.1 post tail has k h in
      let read = reads (row_operand r text) next_at post tail (operand_back next_at r.0 r.1 post tail has (plain_parts post same k) h) in
      let s : Shape = shape_with (entry page (line_of opcode r)) read.its in
      let shape : shape_of (row_word r) text ≡ Some s =
      ap (option_and_then (λ e. option_map (shape_with e) (row_operand e.line.row text))) (entry_found page opcode r is (mark_of text) facts.fits_row)
      ∙ ap (option_map (shape_with (entry page (line_of opcode r)))) read.is in
      let parts : post_length read.its.post + wanted_length read.its.wanted ≡ length (option_to_list post ++ tail_bytes tail) =
      ap (λ p. post_length p + wanted_length read.its.wanted) read.post_is ∙ ap (λ n. post_length post + n) (wanted_fits read.its.wanted next_at read.its.expression tail read.tail_is)
      ∙ ap (λ n. n + length (tail_bytes tail)) (post_fits post) ∙ sym (length-append (option_to_list post) (tail_bytes tail)) in
      let long : shape_length s ≡ length (spelling it) =
      ap (λ n. length (prefix page) + 1 + n) parts ∙ long_list (prefix page) opcode (option_to_list post ++ tail_bytes tail) in
      let tail_is : wanted_tail read.its.wanted (at + shape_length s) read.its.expression ≡ Some tail =
      ap (λ n. wanted_tail read.its.wanted (at + n) read.its.expression) long ∙ read.tail_is in
      let filled_is : shape_instr at s ≡ Some it =
      ap (option_map (with_tail s)) tail_is ∙ ap (λ p. Some (record it { post = p })) read.post_is in
      let free = facts.free in
      let word = word_free page opcode r is in
      let line : List ℕ = with_operand (row_word r) text in
      let first : first_word line ≡ row_word r = line_word (row_word r) text (shown_space (row_word r) word) in
      let second : operand_text line ≡ text = line_operand (row_word r) text (shown_space (row_word r) word) (shown_space text free) in
      ap (λ b. if b then worded_instr line at else None) (with_operand_line (row_word r) text word free)
      ∙ ap (λ w. option_and_then (shape_instr at) (shape_of w (operand_text line))) first
      ∙ ap (λ t. option_and_then (shape_instr at) (shape_of (row_word r) t)) second
      ∙ ap (option_and_then (shape_instr at)) shape ∙ filled_is

  if_row : (found : Option Row) → row page opcode ≡ found → IsSomeAnd found (λ r. HasOperand r.1 post tail) → option_map plain_post post ≡ post → IfSome post (λ p. p < 256) → TailFits tail →
      instr_of (printed_row found it next_at) at ≡ Some it
  if_row None is has same k h = absurd has
  if_row (Some r) is has same k h = with_row r is has same k h

-- every instruction that decoding can give is read from its text
pub printed_back : (i : Instr) (at : ℕ) → IsPlainInstr i → IfSome i.post (λ p. p < 256) → TailFits i.tail → instr_of (printed i at) at ≡ Some i
unfolding printed
printed_back i at plainly k h =
    if_row i.page i.opcode i.post i.tail at (row i.page i.opcode) refl plainly.0 (ap (λ j. j.post) plainly.1) k h
