-- Indexed operands that are printed are read as their postbyte and tail.
use Rattle.std.proofs.Common.{◌≡◌, ℕ, ◌+◌, ◌*◌, ◌%◌, ◌<◌, Bool, true, false, Option, Some, None, List, [], ◌∷◌, ◌++◌, refl, ap, sym, subst, ◌∙◌, arith, zero-add, pos}
use Rattle.std.specs.Prelude.{◌==◌, option_map, option_and_then, codes, if◌then◌else◌}
use Rattle.std.specs.List.{slice_split, list_any}
use Rattle.cpu_model.specs.declared.indexing.Form.{Form}
use Rattle.cpu_model.specs.declared.indexing.Form.TheVariants.{Offset5, Increment1, Increment2, Decrement1, Decrement2, NoOffset, OffsetB, OffsetA, Offset8, Offset16, OffsetD, FromPc8, FromPc16, Absolute}
use Rattle.cpu_model.specs.declared.indexing.Indexing.{Indexing}
use Rattle.cpu_model.specs.declared.rows.IndexRegister.{IndexRegister}
use Rattle.cpu_model.specs.declared.rows.IndexRegister.TheVariants.{X, Y, U, S}
use Rattle.cpu_model.specs.declared.instruction.Tail.{Tail}
use Rattle.cpu_model.specs.declared.instruction.Tail.TheVariants.{Empty, Byte, Word}
use Rattle.cpu_model.specs.Arithmetic.{extended}
use Rattle.cpu_model.specs.Reading.{extent_of_form}
use Rattle.cpu_model.specs.Table.{postbyte, form_lines, plain_postbyte}
use Rattle.cpu_table.specs.Spelling.{HasExtent}
use Rattle.asm_model.specs.declared.operand.Wanted.TheVariants.{Nothing, Value}
use Rattle.asm_model.specs.declared.operand.Field.{Field}
use Rattle.asm_model.specs.declared.operand.Field.TheVariants as field
use Rattle.asm_model.specs.Characters.{is_comma}
use Rattle.asm_model.specs.Numbers.{four_digits}
use Rattle.asm_model.specs.Mnemonics.{index_register_word}
use Rattle.asm_model.specs.Expressions.{terms, value_of, constant_meaning}
use Rattle.asm_model.specs.Print.{word_number, in_brackets, printed_index, printed_indexing, target}
use Rattle.asm_model.specs.Operands.{Operand, filled, operand, valued, indexed_operand, index_number, indirect_bit, bare_post, bare_or, inside, numbered, offset_among}
use Rattle.asm_model.specs.Laws.{TailFits}
use Rattle.asm_model.proofs.Finite.{on_below, on_bytes, tail_of, plain_checked, plain_reads, by_byte, each_byte, of_form, offset8_checked}
use Rattle.asm_model.proofs.WordNumbers.{word_terms, word_comma}
use Rattle.asm_model.proofs.Commas.{split_comma, any_comma, bracket_back}
use Rattle.asm_model.proofs.Targets.{target8_filled, target16_filled, word_filled, offset16_filled}

-- ---- the operand of a text with a word

pub valued_word : (post : Option ℕ) (f : Field) (w : ℕ) → w < 65536 → valued post f (word_number w) ≡ Some (operand post (Value f) (word_number w))
valued_word post f w h = rw (word_terms w h) refl

word_value : (w : ℕ) → w < 65536 → option_and_then (value_of constant_meaning) (terms (word_number w)) ≡ Some (pos w)
word_value w h = ap (option_and_then (value_of constant_meaning)) (word_terms w h) ∙ ap (λ n. Some (pos n)) (zero-add w)

word_tail : (next : ℕ) (post : Option ℕ) (f : Field) (w : ℕ) (tail : Tail) → w < 65536 → filled f next (pos w) ≡ Some tail → tail_of next (operand post (Value f) (word_number w)) ≡ Some (post, tail)
word_tail next post f w tail h is =
    ap (λ v. option_map (λ (t : Tail). (post, t)) (option_and_then (filled f next) v)) (word_value w h) ∙ ap (option_map (λ (t : Tail). (post, t))) is

-- a text that is this operand with a word
pub word_back : (next : ℕ) (post : Option ℕ) (f : Field) (w : ℕ) (tail : Tail) (read : Option Operand) → w < 65536
    → read ≡ valued post f (word_number w) → filled f next (pos w) ≡ Some tail → option_and_then (tail_of next) read ≡
    Some (post, tail)
word_back next post f w tail read h is fills =
    ap (option_and_then (tail_of next)) (is ∙ valued_word post f w h) ∙ word_tail next post f w tail h fills

-- ---- texts with a comma

among : (indirect : Bool) (c : ℕ) (e rest : List ℕ) → (c == 91) ≡ false → list_any is_comma (c ∷ e) ≡ false → bare_post (in_brackets indirect (c ∷ e ++ (44 ∷ rest))) ≡ None →
    indexed_operand (in_brackets indirect (c ∷ e ++ (44 ∷ rest))) ≡ offset_among indirect ((c ∷ e) ∷ slice_split is_comma rest)
among false c e rest other free bare =
    ap (λ p. bare_or p (c ∷ e ++ (44 ∷ rest))) bare
    ∙ (let here : numbered (c ∷ e ++ (44 ∷ rest)) ≡ offset_among false (slice_split is_comma (c ∷ e ++ (44 ∷ rest))) = simp other in here)
    ∙ ap (offset_among false) (split_comma (c ∷ e) rest free)
among true c e rest other free bare =
    ap (λ p. bare_or p (91 ∷ (c ∷ e ++ (44 ∷ rest)) ++ (93 ∷ []))) bare
    ∙ ap (option_and_then inside) (bracket_back (c ∷ e ++ (44 ∷ rest)))
    ∙ ap (λ b. if b then offset_among true (slice_split is_comma (c ∷ e ++ (44 ∷ rest))) else valued (Some 159) field.Word (c ∷ e ++ (44 ∷ rest))) (any_comma (c ∷ e) rest)
    ∙ ap (offset_among true) (split_comma (c ∷ e) rest free)

-- no operand without a number begins with one of these
bare_narrow : (indirect : Bool) (text : List ℕ) → bare_post (in_brackets indirect (60 ∷ text)) ≡ None
unfolding postbyte form_lines
bare_narrow true text = refl
bare_narrow false text = refl

bare_wide : (indirect : Bool) (text : List ℕ) → bare_post (in_brackets indirect (62 ∷ text)) ≡ None
unfolding postbyte form_lines
bare_wide true text = refl
bare_wide false text = refl

bare_number : (indirect : Bool) (text : List ℕ) → bare_post (in_brackets indirect (36 ∷ text)) ≡ None
unfolding postbyte form_lines
bare_number true text = refl
bare_number false text = refl

-- ---- a word from a register

abbrev sixteen_post : IndexRegister → Bool → Option ℕ
sixteen_post r indirect = option_map (λ n. 137 + 32 * n + indirect_bit indirect) (index_number (index_register_word r))

sixteen_read : (r : IndexRegister) (indirect : Bool) (e : List ℕ) →
    offset_among indirect ((62 ∷ e) ∷ slice_split is_comma (index_register_word r)) ≡ option_and_then (λ post. valued (Some post) field.Offset16 e) (sixteen_post r indirect)
sixteen_read X indirect e = refl
sixteen_read Y indirect e = refl
sixteen_read U indirect e = refl
sixteen_read S indirect e = refl

abbrev sixteen_of : Form → IndexRegister → Bool → Option ℕ
sixteen_of Offset16 r indirect = sixteen_post r indirect
sixteen_of _ r indirect = None

abbrev of_indexing : {A : Type 0} → (Form → IndexRegister → Bool → Option A) → Option Indexing → Option A
of_indexing f None = None
of_indexing f (Some i) = f i.0 i.1 i.2

abbrev only_form16 : ℕ → Form → IndexRegister → Bool → Option ℕ
only_form16 post Offset16 r indirect = Some post
only_form16 post _ r indirect = None

sixteen_again : (post : ℕ) → post < 256 → of_indexing sixteen_of (postbyte post) ≡ of_indexing (only_form16 post) (postbyte post)
unfolding postbyte form_lines
sixteen_again = on_below 256 (λ post. of_indexing sixteen_of (postbyte post)) (λ post. of_indexing (only_form16 post) (postbyte post)) refl

abbrev pub meaning : Form → IndexRegister → Bool → Option Indexing
meaning form r indirect = Some (record { 0 = form; 1 = r; 2 = indirect })

offset16_back : (next post : ℕ) (r : IndexRegister) (indirect : Bool) (w : ℕ) → post < 256 → w < 65536 → postbyte post ≡ meaning Offset16 r indirect →
    option_and_then (tail_of next) (indexed_operand (in_brackets indirect (62 ∷ word_number w ++ (44 ∷ index_register_word r)))) ≡ Some (Some post, Word w)
offset16_back next post r indirect w k h is =
    let again : sixteen_post r indirect ≡ Some post = subst (λ p. of_indexing sixteen_of p ≡ of_indexing (only_form16 post) p) is (sixteen_again post k) in
    word_back next (Some post) field.Offset16 w (Word w) _ h
    (among indirect 62 (word_number w) (index_register_word r) refl (word_comma w h) (bare_wide indirect (word_number w ++ (44 ∷ index_register_word r)))
    ∙ sixteen_read r indirect (word_number w) ∙ ap (option_and_then (λ post. valued (Some post) field.Offset16 (word_number w))) again)
    (offset16_filled next w h)

-- ---- targets

abbrev pc8_of : ℕ → Form → IndexRegister → Bool → Option ℕ
pc8_of post FromPc8 r indirect = Some (140 + indirect_bit indirect)
pc8_of post _ r indirect = None

abbrev only_pc8 : ℕ → Form → IndexRegister → Bool → Option ℕ
only_pc8 post FromPc8 r indirect = Some (post % 32 + 128)
only_pc8 post _ r indirect = None

pc8_again : (post : ℕ) → post < 256 → of_indexing (pc8_of post) (postbyte post) ≡ of_indexing (only_pc8 post) (postbyte post)
unfolding postbyte form_lines
pc8_again = on_below 256 (λ post. of_indexing (pc8_of post) (postbyte post)) (λ post. of_indexing (only_pc8 post) (postbyte post)) refl

abbrev pc16_of : ℕ → Form → IndexRegister → Bool → Option ℕ
pc16_of post FromPc16 r indirect = Some (141 + indirect_bit indirect)
pc16_of post _ r indirect = None

abbrev only_pc16 : ℕ → Form → IndexRegister → Bool → Option ℕ
only_pc16 post FromPc16 r indirect = Some (post % 32 + 128)
only_pc16 post _ r indirect = None

pc16_again : (post : ℕ) → post < 256 → of_indexing (pc16_of post) (postbyte post) ≡ of_indexing (only_pc16 post) (postbyte post)
unfolding postbyte form_lines
pc16_again = on_below 256 (λ post. of_indexing (pc16_of post) (postbyte post)) (λ post. of_indexing (only_pc16 post) (postbyte post)) refl

pub target_fits : (next offset : ℕ) → target next offset < 65536
target_fits next offset = omega arith

pc8_back : (next post : ℕ) (r : IndexRegister) (indirect : Bool) (b : ℕ) → post < 256 → b < 256 → postbyte post ≡ meaning FromPc8 r indirect → post % 32 + 128 ≡ post →
    option_and_then (tail_of next) (indexed_operand (in_brackets indirect (60 ∷ word_number (target next (extended b)) ++ codes ",PCR"))) ≡ Some (Some post, Byte b)
pc8_back next post r indirect b k h is plain =
    let again : ◌≡◌ {A = Option ℕ} (Some (140 + indirect_bit indirect)) (Some (post % 32 + 128)) = subst (λ p. of_indexing (pc8_of post) p ≡ of_indexing (only_pc8 post) p) is (pc8_again post k) in
    let t : ℕ = target next (extended b) in
    word_back next (Some post) field.Target8 t (Byte b) _ (target_fits next (extended b))
    (among indirect 60 (word_number t) (codes "PCR") refl (word_comma t (target_fits next (extended b))) (bare_narrow indirect (word_number t ++ codes ",PCR"))
    ∙ ap (λ p. valued p field.Target8 (word_number t)) (again ∙ ap Some plain))
    (target8_filled next b h)

pc16_back : (next post : ℕ) (r : IndexRegister) (indirect : Bool) (w : ℕ) → post < 256 → w < 65536 → postbyte post ≡ meaning FromPc16 r indirect → post % 32 + 128 ≡ post →
    option_and_then (tail_of next) (indexed_operand (in_brackets indirect (word_number (target next w) ++ codes ",PCR"))) ≡ Some (Some post, Word w)
pc16_back next post r indirect w k h is plain =
    let again : ◌≡◌ {A = Option ℕ} (Some (141 + indirect_bit indirect)) (Some (post % 32 + 128)) = subst (λ p. of_indexing (pc16_of post) p ≡ of_indexing (only_pc16 post) p) is (pc16_again post k) in
    let t : ℕ = target next w in
    word_back next (Some post) field.Target16 t (Word w) _ (target_fits next w)
    (among indirect 36 (four_digits t) (codes "PCR") refl (word_comma t (target_fits next w)) (bare_number indirect (four_digits t ++ codes ",PCR"))
    ∙ ap (λ p. valued p field.Target16 (word_number t)) (again ∙ ap Some plain))
    (target16_filled next w h)

-- ---- extended indirect

abbrev absolute_of : ℕ → Form → IndexRegister → Bool → Option (ℕ × Bool)
absolute_of post Absolute r indirect = Some (post, indirect)
absolute_of post _ r indirect = None

abbrev only_absolute : ℕ → Form → IndexRegister → Bool → Option (ℕ × Bool)
only_absolute post Absolute r indirect = Some (159, true)
only_absolute post _ r indirect = None

absolute_again : (post : ℕ) → post < 256 → of_indexing (absolute_of post) (postbyte post) ≡ of_indexing (only_absolute post) (postbyte post)
unfolding postbyte form_lines
absolute_again = on_below 256 (λ post. of_indexing (absolute_of post) (postbyte post)) (λ post. of_indexing (only_absolute post) (postbyte post)) refl

absolute_read : (w : ℕ) → w < 65536 → indexed_operand (in_brackets true (word_number w)) ≡ valued (Some 159) field.Word (word_number w)
absolute_read w h =
    ap (λ p. bare_or p (in_brackets true (word_number w))) (bare_number true (four_digits w))
    ∙ ap (option_and_then inside) (bracket_back (word_number w))
    ∙ ap (λ b. if b then offset_among true (slice_split is_comma (word_number w)) else valued (Some 159) field.Word (word_number w)) (word_comma w h)

pub absolute_is : (post : ℕ) (r : IndexRegister) (indirect : Bool) → post < 256 → postbyte post ≡ meaning Absolute r indirect → ◌≡◌ {A = ℕ × Bool} (post, indirect) (159, true)
absolute_is post r indirect k is =
    let again : ◌≡◌ {A = Option (ℕ × Bool)} (Some (post, indirect)) (Some (159, true)) = subst
    (λ p. of_indexing (absolute_of post) p ≡ of_indexing (only_absolute post) p) is (absolute_again post k) in
    cc

absolute_back : (next post : ℕ) (r : IndexRegister) (indirect : Bool) (w : ℕ) → post < 256 → w < 65536 → postbyte post ≡ meaning Absolute r indirect →
    option_and_then (tail_of next) (indexed_operand (in_brackets indirect (word_number w))) ≡ Some (Some post, Word w)
absolute_back next post r indirect w k h is =
    let both : ◌≡◌ {A = ℕ × Bool} (post, indirect) (159, true) = absolute_is post r indirect k is in
    let P : ℕ × Bool → Type 0 = λ p. option_and_then (tail_of next) (indexed_operand (in_brackets p.1 (word_number w))) ≡ Some (Some p.0, Word w) in
    subst P (sym both) (word_back next (Some 159) field.Word w (Word w) _ h (absolute_read w h) (word_filled next w h))

-- ---- all forms

module _ (next post : ℕ) (r : IndexRegister) (indirect : Bool) (k : post < 256) where
  abbrev bare_back : (form : Form) → Type 0
  bare_back form = postbyte post ≡ meaning form r indirect → plain_reads next (meaning form r indirect) post
      (indexed_operand (in_brackets indirect (printed_index form r post Empty next))) ≡ plain_reads next
      (meaning form r indirect) post (Some (operand (Some post) Nothing []))

  bare_is : (form : Form) → bare_back form
  bare_is form is =
      subst (λ (p : Option Indexing). plain_reads next p post (indexed_operand (printed_indexing p post Empty next)) ≡
      plain_reads next p post (Some (operand (Some post) Nothing []))) is (plain_checked next post k)

  bare_tail : (read : Option Operand) → read ≡ Some (operand (Some post) Nothing []) → option_and_then (tail_of next) read ≡ Some (Some post, Empty)
  bare_tail read is = ap (option_and_then (tail_of next)) is

  abbrev IndexBack : Form → Tail → Type 0
  IndexBack form tail = postbyte post ≡ meaning form r indirect → HasExtent (extent_of_form form) tail → plain_postbyte form post ≡ post → TailFits tail →
      option_and_then (tail_of next) (indexed_operand (in_brackets indirect (printed_index form r post tail next))) ≡ Some (Some post, tail)

  offset8_back : (b : ℕ) → IndexBack Offset8 (Byte b)
  offset8_back b is extent plain h =
      on_bytes (λ b. option_and_then (tail_of next) (indexed_operand (printed_indexing (meaning Offset8 r indirect) post (Byte b) next))) (λ b. Some (Some post, Byte b))
      (subst (λ (p : Option Indexing). of_form next (by_byte next p post) [] p ≡ of_form next (each_byte next post) [] p) is (offset8_checked next post k)) b h

  pub index_back : (form : Form) (tail : Tail) → IndexBack form tail
  index_back Offset5 Empty is extent plain h = bare_tail _ (bare_is Offset5 is)
  index_back Increment1 Empty is extent plain h = bare_tail _ (bare_is Increment1 is)
  index_back Increment2 Empty is extent plain h = bare_tail _ (bare_is Increment2 is)
  index_back Decrement1 Empty is extent plain h = bare_tail _ (bare_is Decrement1 is)
  index_back Decrement2 Empty is extent plain h = bare_tail _ (bare_is Decrement2 is)
  index_back NoOffset Empty is extent plain h = bare_tail _ (bare_is NoOffset is)
  index_back OffsetA Empty is extent plain h = bare_tail _ (bare_is OffsetA is)
  index_back OffsetB Empty is extent plain h = bare_tail _ (bare_is OffsetB is)
  index_back OffsetD Empty is extent plain h = bare_tail _ (bare_is OffsetD is)
  index_back Offset8 (Byte b) is extent plain h = offset8_back b is extent plain h
  index_back Offset16 (Word w) is extent plain h = offset16_back next post r indirect w k h is
  index_back FromPc8 (Byte b) is extent plain h = pc8_back next post r indirect b k h is plain
  index_back FromPc16 (Word w) is extent plain h = pc16_back next post r indirect w k h is plain
  index_back Absolute (Word w) is extent plain h = absolute_back next post r indirect w k h is
  index_back _ _ is extent plain h = absurd extent
