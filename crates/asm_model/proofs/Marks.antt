-- Printed operands have the marks of their modes, and no spaces.
use Rattle.std.proofs.Common.{◌≡◌, ℕ, ◌<◌, Bool, true, false, Option, Some, None, List, [], ◌∷◌, ◌++◌, refl, ap, sym, subst}
use Rattle.std.specs.Prelude.{IsSomeAnd, IfSome, codes, if◌then◌else◌}
use Rattle.std.specs.List.{list_any}
use Rattle.cpu_model.specs.declared.rows.Operation.{Operation}
use Rattle.cpu_model.specs.declared.rows.Operation.TheVariants.{Psh, Pul}
use Rattle.cpu_model.specs.declared.rows.Stack.{Stack}
use Rattle.cpu_model.specs.declared.rows.Stack.TheVariants.{System, User}
use Rattle.cpu_model.specs.declared.rows.IndexRegister.{IndexRegister}
use Rattle.cpu_model.specs.declared.rows.IndexRegister.TheVariants.{X, Y, U, S}
use Rattle.cpu_model.specs.declared.rows.Mode.{Mode}
use Rattle.cpu_model.specs.declared.rows.Mode.TheVariants.{Inherent, Immediate8, Immediate16, Direct, Indexed, Extended, Relative8, Relative16, Pair}
use Rattle.cpu_model.specs.declared.indexing.Form.{Form}
use Rattle.cpu_model.specs.declared.indexing.Form.TheVariants.{Offset5, Increment1, Increment2, Decrement1, Decrement2, NoOffset, OffsetB, OffsetA, Offset8, Offset16, OffsetD, FromPc8, FromPc16, Absolute}
use Rattle.cpu_model.specs.declared.indexing.Indexing.{Indexing}
use Rattle.cpu_model.specs.declared.instruction.Tail.{Tail}
use Rattle.cpu_model.specs.declared.instruction.Tail.TheVariants.{Empty, Byte, Word}
use Rattle.cpu_model.specs.Arithmetic.{extended}
use Rattle.cpu_model.specs.Reading.{Extent, none, extent_of_form}
use Rattle.cpu_model.specs.Table.{postbyte, form_lines}
use Rattle.cpu_table.specs.Spelling.{HasExtent, HasOperand}
use Rattle.asm_model.specs.Numbers.{four_digits}
use Rattle.asm_model.specs.Mnemonics.{index_register_word}
use Rattle.asm_model.specs.Print.{byte_number, word_number, signed_number, printed_immediate, printed_mask, printed_pair, printed_operand, printed_indexing, printed_index, in_brackets, target}
use Rattle.asm_model.specs.declared.operand.Mark.{Mark}
use Rattle.asm_model.specs.declared.operand.Mark.TheVariants as mark
use Rattle.asm_model.specs.Operands.{mark_of, mode_fits, operation_fits}
use Rattle.asm_model.proofs.Finite.{on_below, on_bytes}
use Rattle.asm_model.proofs.WordNumbers.{word_comma, word_shown}
use Rattle.asm_model.proofs.Commas.{any_comma}
use Rattle.asm_model.specs.Laws.{TailFits}
use Rattle.asm_model.proofs.Indexes.{meaning, target_fits, absolute_is}
use Rattle.asm_model.proofs.Spaces.{is_blank, free_append}
use Rattle.asm_model.proofs.ReadBack.{row_of}

-- what a text is read by: a mark that the row may have, and characters that are shown, no space among them
pub record Text (operation : Operation) (mode : Mode) (text : List ℕ) : Type 0 where
  pub fits_row : operation_fits operation mode (mark_of text) ≡ true
  pub free : list_any is_blank text ≡ false

by_mode : (operation : Operation) (mode : Mode) (m : Mark) → mode_fits mode m ≡ true → operation_fits operation mode m ≡ true
by_mode (Psh stack) mode m is = refl
by_mode (Pul stack) mode m is = refl
by_mode _ mode m is = is

-- ---- one byte

mask_free : (stack : Stack) (b : ℕ) → b < 256 → list_any is_blank (printed_mask stack b) ≡ false
mask_free System b h = on_bytes (λ b. list_any is_blank (printed_mask System b)) (λ b. false) refl b h
mask_free User b h = on_bytes (λ b. list_any is_blank (printed_mask User b)) (λ b. false) refl b h

byte_free : (b : ℕ) → b < 256 → list_any is_blank (byte_number b) ≡ false
byte_free = on_bytes (λ b. list_any is_blank (byte_number b)) (λ b. false) refl

immediate_text : (operation : Operation) (b : ℕ) → b < 256 → Text operation Immediate8 (printed_immediate operation b)
immediate_text (Psh stack) b h = record { fits_row = refl; free = mask_free stack b h }
immediate_text (Pul stack) b h = record { fits_row = refl; free = mask_free stack b h }
immediate_text _ b h = record { fits_row = refl; free = byte_free b h }

direct_mark : (b : ℕ) → b < 256 → mark_of (60 ∷ byte_number b) ≡ mark.Direct
direct_mark = on_bytes (λ b. mark_of (60 ∷ byte_number b)) (λ b. mark.Direct) refl

pair_free : (b : ℕ) → b < 256 → list_any is_blank (printed_pair b) ≡ false
pair_free = on_bytes (λ b. list_any is_blank (printed_pair b)) (λ b. false) refl

-- ---- words

address_mark : (w : ℕ) → w < 65536 → mark_of (62 ∷ word_number w) ≡ mark.Address
address_mark w h = ap (λ b. if b then mark.Indexed else mark.Address) (word_comma w h)

-- ---- indexed operands

module _ (next : ℕ) where
  abbrev if_plain : {A : Type 0} → A → Extent → A → A
  if_plain other none read = read
  if_plain other _ read = other

  abbrev plainly : {A : Type 0} → A → Option Indexing → A → A
  plainly other None read = other
  plainly other (Some i) read = if_plain other (extent_of_form i.0) read

  plain_mark : (post : ℕ) → post < 256 → plainly mark.Indexed (postbyte post) (mark_of (printed_indexing (postbyte post) post Empty next)) ≡ plainly mark.Indexed (postbyte post) mark.Indexed
  unfolding postbyte form_lines
  plain_mark = on_below 256 (λ post. plainly mark.Indexed (postbyte post) (mark_of (printed_indexing (postbyte post) post Empty next))) (λ post. plainly mark.Indexed (postbyte post) mark.Indexed) refl

  plain_free : (post : ℕ) → post < 256 → plainly false (postbyte post) (list_any is_blank (printed_indexing (postbyte post) post Empty next)) ≡ plainly false (postbyte post) false
  unfolding postbyte form_lines
  plain_free = on_below 256 (λ post. plainly false (postbyte post) (list_any is_blank (printed_indexing (postbyte post) post Empty next))) (λ post. plainly false (postbyte post) false) refl

-- texts with a comma behind these characters
narrow_mark : (indirect : Bool) (e rest : List ℕ) → mark_of (in_brackets indirect (60 ∷ e ++ (44 ∷ rest))) ≡ mark.Indexed
narrow_mark true e rest = refl
narrow_mark false e rest = ap (λ b. if b then mark.Indexed else mark.Direct) (any_comma e rest)

wide_mark : (indirect : Bool) (e rest : List ℕ) → mark_of (in_brackets indirect (62 ∷ e ++ (44 ∷ rest))) ≡ mark.Indexed
wide_mark true e rest = refl
wide_mark false e rest = ap (λ b. if b then mark.Indexed else mark.Address) (any_comma e rest)

number_mark : (indirect : Bool) (e rest : List ℕ) → mark_of (in_brackets indirect (36 ∷ e ++ (44 ∷ rest))) ≡ mark.Indexed
number_mark true e rest = refl
number_mark false e rest = ap (λ b. if b then mark.Indexed else mark.Address) (any_comma e rest)

brackets_free : (indirect : Bool) (text : List ℕ) → list_any is_blank text ≡ false → list_any is_blank (in_brackets indirect text) ≡ false
brackets_free true text free = free_append text (93 ∷ []) free refl
brackets_free false text free = free

register_free : (r : IndexRegister) → list_any is_blank (44 ∷ index_register_word r) ≡ false
register_free X = refl
register_free Y = refl
register_free U = refl
register_free S = refl

signed_free : (b : ℕ) → b < 256 → list_any is_blank (signed_number b) ≡ false
signed_free = on_bytes (λ b. list_any is_blank (signed_number b)) (λ b. false) refl

module _ (next post : ℕ) (r : IndexRegister) (indirect : Bool) (k : post < 256) where
  abbrev text_of : Form → Tail → List ℕ
  text_of form tail = in_brackets indirect (printed_index form r post tail next)

  pub record IndexText (form : Form) (tail : Tail) : Type 0 where
    pub its_mark : mark_of (text_of form tail) ≡ mark.Indexed
    pub free : list_any is_blank (text_of form tail) ≡ false

  abbrev Plainly : Form → Type 0
  Plainly form = (plainly next mark.Indexed (meaning form r indirect) (mark_of (text_of form Empty)) ≡ plainly next mark.Indexed (meaning form r indirect) mark.Indexed)
      × (plainly next false (meaning form r indirect) (list_any is_blank (text_of form Empty)) ≡ plainly next false (meaning form r indirect) false)

  plain_text : (form : Form) → postbyte post ≡ meaning form r indirect → Plainly form
  plain_text form is = (
    subst (λ (p : Option Indexing). plainly next mark.Indexed p (mark_of (printed_indexing p post Empty next)) ≡ plainly next mark.Indexed p mark.Indexed) is (plain_mark next post k),
    subst (λ (p : Option Indexing). plainly next false p (list_any is_blank (printed_indexing p post Empty next)) ≡ plainly next false p false) is (plain_free next post k),
  )

  pub index_text : (form : Form) (tail : Tail) → postbyte post ≡ meaning form r indirect → HasExtent (extent_of_form form) tail → TailFits tail → IndexText form tail
  index_text Offset5 Empty is extent h = let both = plain_text Offset5 is in record { its_mark = both.0; free = both.1 }
  index_text Increment1 Empty is extent h = let both = plain_text Increment1 is in record { its_mark = both.0; free = both.1 }
  index_text Increment2 Empty is extent h = let both = plain_text Increment2 is in record { its_mark = both.0; free = both.1 }
  index_text Decrement1 Empty is extent h = let both = plain_text Decrement1 is in record { its_mark = both.0; free = both.1 }
  index_text Decrement2 Empty is extent h = let both = plain_text Decrement2 is in record { its_mark = both.0; free = both.1 }
  index_text NoOffset Empty is extent h = let both = plain_text NoOffset is in record { its_mark = both.0; free = both.1 }
  index_text OffsetA Empty is extent h = let both = plain_text OffsetA is in record { its_mark = both.0; free = both.1 }
  index_text OffsetB Empty is extent h = let both = plain_text OffsetB is in record { its_mark = both.0; free = both.1 }
  index_text OffsetD Empty is extent h = let both = plain_text OffsetD is in record { its_mark = both.0; free = both.1 }
  index_text Offset8 (Byte b) is extent h = record {
    its_mark = narrow_mark indirect (signed_number b) (index_register_word r);
    free = brackets_free indirect _ (free_append (60 ∷ signed_number b) (44 ∷ index_register_word r) (signed_free b h) (register_free r));
  }
  index_text Offset16 (Word w) is extent h = record {
    its_mark = wide_mark indirect (word_number w) (index_register_word r);
    free = brackets_free indirect _ (free_append (62 ∷ word_number w) (44 ∷ index_register_word r) (word_shown w h) (register_free r));
  }
  index_text FromPc8 (Byte b) is extent h = record {
    its_mark = narrow_mark indirect (word_number (target next (extended b))) (codes "PCR");
    free = brackets_free indirect _ (free_append (60 ∷ word_number (target next (extended b))) (codes ",PCR") (word_shown (target next (extended b)) (target_fits next (extended b))) refl);
  }
  index_text FromPc16 (Word w) is extent h = record {
    its_mark = number_mark indirect (four_digits (target next w)) (codes "PCR");
    free = brackets_free indirect _ (free_append (word_number (target next w)) (codes ",PCR") (word_shown (target next w) (target_fits next w)) refl);
  }
  index_text Absolute (Word w) is extent h =
      let pointer : indirect ≡ true = ap (λ p. p.1) (absolute_is post r indirect k is) in
      let P : Bool → Type 0 = λ b. mark_of (in_brackets b (word_number w)) ≡ mark.Indexed in
      record {
        its_mark = subst P (sym pointer) refl;
        free = brackets_free indirect (word_number w) (word_shown w h);
      }
  index_text _ _ is extent h = absurd extent

indexed_text : (next post : ℕ) (tail : Tail) (operation : Operation) (found : Option Indexing) → postbyte post ≡ found
    → IsSomeAnd found (λ i. HasExtent (extent_of_form i.0) tail) → post < 256 → TailFits tail →
    Text operation Indexed (printed_indexing found post tail next)
indexed_text next post tail operation None is extent k h = absurd extent
indexed_text next post tail operation (Some i) is extent k h =
    let its = index_text next post i.1 i.2 k i.0 tail is extent h in
    record { fits_row = by_mode operation Indexed _ (ap (mode_fits Indexed) its.its_mark); free = its.free }

-- ---- all operands

module _ (next : ℕ) (operation : Operation) where
  pub operand_text_is : (mode : Mode) (post : Option ℕ) (tail : Tail) → HasOperand mode post tail → IfSome post (λ p. p < 256) → TailFits tail →
      Text operation mode (printed_operand (row_of operation mode) post tail next)
  operand_text_is Indexed (Some post) tail has k h = indexed_text next post tail operation (postbyte post) refl has k h
  operand_text_is Pair None (Byte b) has k h = record { fits_row = by_mode operation Pair _ refl; free = pair_free b h }
  operand_text_is Inherent None Empty has k h = record { fits_row = by_mode operation Inherent _ refl; free = refl }
  operand_text_is Immediate8 None (Byte b) has k h = immediate_text operation b h
  operand_text_is Immediate16 None (Word w) has k h = record { fits_row = by_mode operation Immediate16 mark.Immediate refl; free = word_shown w h }
  operand_text_is Direct None (Byte b) has k h = record { fits_row = by_mode operation Direct _ (ap (mode_fits Direct) (direct_mark b h)); free = byte_free b h }
  operand_text_is Extended None (Word w) has k h = record { fits_row = by_mode operation Extended _ (ap (mode_fits Extended) (address_mark w h)); free = word_shown w h }
  operand_text_is Relative8 None (Byte b) has k h = record { fits_row = by_mode operation Relative8 _ refl; free = word_shown (target next (extended b)) (target_fits next (extended b)) }
  operand_text_is Relative16 None (Word w) has k h = record { fits_row = by_mode operation Relative16 _ refl; free = word_shown (target next w) (target_fits next w) }
  operand_text_is Indexed None tail has k h = absurd has
  operand_text_is _ _ _ has k h = absurd has
