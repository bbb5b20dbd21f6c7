-- An instruction of a word and an operand is one that decoding can give, and is as long as its shape says.
use Rattle.std.proofs.Common.{◌≡◌, ℕ, ◌+◌, Bool, true, false, Option, Some, None, List, [], ◌∷◌, ◌++◌, length, refl, ap, sym, subst, ◌∙◌, inl, inr, arith, length-append, ℤ}
use Rattle.std.specs.Prelude.{option_map, option_and_then, option_to_list, IsSomeAnd, if◌then◌else◌}
use Rattle.std.specs.Option.{option_map_or}
use Rattle.std.specs.List.{find}
use Rattle.cpu_model.specs.declared.rows.Row.{Row}
use Rattle.cpu_model.specs.declared.rows.Mode.{Mode}
use Rattle.cpu_model.specs.declared.rows.Mode.TheVariants.{Inherent, Immediate8, Immediate16, Direct, Indexed, Extended, Relative8, Relative16, Pair}
use Rattle.cpu_model.specs.declared.indexing.Indexing.{Indexing}
use Rattle.cpu_model.specs.declared.instruction.Page.{Page}
use Rattle.cpu_model.specs.declared.instruction.Tail.{Tail}
use Rattle.cpu_model.specs.declared.instruction.Tail.TheVariants.{Empty, Byte}
use Rattle.cpu_model.specs.Reading.{Extent, none, byte, word, extent_of_form}
use Rattle.cpu_model.specs.Table.{postbyte, plain_postbyte, row}
use Rattle.cpu_table.specs.Spelling.{HasExtent, HasOperand, plain_post, prefix, tail_bytes, spelling, IsPlainInstr}
use Rattle.asm_model.specs.declared.operand.Wanted.{Wanted}
use Rattle.asm_model.specs.declared.operand.Wanted.TheVariants.{Nothing, Fixed, Value}
use Rattle.asm_model.specs.declared.operand.Field.{Field}
use Rattle.asm_model.specs.declared.operand.Field.TheVariants as field
use Rattle.asm_model.specs.declared.operand.Mark.{Mark}
use Rattle.asm_model.specs.Expressions.{Term}
use Rattle.asm_model.specs.Operands.{Operand, filled, mark_of, row_operand}
use Rattle.asm_model.specs.Instructions.{Entry, is_entry, opcode_map, entry_of, Shape, shape_with, shape_of, shape_length, wanted_length, post_length, with_tail}
use Rattle.asm_model.proofs.Entries.{IsIn, on_elements}
use Rattle.asm_model.proofs.EntryOf.{rows_are}
use Rattle.asm_model.proofs.Sound.{MatchesMode, operand_sound}
use Rattle.asm_text.specs.Tails.{tail_by}

abbrev extent_of_field : Field → Extent
extent_of_field field.Byte = byte
extent_of_field field.Direct = byte
extent_of_field field.Offset8 = byte
extent_of_field field.Target8 = byte
extent_of_field field.Word = word
extent_of_field field.Offset16 = word
extent_of_field field.Target16 = word

abbrev extent_of_wanted : Wanted → Extent
extent_of_wanted Nothing = none
extent_of_wanted (Fixed b) = byte
extent_of_wanted (Value f) = extent_of_field f

-- the operand bytes are as many as are wanted
abbrev Suits : Wanted → Tail → Type 0
Suits w tail = HasExtent (extent_of_wanted w) tail × (wanted_length w ≡ length (tail_bytes tail))

if_tail : (P : Tail → Type 0) (b : Bool) (t x : Tail) → (if b then Some t else None) ≡ Some x → P t → P x
if_tail P true t x is h = let same : t ≡ x = cc in subst P same h
if_tail P false t x is h = absurd (cc)

filled_suits : (f : Field) (next : ℕ) (z : ℤ) (tail : Tail) → filled f next z ≡ Some tail → Suits (Value f) tail
filled_suits field.Byte next z tail is = if_tail (Suits (Value field.Byte)) _ _ tail is (tt, refl)
filled_suits field.Direct next z tail is = if_tail (Suits (Value field.Direct)) _ _ tail is (tt, refl)
filled_suits field.Offset8 next z tail is = if_tail (Suits (Value field.Offset8)) _ _ tail is (tt, refl)
filled_suits field.Target8 next z tail is = if_tail (Suits (Value field.Target8)) _ _ tail is (tt, refl)
filled_suits field.Word next z tail is = if_tail (Suits (Value field.Word)) _ _ tail is (tt, refl)
filled_suits field.Offset16 next z tail is = if_tail (Suits (Value field.Offset16)) true _ tail is (tt, refl)
filled_suits field.Target16 next z tail is = if_tail (Suits (Value field.Target16)) true _ tail is (tt, refl)

value_suits : (f : Field) (next : ℕ) (value : Option ℤ) (tail : Tail) → option_and_then (filled f next) value ≡ Some tail → Suits (Value f) tail
value_suits f next None tail is = absurd (cc)
value_suits f next (Some z) tail is = filled_suits f next z tail is

module _ (meaning : Term → Option ℤ) (next : ℕ) where
  tail_suits : (w : Wanted) (text : List ℕ) (tail : Tail) → tail_by meaning w next text ≡ Some tail → Suits w tail
  tail_suits Nothing text tail is = if_tail (Suits Nothing) true Empty tail is (tt, refl)
  tail_suits (Fixed b) text tail is = if_tail (Suits (Fixed b)) true (Byte b) tail is (tt, refl)
  tail_suits (Value f) text tail is = value_suits f next _ tail is

  pair_operand : (w : Wanted) (text : List ℕ) (tail : Tail) → MatchesMode Pair None w → tail_by meaning w next text ≡ Some tail → HasOperand Pair None tail
  pair_operand Nothing text tail m is = absurd m
  pair_operand (Fixed b) text tail m is = let same : Byte b ≡ tail = cc in subst (λ (t : Tail). HasOperand Pair None t) same m
  pair_operand (Value f) text tail m is = absurd m

by_extent : (e f : Extent) (tail : Tail) → e ≡ f → HasExtent f tail → HasExtent e tail
by_extent e f tail same h = subst (λ (x : Extent). HasExtent x tail) (sym same) h

kind_extent : (found : Option Indexing) (post : ℕ) (e : Extent) (tail : Tail) → IsSomeAnd found (λ i. (extent_of_form i.0 ≡ e) × (plain_postbyte i.0 post ≡ post)) → HasExtent e tail →
    IsSomeAnd found (λ i. HasExtent (extent_of_form i.0) tail)
kind_extent None post e tail kind h = absurd kind
kind_extent (Some i) post e tail kind h = by_extent (extent_of_form i.0) e tail kind.0 h

kind_plain : (found : Option Indexing) (post : ℕ) (e : Extent) → IsSomeAnd found (λ i. (extent_of_form i.0 ≡ e) × (plain_postbyte i.0 post ≡ post)) →
    option_map_or (λ i. plain_postbyte i.0 post) found post ≡ post
kind_plain None post e kind = absurd kind
kind_plain (Some i) post e kind = kind.1

module _ (meaning : Term → Option ℤ) (next : ℕ) (w : Wanted) (text : List ℕ) (tail : Tail) (is : tail_by meaning w next text ≡ Some tail) where
  extent : HasExtent (extent_of_wanted w) tail
  extent = (tail_suits meaning next w text tail is).0

  has_operand : (mode : Mode) (post : Option ℕ) → MatchesMode mode post w → HasOperand mode post tail
  has_operand Indexed (Some post) m = kind_extent (postbyte post) post (extent_of_wanted w) tail m extent
  has_operand Indexed None m = absurd m
  has_operand Pair (Some post) m = absurd m
  has_operand Pair None m = pair_operand meaning next w text tail m is
  has_operand Inherent None m = by_extent none (extent_of_wanted w) tail m extent
  has_operand Immediate8 None m = by_extent byte (extent_of_wanted w) tail m extent
  has_operand Immediate16 None m = by_extent word (extent_of_wanted w) tail m extent
  has_operand Direct None m = by_extent byte (extent_of_wanted w) tail m extent
  has_operand Extended None m = by_extent word (extent_of_wanted w) tail m extent
  has_operand Relative8 None m = by_extent byte (extent_of_wanted w) tail m extent
  has_operand Relative16 None m = by_extent word (extent_of_wanted w) tail m extent
  has_operand Inherent (Some post) m = absurd m
  has_operand Immediate8 (Some post) m = absurd m
  has_operand Immediate16 (Some post) m = absurd m
  has_operand Direct (Some post) m = absurd m
  has_operand Extended (Some post) m = absurd m
  has_operand Relative8 (Some post) m = absurd m
  has_operand Relative16 (Some post) m = absurd m

plain_is : (w : Wanted) (mode : Mode) (post : Option ℕ) → MatchesMode mode post w → option_map plain_post post ≡ post
plain_is w mode None m = refl
plain_is w Indexed (Some post) m = ap Some (kind_plain (postbyte post) post (extent_of_wanted w) m)
plain_is w Pair (Some post) m = absurd m
plain_is w Inherent (Some post) m = absurd m
plain_is w Immediate8 (Some post) m = absurd m
plain_is w Immediate16 (Some post) m = absurd m
plain_is w Direct (Some post) m = absurd m
plain_is w Extended (Some post) m = absurd m
plain_is w Relative8 (Some post) m = absurd m
plain_is w Relative16 (Some post) m = absurd m

-- ---- the row of a word

found_step : {A : Type 0} (p : A → Bool) (x y : A) (ys : List A) (b : Bool) → p y ≡ b → (if b then Some y else find p ys) ≡ Some x → (find p ys ≡ Some x → IsIn x ys) → IsIn x (y ∷ ys)
found_step p x y ys true at is others = let same : x ≡ y = cc in inl same
found_step p x y ys false at is others = inr (others is)

found_in : {A : Type 0} (p : A → Bool) (x : A) (xs : List A) → find p xs ≡ Some x → IsIn x xs
found_in p x [] is = absurd (cc)
found_in p x (y ∷ ys) is = found_step p x y ys (p y) refl is (found_in p x ys)

entry_row : (name : List ℕ) (m : Mark) (e : Entry) → entry_of name m ≡ Some e → row e.page e.line.opcode ≡ Some e.line.row
unfolding entry_of
entry_row name m e is = on_elements (λ e. row e.page e.line.opcode) (λ e. Some e.line.row) e opcode_map rows_are (found_in (is_entry name m) e opcode_map is)

-- ---- instructions

module _ (meaning : Term → Option ℤ) (next : ℕ) (tail : Tail) where
  row_is_plain : (page : Page) (opcode : ℕ) (r : Row) (text : List ℕ) (o : Operand) → row page opcode ≡ Some r → row_operand r text ≡ Some o →
      tail_by meaning o.wanted next o.expression ≡ Some tail → IsPlainInstr (record { page = page; opcode = opcode; post = o.post; tail = tail })
  unfolding row_operand
  row_is_plain page opcode r text o is read fills =
      let m = operand_sound o r.0 r.1 text read in
      let has : HasOperand r.1 o.post tail = has_operand meaning next o.wanted o.expression tail fills r.1 o.post m in (
        rw is has,
        ap (λ (p : Option ℕ). record { page = page; opcode = opcode; post = p; tail = tail }) (plain_is o.wanted r.1 o.post m),
      )

  module _ (s : Shape) (fills : tail_by meaning s.operand.wanted next s.operand.expression ≡ Some tail) (text : List ℕ) where
    shaped : (e : Entry) (o : Option Operand) → row e.page e.line.opcode ≡ Some e.line.row → row_operand e.line.row text ≡ o → option_map (shape_with e) o ≡ Some s → IsPlainInstr (with_tail s tail)
    shaped e None is read whole = absurd (cc)
    shaped e (Some o) is read whole =
        let same : shape_with e o ≡ s = cc in
        subst (λ (t : Shape). tail_by meaning t.operand.wanted next t.operand.expression ≡ Some tail → IsPlainInstr (with_tail t tail)) same
        (λ fills. row_is_plain e.page e.line.opcode e.line.row text o is read fills) fills

    entered : (name : List ℕ) (e : Option Entry) → entry_of name (mark_of text) ≡ e → option_and_then (λ e. option_map (shape_with e) (row_operand e.line.row text)) e ≡ Some s →
        IsPlainInstr (with_tail s tail)
    entered name None is whole = absurd (cc)
    entered name (Some e) is whole = shaped e (row_operand e.line.row text) (entry_row name (mark_of text) e is) refl whole

    pub shape_plain : (name : List ℕ) → shape_of name text ≡ Some s → IsPlainInstr (with_tail s tail)
    shape_plain name is = entered name (entry_of name (mark_of text)) refl is

  post_fits : (post : Option ℕ) → post_length post ≡ length (option_to_list post)
  post_fits None = refl
  post_fits (Some post) = refl

  long_list : (front : List ℕ) (c : ℕ) (rest : List ℕ) → length front + 1 + length rest ≡ length (front ++ (c ∷ rest))
  long_list front c rest = omega (arith, length-append front (c ∷ rest))

  pub spelled_long : (s : Shape) → tail_by meaning s.operand.wanted next s.operand.expression ≡ Some tail → length (spelling (with_tail s tail)) ≡ shape_length s
  spelled_long s fills =
      let suits = tail_suits meaning next s.operand.wanted s.operand.expression tail fills in
      let parts : post_length s.operand.post + wanted_length s.operand.wanted ≡ length (option_to_list s.operand.post ++ tail_bytes tail) =
      ap (λ n. post_length s.operand.post + n) suits.1 ∙ ap (λ n. n + length (tail_bytes tail)) (post_fits s.operand.post) ∙ sym (length-append (option_to_list s.operand.post) (tail_bytes tail)) in
      sym (ap (λ n. length (prefix s.page) + 1 + n) parts ∙ long_list (prefix s.page) s.opcode (option_to_list s.operand.post ++ tail_bytes tail))
