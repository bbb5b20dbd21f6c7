-- What is read of an instruction's text is documented.
use Rattle.std.proofs.Common.{◌≡◌, ℕ, ◌+◌, ◌*◌, ◌<◌, ◌==◌, Bool, true, false, Option, Some, None, List, [], ◌∷◌, refl, ap, sym, subst, ◌∙◌, arith, ℤ, pos, negsuc}
use Rattle.std.specs.Prelude.{codes, nat_lt, option_map, option_and_then, is_some, IsSomeAnd, if◌then◌else◌}
use Rattle.std.proofs.lemmas.Bool.{and_parts, ltb-true}
use Rattle.std.specs.List.{find, range_with_len, list_any, slice_split}
use Rattle.asm_model.specs.Characters.{is_hash, is_comma, is_less, same_word}
use Rattle.cpu_model.specs.declared.rows.Operation.{Operation}
use Rattle.cpu_model.specs.declared.rows.Operation.TheVariants.{Psh, Pul}
use Rattle.cpu_model.specs.declared.rows.Stack.{Stack}
use Rattle.cpu_model.specs.declared.rows.Mode.{Mode}
use Rattle.cpu_model.specs.declared.rows.Mode.TheVariants.{Inherent, Immediate8, Immediate16, Direct, Indexed, Extended, Relative8, Relative16, Pair}
use Rattle.cpu_model.specs.declared.indexing.Indexing.{Indexing}
use Rattle.cpu_model.specs.declared.instruction.Tail.{Tail}
use Rattle.cpu_model.specs.declared.instruction.Tail.TheVariants.{Empty, Byte}
use Rattle.cpu_model.specs.Reading.{Extent, none, byte, word, extent_of_form, extent_of_mode}
use Rattle.cpu_model.specs.declared.indexing.Form.{Form}
use Rattle.cpu_model.specs.declared.indexing.Form.TheVariants.{Offset5, Offset8, Offset16, FromPc8, FromPc16}
use Rattle.cpu_model.specs.Table.{postbyte, form_lines, is_pair, plain_postbyte, row}
use Rattle.std.specs.Option.{option_map_or}
use Rattle.cpu_model.specs.declared.rows.Row.{Row}
use Rattle.cpu_model.specs.declared.instruction.Page.{Page}
use Rattle.cpu_table.specs.Spelling.{HasExtent, HasOperand, plain_post, IsPlainInstr}
use Rattle.asm_model.specs.declared.operand.Wanted.{Wanted}
use Rattle.asm_model.specs.declared.operand.Wanted.TheVariants.{Nothing, Fixed, Value}
use Rattle.asm_model.specs.declared.operand.Field.{Field}
use Rattle.asm_model.specs.declared.operand.Field.TheVariants as field
use Rattle.asm_model.specs.declared.operand.Size.{Size}
use Rattle.asm_model.specs.declared.operand.Size.TheVariants.{Five, Eight, Sixteen}
use Rattle.asm_model.specs.declared.operand.Width.{Width}
use Rattle.asm_model.specs.declared.operand.Width.TheVariants.{Narrow, Wide, Unmarked}
use Rattle.asm_model.specs.Expressions.{terms, lone_value}
use Rattle.asm_model.specs.Operands.{Operand, operand, valued, filled, modulo, is_bare, is_bare_extent, bare_post, bare_or, after_mark, indirect_bit, index_number, size_of_value, sized_offset, Offset, marked, offset_operand, target_operand, offset_from, offset_among, inside, before_bracket, numbered, indexed_operand, mode_operand, row_operand, immediate8, mask_operand, register_mask, address_operand, pair_among, register_code, if_pair}
use Rattle.asm_model.specs.Instructions.{wanted_tail}
use Rattle.asm_model.proofs.Finite.{on_below}

abbrev extent_of_field : Field → Extent
extent_of_field field.Byte = byte
extent_of_field field.Direct = byte
extent_of_field field.Offset8 = byte
extent_of_field field.Target8 = byte
extent_of_field field.Word = word
extent_of_field field.Offset16 = word
extent_of_field field.Target16 = word

abbrev extent_of_wanted : Wanted → Extent
extent_of_wanted Nothing = none
extent_of_wanted (Fixed b) = byte
extent_of_wanted (Value f) = extent_of_field f

if_some : {A : Type 0} (P : A → Type 0) (b : Bool) (t x : A) → (if b then Some t else None) ≡ Some x → P t → P x
if_some P true t x is h = let same : t ≡ x = cc in subst P same h
if_some P false t x is h = absurd (cc)

filled_extent : (f : Field) (next : ℕ) (z : ℤ) (tail : Tail) → filled f next z ≡ Some tail → HasExtent (extent_of_field f) tail
filled_extent field.Byte next z tail is = if_some (HasExtent byte) _ _ tail is tt
filled_extent field.Direct next z tail is = if_some (HasExtent byte) _ _ tail is tt
filled_extent field.Offset8 next z tail is = if_some (HasExtent byte) _ _ tail is tt
filled_extent field.Target8 next z tail is = if_some (HasExtent byte) _ _ tail is tt
filled_extent field.Word next z tail is = if_some (HasExtent word) _ _ tail is tt
filled_extent field.Offset16 next z tail is = if_some (HasExtent word) true _ tail is tt
filled_extent field.Target16 next z tail is = if_some (HasExtent word) true _ tail is tt

value_extent : (f : Field) (next : ℕ) (value : Option ℤ) (tail : Tail) → option_and_then (filled f next) value ≡ Some tail → HasExtent (extent_of_field f) tail
value_extent f next None tail is = absurd (cc)
value_extent f next (Some z) tail is = filled_extent f next z tail is

pub tail_extent : (w : Wanted) (next : ℕ) (text : List ℕ) (tail : Tail) → wanted_tail w next text ≡ Some tail → HasExtent (extent_of_wanted w) tail
tail_extent Nothing next text tail is = if_some (HasExtent none) true Empty tail is tt
tail_extent (Fixed b) next text tail is = if_some (HasExtent byte) true (Byte b) tail is tt
tail_extent (Value f) next text tail is = value_extent f next _ tail is

-- ---- the operand of each mode

-- the postbyte and what stands behind it are those of the mode
abbrev pub MatchesMode : Mode → Option ℕ → Wanted → Type 0
MatchesMode Indexed (Some post) w = IsSomeAnd (postbyte post) (λ i. (extent_of_form i.0 ≡ extent_of_wanted w) × (plain_postbyte i.0 post ≡ post))
MatchesMode Indexed None w = ⊥
MatchesMode Pair None (Fixed b) = is_pair b ≡ true
MatchesMode Pair _ _ = ⊥
MatchesMode mode None w = extent_of_mode mode ≡ extent_of_wanted w
MatchesMode _ (Some post) w = ⊥

abbrev OperandMatches : Mode → Operand → Type 0
OperandMatches mode o = MatchesMode mode o.post o.wanted

module _ (mode : Mode) (o : Operand) where
  valued_matches : (post : Option ℕ) (f : Field) (text : List ℕ) → MatchesMode mode post (Value f) → valued post f text ≡ Some o → OperandMatches mode o
  valued_matches post f text h is = if_some (OperandMatches mode) (is_some (terms text)) (operand post (Value f) text) o is h

  some_matches : (found : Operand) → OperandMatches mode found → Some found ≡ Some o → OperandMatches mode o
  some_matches found h is = if_some (OperandMatches mode) true found o is h

  mark_matches : (is_mark : ℕ → Bool) (f : Field) (text : List ℕ) → MatchesMode mode None (Value f) → after_mark is_mark (valued None f) text ≡ Some o → OperandMatches mode o
  mark_matches is_mark f [] h is = absurd (cc)
  mark_matches is_mark f (d ∷ text) h is = chosen (is_mark d) is
    where
      chosen : (b : Bool) → (if b then valued None f text else None) ≡ Some o → OperandMatches mode o
      chosen true is = valued_matches None f text h is
      chosen false is = absurd (cc)

-- ---- indexed operands

find_step : (p : ℕ → Bool) (y x : ℕ) (rest : Option ℕ) (b : Bool) → p y ≡ b → (rest ≡ Some x → p x ≡ true) → (if b then Some y else rest) ≡ Some x → p x ≡ true
find_step p y x rest true at others is = let same : y ≡ x = cc in subst (λ (z : ℕ). p z ≡ true) same at
find_step p y x rest false at others is = others is

find_passes : (p : ℕ → Bool) (xs : List ℕ) (x : ℕ) → find p xs ≡ Some x → p x ≡ true
find_passes p [] x is = absurd (cc)
find_passes p (y ∷ ys) x is = find_step p y x (find p ys) (p y) refl (find_passes p ys x) is

bare_extent : (e : Extent) → is_bare_extent e ≡ true → e ≡ none
bare_extent none is = refl
bare_extent byte is = absurd (cc)
bare_extent word is = absurd (cc)

bare_plain : (form : Form) (post : ℕ) → extent_of_form form ≡ none → plain_postbyte form post ≡ post
bare_plain FromPc8 post is = absurd (cc)
bare_plain FromPc16 post is = absurd (cc)
bare_plain _ post is = refl

bare_found : (text : List ℕ) (post : ℕ) (found : Option Indexing) → is_bare text found ≡ true → IsSomeAnd found (λ i. (extent_of_form i.0 ≡ none) × (plain_postbyte i.0 post ≡ post))
bare_found text post None is = absurd (cc)
bare_found text post (Some i) is =
    let both = and_parts (is_bare_extent (extent_of_form i.0)) _ is in
    let extent : extent_of_form i.0 ≡ none = bare_extent (extent_of_form i.0) both.0 in
    (extent, bare_plain i.0 post extent)

-- ---- the postbytes of offsets

abbrev form_of : Option Indexing → Option Form
form_of = option_map (λ i. i.0)

abbrev Kind : ℕ → Extent → Type 0
Kind post e = IsSomeAnd (postbyte post) (λ i. (extent_of_form i.0 ≡ e) × (plain_postbyte i.0 post ≡ post))

by_form : (post : ℕ) (form : Form) (found : Option Indexing) → form_of found ≡ Some form → plain_postbyte form post ≡ post →
    IsSomeAnd found (λ i. (extent_of_form i.0 ≡ extent_of_form form) × (plain_postbyte i.0 post ≡ post))
by_form post form None is plain = absurd (cc)
by_form post form (Some i) is plain =
    let same : i.0 ≡ form = cc in
    (ap extent_of_form same, ap (λ f. plain_postbyte f post) same ∙ plain)

offset8_form : (indirect : Bool) (r : ℕ) → r < 4 → form_of (postbyte (136 + 32 * r + indirect_bit indirect)) ≡ Some Offset8
unfolding postbyte form_lines
offset8_form true = on_below 4 (λ r. form_of (postbyte (136 + 32 * r + 16))) (λ r. Some Offset8) refl
offset8_form false = on_below 4 (λ r. form_of (postbyte (136 + 32 * r + 0))) (λ r. Some Offset8) refl

offset16_form : (indirect : Bool) (r : ℕ) → r < 4 → form_of (postbyte (137 + 32 * r + indirect_bit indirect)) ≡ Some Offset16
unfolding postbyte form_lines
offset16_form true = on_below 4 (λ r. form_of (postbyte (137 + 32 * r + 16))) (λ r. Some Offset16) refl
offset16_form false = on_below 4 (λ r. form_of (postbyte (137 + 32 * r + 0))) (λ r. Some Offset16) refl

five_form : (post : ℕ) → post < 128 → form_of (postbyte post) ≡ Some Offset5
unfolding postbyte form_lines
five_form = on_below 128 (λ post. form_of (postbyte post)) (λ post. Some Offset5) refl

pc8_kind : (indirect : Bool) → Kind (140 + indirect_bit indirect) byte
unfolding postbyte form_lines
pc8_kind true = (refl, refl)
pc8_kind false = (refl, refl)

pc16_kind : (indirect : Bool) → Kind (141 + indirect_bit indirect) word
unfolding postbyte form_lines
pc16_kind true = (refl, refl)
pc16_kind false = (refl, refl)

absolute_kind : Kind 159 word
unfolding postbyte form_lines
absolute_kind = (refl, refl)

below_four : (n r : ℕ) (b : Bool) → nat_lt n 4 ≡ b → (if b then Some n else None) ≡ Some r → r < 4
below_four n r true is found = let same : n ≡ r = cc in let less : n < 4 = ltb-true n 4 is in omega arith
below_four n r false is found = absurd (cc)

index_below : (name : List ℕ) (r : ℕ) → index_number name ≡ Some r → r < 4
index_below name r is = below_four _ r _ refl is

modulo_below : (z : ℤ) → modulo 32 z < 32
modulo_below (pos n) = omega arith
modulo_below (negsuc n) = omega arith

module _ (o : Operand) where
  abbrev Is : Option Operand → Type 0
  Is read = read ≡ Some o → OperandMatches Indexed o

  sized_sound : (size : Size) (indirect : Bool) (r : ℕ) (text : List ℕ) → r < 4 → Is (sized_offset size indirect r text)
  sized_sound (Five z) indirect r text h =
      let small : 32 * r + modulo 32 z < 128 = omega (arith, modulo_below z) in
      some_matches Indexed o (operand (Some (32 * r + modulo 32 z)) Nothing []) (by_form _ Offset5 _ (five_form _ small) refl)
  sized_sound Eight indirect r text h = valued_matches Indexed o _ field.Offset8 text (by_form _ Offset8 _ (offset8_form indirect r h) refl)
  sized_sound Sixteen indirect r text h = valued_matches Indexed o _ field.Offset16 text (by_form _ Offset16 _ (offset16_form indirect r h) refl)

  offset_sound : (w : Width) (indirect : Bool) (r : ℕ) (text : List ℕ) → r < 4 → Is (offset_operand w indirect r text)
  offset_sound Narrow indirect r text h = sized_sound Eight indirect r text h
  offset_sound Wide indirect r text h = sized_sound Sixteen indirect r text h
  offset_sound Unmarked indirect r text h = sized_sound (size_of_value indirect (option_and_then lone_value (terms text))) indirect r text h

  target_sound : (w : Width) (indirect : Bool) (text : List ℕ) → Is (target_operand w indirect text)
  target_sound Narrow indirect text = valued_matches Indexed o _ field.Target8 text (pc8_kind indirect)
  target_sound Wide indirect text = valued_matches Indexed o _ field.Target16 text (pc16_kind indirect)
  target_sound Unmarked indirect text = valued_matches Indexed o _ field.Target16 text (pc16_kind indirect)

  base_sound : (indirect : Bool) (offset : Offset) (name : List ℕ) (found : Option ℕ) → index_number name ≡ found
      → Is (option_and_then (λ r. offset_operand offset.width indirect r offset.expression) found)
  base_sound indirect offset name None at is = absurd (cc)
  base_sound indirect offset name (Some r) at is = offset_sound offset.width indirect r offset.expression (index_below name r at) is

  choice_sound : (b : Bool) (x y : Option Operand) → Is x → Is y → Is (if b then x else y)
  choice_sound true x y hx hy = hx
  choice_sound false x y hx hy = hy

  from_sound : (indirect : Bool) (offset : Offset) (base : List ℕ) → Is (offset_from indirect offset base)
  from_sound indirect offset base =
      choice_sound (same_word (codes "PCR") base) (target_operand offset.width indirect offset.expression)
      (option_and_then (λ r. offset_operand offset.width indirect r offset.expression) (index_number base))
      (target_sound offset.width indirect offset.expression) (base_sound indirect offset base (index_number base) refl)

  among_sound : (indirect : Bool) (parts : List (List ℕ)) → Is (offset_among indirect parts)
  among_sound indirect [] is = absurd (cc)
  among_sound indirect (offset ∷ []) is = absurd (cc)
  among_sound indirect (offset ∷ base ∷ []) is = from_sound indirect (marked offset) base is
  among_sound indirect (offset ∷ base ∷ more ∷ rest) is = absurd (cc)

  inside_sound : (text : List ℕ) → Is (inside text)
  inside_sound text =
      choice_sound (list_any is_comma text) (offset_among true (slice_split is_comma text)) (valued (Some 159) field.Word text)
      (among_sound true (slice_split is_comma text)) (valued_matches Indexed o (Some 159) field.Word text absolute_kind)

  brackets_sound : (inner : Option (List ℕ)) → Is (option_and_then inside inner)
  brackets_sound None is = absurd (cc)
  brackets_sound (Some text) is = inside_sound text is

  numbered_sound : (text : List ℕ) → Is (numbered text)
  numbered_sound [] is = absurd (cc)
  numbered_sound (c ∷ text) is =
      choice_sound (c == 91) (option_and_then inside (before_bracket text)) (offset_among false (slice_split is_comma (c ∷ text)))
      (brackets_sound (before_bracket text)) (among_sound false (slice_split is_comma (c ∷ text))) is

  bare_sound : (text : List ℕ) (found : Option ℕ) → bare_post text ≡ found → Is (bare_or found text)
  bare_sound text None at = numbered_sound text
  bare_sound text (Some post) at =
      some_matches Indexed o (operand (Some post) Nothing [])
      (bare_found text post (postbyte post) (find_passes (λ post. is_bare text (postbyte post)) (range_with_len 128 128) post at))

  pub indexed_sound : (text : List ℕ) → Is (indexed_operand text)
  indexed_sound text = bare_sound text (bare_post text) refl

module _ (o : Operand) where
  fixed_sound : (mode : Mode) (found : Option ℕ) → ((b : ℕ) → found ≡ Some b → MatchesMode mode None (Fixed b)) → option_map (λ b. operand None (Fixed b) []) found ≡ Some o → OperandMatches mode o
  fixed_sound mode None h is = absurd (cc)
  fixed_sound mode (Some b) h is = some_matches mode o (operand None (Fixed b) []) (h b refl) is

  mask_or : (stack : Stack) (c : ℕ) (text : List ℕ) (b : Bool)
      → (if b then valued None field.Byte text else option_map (λ mask. operand None (Fixed mask) [])
      (register_mask stack (c ∷ text))) ≡ Some o → OperandMatches Immediate8 o
  mask_or stack c text true is = valued_matches Immediate8 o None field.Byte text refl is
  mask_or stack c text false is = fixed_sound Immediate8 (register_mask stack (c ∷ text)) (λ b found. refl) is

  mask_sound : (stack : Stack) (text : List ℕ) → mask_operand stack text ≡ Some o → OperandMatches Immediate8 o
  mask_sound stack [] is = absurd (cc)
  mask_sound stack (c ∷ text) is = mask_or stack c text (c == 35) is

  address_or : (c : ℕ) (text : List ℕ) (b : Bool) → (if b then valued None field.Word text else valued None field.Word (c ∷ text)) ≡ Some o → OperandMatches Extended o
  address_or c text true is = valued_matches Extended o None field.Word text refl is
  address_or c text false is = valued_matches Extended o None field.Word (c ∷ text) refl is

  address_sound : (text : List ℕ) → address_operand text ≡ Some o → OperandMatches Extended o
  address_sound [] is = absurd (cc)
  address_sound (c ∷ text) is = address_or c text (c == 62) is

  pair_is : (pair b : ℕ) (t : Bool) → is_pair pair ≡ t → (if t then Some pair else None) ≡ Some b → is_pair b ≡ true
  pair_is pair b true at is = let same : pair ≡ b = cc in subst (λ (p : ℕ). is_pair p ≡ true) same at
  pair_is pair b false at is = absurd (cc)

  low_is : (high b : ℕ) (low : Option ℕ) → option_and_then (λ l. if_pair (16 * high + l)) low ≡ Some b → is_pair b ≡ true
  low_is high b None is = absurd (cc)
  low_is high b (Some low) is = pair_is (16 * high + low) b _ refl is

  high_is : (destination : List ℕ) (b : ℕ) (high : Option ℕ) → option_and_then (λ h. option_and_then (λ l. if_pair (16 * h + l)) (register_code destination)) high ≡ Some b → is_pair b ≡ true
  high_is destination b None is = absurd (cc)
  high_is destination b (Some high) is = low_is high b (register_code destination) is

  among_is : (parts : List (List ℕ)) (b : ℕ) → pair_among parts ≡ Some b → is_pair b ≡ true
  among_is [] b is = absurd (cc)
  among_is (source ∷ []) b is = absurd (cc)
  among_is (source ∷ destination ∷ []) b is = high_is destination b (register_code source) is
  among_is (source ∷ destination ∷ more ∷ rest) b is = absurd (cc)

  pair_sound : (parts : List (List ℕ)) → option_map (λ pair. operand None (Fixed pair) []) (pair_among parts) ≡ Some o → OperandMatches Pair o
  pair_sound parts is = fixed_sound Pair (pair_among parts) (λ b found. among_is parts b found) is

-- ---- all modes

module _ (o : Operand) where
  immediate_sound : (operation : Operation) (text : List ℕ) → immediate8 operation text ≡ Some o → OperandMatches Immediate8 o
  immediate_sound (Psh stack) text is = mask_sound o stack text is
  immediate_sound (Pul stack) text is = mask_sound o stack text is
  immediate_sound _ text is = mark_matches Immediate8 o is_hash field.Byte text refl is

  pub operand_sound : (operation : Operation) (mode : Mode) (text : List ℕ) → mode_operand operation mode text ≡ Some o → OperandMatches mode o
  operand_sound operation Inherent text is = some_matches Inherent o (operand None Nothing []) refl is
  operand_sound operation Immediate8 text is = immediate_sound operation text is
  operand_sound operation Immediate16 text is = mark_matches Immediate16 o is_hash field.Word text refl is
  operand_sound operation Direct text is = mark_matches Direct o is_less field.Direct text refl is
  operand_sound operation Indexed text is = indexed_sound o text is
  operand_sound operation Extended text is = address_sound o text is
  operand_sound operation Relative8 text is = valued_matches Relative8 o None field.Target8 text refl is
  operand_sound operation Relative16 text is = valued_matches Relative16 o None field.Target16 text refl is
  operand_sound operation Pair text is = pair_sound o (slice_split is_comma text) is

-- ---- instructions

by_extent : (e f : Extent) (tail : Tail) → e ≡ f → HasExtent f tail → HasExtent e tail
by_extent e f tail same h = subst (λ (x : Extent). HasExtent x tail) (sym same) h

kind_extent : (found : Option Indexing) (post : ℕ) (e : Extent) (tail : Tail)
    → IsSomeAnd found (λ i. (extent_of_form i.0 ≡ e) × (plain_postbyte i.0 post ≡ post)) → HasExtent e tail
    → IsSomeAnd found (λ i. HasExtent (extent_of_form i.0) tail)
kind_extent None post e tail kind h = absurd kind
kind_extent (Some i) post e tail kind h = by_extent (extent_of_form i.0) e tail kind.0 h

kind_plain : (found : Option Indexing) (post : ℕ) (e : Extent) → IsSomeAnd found (λ i. (extent_of_form i.0 ≡ e) ×
    (plain_postbyte i.0 post ≡ post)) → option_map_or (λ i. plain_postbyte i.0 post) found post ≡ post
kind_plain None post e kind = absurd kind
kind_plain (Some i) post e kind = kind.1

pair_operand_with : (w : Wanted) (next : ℕ) (text : List ℕ) (tail : Tail) → MatchesMode Pair None w → wanted_tail w next text ≡ Some tail → HasOperand Pair None tail
pair_operand_with Nothing next text tail m is = absurd m
pair_operand_with (Fixed b) next text tail m is = let same : Byte b ≡ tail = cc in subst (λ (t : Tail). HasOperand Pair None t) same m
pair_operand_with (Value f) next text tail m is = absurd m

module _ (w : Wanted) (next : ℕ) (text : List ℕ) (tail : Tail) (is : wanted_tail w next text ≡ Some tail) where
  extent : HasExtent (extent_of_wanted w) tail
  extent = tail_extent w next text tail is

  has_operand : (mode : Mode) (post : Option ℕ) → MatchesMode mode post w → HasOperand mode post tail
  has_operand Indexed (Some post) m = kind_extent (postbyte post) post (extent_of_wanted w) tail m extent
  has_operand Indexed None m = absurd m
  has_operand Pair (Some post) m = absurd m
  has_operand Pair None m = pair_operand_with w next text tail m is
  has_operand Inherent None m = by_extent none (extent_of_wanted w) tail m extent
  has_operand Immediate8 None m = by_extent byte (extent_of_wanted w) tail m extent
  has_operand Immediate16 None m = by_extent word (extent_of_wanted w) tail m extent
  has_operand Direct None m = by_extent byte (extent_of_wanted w) tail m extent
  has_operand Extended None m = by_extent word (extent_of_wanted w) tail m extent
  has_operand Relative8 None m = by_extent byte (extent_of_wanted w) tail m extent
  has_operand Relative16 None m = by_extent word (extent_of_wanted w) tail m extent
  has_operand Inherent (Some post) m = absurd m
  has_operand Immediate8 (Some post) m = absurd m
  has_operand Immediate16 (Some post) m = absurd m
  has_operand Direct (Some post) m = absurd m
  has_operand Extended (Some post) m = absurd m
  has_operand Relative8 (Some post) m = absurd m
  has_operand Relative16 (Some post) m = absurd m

  plain_is : (mode : Mode) (post : Option ℕ) → MatchesMode mode post w → option_map plain_post post ≡ post
  plain_is mode None m = refl
  plain_is Indexed (Some post) m = ap Some (kind_plain (postbyte post) post (extent_of_wanted w) m)
  plain_is Pair (Some post) m = absurd m
  plain_is Inherent (Some post) m = absurd m
  plain_is Immediate8 (Some post) m = absurd m
  plain_is Immediate16 (Some post) m = absurd m
  plain_is Direct (Some post) m = absurd m
  plain_is Extended (Some post) m = absurd m
  plain_is Relative8 (Some post) m = absurd m
  plain_is Relative16 (Some post) m = absurd m

-- what is read of a row's operand is an instruction that decoding can give
pub row_plain : (page : Page) (opcode : ℕ) (r : Row) (text : List ℕ) (o : Operand) (next : ℕ) (tail : Tail) → row page opcode ≡ Some r → row_operand r text ≡ Some o →
    wanted_tail o.wanted next o.expression ≡ Some tail → IsPlainInstr (record { page = page; opcode = opcode; post = o.post; tail = tail })
unfolding row_operand
row_plain page opcode r text o next tail is read fills =
    let m = operand_sound o r.0 r.1 text read in
    let has : HasOperand r.1 o.post tail = has_operand o.wanted next o.expression tail fills r.1 o.post m in (
      rw is has,
      ap (λ (p : Option ℕ). record { page = page; opcode = opcode; post = p; tail = tail }) (plain_is o.wanted next o.expression tail fills r.1 o.post m),
    )
