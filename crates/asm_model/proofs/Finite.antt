-- What is computed for every byte.
use Rattle.std.proofs.Common.{◌≡◌, ℕ, ◌+◌, ◌<◌, true, Option, Some, None, List, [], ◌∷◌, map, get_or, refl, ap, sym, ◌∙◌, arith}
use Rattle.std.specs.Prelude.{option_map, option_and_then, if◌then◌else◌}
use Rattle.std.specs.List.{range_with_len}
use Rattle.std.proofs.lemmas.List.FromFn.{get_or-map-range_with_len}
use Rattle.cpu_model.specs.declared.rows.Stack.TheVariants.{System, User}
use Rattle.cpu_model.specs.declared.instruction.Tail.{Tail}
use Rattle.cpu_model.specs.declared.instruction.Tail.TheVariants.{Empty, Byte}
use Rattle.cpu_model.specs.declared.indexing.Form.{Form}
use Rattle.cpu_model.specs.declared.indexing.Form.TheVariants.{Offset8}
use Rattle.cpu_model.specs.declared.indexing.Indexing.{Indexing}
use Rattle.cpu_model.specs.Reading.{Extent, none, extent_of_form}
use Rattle.cpu_model.specs.Table.{postbyte, form_lines, is_pair}
use Rattle.asm_model.specs.declared.operand.Wanted.TheVariants.{Nothing}
use Rattle.asm_model.specs.declared.operand.Field.TheVariants as field
use Rattle.asm_model.specs.Print.{byte_number, printed_mask, printed_pair, printed_indexing}
use Rattle.asm_model.specs.Operands.{Operand, operand, immediate_operand, direct_operand, mask_operand, register_pair, indexed_operand}
use Rattle.asm_model.specs.Instructions.{wanted_tail}

-- two functions that agree on the list of these numbers agree on each
pub on_range : {A : Type 0} (f g : ℕ → A) (first count : ℕ) → map f (range_with_len first count) ≡ map g (range_with_len first count) → (n : ℕ) → n < count → f (first + n) ≡ g (first + n)
on_range f g first count e n h =
    sym (get_or-map-range_with_len f first count n (first + n) (f (first + n)) h (omega arith)) ∙ ap (λ bytes. get_or bytes n (f (first + n))) e
    ∙ get_or-map-range_with_len g first count n (first + n) (f (first + n)) h (omega arith)

pub on_below : {A : Type 0} (count : ℕ) (f g : ℕ → A) → map f (range_with_len 0 count) ≡ map g (range_with_len 0 count) → (b : ℕ) → b < count → f b ≡ g b
on_below count f g e b h =
    sym (get_or-map-range_with_len f 0 count b b (f b) h (omega arith)) ∙ ap (λ bytes. get_or bytes b (f b)) e
    ∙ get_or-map-range_with_len g 0 count b b (f b) h (omega arith)

pub on_bytes : {A : Type 0} (f g : ℕ → A) → map f (range_with_len 0 256) ≡ map g (range_with_len 0 256) → (b : ℕ) → b < 256 → f b ≡ g b
on_bytes f g e b h = on_below 256 f g e b h

-- an operand and its tail
abbrev pub tail_of : ℕ → Operand → Option (Option ℕ × Tail)
tail_of next o = option_map (λ tail. (o.post, tail)) (wanted_tail o.wanted next o.expression)

module _ (next : ℕ) where
  pub immediate_read : (b : ℕ) → b < 256 → option_and_then (tail_of next) (immediate_operand field.Byte (35 ∷ byte_number b)) ≡ Some (None, Byte b)
  immediate_read = on_bytes (λ b. option_and_then (tail_of next) (immediate_operand field.Byte (35 ∷ byte_number b))) (λ b. Some (None, Byte b)) refl

  pub direct_read : (b : ℕ) → b < 256 → option_and_then (tail_of next) (direct_operand (60 ∷ byte_number b)) ≡ Some (None, Byte b)
  direct_read = on_bytes (λ b. option_and_then (tail_of next) (direct_operand (60 ∷ byte_number b))) (λ b. Some (None, Byte b)) refl

  pub system_mask_read : (b : ℕ) → b < 256 → option_and_then (tail_of next) (mask_operand System (printed_mask System b)) ≡ Some (None, Byte b)
  system_mask_read = on_bytes (λ b. option_and_then (tail_of next) (mask_operand System (printed_mask System b))) (λ b. Some (None, Byte b)) refl

  pub user_mask_read : (b : ℕ) → b < 256 → option_and_then (tail_of next) (mask_operand User (printed_mask User b)) ≡ Some (None, Byte b)
  user_mask_read = on_bytes (λ b. option_and_then (tail_of next) (mask_operand User (printed_mask User b))) (λ b. Some (None, Byte b)) refl

abbrev if_pair : ℕ → Option ℕ → Option ℕ
if_pair b read = if is_pair b then read else None

pair_checked : (b : ℕ) → b < 256 → if_pair b (register_pair (printed_pair b)) ≡ if_pair b (Some b)
pair_checked = on_bytes (λ b. if_pair b (register_pair (printed_pair b))) (λ b. if_pair b (Some b)) refl

pub pair_read : (b : ℕ) → b < 256 → is_pair b ≡ true → register_pair (printed_pair b) ≡ Some b
pair_read b h is = simp is at (pair_checked b h)

-- ---- indexed operands

module _ (next : ℕ) where
  -- the operands without a number behind the postbyte
  abbrev pub if_plain : Extent → Option Operand → Option Operand
  if_plain none read = read
  if_plain _ read = None

  abbrev pub plain_reads : Option Indexing → ℕ → Option Operand → Option Operand
  plain_reads None post read = None
  plain_reads (Some i) post read = if_plain (extent_of_form i.0) read

  pub plain_checked : (post : ℕ) → post < 256 →
      plain_reads (postbyte post) post (indexed_operand (printed_indexing (postbyte post) post Empty next)) ≡ plain_reads (postbyte post) post (Some (operand (Some post) Nothing []))
  unfolding postbyte form_lines
  plain_checked = on_below 256 (λ post. plain_reads (postbyte post) post
      (indexed_operand (printed_indexing (postbyte post) post Empty next))) (λ post. plain_reads (postbyte post) post
      (Some (operand (Some post) Nothing []))) refl

  -- the operands with a byte from a register
  abbrev pub by_byte : Option Indexing → ℕ → Form → List (Option (Option ℕ × Tail))
  by_byte meaning post Offset8 = map (λ b. option_and_then (tail_of next) (indexed_operand (printed_indexing meaning post (Byte b) next))) (range_with_len 0 256)
  by_byte meaning post _ = []

  abbrev pub each_byte : ℕ → Form → List (Option (Option ℕ × Tail))
  each_byte post Offset8 = map (λ b. Some (Some post, Byte b)) (range_with_len 0 256)
  each_byte post _ = []

  abbrev pub of_form : {A : Type 0} → (Form → A) → A → Option Indexing → A
  of_form f a None = a
  of_form f a (Some i) = f i.0

  pub offset8_checked : (post : ℕ) → post < 256 → of_form (by_byte (postbyte post) post) [] (postbyte post) ≡ of_form (each_byte post) [] (postbyte post)
  unfolding postbyte form_lines
  offset8_checked = on_below 256 (λ post. of_form (by_byte (postbyte post) post) [] (postbyte post)) (λ post. of_form (each_byte post) [] (postbyte post)) refl
