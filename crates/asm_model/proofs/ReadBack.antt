-- Printed operands are read as the postbyte and the tail that they are printed of.
use Rattle.std.proofs.Common.{◌≡◌, ℕ, ◌<◌, true, Option, Some, None, [], refl, ap}
use Rattle.std.specs.Prelude.{option_map, option_and_then, IsSomeAnd, IfSome}
use Rattle.cpu_model.specs.declared.rows.Row.{Row}
use Rattle.cpu_model.specs.declared.rows.Operation.{Operation}
use Rattle.cpu_model.specs.declared.rows.Operation.TheVariants.{Psh, Pul}
use Rattle.cpu_model.specs.declared.rows.Stack.{Stack}
use Rattle.cpu_model.specs.declared.rows.Stack.TheVariants.{System, User}
use Rattle.cpu_model.specs.declared.rows.Mode.{Mode}
use Rattle.cpu_model.specs.declared.rows.Mode.TheVariants.{Inherent, Immediate8, Immediate16, Direct, Indexed, Extended, Relative8, Relative16, Pair}
use Rattle.cpu_model.specs.declared.indexing.Indexing.{Indexing}
use Rattle.cpu_model.specs.declared.instruction.Tail.{Tail}
use Rattle.cpu_model.specs.declared.instruction.Tail.TheVariants.{Empty, Byte, Word}
use Rattle.cpu_model.specs.Arithmetic.{extended}
use Rattle.cpu_model.specs.Reading.{extent_of_form}
use Rattle.cpu_model.specs.Table.{postbyte, plain_postbyte, is_pair}
use Rattle.cpu_table.specs.Spelling.{HasExtent, HasOperand}
use Rattle.asm_model.specs.declared.operand.Wanted.TheVariants.{Fixed}
use Rattle.asm_model.specs.declared.operand.Field.TheVariants as field
use Rattle.asm_model.specs.Print.{printed_immediate, printed_mask, printed_pair, printed_operand, printed_indexing, target}
use Rattle.asm_model.specs.Operands.{operand, mode_operand, immediate8, indexed_operand, register_pair}
use Rattle.asm_model.proofs.Finite.{tail_of, immediate_read, direct_read, system_mask_read, user_mask_read, pair_read}
use Rattle.asm_model.proofs.Targets.{target8_filled, target16_filled, word_filled}
use Rattle.asm_model.specs.Laws.{TailFits}
use Rattle.asm_model.proofs.Indexes.{word_back, index_back, target_fits}

abbrev pub row_of : Operation → Mode → Row
row_of operation mode = record { 0 = operation; 1 = mode }

-- the text of an operand is read as this postbyte and tail
abbrev pub Back : ℕ → Operation → Mode → Option ℕ → Tail → Type 0
Back next operation mode post tail =
    option_and_then (tail_of next) (mode_operand operation mode (printed_operand (row_of operation mode) post tail next)) ≡ Some (post, tail)

mask_back : (next : ℕ) (stack : Stack) (b : ℕ) → b < 256 → option_and_then (tail_of next) (immediate8 (Psh stack) (printed_mask stack b)) ≡ Some (None, Byte b)
mask_back next System b h = system_mask_read next b h
mask_back next User b h = user_mask_read next b h

immediate8_back : (next : ℕ) (operation : Operation) (b : ℕ) → b < 256 → option_and_then (tail_of next) (immediate8 operation (printed_immediate operation b)) ≡ Some (None, Byte b)
immediate8_back next (Psh stack) b h = mask_back next stack b h
immediate8_back next (Pul stack) b h = mask_back next stack b h
immediate8_back next _ b h = immediate_read next b h

pair_back : (next b : ℕ) → b < 256 → is_pair b ≡ true → option_and_then (tail_of next) (option_map (λ pair. operand None (Fixed pair) []) (register_pair (printed_pair b))) ≡ Some (None, Byte b)
pair_back next b h is = ap (λ p. option_and_then (tail_of next) (option_map (λ pair. operand None (Fixed pair) []) p)) (pair_read b h is)

-- the postbyte stands as it was
abbrev pub IsPlainPost : Option Indexing → ℕ → Type 0
IsPlainPost found post = IfSome found (λ i. plain_postbyte i.0 post ≡ post)

indexed_back : (next post : ℕ) (tail : Tail) (found : Option Indexing) → postbyte post ≡ found
    → IsSomeAnd found (λ i. HasExtent (extent_of_form i.0) tail) → IsPlainPost found post → post < 256 → TailFits tail
    →
    option_and_then (tail_of next) (indexed_operand (printed_indexing found post tail next)) ≡ Some (Some post, tail)
indexed_back next post tail None is extent plain k h = absurd extent
indexed_back next post tail (Some i) is extent plain k h = index_back next post i.1 i.2 k i.0 tail is extent plain h

module _ (next : ℕ) (operation : Operation) where
  pub operand_back : (mode : Mode) (post : Option ℕ) (tail : Tail) → HasOperand mode post tail
      → IfSome post (λ p. IsPlainPost (postbyte p) p × (p < 256)) → TailFits tail → Back next operation mode post tail
  operand_back Indexed (Some post) tail has plain h = indexed_back next post tail (postbyte post) refl has plain.0 plain.1 h
  operand_back Indexed None tail has plain h = absurd has
  operand_back Pair None (Byte b) has plain h = pair_back next b h has
  operand_back Pair None Empty has plain h = absurd has
  operand_back Pair None (Word w) has plain h = absurd has
  operand_back Pair (Some post) tail has plain h = absurd has
  operand_back Inherent None Empty has plain h = refl
  operand_back Immediate8 None (Byte b) has plain h = immediate8_back next operation b h
  operand_back Immediate16 None (Word w) has plain h = word_back next None field.Word w (Word w) _ h refl (word_filled next w h)
  operand_back Direct None (Byte b) has plain h = direct_read next b h
  operand_back Extended None (Word w) has plain h = word_back next None field.Word w (Word w) _ h refl (word_filled next w h)
  operand_back Relative8 None (Byte b) has plain h =
      word_back next None field.Target8 (target next (extended b)) (Byte b) _ (target_fits next (extended b)) refl (target8_filled next b h)
  operand_back Relative16 None (Word w) has plain h =
      word_back next None field.Target16 (target next w) (Word w) _ (target_fits next w) refl (target16_filled next w h)
  operand_back Inherent None (Byte b) has plain h = absurd has
  operand_back Inherent None (Word w) has plain h = absurd has
  operand_back Immediate8 None Empty has plain h = absurd has
  operand_back Immediate8 None (Word w) has plain h = absurd has
  operand_back Immediate16 None Empty has plain h = absurd has
  operand_back Immediate16 None (Byte b) has plain h = absurd has
  operand_back Direct None Empty has plain h = absurd has
  operand_back Direct None (Word w) has plain h = absurd has
  operand_back Extended None Empty has plain h = absurd has
  operand_back Extended None (Byte b) has plain h = absurd has
  operand_back Relative8 None Empty has plain h = absurd has
  operand_back Relative8 None (Word w) has plain h = absurd has
  operand_back Relative16 None Empty has plain h = absurd has
  operand_back Relative16 None (Byte b) has plain h = absurd has
  operand_back Inherent (Some post) tail has plain h = absurd has
  operand_back Immediate8 (Some post) tail has plain h = absurd has
  operand_back Immediate16 (Some post) tail has plain h = absurd has
  operand_back Direct (Some post) tail has plain h = absurd has
  operand_back Extended (Some post) tail has plain h = absurd has
  operand_back Relative8 (Some post) tail has plain h = absurd has
  operand_back Relative16 (Some post) tail has plain h = absurd has
