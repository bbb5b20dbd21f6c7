-- The bytes of statements by a table of labels are those by its list.
use Rattle.std.proofs.Common.{◌≡◌, ℕ, ◌+◌, Some, List, [], ◌∷◌, ◌++◌, map, refl, ap, ◌∙◌, pos}
use Rattle.std.specs.Prelude.{option_map, option_and_then, is_some, unwrap_or}
use Rattle.std.specs.Option.{option_map_or}
use Rattle.std.specs.List.{flat_map}
use Rattle.proc_model.specs.UserBytes.{word_bytes}
use Rattle.cpu_table.specs.Spelling.{spelling}
use Rattle.asm_model.specs.declared.operand.Wanted.{Wanted}
use Rattle.asm_model.specs.declared.operand.Wanted.TheVariants.{Nothing, Fixed, Value}
use Rattle.asm_model.specs.Operands.{modulo, filled}
use Rattle.asm_model.specs.Instructions.{shape_length, with_tail}
use Rattle.asm_model.specs.Statements.{Action, label_alone, instruction, module_start, module_end, equals, byte_list, word_list, characters, system_call}
use Rattle.asm_model.specs.Placement.{FieldText, Reached, action_length, action_values, term_value, value_at}
use Rattle.asm_text.specs.Tails.{tail_by}
use Rattle.asm_lines.specs.declared.table.Labels.{Labels}
use Rattle.asm_lines.specs.Labels.{HoldsLabels, expression_in, term_in, is_filled_in, is_text_filled_in}
use Rattle.asm_lines.proofs.LabelLemmas.{expression-same, list_all-same}
use Rattle.asm6809.specs.Assembled.{action_bytes, byte_there, word_there, is_filled, is_text_filled, placed_at}
use Rattle.asm6809.specs.Bytes.{action_bytes_in, byte_in, word_in}

map-same : {A B : Type 0} (f g : A → B) → ((x : A) → f x ≡ g x) → (xs : List A) → map f xs ≡ map g xs
map-same f g same [] = refl
map-same f g same (x ∷ xs) = ap (λ y. y ∷ map f xs) (same x) ∙ ap (λ ys. g x ∷ ys) (map-same f g same xs)

flat-same : {A B : Type 0} (f g : A → List B) → ((x : A) → f x ≡ g x) → (xs : List A) → flat_map f xs ≡ flat_map g xs
flat-same f g same [] = refl
flat-same f g same (x ∷ xs) = ap (λ y. y ++ flat_map f xs) (same x) ∙ ap (λ ys. g x ++ ys) (flat-same f g same xs)

module _ (table : Labels) (m : Reached) (n : ℕ) (holds : HoldsLabels table m.labels) where
  same : (text : List ℕ) → expression_in table (Some n) text ≡ value_at m.labels (Some n) text
  same text = expression-same table m.labels (Some n) text holds

  pub byte-same : (text : List ℕ) → byte_in table (Some n) text ≡ byte_there m n text
  byte-same text = ap (λ v. modulo 256 (unwrap_or v (pos 0))) (same text)

  pub word-same : (text : List ℕ) → word_in table (Some n) text ≡ word_there m n text
  word-same text = ap (λ v. modulo 65536 (unwrap_or v (pos 0))) (same text)

  tail-same : (w : Wanted) (next : ℕ) (text : List ℕ) → tail_by (term_in table (Some n)) w next text ≡ tail_by (term_value m.labels (Some n)) w next text
  tail-same Nothing next text = refl
  tail-same (Fixed b) next text = refl
  tail-same (Value f) next text = ap (option_and_then (filled f next)) (same text)

  pub bytes-same : (action : Action) → action_bytes_in table n action ≡ action_bytes m n action
  bytes-same label_alone = refl
  bytes-same (instruction s) =
      ap (λ t. option_map_or spelling (option_map (with_tail s) t) []) (tail-same s.operand.wanted (n + shape_length s) s.operand.expression)
  bytes-same (module_start fields) = refl
  bytes-same module_end = refl
  bytes-same (equals text) = refl
  bytes-same (byte_list texts) = map-same (byte_in table (Some n)) (byte_there m n) byte-same texts
  bytes-same (word_list texts) =
      flat-same (λ text. word_bytes (word_in table (Some n) text)) (λ text. word_bytes (word_there m n text)) (λ text. ap word_bytes (word-same text)) texts
  bytes-same (characters text) = refl
  bytes-same (system_call text) = ap (λ b. 0x10 ∷ 0x3F ∷ b ∷ []) (byte-same text)

  pub filled-same : (action : Action) → is_filled_in table (Some n) action ≡ is_filled m (placed_at n action)
  filled-same action =
      list_all-same (λ (v : FieldText). is_text_filled_in table (Some n) (n + action_length action) v.field v.text) (is_text_filled m n (n + action_length action))
      (λ v. ap (λ o. is_some (option_and_then (filled v.field (n + action_length action)) o)) (same v.text)) (action_values action)
