-- The bytes of statements, by a table of labels.
use Rattle.std.specs.Prelude.{ℕ, ◌+◌, Option, Some, option_map, unwrap_or, List, [], ◌∷◌, map, ℤ, pos}
use Rattle.std.specs.Option.{option_map_or}
use Rattle.std.specs.List.{flat_map}
use Rattle.proc_model.specs.UserBytes.{word_bytes}
use Rattle.cpu_model.specs.declared.instruction.Tail.{Tail}
use Rattle.cpu_table.specs.Spelling.{spelling}
use Rattle.asm_model.specs.Operands.{Operand, modulo}
use Rattle.asm_model.specs.Instructions.{Shape, shape_length, with_tail}
use Rattle.asm_model.specs.Statements.{Action, label_alone, instruction, module_start, module_end, equals, byte_list, word_list, characters, system_call}
use Rattle.asm_lines.specs.declared.table.Labels.{Labels}
use Rattle.asm_lines.specs.Labels.{expression_in, term_in}
use Rattle.asm_text.specs.Tails.{tail_by}

abbrev pub value_or_zero : Labels → Option ℕ → List ℕ → ℤ
value_or_zero labels offset text = unwrap_or (expression_in labels offset text) (pos 0)

abbrev pub byte_in : Labels → Option ℕ → List ℕ → ℕ
byte_in labels offset text = modulo 256 (value_or_zero labels offset text)

abbrev pub word_in : Labels → Option ℕ → List ℕ → ℕ
word_in labels offset text = modulo 65536 (value_or_zero labels offset text)

abbrev pub tail_in : Labels → Option ℕ → ℕ → Operand → Option Tail
tail_in labels place next o = tail_by (term_in labels place) o.wanted next o.expression

abbrev pub shape_bytes_in : Labels → Option ℕ → ℕ → Shape → List ℕ
shape_bytes_in labels place offset s =
    option_map_or spelling (option_map (with_tail s) (tail_in labels place (offset + shape_length s) s.operand)) []

abbrev pub action_bytes_in : Labels → ℕ → Action → List ℕ
action_bytes_in labels offset label_alone = []
action_bytes_in labels offset (instruction s) = shape_bytes_in labels (Some offset) offset s
action_bytes_in labels offset (module_start m) = []
action_bytes_in labels offset module_end = []
action_bytes_in labels offset (equals text) = []
action_bytes_in labels offset (byte_list texts) = map (byte_in labels (Some offset)) texts
action_bytes_in labels offset (word_list texts) =
    flat_map (λ text. word_bytes (word_in labels (Some offset) text)) texts
action_bytes_in labels offset (characters text) = text
action_bytes_in labels offset (system_call text) = 0x10 ∷ 0x3F ∷ byte_in labels (Some offset) text ∷ []
