-- The offsets and labels of a source's statements, and the first line that breaks a rule (this project's own).
use Rattle.std.specs.Prelude.{ℕ, ◌+◌, ◌*◌, ◌&&◌, ◌||◌, not, nat_le, Bool, true, false, Option, Some, None, is_some, is_none, option_map, option_and_then, unwrap_or, List, [], ◌∷◌, ◌++◌, length, map, ℤ, pos, negsuc, if◌then◌else◌}
use Rattle.std.specs.Option.{option_or, option_map_or}
use Rattle.std.specs.List.{list_all, list_any}
use Rattle.std.specs.Str.{bytes_eq}
use Rattle.os9_base.specs.declared.limits.TheConstants.{MOST_GROUP_BYTES}
use Rattle.module_format.specs.GuestModule.{kind_header_length}
use Rattle.asm_model.specs.declared.error.AsmError.{AsmError}
use Rattle.asm_model.specs.declared.error.AsmError.TheVariants.{Syntax, UnknownName, Twice, Range}
use Rattle.asm_model.specs.declared.operand.Wanted.{Wanted}
use Rattle.asm_model.specs.declared.operand.Wanted.TheVariants.{Value}
use Rattle.asm_model.specs.declared.operand.Field.{Field}
use Rattle.asm_model.specs.declared.operand.Field.TheVariants as field
use Rattle.asm_model.specs.Expressions.{Term, constant, label, here, terms, value_of, constant_meaning}
use Rattle.asm_model.specs.Operands.{modulo, between, filled}
use Rattle.asm_model.specs.Instructions.{shape_length}
use Rattle.asm_model.specs.Statements.{Action, label_alone, instruction, module_start, module_end, equals, byte_list, word_list, characters, system_call, Statement, LineRead, skipped, broken, stated, source_lines}

-- ---- lengths

-- the value of an expression of numbers
abbrev pub constant_value : List ℕ → ℤ
constant_value text = unwrap_or (option_and_then (value_of constant_meaning) (terms text)) (pos 0)

-- the number of bytes of a module's CRC
abbrev pub crc_length : ℕ
crc_length = 3

-- the number of bytes of a statement: of `mod` those of the header and the name, of `emod` those of the CRC
abbrev pub action_length : Action → ℕ
action_length label_alone = 0
action_length (instruction s) = shape_length s
action_length (module_start m) = kind_header_length (modulo 256 (constant_value m.kind)) + length m.name
action_length module_end = crc_length
action_length (equals text) = 0
action_length (byte_list texts) = length texts
action_length (word_list texts) = 2 * length texts
action_length (characters text) = length text
action_length (system_call text) = 3

-- ---- labels

-- a label with its value, if that is known
pub record LabelValue : Type 0 where
  pub name : List ℕ
  pub value : Option ℤ

-- what lines reach: their labels, the offset after them, which is unknown if one of them is broken, and whether
-- `mod` and `emod` are among them
pub record Reached : Type 0 where
  pub labels : List LabelValue
  pub offset : Option ℕ
  pub has_start : Bool
  pub has_end : Bool

abbrev pub meaning_of : List LabelValue → List ℕ → Option LabelValue
meaning_of [] name = None
meaning_of (m ∷ ms) name = if bytes_eq m.name name then Some m else meaning_of ms name

abbrev pub is_known : List LabelValue → List ℕ → Bool
is_known labels name = is_some (meaning_of labels name)

abbrev pub is_known_term : List LabelValue → Term → Bool
is_known_term labels (label name) = is_known labels name
is_known_term labels _ = true

-- a value that a label or `*` can have; a value that does not fit 64 bits with a sign is unknown
abbrev pub held : ℤ → Option ℤ
held z = if between (negsuc 9223372036854775807) (pos 9223372036854775807) z then Some z else None

-- the value of `*` at this offset
abbrev pub offset_value : Option ℕ → Option ℤ
offset_value offset = option_and_then (λ n. held (pos n)) offset

-- the value of a term at this offset
abbrev pub term_value : List LabelValue → Option ℕ → Term → Option ℤ
term_value labels offset (constant n) = Some (pos n)
term_value labels offset (label name) = option_and_then (λ m. m.value) (meaning_of labels name)
term_value labels offset here = offset_value offset

abbrev pub names_known : List LabelValue → List ℕ → Bool
names_known labels text = option_map_or (list_all (λ t. is_known_term labels t.term)) (terms text) true

-- the value of an expression at this offset, if its labels have values
abbrev pub value_at : List LabelValue → Option ℕ → List ℕ → Option ℤ
value_at labels offset text = option_and_then (value_of (term_value labels offset)) (terms text)

-- the value of a statement's label: for `equ` by the labels above, otherwise the statement's own offset
abbrev pub label_value : Reached → Action → Option ℤ
label_value above (equals text) = option_and_then held (value_at above.labels above.offset text)
label_value above _ = offset_value above.offset

-- the labels with one more; a known label keeps its value
abbrev pub with_label : List LabelValue → Option (List ℕ) → Option ℤ → List LabelValue
with_label labels None value = labels
with_label labels (Some name) value =
    if is_known labels name then labels else labels ++ (record { name = name; value = value } ∷ [])

abbrev pub is_start : Action → Bool
is_start (module_start m) = true
is_start _ = false

abbrev pub is_end : Action → Bool
is_end module_end = true
is_end _ = false

-- what lines reach with one more line
abbrev pub after : Reached → LineRead → Reached
after above skipped = above
after above (broken name) = record above { labels = with_label above.labels name None; offset = None }
after above (stated s) = record {
  labels = with_label above.labels s.name (label_value above s.action);
  offset = option_map (λ n. n + action_length s.action) above.offset;
  has_start = above.has_start || is_start s.action;
  has_end = above.has_end || is_end s.action;
}

abbrev pub start : Reached
start = record { labels = []; offset = Some 0; has_start = false; has_end = false }

abbrev pub reached_from : Reached → List LineRead → Reached
reached_from above [] = above
reached_from above (l ∷ ls) = reached_from (after above l) ls

-- ---- faults

-- an expression, and the field of its value
pub record FieldText : Type 0 where
  pub field : Field
  pub text : List ℕ

abbrev pub in_field : Field → List ℕ → FieldText
in_field f text = record { field = f; text = text }

abbrev pub wanted_values : Wanted → List ℕ → List FieldText
wanted_values (Value f) text = in_field f text ∷ []
wanted_values _ text = []

-- the expressions of a statement; KIND has its own test
abbrev pub action_values : Action → List FieldText
action_values (instruction s) = wanted_values s.operand.wanted s.operand.expression
action_values (module_start m) = in_field field.Byte m.attributes ∷ in_field field.Word m.storage ∷ []
action_values (equals text) = in_field field.Word text ∷ []
action_values (byte_list texts) = map (in_field field.Byte) texts
action_values (word_list texts) = map (in_field field.Word) texts
action_values (system_call text) = in_field field.Byte text ∷ []
action_values _ = []

-- the labels that a statement may name: for `equ` those above, otherwise all
abbrev pub nameable : Reached → Reached → Action → List LabelValue
nameable all above (equals text) = above.labels
nameable all above action = all.labels

abbrev pub names_fit : Reached → Reached → Action → Bool
names_fit all above action = list_all (λ v. names_known (nameable all above action) v.text) (action_values action)

abbrev pub has_known_name : Reached → Statement → Bool
has_known_name above s = option_map_or (is_known above.labels) s.name false

-- a line above already has the label, or this is a second `mod` or `emod`
abbrev pub is_twice : Reached → Statement → Bool
is_twice above s =
    has_known_name above s || (above.has_start && is_start s.action) || (above.has_end && is_end s.action)

-- a value out of the range of its field, before this next instruction
abbrev pub is_out : Field → ℕ → Option ℤ → Bool
is_out f next None = false
is_out f next (Some z) = is_none (filled f next z)

-- a statement at this offset has a known value that is out of range
abbrev pub has_value_out : List LabelValue → Option ℕ → Action → Bool
has_value_out labels offset action =
    list_any (λ v. is_out v.field (unwrap_or offset 0 + action_length action) (value_at labels offset v.text))
    (action_values action)

-- the module is longer than the greatest length of a module
abbrev pub is_too_long : Option ℕ → Action → Bool
is_too_long (Some n) module_end = not (nat_le (n + crc_length) MOST_GROUP_BYTES)
is_too_long offset _ = false

-- KIND is from $10 to $FF
abbrev pub is_bad_kind : Action → Bool
is_bad_kind (module_start m) = not (between (pos 0x10) (pos 0xFF) (constant_value m.kind))
is_bad_kind _ = false

abbrev pub has_bad_value : Reached → Reached → Action → Bool
has_bad_value all above action =
    has_value_out all.labels above.offset action || is_too_long above.offset action || is_bad_kind action

-- the least rule that a line breaks, if the whole source reaches the first of these and the lines above the second
abbrev pub line_fault : Reached → Reached → LineRead → Option AsmError
line_fault all above skipped = None
line_fault all above (broken name) = Some Syntax
line_fault all above (stated s) =
    if not (names_fit all above s.action) then Some UnknownName
    else (if is_twice above s then Some Twice
    else (if has_bad_value all above s.action then Some Range else None))

-- a line, by its number from 1, and the rule that it breaks
pub record SourceFault : Type 0 where
  pub line : ℕ
  pub error : AsmError

abbrev pub fault_on : ℕ → AsmError → SourceFault
fault_on line error = record { line = line; error = error }

-- the first line that breaks a rule, and the least rule that it breaks
abbrev pub fault_from : Reached → Reached → ℕ → List LineRead → Option SourceFault
fault_from all above number [] = None
fault_from all above number (l ∷ ls) =
    option_or (option_map (fault_on number) (line_fault all above l)) (fault_from all (after above l) (number + 1) ls)

-- the first line of a source that breaks a rule
unfoldable pub source_fault : List ℕ → Option SourceFault
source_fault source =
    let lines = source_lines source in fault_from (reached_from start lines) start 1 lines
