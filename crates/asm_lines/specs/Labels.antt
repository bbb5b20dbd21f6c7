-- Labels in a table, and the values of expressions by that table.
use Rattle.std.specs.Prelude.{◌≡◌, ℕ, ◌+◌, Bool, true, false, Option, Some, is_some, option_map, option_and_then, unwrap_or, List, ℤ, pos}
use Rattle.std.specs.Option.{option_map_or}
use Rattle.std.specs.List.{list_all, list_any}
use Rattle.std.specs.Str.{bytes_eq}
use Rattle.std.specs.HashMap.{get_by}
use Rattle.asm_model.specs.declared.operand.Field.{Field}
use Rattle.asm_model.specs.Operands.{filled}
use Rattle.asm_model.specs.Expressions.{Term, constant, label, here, terms, value_of}
use Rattle.asm_model.specs.Statements.{Action, equals}
use Rattle.asm_model.specs.Placement.{LabelValue, meaning_of, offset_value, action_values, action_length, is_out, SourceFault as FaultOf, fault_on}
use Rattle.asm_model.specs.Placement as model
use Rattle.asm_lines.specs.declared.table.Labels.{Labels}
use Rattle.asm_lines.specs.declared.reached.Reached.{Reached}
use Rattle.asm_lines.specs.declared.faults.SourceFault.{SourceFault}

-- the table's entry for a name: nothing, or its value, if that is known
abbrev pub value_in : Labels → List ℕ → Option (Option ℤ)
value_in labels name = get_by (λ k. bytes_eq name k.now) labels.values

-- a table has these labels, and no others
pub record HoldsLabels (table : Labels) (labels : List LabelValue) : Type 0 where
  pub each : (name : List ℕ) → value_in table name ≡ option_map (λ m. m.value) (meaning_of labels name)

-- ---- expressions

-- the value of a term at this offset
abbrev pub term_in : Labels → Option ℕ → Term → Option ℤ
term_in labels offset (constant n) = Some (pos n)
term_in labels offset (label name) = option_and_then (λ value. value) (value_in labels name)
term_in labels offset here = offset_value offset

abbrev pub is_term_in : Labels → Term → Bool
is_term_in labels (label name) = is_some (value_in labels name)
is_term_in labels _ = true

abbrev pub names_in : Labels → List ℕ → Bool
names_in labels text = option_map_or (list_all (λ t. is_term_in labels t.term)) (terms text) true

abbrev pub expression_in : Labels → Option ℕ → List ℕ → Option ℤ
expression_in labels offset text = option_and_then (value_of (term_in labels offset)) (terms text)

-- ---- statements

abbrev pub is_equals : Action → Bool
is_equals (equals text) = true
is_equals _ = false

-- there is a label, and it is among these
abbrev pub name_is_in : Labels → Option (List ℕ) → Bool
name_is_in labels name = option_map_or (λ n. is_some (value_in labels n)) name false

abbrev pub all_names_in : Labels → Action → Bool
all_names_in labels action = list_all (λ v. names_in labels v.text) (action_values action)

abbrev pub value_out_in : Labels → Option ℕ → Action → Bool
value_out_in labels offset action =
    list_any (λ v. is_out v.field (unwrap_or offset 0 + action_length action) (expression_in labels offset v.text))
    (action_values action)

-- the value of an expression is known, and in the range of its field
abbrev pub is_text_filled_in : Labels → Option ℕ → ℕ → Field → List ℕ → Bool
is_text_filled_in labels offset next f text =
    is_some (option_and_then (filled f next) (expression_in labels offset text))

abbrev pub is_filled_in : Labels → Option ℕ → Action → Bool
is_filled_in labels offset action =
    list_all (λ v. is_text_filled_in labels offset (unwrap_or offset 0 + action_length action) v.field v.text)
    (action_values action)

-- ---- what lines reach

pub record IsReached (r : Reached) (m : model.Reached) : Type 0 where
  pub labels : HoldsLabels r.labels m.labels
  pub offset : r.offset ≡ m.offset
  pub has_start : r.has_start ≡ m.has_start
  pub has_end : r.has_end ≡ m.has_end

-- the fault as the model has it
abbrev pub fault_said : SourceFault → FaultOf
fault_said f = fault_on f.line f.error
