-- The module that a source makes (this project's own).
use Rattle.std.specs.Prelude.{◌≡◌, ℕ, ◌+◌, ◌&&◌, not, nat_le, nat_lt, Bool, false, true, Option, Some, None, is_some, option_map, option_and_then, unwrap_or, sum_by, All, IsSomeAnd, Result, Ok, Err, List, [], ◌∷◌, length, take, drop, map, ℤ, pos, codes, if◌then◌else◌}
use Rattle.std.specs.Option.{option_map_or}
use Rattle.std.specs.List.{flat_map, list_all}
use Rattle.proc_model.specs.UserBytes.{word_bytes}
use Rattle.os9_base.specs.Name.{marked_name}
use Rattle.os9_base.specs.declared.limits.TheConstants.{MOST_GROUP_BYTES}
use Rattle.proc_model.specs.CrcModel.{crc_of}
use Rattle.proc_model.specs.Module.{IsModule, info_at}
use Rattle.proc_model.specs.declared.module.ModuleInfo.{ModuleInfo}
use Rattle.cpu_model.specs.declared.instruction.Instr.{Instr}
use Rattle.cpu_model.specs.Reading.{reading}
use Rattle.cpu_table.specs.Spelling.{spelling}
use Rattle.module_format.specs.declared.maker.Header.{Header}
use Rattle.module_format.specs.GuestModule.{made_module, code_offset, crc_bytes, guest_size, is_program_kind, kind_header_length}
use Rattle.asm_model.specs.declared.error.AsmError.TheVariants.{NoModule}
use Rattle.asm_model.specs.Operands.{modulo, filled}
use Rattle.asm_model.specs.Instructions.{Shape, shape_length, with_tail}
use Rattle.asm_model.specs.Statements.{Action, label_alone, instruction, module_start, module_end, equals, byte_list, word_list, characters, system_call, ModuleFields, is_module_name, LineRead, skipped, broken, stated, source_lines}
use Rattle.asm_model.specs.Placement.{Reached, FieldText, start, reached_from, meaning_of, term_value, value_at, constant_value, action_length, action_values, is_start, is_end, SourceFault, fault_on, source_fault}
use Rattle.asm_text.specs.Tails.{tail_by}

-- ---- the statements, each at its offset

pub record Placed : Type 0 where
  pub offset : ℕ
  pub action : Action

abbrev pub placed_at : ℕ → Action → Placed
placed_at offset action = record { offset = offset; action = action }

-- the statements of lines, the first at this offset, each after the one before
abbrev pub placed_from : ℕ → List LineRead → List Placed
placed_from offset [] = []
placed_from offset (skipped ∷ ls) = placed_from offset ls
placed_from offset (broken name ∷ ls) = placed_from offset ls
placed_from offset (stated s ∷ ls) =
    placed_at offset s.action ∷ placed_from (offset + action_length s.action) ls

abbrev pub placed : List ℕ → List Placed
placed source = placed_from 0 (source_lines source)

-- the statements without their offsets
abbrev pub actions_of : List LineRead → List Action
actions_of [] = []
actions_of (skipped ∷ ls) = actions_of ls
actions_of (broken name ∷ ls) = actions_of ls
actions_of (stated s ∷ ls) = s.action ∷ actions_of ls

-- ---- what statements mean, if the whole source reaches this

-- the value of an expression at an offset, 0 if it has none
abbrev pub value_there : Reached → ℕ → List ℕ → ℤ
value_there all offset text = unwrap_or (value_at all.labels (Some offset) text) (pos 0)

abbrev pub byte_there : Reached → ℕ → List ℕ → ℕ
byte_there all offset text = modulo 256 (value_there all offset text)

abbrev pub word_there : Reached → ℕ → List ℕ → ℕ
word_there all offset text = modulo 65536 (value_there all offset text)

-- the instruction of a shape at an offset, if its value is known and in range
abbrev pub instr_there : Reached → ℕ → Shape → Option Instr
instr_there all offset s =
    option_map (with_tail s)
    (tail_by (term_value all.labels (Some offset)) s.operand.wanted (offset + shape_length s) s.operand.expression)

-- the bytes of a statement; those of `mod` and `emod` are the module's
abbrev pub action_bytes : Reached → ℕ → Action → List ℕ
action_bytes all offset label_alone = []
action_bytes all offset (instruction s) = option_map_or spelling (instr_there all offset s) []
action_bytes all offset (module_start m) = []
action_bytes all offset module_end = []
action_bytes all offset (equals text) = []
action_bytes all offset (byte_list texts) = map (byte_there all offset) texts
action_bytes all offset (word_list texts) = flat_map (λ text. word_bytes (word_there all offset text)) texts
action_bytes all offset (characters text) = text
action_bytes all offset (system_call text) = 0x10 ∷ 0x3F ∷ byte_there all offset text ∷ []

abbrev pub placed_bytes : Reached → Placed → List ℕ
placed_bytes all p = action_bytes all p.offset p.action

-- the bytes between the name and the CRC
abbrev pub code_of : Reached → List Placed → List ℕ
code_of all ps = flat_map (placed_bytes all) ps

-- ---- the module

-- the operands of `mod`, if it is the first statement
abbrev pub start_of : Action → Option ModuleFields
start_of (module_start m) = Some m
start_of _ = None

abbrev pub first_start : List Action → Option ModuleFields
first_start [] = None
first_start (action ∷ actions) = start_of action

abbrev pub is_empty : List Action → Bool
is_empty [] = true
is_empty (action ∷ actions) = false

-- the last of these statements is `emod`, and no other one is `mod` or `emod`
abbrev pub is_closed : List Action → Bool
is_closed [] = false
is_closed (action ∷ actions) =
    if is_end action then is_empty actions else (not (is_start action) && is_closed actions)

-- the first statement is `mod` and the last `emod`, each once
abbrev pub is_framed : List Action → Bool
is_framed [] = false
is_framed (action ∷ actions) = is_start action && is_closed actions

-- the value of an expression at an offset is known, and in the range of its field before this next instruction
abbrev pub is_text_filled : Reached → ℕ → ℕ → FieldText → Bool
is_text_filled all offset next v =
    is_some (option_and_then (filled v.field next) (value_at all.labels (Some offset) v.text))

-- the values of a statement are known and in range
abbrev pub is_filled : Reached → Placed → Bool
is_filled all p =
    list_all (is_text_filled all p.offset (p.offset + action_length p.action)) (action_values p.action)

-- the type and the language that `mod` gives
abbrev pub kind_of : ModuleFields → ℕ
kind_of m = modulo 256 (constant_value m.kind)

-- the header that `mod` gives, of a module with this entry
abbrev pub header_with : Reached → ModuleFields → ℕ → Header
header_with all m entry = record {
  kind = kind_of m;
  attr = byte_there all 0 m.attributes;
  entry = entry;
  storage = word_there all 0 m.storage;
}

-- the value of the label `start`
abbrev pub start_value : Reached → Option ℤ
start_value all = option_and_then (λ m. m.value) (meaning_of all.labels (codes "start"))

-- an offset below this end
abbrev pub offset_below : ℕ → Option ℤ → Option ℕ
offset_below end (Some (pos n)) = if nat_lt n end then Some n else None
offset_below end _ = None

-- the entry of a module of this type that ends there: for a program the label `start`, if it is before the CRC; for
-- another module 0
abbrev pub entry_below : Reached → ℕ → ℕ → Option ℕ
entry_below all kind end = if is_program_kind kind then offset_below end (start_value all) else Some 0

abbrev pub entry_of : Reached → ModuleFields → List ℕ → Option ℕ
entry_of all m code = entry_below all (kind_of m) (code_offset m.name (kind_of m) + length code)

-- the module of this code, if it has a valid name, is not too long and has an entry
abbrev pub module_with : Reached → ModuleFields → List ℕ → Option (List ℕ)
module_with all m code =
    if is_module_name m.name && nat_le (guest_size m.name (kind_of m) code) MOST_GROUP_BYTES
    then option_map (λ entry. made_module m.name (header_with all m entry) code) (entry_of all m code) else None

-- the code of statements, if their values are known and in range
abbrev pub code_if_filled : Reached → List Placed → Option (List ℕ)
code_if_filled all ps = if list_all (is_filled all) ps then Some (code_of all ps) else None

-- the module of lines whose statements are between `mod` and `emod`, with values that are known and in range
abbrev pub module_of : Reached → List LineRead → Option (List ℕ)
module_of all ls =
    if is_framed (actions_of ls)
    then option_and_then
    (λ m. option_and_then (module_with all m) (code_if_filled all (placed_from 0 ls))) (first_start (actions_of ls))
    else None

-- the module, or the fault that there is none
abbrev pub or_no_module : Option (List ℕ) → Result (List ℕ) SourceFault
or_no_module (Some bytes) = Ok bytes
or_no_module None = Err (fault_on 0 NoModule)

abbrev pub or_fault : Option SourceFault → Option (List ℕ) → Result (List ℕ) SourceFault
or_fault (Some fault) made = Err fault
or_fault None made = or_no_module made

-- the module that a source makes, or the first line that breaks a rule and the least rule that it breaks; line 0 if no
-- line breaks a rule but there is no module
unfoldable pub outcome_of : List ℕ → Result (List ℕ) SourceFault
outcome_of source =
    let lines = source_lines source in or_fault (source_fault source) (module_of (reached_from start lines) lines)

-- ---- the law

-- these bytes are at an offset
abbrev pub StandAt : List ℕ → ℕ → List ℕ → Type 0
StandAt bytes offset part = take (length part) (drop offset bytes) ≡ part

-- a statement is at its offset: an instruction is read there as what it spells, `mod` has its name after the
-- header, `emod` is the CRC of the bytes above it, and another statement has its bytes there
abbrev pub action_stands : Reached → List ℕ → ℕ → Action → Type 0
action_stands all bytes offset (instruction s) =
    IsSomeAnd (instr_there all offset s) (λ i. reading (drop offset bytes) ≡ Ok (i, shape_length s))
action_stands all bytes offset (module_start m) =
    StandAt bytes (offset + kind_header_length (kind_of m)) (marked_name m.name)
action_stands all bytes offset module_end = StandAt bytes offset (crc_bytes (crc_of (take offset bytes)))
action_stands all bytes offset action = StandAt bytes offset (action_bytes all offset action)

abbrev pub HasStatement : Reached → List ℕ → Placed → Type 0
HasStatement all bytes p = action_stands all bytes p.offset p.action

-- the header says what `mod` says, and a program begins at `start`
pub record Says (all : Reached) (m : ModuleFields) (info : ModuleInfo) : Type 0 where
  pub name : info.name ≡ m.name
  pub kind : info.kind ≡ kind_of m
  pub attributes : info.attr ≡ byte_there all 0 m.attributes
  pub entry : is_program_kind (kind_of m) ≡ true → start_value all ≡ Some (pos info.entry)
  pub storage : is_program_kind (kind_of m) ≡ true → info.storage ≡ word_there all 0 m.storage

-- what all lines of a source reach
abbrev pub reached_by : List ℕ → Reached
reached_by source = reached_from start (source_lines source)

-- the bytes are the module that a source makes
pub record Assembled (source bytes : List ℕ) : Type 0 where
  -- no line breaks a rule
  pub right : source_fault source ≡ None
  -- the bytes are a module of the length in its header
  pub is_module : IsModule bytes
  -- the header says what the first statement does
  pub says : IsSomeAnd (first_start (actions_of (source_lines source)))
      (λ m. Says (reached_by source) m (info_at 0 bytes))
  -- each statement is at its offset
  pub stands : All (HasStatement (reached_by source) bytes) (placed source)
  -- and there is nothing between or after them
  pub ends : sum_by (λ p. action_length p.action) (placed source) ≡ length bytes
