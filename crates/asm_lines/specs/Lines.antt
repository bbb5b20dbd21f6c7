-- The meaning of lines that were read, independent of where their texts are in memory.
use Rattle.std.specs.Prelude.{ℕ, ◌&&◌, Bool, option_map, List}
use Rattle.std.specs.List.{slice_split}
use Rattle.os9_base.specs.Name.{marked_name}
use Rattle.asm_model.specs.Characters.{is_comma}
use Rattle.asm_model.specs.Statements as model
use Rattle.asm_text.specs.Views.{shape_as}
use Rattle.asm_lines.specs.declared.operands.ModuleFields.{ModuleFields}
use Rattle.asm_lines.specs.declared.operands.Action.{Action}
use Rattle.asm_lines.specs.declared.operands.Action.TheVariants.{LabelAlone, Instruction, ModuleStart, ModuleEnd, Equals, ByteList, WordList, Characters, MarkedCharacters, SystemCall}
use Rattle.asm_lines.specs.declared.line.Statement.{Statement}
use Rattle.asm_lines.specs.declared.line.Line.{Line}
use Rattle.asm_lines.specs.declared.line.Line.TheVariants.{Skipped, Broken, Stated}

-- expressions separated by commas
abbrev pub list_said : List ℕ → List (List ℕ)
list_said text = slice_split is_comma text

abbrev pub fields_said : ModuleFields → model.ModuleFields
fields_said m =
    record { name = m.name.now; kind = m.kind.now; attributes = m.attributes.now; storage = m.storage.now }

abbrev pub action_said : Action → model.Action
action_said LabelAlone = model.label_alone
action_said (Instruction s) = model.instruction (shape_as s)
action_said (ModuleStart m) = model.module_start (fields_said m)
action_said ModuleEnd = model.module_end
action_said (Equals text) = model.equals text.now
action_said (ByteList text) = model.byte_list (list_said text.now)
action_said (WordList text) = model.word_list (list_said text.now)
action_said (Characters text) = model.characters text.now
action_said (MarkedCharacters text) = model.characters (marked_name text.now)
action_said (SystemCall text) = model.system_call text.now

abbrev pub statement_said : Statement → model.Statement
statement_said s = record { name = option_map (λ name. name.now) s.name; action = action_said s.action }

abbrev pub line_said : Line → model.LineRead
line_said Skipped = model.skipped
line_said (Broken name) = model.broken (option_map (λ n. n.now) name)
line_said (Stated s) = model.stated (statement_said s)

-- the operands of `mod` are a name, an expression of numbers and two expressions
abbrev pub are_right : model.ModuleFields → Bool
are_right m =
    model.is_module_name m.name && model.is_constant_expression m.kind && model.is_expression m.attributes
    && model.is_expression m.storage
