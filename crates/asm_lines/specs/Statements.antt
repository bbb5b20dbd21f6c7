-- The lines that are a statement, by their texts (this project's own, in the manner of the usual assemblers
-- of the 6809).
use Rattle.std.specs.Prelude.{◌≡◌, ℕ, Bool, true, false, Option, Some, None, List, [], ◌∷◌, ◌++◌, ℤ}
use Rattle.std.specs.List.{list_all, list_any}
use Rattle.os9_base.specs.Name.{marked_name}
use Rattle.cpu_model.specs.declared.instruction.Instr.{Instr}
use Rattle.text_values.specs.Cuts.{is_space, behind_word, without_spaces}
use Rattle.asm_model.specs.declared.directive.Directive.{Directive}
use Rattle.asm_model.specs.declared.directive.Directive.TheVariants as directive
use Rattle.asm_model.specs.Characters.{is_line_byte, is_quote, same_word}
use Rattle.asm_model.specs.Expressions.{is_label}
use Rattle.asm_model.specs.Instructions.{Shape, shape_instr}
use Rattle.asm_model.specs.Statements.{Action, label_alone, instruction, module_start, module_end, equals, byte_list, word_list, characters, system_call, ModuleFields, Statement, is_module_name, directive_word, stated, line_read}
use Rattle.asm_lines.specs.Sums.{HasValue}
use Rattle.asm_lines.specs.Expressions.{IsExpression, IsExpressionList}
use Rattle.asm_lines.specs.Instructions.{EndsThere, IsShape}

-- ---- operands

-- a text is an operand, with an optional comment after a space; without an operand there is no comment
pub record IsOperandAndComment (operand text : List ℕ) : Type 0 where
  pub comment : List ℕ
  pub text_is : text ≡ operand ++ comment
  pub one_operand : list_any is_space operand ≡ false
  pub comment_apart : EndsThere comment
  pub comment_last : operand ≡ [] → comment ≡ []

-- a text is characters in quotes, with an optional comment after a space
pub record IsQuoted (quote text : List ℕ) : Type 0 where
  pub comment : List ℕ
  pub text_is : text ≡ 34 ∷ (quote ++ (34 ∷ comment))
  pub no_quote : list_any is_quote quote ≡ false
  pub comment_apart : EndsThere comment

-- NAME,KIND,ATTRIBUTES,STORAGE; KIND has numbers alone
pub record IsModuleOperand (m : ModuleFields) (operand : List ℕ) : Type 0 where
  pub operand_is : operand ≡ m.name ++ (44 ∷ (m.kind ++ (44 ∷ (m.attributes ++ (44 ∷ m.storage)))))
  pub name : is_module_name m.name ≡ true
  pub kind_value : ℤ
  pub kind : HasValue m.kind kind_value
  pub attributes : IsExpression m.attributes
  pub storage : IsExpression m.storage

-- ---- words

-- the word of a directive, in any case of letters
abbrev pub Is : Directive → List ℕ → Type 0
Is d word = same_word (directive_word d) word ≡ true

-- the action of a word and the text that follows it
pub data IsAction (word text : List ℕ) : Action → Type 0 where
  instructs : {operand : List ℕ} {s : Shape} → IsOperandAndComment operand text → IsShape word operand s
      → IsAction word text (instruction s)
  starts : {operand : List ℕ} {m : ModuleFields} → Is directive.Mod word → IsOperandAndComment operand text
      → IsModuleOperand m operand → IsAction word text (module_start m)
  ends : Is directive.Emod word → IsAction word text module_end
  gives : {e : List ℕ} → Is directive.Equ word → IsOperandAndComment e text → IsExpression e
      → IsAction word text (equals e)
  bytes : {operand : List ℕ} {es : List (List ℕ)} → Is directive.Fcb word → IsOperandAndComment operand text
      → IsExpressionList operand es → IsAction word text (byte_list es)
  words : {operand : List ℕ} {es : List (List ℕ)} → Is directive.Fdb word → IsOperandAndComment operand text
      → IsExpressionList operand es → IsAction word text (word_list es)
  quotes : {quote : List ℕ} → Is directive.Fcc word → IsQuoted quote text → IsAction word text (characters quote)
  marks : {quote : List ℕ} → Is directive.Fcs word → IsQuoted quote text
      → IsAction word text (characters (marked_name quote))
  calls : {e : List ℕ} → Is directive.Os9 word → IsOperandAndComment e text → IsExpression e
      → IsAction word text (system_call e)

-- ---- lines

-- the first column: nothing, or a label
pub data IsColumn : List ℕ → Option (List ℕ) → Type 0 where
  no_label : IsColumn [] None
  a_label : {name : List ℕ} → is_label name ≡ true → IsColumn name (Some name)

-- `equ` needs a label
abbrev pub may_have : Option (List ℕ) → Action → Bool
may_have None (equals e) = false
may_have label action = true

-- what follows the first column and spaces: nothing after a label, or a word, spaces and its operand
pub data IsBody : List ℕ → Option (List ℕ) → Action → Type 0 where
  label_only : {name : List ℕ} → IsBody [] (Some name) label_alone
  asks : {label : Option (List ℕ)} {action : Action} (c : ℕ) (word spaces text : List ℕ)
      → list_any is_space (c ∷ word) ≡ false → list_all is_space spaces ≡ true → EndsThere (spaces ++ text)
      → IsAction (c ∷ word) text action → may_have label action ≡ true
      → IsBody ((c ∷ word) ++ (spaces ++ text)) label action

-- the line is this statement
pub record IsStatement (line : List ℕ) (s : Statement) : Type 0 where
  pub column : List ℕ
  pub spaces : List ℕ
  pub body : List ℕ
  pub line_is : line ≡ column ++ (spaces ++ body)
  pub shown : list_all is_line_byte line ≡ true
  pub column_is : IsColumn column s.name
  pub one_column : list_any is_space column ≡ false
  pub all_spaces : list_all is_space spaces ≡ true
  pub apart : EndsThere (spaces ++ body)
  pub body_is : IsBody body s.name s.action

-- ---- instructions without labels

-- the statement of this label, if there is one, and this action
abbrev pub stating : Option (List ℕ) → Action → Statement
stating name action = record { name = name; action = action }

-- a line without its label and the spaces that follow it
abbrev pub behind_label : List ℕ → List ℕ
behind_label line = without_spaces (behind_word line)

-- the line after a space states this instruction for this offset
pub record States (line : List ℕ) (at : ℕ) (i : Instr) : Type 0 where
  pub its : Shape
  pub is : line_read (32 ∷ line) ≡ stated (stating None (instruction its))
  pub value : shape_instr at its ≡ Some i
