-- The statements of a source, line by line (this project's own, in the manner of the usual assemblers of the 6809).
use Rattle.std.specs.Prelude.{ℕ, ◌&&◌, not, Bool, true, false, Option, Some, None, is_some, option_map, List, [], ◌∷◌, map, codes, if◌then◌else◌}
use Rattle.std.specs.List.{slice_split, list_all, list_any, before_first, after_first, find}
use Rattle.std.specs.Option.{option_map_or}
use Rattle.os9_base.specs.Name.{is_name_character, if_name, marked_name}
use Rattle.text_values.specs.Cuts.{is_space, first_word, behind_word, without_spaces}
use Rattle.asm_model.specs.declared.directive.Directive.{Directive}
use Rattle.asm_model.specs.declared.directive.Directive.TheVariants.{Mod, Emod, Equ, Fcb, Fdb, Fcc, Fcs, Os9}
use Rattle.asm_model.specs.Characters.{is_line_byte, is_line_feed, is_quote, is_star, is_comma, same_word}
use Rattle.asm_model.specs.Expressions.{Term, constant, terms, is_label}
use Rattle.asm_model.specs.Instructions.{Shape, shape_of}

-- the operands of `mod`
pub record ModuleFields : Type 0 where
  pub name : List ℕ
  pub kind : List ℕ
  pub attributes : List ℕ
  pub storage : List ℕ

-- the action of a statement; expressions are texts
pub data Action : Type 0 where
  label_alone : Action
  instruction : Shape → Action
  module_start : ModuleFields → Action
  module_end : Action
  equals : List ℕ → Action
  byte_list : List (List ℕ) → Action
  word_list : List (List ℕ) → Action
  characters : List ℕ → Action
  system_call : List ℕ → Action

-- a label, if there is one, and an action
pub record Statement : Type 0 where
  pub name : Option (List ℕ)
  pub action : Action

-- ---- operands of directives

abbrev pub is_expression : List ℕ → Bool
is_expression text = is_some (terms text)

abbrev pub is_constant : Term → Bool
is_constant (constant n) = true
is_constant _ = false

-- an expression of numbers alone
abbrev pub is_constant_expression : List ℕ → Bool
is_constant_expression text = option_map_or (list_all (λ t. is_constant t.term)) (terms text) false

-- a name whose characters F$PrsNam accepts
abbrev pub is_module_name : List ℕ → Bool
is_module_name name = is_some (if_name name) && list_all is_name_character name

-- NAME,KIND,ATTR,STORAGE; KIND has numbers alone, so that the line by itself gives the length of the header
abbrev pub module_fields : List (List ℕ) → Option Action
module_fields (name ∷ kind ∷ attributes ∷ storage ∷ []) =
    if is_module_name name && is_constant_expression kind && is_expression attributes && is_expression storage
    then Some (module_start (record { name = name; kind = kind; attributes = attributes; storage = storage })) else None
module_fields _ = None

-- one or more expressions, separated by commas
abbrev pub expression_list : List ℕ → Option (List (List ℕ))
expression_list text =
    if list_all is_expression (slice_split is_comma text) then Some (slice_split is_comma text) else None

abbrev pub ends_there : List ℕ → Bool
ends_there [] = true
ends_there (c ∷ rest) = is_space c

-- the characters between quotes, if a space or the end of the line follows them
abbrev pub quoted : List ℕ → Option (List ℕ)
quoted [] = None
quoted (c ∷ text) =
    if is_quote c && list_any is_quote text && ends_there (after_first is_quote text)
    then Some (before_first is_quote text) else None

abbrev pub if_expression : (List ℕ → Action) → List ℕ → Option Action
if_expression action text = if is_expression text then Some (action text) else None

-- ---- words

abbrev pub directive_word : Directive → List ℕ
directive_word Mod = codes "MOD"
directive_word Emod = codes "EMOD"
directive_word Equ = codes "EQU"
directive_word Fcb = codes "FCB"
directive_word Fdb = codes "FDB"
directive_word Fcc = codes "FCC"
directive_word Fcs = codes "FCS"
directive_word Os9 = codes "OS9"

abbrev pub directives : List Directive
directives = Mod ∷ Emod ∷ Equ ∷ Fcb ∷ Fdb ∷ Fcc ∷ Fcs ∷ Os9 ∷ []

-- the directive of this word in any case of letters
abbrev pub directive_of : List ℕ → Option Directive
directive_of word = find (λ d. same_word (directive_word d) word) directives

-- the action of a directive with this rest of its line, if its operand is valid
abbrev pub directive_action : Directive → List ℕ → Option Action
directive_action Mod rest = module_fields (slice_split is_comma (first_word rest))
directive_action Emod rest = Some module_end
directive_action Equ rest = if_expression equals (first_word rest)
directive_action Fcb rest = option_map byte_list (expression_list (first_word rest))
directive_action Fdb rest = option_map word_list (expression_list (first_word rest))
directive_action Fcc rest = option_map characters (quoted rest)
directive_action Fcs rest = option_map (λ text. characters (marked_name text)) (quoted rest)
directive_action Os9 rest = if_expression system_call (first_word rest)

abbrev pub directive_or_instruction : Option Directive → List ℕ → List ℕ → Option Action
directive_or_instruction (Some d) word rest = directive_action d rest
directive_or_instruction None word rest = option_map instruction (shape_of word (first_word rest))

-- the action of a word with this rest of its line, if they are valid
abbrev pub action_of : List ℕ → List ℕ → Option Action
action_of word rest = directive_or_instruction (directive_of word) word rest

-- ---- lines

-- what is read from a line: a broken line still gives its label
pub data LineRead : Type 0 where
  skipped : LineRead
  broken : Option (List ℕ) → LineRead
  stated : Statement → LineRead

-- an empty line, and one that begins with `*`
abbrev pub is_skipped : List ℕ → Bool
is_skipped [] = true
is_skipped (c ∷ line) = is_star c

-- `equ` needs a label
abbrev pub statement : Option (List ℕ) → Option Action → LineRead
statement name None = broken name
statement None (Some (equals text)) = broken None
statement name (Some action) = stated (record { name = name; action = action })

-- what is read from the rest of a line, after its label or its leading spaces
abbrev pub after_label : Option (List ℕ) → List ℕ → LineRead
after_label None [] = broken None
after_label (Some name) [] = stated (record { name = Some name; action = label_alone })
after_label name (c ∷ text) =
    statement name (action_of (first_word (c ∷ text)) (without_spaces (behind_word (c ∷ text))))

-- a line of a first column and the rest after it
abbrev pub labelled : List ℕ → List ℕ → LineRead
labelled [] rest = after_label None rest
labelled (c ∷ name) rest = if is_label (c ∷ name) then after_label (Some (c ∷ name)) rest else broken None

-- what is read from a line
unfoldable pub line_read : List ℕ → LineRead
line_read line =
    if not (list_all is_line_byte line) then broken None
    else (if is_skipped line then skipped else labelled (first_word line) (without_spaces (behind_word line)))

-- the lines of a source; the last may lack its line feed
abbrev pub source_lines : List ℕ → List LineRead
source_lines source = map line_read (slice_split is_line_feed source)
