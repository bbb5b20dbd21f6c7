-- The instructions of a source are those of its words and operands.
use Rattle.std.proofs.Common.{◌≡◌, ℕ, Bool, true, false, Option, Some, None, List, [], ◌∷◌, map, not, refl}
use Rattle.std.specs.Prelude.{option_map, if◌then◌else◌}
use Rattle.std.specs.List.{slice_split, list_all}
use Rattle.os9_base.specs.Name.{marked_name}
use Rattle.text_values.specs.Cuts.{first_word, behind_word, without_spaces}
use Rattle.asm_model.specs.declared.directive.Directive.{Directive}
use Rattle.asm_model.specs.declared.directive.Directive.TheVariants.{Mod, Emod, Equ, Fcb, Fdb, Fcc, Fcs, Os9}
use Rattle.asm_model.specs.Characters.{is_comma, is_line_byte}
use Rattle.asm_model.specs.Expressions.{is_label}
use Rattle.asm_model.specs.Instructions.{Shape, shape_of}
use Rattle.asm_model.specs.Statements.{Action, label_alone, instruction, module_start, module_end, equals, byte_list, word_list, characters, system_call, is_expression, module_fields, expression_list, quoted, directive_of, directive_action, directive_or_instruction, action_of, LineRead, skipped, broken, stated, statement, is_skipped, after_label, labelled, line_read}

-- an instruction is that of a word and an operand
abbrev pub IsShaped : Action → Type 0
IsShaped (instruction s) = (word : List ℕ) × (text : List ℕ) × (shape_of word text ≡ Some s)
IsShaped _ = Unit {0}

abbrev IfShaped : Option Action → Type 0
IfShaped None = Unit {0}
IfShaped (Some action) = IsShaped action

abbrev pub HasShape : LineRead → Type 0
HasShape (stated s) = IsShaped s.action
HasShape _ = Unit {0}

abbrev pub AreShaped : List LineRead → Type 0
AreShaped [] = Unit {0}
AreShaped (l ∷ ls) = HasShape l × AreShaped ls

if_shaped : (b : Bool) (action : Action) → IsShaped action → IfShaped (if b then Some action else None)
if_shaped true action shaped = shaped
if_shaped false action shaped = tt

map_shaped : {A : Type 0} (action : A → Action) → ((x : A) → IsShaped (action x)) → (o : Option A) → IfShaped (option_map action o)
map_shaped action shaped None = tt
map_shaped action shaped (Some x) = shaped x

fields_shaped : (parts : List (List ℕ)) → IfShaped (module_fields parts)
fields_shaped [] = tt
fields_shaped (name ∷ []) = tt
fields_shaped (name ∷ kind ∷ []) = tt
fields_shaped (name ∷ kind ∷ attributes ∷ []) = tt
fields_shaped (name ∷ kind ∷ attributes ∷ storage ∷ []) =
    if_shaped _ (module_start (record { name = name; kind = kind; attributes = attributes; storage = storage })) tt
fields_shaped (name ∷ kind ∷ attributes ∷ storage ∷ more ∷ rest) = tt

directive_shaped : (d : Directive) (rest : List ℕ) → IfShaped (directive_action d rest)
directive_shaped Mod rest = fields_shaped (slice_split is_comma (first_word rest))
directive_shaped Emod rest = tt
directive_shaped Equ rest = if_shaped (is_expression (first_word rest)) (equals (first_word rest)) tt
directive_shaped Fcb rest = map_shaped byte_list (λ texts. tt) (expression_list (first_word rest))
directive_shaped Fdb rest = map_shaped word_list (λ texts. tt) (expression_list (first_word rest))
directive_shaped Fcc rest = map_shaped characters (λ text. tt) (quoted rest)
directive_shaped Fcs rest = map_shaped (λ (text : List ℕ). characters (marked_name text)) (λ text. tt) (quoted rest)
directive_shaped Os9 rest = if_shaped (is_expression (first_word rest)) (system_call (first_word rest)) tt

shape_shaped : (word text : List ℕ) (o : Option Shape) → shape_of word text ≡ o → IfShaped (option_map instruction o)
shape_shaped word text None is = tt
shape_shaped word text (Some s) is = (word, text, is)

word_shaped : (d : Option Directive) (word rest : List ℕ) → IfShaped (directive_or_instruction d word rest)
word_shaped None word rest = shape_shaped word (first_word rest) (shape_of word (first_word rest)) refl
word_shaped (Some d) word rest = directive_shaped d rest

statement_shaped : (name : Option (List ℕ)) (action : Option Action) → IfShaped action → HasShape (statement name action)
statement_shaped None None shaped = tt
statement_shaped (Some name) None shaped = tt
statement_shaped (Some name) (Some action) shaped = shaped
statement_shaped None (Some label_alone) shaped = tt
statement_shaped None (Some (instruction s)) shaped = shaped
statement_shaped None (Some (module_start m)) shaped = tt
statement_shaped None (Some module_end) shaped = tt
statement_shaped None (Some (equals text)) shaped = tt
statement_shaped None (Some (byte_list texts)) shaped = tt
statement_shaped None (Some (word_list texts)) shaped = tt
statement_shaped None (Some (characters text)) shaped = tt
statement_shaped None (Some (system_call text)) shaped = tt

-- the statement of a word and the rest of its line
worded : (name : Option (List ℕ)) (rest : List ℕ) → HasShape (statement name (action_of (first_word rest) (without_spaces (behind_word rest))))
worded name rest =
    statement_shaped name (action_of (first_word rest) (without_spaces (behind_word rest)))
    (word_shaped (directive_of (first_word rest)) (first_word rest) (without_spaces (behind_word rest)))

rest_shaped : (name : Option (List ℕ)) (rest : List ℕ) → HasShape (after_label name rest)
rest_shaped None [] = tt
rest_shaped (Some name) [] = tt
rest_shaped None (c ∷ text) = worded None (c ∷ text)
rest_shaped (Some name) (c ∷ text) = worded (Some name) (c ∷ text)

choice : (b : Bool) (x y : LineRead) → HasShape x → HasShape y → HasShape (if b then x else y)
choice true x y first second = first
choice false x y first second = second

labelled_shaped : (name rest : List ℕ) → HasShape (labelled name rest)
labelled_shaped [] rest = rest_shaped None rest
labelled_shaped (c ∷ name) rest =
    choice (is_label (c ∷ name)) (after_label (Some (c ∷ name)) rest) (broken None) (rest_shaped (Some (c ∷ name)) rest) tt

line_shaped : (line : List ℕ) → HasShape (line_read line)
unfolding line_read
line_shaped line =
    let rest : LineRead = labelled (first_word line) (without_spaces (behind_word line)) in
    choice (not (list_all is_line_byte line)) (broken None) (if is_skipped line then skipped else rest) tt
    (choice (is_skipped line) skipped rest tt (labelled_shaped (first_word line) (without_spaces (behind_word line))))

pub lines_shaped : (lines : List (List ℕ)) → AreShaped (map line_read lines)
lines_shaped [] = tt
lines_shaped (line ∷ lines) = (line_shaped line, lines_shaped lines)
