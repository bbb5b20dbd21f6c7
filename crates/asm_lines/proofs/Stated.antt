-- What a source's lines state of instructions is what a line of an instruction alone is read as.
use Rattle.std.proofs.Common.{◌≡◌, ℕ, zero, suc, ◌&&◌, not, Bool, true, false, Option, Some, None, List, [], ◌∷◌, map, drop, refl, ap, sym, ◌∙◌}
use Rattle.std.specs.Prelude.{option_map, option_and_then, if◌then◌else◌}
use Rattle.std.specs.List.{slice_split, list_all, find, position_or_len}
use Rattle.std.specs.Str.{bytes_eq, str_to_ascii_lowercase}
use Rattle.std.proofs.lemmas.Bool.{and_parts}
use Rattle.os9_base.specs.Name.{marked_name}
use Rattle.cpu_model.specs.declared.instruction.Instr.{Instr}
use Rattle.cpu_model.specs.BasePage.{base_page}
use Rattle.cpu_model.specs.TenPage.{ten_page}
use Rattle.cpu_model.specs.ElevenPage.{eleven_page}
use Rattle.text_values.specs.Cuts.{is_space, first_word, behind_word, without_spaces}
use Rattle.asm_model.specs.declared.directive.Directive.{Directive}
use Rattle.asm_model.specs.declared.directive.Directive.TheVariants.{Mod, Emod, Equ, Fcb, Fdb, Fcc, Fcs, Os9}
use Rattle.asm_model.specs.declared.operand.Mark.{Mark}
use Rattle.asm_model.specs.declared.operand.Mark.TheVariants as mark
use Rattle.asm_model.specs.Characters.{is_line_byte, is_comma, same_word}
use Rattle.asm_model.specs.Mnemonics.{row_word}
use Rattle.asm_model.specs.Expressions.{is_label}
use Rattle.asm_model.specs.Operands.{mark_of, fits, row_operand}
use Rattle.asm_model.specs.Instructions.{Entry, is_entry, opcode_map, entry_of, Shape, shape_of, shape_with, shape_instr, operand_text, worded_instr, instr_of}
use Rattle.asm_model.specs.Statements.{Action, instruction, module_start, module_end, equals, byte_list, word_list, characters, system_call, label_alone, is_module_name, is_constant_expression, is_expression, module_fields, expression_list, quoted, directive_word, directives, directive_of, directive_action, directive_or_instruction, action_of, LineRead, skipped, broken, stated, is_skipped, statement, after_label, labelled, line_read}
use Rattle.asm_model.proofs.Entries.{on_elements}
use Rattle.asm_lines.specs.Statements.{stating, behind_label, States}
use Rattle.asm_lines.proofs.Names.{bytes_same}
use Rattle.asm_lines.proofs.Lists.{found-passes, found-in}
use Rattle.asm_lines.proofs.Lines.{first-none, behind-whole, skip-space, skip-none}

-- ---- no directive is an instruction

-- the shape that an action is of
abbrev shape_in : Option Action → Option Shape
shape_in (Some (instruction s)) = Some s
shape_in _ = None

if-none : (b : Bool) (a : Action) → shape_in (Some a) ≡ None → shape_in (if b then Some a else None) ≡ None
if-none true a is = is
if-none false a is = refl

map-none : {A : Type 0} (f : A → Action) (o : Option A) → ((x : A) → shape_in (Some (f x)) ≡ None) → shape_in (option_map f o) ≡ None
map-none f None none = refl
map-none f (Some x) none = none x

fields-none : (parts : List (List ℕ)) → shape_in (module_fields parts) ≡ None
fields-none [] = refl
fields-none (a ∷ []) = refl
fields-none (a ∷ b ∷ []) = refl
fields-none (a ∷ b ∷ c ∷ []) = refl
fields-none (a ∷ b ∷ c ∷ d ∷ []) =
    if-none (is_module_name a && is_constant_expression b && is_expression c && is_expression d) (module_start (record { name = a; kind = b; attributes = c; storage = d })) refl
fields-none (a ∷ b ∷ c ∷ d ∷ e ∷ parts) = refl

directive-none : (d : Directive) (rest : List ℕ) → shape_in (directive_action d rest) ≡ None
directive-none Mod rest = fields-none (slice_split is_comma (first_word rest))
directive-none Emod rest = refl
directive-none Equ rest = if-none (is_expression (first_word rest)) (equals (first_word rest)) refl
directive-none Fcb rest = map-none byte_list (expression_list (first_word rest)) (λ x. refl)
directive-none Fdb rest = map-none word_list (expression_list (first_word rest)) (λ x. refl)
directive-none Fcc rest = map-none characters (quoted rest) (λ x. refl)
directive-none Fcs rest = map-none (λ text. characters (marked_name text)) (quoted rest) (λ x. refl)
directive-none Os9 rest = if-none (is_expression (first_word rest)) (system_call (first_word rest)) refl

-- ---- the shape of a statement is that of its word and operand

shape-again : (o : Option Shape) → shape_in (option_map instruction o) ≡ o
shape-again None = refl
shape-again (Some s) = refl

by-directive : (d : Option Directive) (word rest : List ℕ) (s : Shape) → shape_in (directive_or_instruction d word rest) ≡ Some s → shape_of word (first_word rest) ≡ Some s
by-directive (Some d) word rest s is = let none : None ≡ Some s = sym (directive-none d rest) ∙ is in absurd (cc)
by-directive None word rest s is = sym (shape-again (shape_of word (first_word rest))) ∙ is

-- the shape that a line states
abbrev shape_stated : LineRead → Option Shape
shape_stated (stated s) = shape_in (Some s.action)
shape_stated _ = None

of-statement : (name : Option (List ℕ)) (action : Option Action) (s : Shape) → shape_stated (statement name action) ≡ Some s → shape_in action ≡ Some s
of-statement name None s is = absurd (cc)
of-statement None (Some label_alone) s is = is
of-statement None (Some (instruction t)) s is = is
of-statement None (Some (module_start m)) s is = is
of-statement None (Some module_end) s is = is
of-statement None (Some (equals text)) s is = absurd (cc)
of-statement None (Some (byte_list texts)) s is = is
of-statement None (Some (word_list texts)) s is = is
of-statement None (Some (characters text)) s is = is
of-statement None (Some (system_call text)) s is = is
of-statement (Some name) (Some action) s is = is

of-rest : (name : Option (List ℕ)) (rest : List ℕ) (s : Shape) → shape_stated (after_label name rest) ≡ Some s → shape_of (first_word rest) (operand_text rest) ≡ Some s
of-rest None [] s is = absurd (cc)
of-rest (Some name) [] s is = absurd (cc)
of-rest name (c ∷ text) s is =
    by-directive (directive_of (first_word (c ∷ text))) (first_word (c ∷ text)) (without_spaces (behind_word (c ∷ text))) s
    (of-statement name (action_of (first_word (c ∷ text)) (without_spaces (behind_word (c ∷ text)))) s is)

of-label : (column rest : List ℕ) (s : Shape) → shape_stated (labelled column rest) ≡ Some s → shape_of (first_word rest) (operand_text rest) ≡ Some s
of-label [] rest s is = of-rest None rest s is
of-label (c ∷ column) rest s is = by-label (is_label (c ∷ column)) is
  where
    by-label : (b : Bool) → shape_stated (if b then after_label (Some (c ∷ column)) rest else broken None) ≡ Some s → shape_of (first_word rest) (operand_text rest) ≡ Some s
    by-label true whole = of-rest (Some (c ∷ column)) rest s whole
    by-label false whole = absurd (cc)

drop-all : (p : ℕ → Bool) (n : ℕ) (text : List ℕ) → list_all p text ≡ true → list_all p (drop n text) ≡ true
drop-all p zero text all = all
drop-all p (suc n) [] all = refl
drop-all p (suc n) (c ∷ text) all = drop-all p n text (and_parts (p c) (list_all p text) all).1

read-alone : (text : List ℕ) (at : ℕ) (s : Shape) → list_all is_line_byte text ≡ true → shape_of (first_word text) (operand_text text) ≡ Some s → instr_of text at ≡ shape_instr at s
read-alone text at s shown is = ap (λ (b : Bool). if b then worded_instr text at else None) shown ∙ ap (option_and_then (shape_instr at)) is

line-steps : (line : List ℕ) (s : Shape) (at : ℕ) → shape_stated (line_read line) ≡ Some s → instr_of (behind_label line) at ≡ shape_instr at s
unfolding line_read
line-steps line s at is = by-bytes (list_all is_line_byte line) refl is
  where
    by-skipped : list_all is_line_byte line ≡ true → (b : Bool) → shape_stated (if b then skipped else labelled (first_word line) (behind_label line)) ≡ Some s →
        instr_of (behind_label line) at ≡ shape_instr at s
    by-skipped shown true whole = absurd (cc)
    by-skipped shown false whole =
        let rest : list_all is_line_byte (behind_label line) ≡ true =
        drop-all is_line_byte (position_or_len (λ byte. not (is_space byte)) (behind_word line)) (behind_word line) (drop-all is_line_byte (position_or_len is_space line) line shown) in
        read-alone (behind_label line) at s rest (of-label (first_word line) (behind_label line) s whole)

    by-bytes : (b : Bool) → list_all is_line_byte line ≡ b →
        shape_stated (if not b then broken None else (if is_skipped line then skipped else labelled (first_word line) (behind_label line))) ≡ Some s →
        instr_of (behind_label line) at ≡ shape_instr at s
    by-bytes true shown whole = by-skipped shown (is_skipped line) whole
    by-bytes false shown whole = absurd (cc)

pub stated-read : (line : List ℕ) (name : Option (List ℕ)) (s : Shape) (at : ℕ) → line_read line ≡ stated (stating name (instruction s)) → instr_of (behind_label line) at ≡ shape_instr at s
stated-read line name s at is = line-steps line s at (ap shape_stated is)

-- ---- what is read as an instruction is one statement

words-apart : map (λ e. directive_of (row_word e.line.row)) opcode_map ≡ map (λ e. None) opcode_map
unfolding opcode_map base_page ten_page eleven_page
words-apart = refl

no-word : (m : Mark) → entry_of [] m ≡ None
unfolding opcode_map entry_of base_page ten_page eleven_page
no-word mark.Immediate = refl
no-word mark.Indexed = refl
no-word mark.Direct = refl
no-word mark.Address = refl

pub no-directive : (word : List ℕ) (m : Mark) (e : Entry) → entry_of word m ≡ Some e → directive_of word ≡ None
unfolding entry_of
no-directive word m e is =
    let named = (and_parts (same_word (row_word e.line.row) word) (fits e.line.row m) (found-passes (is_entry word m) e opcode_map is)).0 in
    let same : str_to_ascii_lowercase (row_word e.line.row) ≡ str_to_ascii_lowercase word = bytes_same _ _ named in
    ap (λ (low : List ℕ). find (λ d. bytes_eq (str_to_ascii_lowercase (directive_word d)) low) directives) (sym same)
    ∙ on_elements (λ e. directive_of (row_word e.line.row)) (λ e. None) e opcode_map words-apart (found-in (is_entry word m) e opcode_map is)

module _ (c : ℕ) (text : List ℕ) (at : ℕ) (i : Instr) (shown : list_all is_line_byte (c ∷ text) ≡ true) where
  abbrev line : List ℕ
  line = c ∷ text

  abbrev rest : List ℕ
  rest = without_spaces (behind_word line)

  behind-space : is_space c ≡ false → line_read (32 ∷ line) ≡ statement None (action_of (first_word line) rest)
  unfolding line_read
  behind-space other =
      ap (λ (b : Bool). if not b then broken None else labelled (first_word (32 ∷ line)) (without_spaces (behind_word (32 ∷ line)))) shown
      ∙ ap (λ column. labelled column (without_spaces (behind_word (32 ∷ line)))) (first-none 32 line refl)
      ∙ ap (λ text. after_label None (without_spaces text)) (behind-whole 32 line refl)
      ∙ ap (after_label None) (skip-space 32 line refl ∙ skip-none c text other)

  states : is_space c ≡ false → (e : Entry) (s : Shape) → entry_of (first_word line) (mark_of (operand_text line)) ≡ Some e → shape_of (first_word line) (operand_text line) ≡ Some s →
      shape_instr at s ≡ Some i → States line at i
  states other e s entered shaped value = record {
    its = s;
    is =
        behind-space other
        ∙ ap (λ d. statement None (directive_or_instruction d (first_word line) rest)) (no-directive (first_word line) (mark_of (operand_text line)) e entered)
        ∙ ap (λ o. statement None (option_map instruction o)) shaped;
    value = value;
  }

  by-space : (e : Entry) (s : Shape) → entry_of (first_word line) (mark_of (operand_text line)) ≡ Some e → shape_of (first_word line) (operand_text line) ≡ Some s →
      shape_instr at s ≡ Some i → (b : Bool) → is_space c ≡ b → States line at i
  by-space e s entered shaped value true space =
      let none : None ≡ Some e = sym (ap (λ word. entry_of word (mark_of (operand_text line))) (first-none c text space) ∙ no-word (mark_of (operand_text line))) ∙ entered in
      absurd (cc)
  by-space e s entered shaped value false space = states space e s entered shaped value

  by-shape : (e : Entry) (o : Option Shape) → entry_of (first_word line) (mark_of (operand_text line)) ≡ Some e → shape_of (first_word line) (operand_text line) ≡ o →
      option_and_then (shape_instr at) o ≡ Some i → States line at i
  by-shape e None entered shaped whole = absurd (cc)
  by-shape e (Some s) entered shaped whole = by-space e s entered shaped whole (is_space c) refl

  by-entry : (o : Option Entry) → entry_of (first_word line) (mark_of (operand_text line)) ≡ o → worded_instr line at ≡ Some i → States line at i
  by-entry None entered whole =
      let none : worded_instr line at ≡ None =
      ap (λ e. option_and_then (shape_instr at) (option_and_then (λ e. option_map (shape_with e) (row_operand e.line.row (operand_text line))) e)) entered in
      let never : None ≡ Some i = sym none ∙ whole in
      absurd (cc)
  by-entry (Some e) entered whole = by-shape e (shape_of (first_word line) (operand_text line)) entered refl whole

by-bytes : (c : ℕ) (text : List ℕ) (at : ℕ) (i : Instr) (b : Bool) → list_all is_line_byte (c ∷ text) ≡ b → (if b then worded_instr (c ∷ text) at else None) ≡ Some i →
    States (c ∷ text) at i
by-bytes c text at i true shown whole =
    by-entry c text at i shown (entry_of (first_word (c ∷ text)) (mark_of (operand_text (c ∷ text)))) refl whole
by-bytes c text at i false shown whole = absurd (cc)

nothing-read : (at : ℕ) → instr_of [] at ≡ None
nothing-read at =
    ap (λ e. option_and_then (shape_instr at) (option_and_then (λ e. option_map (shape_with e) (row_operand e.line.row [])) e)) (no-word mark.Address)

pub read-states : (line : List ℕ) (at : ℕ) (i : Instr) → instr_of line at ≡ Some i → States line at i
read-states [] at i is = let none : None ≡ Some i = sym (nothing-read at) ∙ is in absurd (cc)
read-states (c ∷ text) at i is = by-bytes c text at i (list_all is_line_byte (c ∷ text)) refl is
