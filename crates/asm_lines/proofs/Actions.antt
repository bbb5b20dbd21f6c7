-- What a word and the text behind it ask for by their form is what is read of them.
use Rattle.std.proofs.Common.{◌≡◌, ℕ, suc, ◌+◌, ◌&&◌, ◌||◌, Bool, true, false, Option, Some, None, List, [], ◌∷◌, ◌++◌, take, drop, refl, ap, sym, subst, ◌∙◌, arith}
use Rattle.std.specs.Prelude.{is_some, option_map, option_and_then, if◌then◌else◌}
use Rattle.std.specs.List.{slice_split, join_with_byte, position_or_len, before_first, after_first, list_all, list_any, find}
use Rattle.std.specs.Str.{bytes_eq, str_to_ascii_lowercase}
use Rattle.std.proofs.lemmas.Bool.{and_parts, eqb-true}
use Rattle.std.proofs.lemmas.Bool.Decides.{nat_tests}
use Rattle.os9_base.specs.Name.{is_name_character, if_name, marked_name}
use Rattle.text_values.specs.Cuts.{first_word, behind_word, without_spaces}
use Rattle.text_values.proofs.Places.{position_or_len-first, position_or_len-next}
use Rattle.asm_model.specs.declared.directive.Directive.{Directive}
use Rattle.asm_model.specs.declared.directive.Directive.TheVariants as directive
use Rattle.asm_model.specs.Characters.{is_comma, is_quote, same_word}
use Rattle.asm_model.specs.Operands.{mark_of, row_operand}
use Rattle.asm_model.specs.Instructions.{Entry, entry_of, Shape, shape_of, shape_with}
use Rattle.asm_model.specs.Statements.{Action, instruction, module_start, module_end, equals, byte_list, word_list, characters, system_call, ModuleFields, is_expression, is_constant_expression, is_module_name, module_fields, expression_list, ends_there, quoted, if_expression, directive_word, directives, directive_of, directive_action, directive_or_instruction, action_of}
use Rattle.asm_model.proofs.Commas.{split_comma}
use Rattle.asm_lines.specs.Expressions.{IsExpression, IsExpressionList, last, more}
use Rattle.asm_lines.specs.Instructions.{EndsThere, nothing, space}
use Rattle.asm_lines.specs.Statements.{IsOperandAndComment, IsQuoted, IsModuleOperand, Is, IsAction, instructs, starts, ends, gives, bytes, words, quotes, marks, calls}
use Rattle.asm_lines.proofs.Bytes.{none-of}
use Rattle.asm_lines.proofs.Names.{bytes_same}
use Rattle.asm_lines.proofs.Joined.{one-part, some-parts}
use Rattle.asm_lines.proofs.Lists.{found-passes, joined-back}
use Rattle.asm_lines.proofs.Lines.{word-free, ends-there, word-and-rest, no-more, operand-part, skip-none}
use Rattle.asm_lines.proofs.Complete.{shape-read}
use Rattle.asm_lines.proofs.Sound.{shape-formed}
use Rattle.asm_lines.proofs.Expressions.{expression-without, expression-is, expression-back, value-expression, constant-is, constant-back}
use Rattle.asm_lines.proofs.Stated.{no-directive}

-- ---- operands and comments

leads-found : (operand text : List ℕ) → IsOperandAndComment operand text → first_word (without_spaces text) ≡ operand
leads-found operand text l = ap (λ t. first_word (without_spaces t)) l.text_is ∙ operand-part operand l.comment l.one_operand l.comment_apart l.comment_last

leads-back : (text : List ℕ) → IsOperandAndComment (first_word (without_spaces text)) (without_spaces text)
leads-back text = record {
  comment = behind_word (without_spaces text);
  text_is = sym (word-and-rest (without_spaces text));
  one_operand = word-free (without_spaces text);
  comment_apart = ends-there (without_spaces text);
  comment_last = no-more text;
}

-- ---- quotes

apart-is : (comment : List ℕ) → EndsThere comment → ends_there comment ≡ true
apart-is _ nothing = refl
apart-is _ (space {rest = rest}) = refl

apart-back : (comment : List ℕ) → ends_there comment ≡ true → EndsThere comment
apart-back [] is = nothing
apart-back (c ∷ rest) is = subst (λ (d : ℕ). EndsThere (d ∷ rest)) (sym (eqb-true c 32 is)) (space {rest = rest})

or-left : (a b : Bool) → (a || b) ≡ false → a ≡ false
or-left true b is = is
or-left false b is = refl

or-right : (a b : Bool) → (a || b) ≡ false → b ≡ false
or-right true b is = absurd (cc)
or-right false b is = is

before-none : (c : ℕ) (rest : List ℕ) → is_quote c ≡ true → before_first is_quote (c ∷ rest) ≡ []
before-none c rest is = ap (λ n. take n (c ∷ rest)) (position_or_len-first is_quote c rest is)

before-next : (c : ℕ) (rest : List ℕ) → is_quote c ≡ false → before_first is_quote (c ∷ rest) ≡ c ∷ before_first is_quote rest
before-next c rest is = ap (λ n. take n (c ∷ rest)) (position_or_len-next is_quote c rest is)

after-none : (c : ℕ) (rest : List ℕ) → is_quote c ≡ true → after_first is_quote (c ∷ rest) ≡ rest
after-none c rest is = ap (λ n. drop (n + 1) (c ∷ rest)) (position_or_len-first is_quote c rest is)

after-next : (c : ℕ) (rest : List ℕ) → is_quote c ≡ false → after_first is_quote (c ∷ rest) ≡ after_first is_quote rest
after-next c rest is =
    let next : position_or_len is_quote (c ∷ rest) + 1 ≡ suc (position_or_len is_quote rest + 1) = omega (arith, position_or_len-next is_quote c rest is) in
    ap (λ n. drop n (c ∷ rest)) next

-- the parts of a quote and what follows it
quote-parts : (quote comment : List ℕ) → list_any is_quote quote ≡ false →
    (list_any is_quote (quote ++ (34 ∷ comment)) ≡ true) × (before_first is_quote (quote ++ (34 ∷ comment)) ≡ quote) × (after_first is_quote (quote ++ (34 ∷ comment)) ≡ comment)
quote-parts [] comment free = (refl, before-none 34 comment refl, after-none 34 comment refl)
quote-parts (c ∷ quote) comment free =
    let first = or-left (is_quote c) (list_any is_quote quote) free in
    let rest = quote-parts quote comment (or-right (is_quote c) (list_any is_quote quote) free) in (
      ap (λ b. b || list_any is_quote (quote ++ (34 ∷ comment))) first ∙ rest.0,
      before-next c (quote ++ (34 ∷ comment)) first ∙ ap (λ q. c ∷ q) rest.1,
      after-next c (quote ++ (34 ∷ comment)) first ∙ rest.2,
    )

abbrev three : Bool → List ℕ → List ℕ → Option (List ℕ)
three any quote comment = if any && ends_there comment then Some quote else None

quoted-found : (quote text : List ℕ) → IsQuoted quote text → quoted (without_spaces text) ≡ Some quote
quoted-found quote text q =
    let p = quote-parts quote q.comment q.no_quote in
    let rest : List ℕ = quote ++ (34 ∷ q.comment) in
    ap (λ t. quoted (without_spaces t)) q.text_is ∙ ap quoted (skip-none 34 rest refl)
    ∙ ap (λ b. three b (before_first is_quote rest) (after_first is_quote rest)) p.0
    ∙ ap (λ q. three true q (after_first is_quote rest)) p.1
    ∙ ap (λ c. three true quote c) p.2
    ∙ ap (λ (b : Bool). if b then Some quote else None) (apart-is q.comment q.comment_apart)

quote-joined : (rest : List ℕ) → list_any is_quote rest ≡ true → (rest ≡ before_first is_quote rest ++ (34 ∷ after_first is_quote rest)) × (list_any is_quote (before_first is_quote rest) ≡ false)
quote-joined [] any = absurd (cc)
quote-joined (c ∷ rest) any = by-first (is_quote c) refl any (λ some. quote-joined rest some)
  where
    by-first : (b : Bool) → is_quote c ≡ b → (b || list_any is_quote rest) ≡ true →
        (list_any is_quote rest ≡ true → (rest ≡ before_first is_quote rest ++ (34 ∷ after_first is_quote rest)) × (list_any is_quote (before_first is_quote rest) ≡ false)) →
        (c ∷ rest ≡ before_first is_quote (c ∷ rest) ++ (34 ∷ after_first is_quote (c ∷ rest))) × (list_any is_quote (before_first is_quote (c ∷ rest)) ≡ false)
    by-first true is some others = (
      ap (λ d. d ∷ rest) (eqb-true c 34 is) ∙ ap (λ r. 34 ∷ r) (sym (after-none c rest is)) ∙ ap (λ q. q ++ (34 ∷ after_first is_quote (c ∷ rest))) (sym (before-none c rest is)),
      ap (list_any is_quote) (before-none c rest is),
    )
    by-first false is some others =
        let o = others some in (
          ap (λ r. c ∷ r) o.0 ∙ ap (λ r. (c ∷ before_first is_quote rest) ++ (34 ∷ r)) (sym (after-next c rest is))
              ∙ ap (λ q. q ++ (34 ∷ after_first is_quote (c ∷ rest))) (sym (before-next c rest is)),
          ap (list_any is_quote) (before-next c rest is) ∙ ap (λ b. b || list_any is_quote (before_first is_quote rest)) is ∙ o.1,
        )

and-three : (a b c : Bool) → (a && b && c) ≡ true → (a ≡ true) × (b ≡ true) × (c ≡ true)
and-three true true true is = (refl, refl, refl)
and-three true true false is = absurd (cc)
and-three true false c is = absurd (cc)
and-three false b c is = absurd (cc)

quoted-back : (text quote : List ℕ) → quoted text ≡ Some quote → IsQuoted quote text
quoted-back [] quote is = absurd (cc)
quoted-back (c ∷ rest) quote is = by-test (is_quote c && list_any is_quote rest && ends_there (after_first is_quote rest)) refl is
  where
    by-test : (b : Bool) → (is_quote c && list_any is_quote rest && ends_there (after_first is_quote rest)) ≡ b → (if b then Some (before_first is_quote rest) else None) ≡ Some quote →
        IsQuoted quote (c ∷ rest)
    by-test true test whole =
        let parts = and-three (is_quote c) (list_any is_quote rest) (ends_there (after_first is_quote rest)) test in
        let same : before_first is_quote rest ≡ quote = cc in
        let joined = quote-joined rest parts.1 in
        record {
          comment = after_first is_quote rest;
          text_is =
              ap (λ d. d ∷ rest) (eqb-true c 34 parts.0) ∙ ap (λ r. 34 ∷ r) joined.0
              ∙ ap (λ q. 34 ∷ (q ++ (34 ∷ after_first is_quote rest))) same;
          no_quote = ap (list_any is_quote) (sym same) ∙ joined.1;
          comment_apart = apart-back (after_first is_quote rest) parts.2;
        }
    by-test false test whole = absurd (cc)

-- ---- lists of expressions

list-parts : (text : List ℕ) (es : List (List ℕ)) → IsExpressionList text es → (slice_split is_comma text ≡ es) × (list_all is_expression es ≡ true)
list-parts text _ (last is) = (one-part text (expression-without 44 refl text is), ap (λ b. b && true) (expression-is text is))
list-parts _ _ (more {list = list} {es = es} e is rest) =
    let others = list-parts list es rest in
    (split_comma e list (expression-without 44 refl e is) ∙ ap (λ ps. e ∷ ps) others.0, ap (λ b. b && list_all is_expression es) (expression-is e is) ∙ others.1)

list-found : (text : List ℕ) (es : List (List ℕ)) → IsExpressionList text es → expression_list text ≡ Some es
list-found text es is =
    let parts = list-parts text es is in
    ap (λ ps. if list_all is_expression ps then Some ps else None) parts.0 ∙ ap (λ (b : Bool). if b then Some es else None) parts.1

list-formed : (first : List ℕ) (rest : List (List ℕ)) → list_all is_expression (first ∷ rest) ≡ true → IsExpressionList (join_with_byte 44 (first ∷ rest)) (first ∷ rest)
list-formed first [] all = last (expression-back first (and_parts (is_expression first) true all).0)
list-formed first (second ∷ rest) all =
    let both = and_parts (is_expression first) (list_all is_expression (second ∷ rest)) all in
    more first (expression-back first both.0) (list-formed second rest both.1)

list-back : (text : List ℕ) (es : List (List ℕ)) → expression_list text ≡ Some es → IsExpressionList text es
list-back text es is = by-test (list_all is_expression (slice_split is_comma text)) refl is
  where
    by-test : (b : Bool) → list_all is_expression (slice_split is_comma text) ≡ b → (if b then Some (slice_split is_comma text) else None) ≡ Some es → IsExpressionList text es
    by-test true all whole =
        let same : slice_split is_comma text ≡ es = cc in
        let parts = some-parts text in
        let formed = list-formed parts.0 parts.1 (ap (list_all is_expression) (sym parts.2) ∙ all) in
        subst (λ (t : List ℕ). IsExpressionList t es) (sym (joined-back text (parts.0 ∷ parts.1) parts.2))
        (subst (IsExpressionList (join_with_byte 44 (parts.0 ∷ parts.1))) (sym parts.2 ∙ same) formed)
    by-test false all whole = absurd (cc)

-- ---- the operand of `mod`

name-comma : (c : ℕ) → is_name_character c ≡ true → is_comma c ≡ false
name-comma c is = grind (arith, nat_tests)

all-four : (a b c d : Bool) → a ≡ true → b ≡ true → c ≡ true → d ≡ true → (a && b && c && d) ≡ true
all-four true true true true _ _ _ _ = refl
all-four true true true false _ _ _ is = is
all-four true true false d _ _ is _ = absurd (cc)
all-four true false c d _ is _ _ = absurd (cc)
all-four false b c d is _ _ _ = absurd (cc)

module-found : (m : ModuleFields) (operand : List ℕ) → IsModuleOperand m operand → module_fields (slice_split is_comma operand) ≡ Some (module_start m)
module-found m operand p =
    let name_free : list_any is_comma m.name ≡ false =
    none-of is_name_character is_comma name-comma m.name (and_parts (is_some (if_name m.name)) (list_all is_name_character m.name) p.name).1 in
    let parts : slice_split is_comma operand ≡ m.name ∷ m.kind ∷ m.attributes ∷ m.storage ∷ [] =
    ap (slice_split is_comma) p.operand_is ∙ split_comma m.name (m.kind ++ (44 ∷ (m.attributes ++ (44 ∷ m.storage)))) name_free
    ∙ ap (λ ps. m.name ∷ ps) (split_comma m.kind (m.attributes ++ (44 ∷ m.storage)) (expression-without 44 refl m.kind (value-expression m.kind p.kind_value p.kind)))
    ∙ ap (λ ps. m.name ∷ m.kind ∷ ps) (split_comma m.attributes m.storage (expression-without 44 refl m.attributes p.attributes))
    ∙ ap (λ ps. m.name ∷ m.kind ∷ m.attributes ∷ ps) (one-part m.storage (expression-without 44 refl m.storage p.storage)) in
    ap module_fields parts
    ∙ ap (λ (b : Bool). if b then Some (module_start m) else None)
    (all-four (is_module_name m.name) (is_constant_expression m.kind) (is_expression m.attributes) (is_expression m.storage)
    p.name (constant-is m.kind p.kind_value p.kind) (expression-is m.attributes p.attributes) (expression-is m.storage p.storage))

-- an operand of `mod` with what it asks for
record ModuleFound (operand : List ℕ) (action : Action) : Type 0 where
  fields : ModuleFields
  is : module_start fields ≡ action
  formed : IsModuleOperand fields operand

and-four : (a b c d : Bool) → (a && b && c && d) ≡ true → (a ≡ true) × (b ≡ true) × (c ≡ true) × (d ≡ true)
and-four true true true true is = (refl, refl, refl, refl)
and-four true true true false is = absurd (cc)
and-four true true false d is = absurd (cc)
and-four true false c d is = absurd (cc)
and-four false b c d is = absurd (cc)

four-back : (operand name kind attributes storage : List ℕ) (action : Action) → slice_split is_comma operand ≡ name ∷ kind ∷ attributes ∷ storage ∷ [] →
    module_fields (name ∷ kind ∷ attributes ∷ storage ∷ []) ≡ Some action → ModuleFound operand action
four-back operand name kind attributes storage action parts is = by-test (is_module_name name && is_constant_expression kind && is_expression attributes && is_expression storage) refl is
  where
    by-test : (b : Bool) → (is_module_name name && is_constant_expression kind && is_expression attributes && is_expression storage) ≡ b →
        (if b then Some (module_start (record { name = name; kind = kind; attributes = attributes; storage = storage })) else None) ≡ Some action → ModuleFound operand action
    by-test true test whole =
        let all = and-four (is_module_name name) (is_constant_expression kind) (is_expression attributes) (is_expression storage) test in
        let value = constant-back kind all.1 in
        record {
          fields = record { name = name; kind = kind; attributes = attributes; storage = storage };
          is = cc;
          formed = record {
            operand_is = joined-back operand (name ∷ kind ∷ attributes ∷ storage ∷ []) parts;
            name = all.0;
            kind_value = value.0;
            kind = value.1;
            attributes = expression-back attributes all.2;
            storage = expression-back storage all.3;
          };
        }
    by-test false test whole = absurd (cc)

module-back : (operand : List ℕ) (parts : List (List ℕ)) (action : Action) → slice_split is_comma operand ≡ parts → module_fields parts ≡ Some action → ModuleFound operand action
module-back operand [] action parts is = absurd (cc)
module-back operand (a ∷ []) action parts is = absurd (cc)
module-back operand (a ∷ b ∷ []) action parts is = absurd (cc)
module-back operand (a ∷ b ∷ c ∷ []) action parts is = absurd (cc)
module-back operand (a ∷ b ∷ c ∷ d ∷ []) action parts is = four-back operand a b c d action parts is
module-back operand (a ∷ b ∷ c ∷ d ∷ e ∷ others) action parts is = absurd (cc)

-- ---- words

-- the directive of a word in lower case
abbrev low_directive : List ℕ → Option Directive
low_directive low = find (λ d. bytes_eq (str_to_ascii_lowercase (directive_word d)) low) directives

low-directive : (word : List ℕ) (d : Directive) → Is d word → directive_of word ≡ low_directive (str_to_ascii_lowercase (directive_word d))
low-directive word d is = ap low_directive (sym (bytes_same (str_to_ascii_lowercase (directive_word d)) (str_to_ascii_lowercase word) is))

directive-found : (word : List ℕ) (d : Directive) → Is d word → directive_of word ≡ Some d
directive-found word directive.Mod is = low-directive word directive.Mod is
directive-found word directive.Emod is = low-directive word directive.Emod is
directive-found word directive.Equ is = low-directive word directive.Equ is
directive-found word directive.Fcb is = low-directive word directive.Fcb is
directive-found word directive.Fdb is = low-directive word directive.Fdb is
directive-found word directive.Fcc is = low-directive word directive.Fcc is
directive-found word directive.Fcs is = low-directive word directive.Fcs is
directive-found word directive.Os9 is = low-directive word directive.Os9 is

directs : (word rest : List ℕ) (d : Directive) → Is d word → action_of word rest ≡ directive_action d rest
directs word rest d is = ap (λ o. directive_or_instruction o word rest) (directive-found word d is)

shape-apart : (word operand : List ℕ) (s : Shape) → shape_of word operand ≡ Some s → directive_of word ≡ None
shape-apart word operand s is = by-entry (entry_of word (mark_of operand)) refl is
  where
    by-entry : (o : Option Entry) → entry_of word (mark_of operand) ≡ o → option_and_then (λ e. option_map (shape_with e) (row_operand e.line.row operand)) o ≡ Some s → directive_of word ≡ None
    by-entry None entered whole = absurd (cc)
    by-entry (Some e) entered whole = no-directive word (mark_of operand) e entered

one-expression : (read : List ℕ → Action) (e text : List ℕ) → IsOperandAndComment e text → IsExpression e → if_expression read (first_word (without_spaces text)) ≡ Some (read e)
one-expression read e text leads is =
    ap (if_expression read) (leads-found e text leads) ∙ ap (λ (b : Bool). if b then Some (read e) else None) (expression-is e is)

pub action-found : (word text : List ℕ) (action : Action) → IsAction word text action → action_of word (without_spaces text) ≡ Some action
action-found word text _ (instructs {operand = operand} {s = s} leads is) =
    let read = shape-read word operand s is in
    ap (λ o. directive_or_instruction o word (without_spaces text)) (shape-apart word operand s read)
    ∙ ap (λ t. option_map instruction (shape_of word t)) (leads-found operand text leads) ∙ ap (option_map instruction) read
action-found word text _ (starts {operand = operand} {m = m} named leads is) =
    directs word (without_spaces text) directive.Mod named ∙ ap (λ t. module_fields (slice_split is_comma t)) (leads-found operand text leads) ∙ module-found m operand is
action-found word text _ (ends named) = directs word (without_spaces text) directive.Emod named
action-found word text _ (gives {e = e} named leads is) = directs word (without_spaces text) directive.Equ named ∙ one-expression equals e text leads is
action-found word text _ (bytes {operand = operand} {es = es} named leads is) =
    directs word (without_spaces text) directive.Fcb named ∙ ap (λ t. option_map byte_list (expression_list t)) (leads-found operand text leads)
    ∙ ap (option_map byte_list) (list-found operand es is)
action-found word text _ (words {operand = operand} {es = es} named leads is) =
    directs word (without_spaces text) directive.Fdb named ∙ ap (λ t. option_map word_list (expression_list t)) (leads-found operand text leads)
    ∙ ap (option_map word_list) (list-found operand es is)
action-found word text _ (quotes {quote = quote} named is) =
    directs word (without_spaces text) directive.Fcc named ∙ ap (option_map characters) (quoted-found quote text is)
action-found word text _ (marks {quote = quote} named is) =
    directs word (without_spaces text) directive.Fcs named ∙ ap (option_map (λ q. characters (marked_name q))) (quoted-found quote text is)
action-found word text _ (calls {e = e} named leads is) = directs word (without_spaces text) directive.Os9 named ∙ one-expression system_call e text leads is

-- ---- what is read

map-back : {A : Type 0} (f : A → Action) (o : Option A) (action : Action) → option_map f o ≡ Some action → (x : A) × (o ≡ Some x) × (f x ≡ action)
map-back f None action is = absurd (cc)
map-back f (Some x) action is = (x, refl, cc)

if-back : (read : List ℕ → Action) (e : List ℕ) (action : Action) → if_expression read e ≡ Some action → IsExpression e × (read e ≡ action)
if-back read e action is = by-test (is_expression e) refl is
  where
    by-test : (b : Bool) → is_expression e ≡ b → (if b then Some (read e) else None) ≡ Some action → IsExpression e × (read e ≡ action)
    by-test true test whole = (expression-back e test, cc)
    by-test false test whole = absurd (cc)

module _ (word text : List ℕ) (action : Action) where
  abbrev rest : List ℕ
  rest = without_spaces text

  to : (read : Action) → read ≡ action → IsAction word rest read → IsAction word rest action
  to read same is = subst (IsAction word rest) same is

  directed : (d : Directive) → Is d word → directive_action d rest ≡ Some action → IsAction word rest action
  directed directive.Mod named is =
      let found = module-back (first_word rest) (slice_split is_comma (first_word rest)) action refl is in
      to (module_start found.fields) found.is (starts named (leads-back text) found.formed)
  directed directive.Emod named is = to module_end (let same : module_end ≡ action = cc in same) (ends named)
  directed directive.Equ named is = let found = if-back equals (first_word rest) action is in to (equals (first_word rest)) found.1 (gives named (leads-back text) found.0)
  directed directive.Fcb named is =
      let found = map-back byte_list (expression_list (first_word rest)) action is in
      to (byte_list found.0) found.2 (bytes named (leads-back text) (list-back (first_word rest) found.0 found.1))
  directed directive.Fdb named is =
      let found = map-back word_list (expression_list (first_word rest)) action is in
      to (word_list found.0) found.2 (words named (leads-back text) (list-back (first_word rest) found.0 found.1))
  directed directive.Fcc named is =
      let found = map-back characters (quoted rest) action is in to (characters found.0) found.2 (quotes named (quoted-back rest found.0 found.1))
  directed directive.Fcs named is =
      let found = map-back (λ q. characters (marked_name q)) (quoted rest) action is in
      to (characters (marked_name found.0)) found.2 (marks named (quoted-back rest found.0 found.1))
  directed directive.Os9 named is =
      let found = if-back system_call (first_word rest) action is in to (system_call (first_word rest)) found.1 (calls named (leads-back text) found.0)

  by-directive : (o : Option Directive) → directive_of word ≡ o → directive_or_instruction o word rest ≡ Some action → IsAction word rest action
  by-directive None named is =
      let found = map-back instruction (shape_of word (first_word rest)) action is in
      to (instruction found.0) found.2 (instructs (leads-back text) (shape-formed word (first_word rest) found.0 found.1))
  by-directive (Some d) named is = directed d (found-passes (λ d. same_word (directive_word d) word) d directives named) is

  pub action-back : action_of word rest ≡ Some action → IsAction word rest action
  action-back is = by-directive (directive_of word) refl is
