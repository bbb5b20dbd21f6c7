-- A line that is a statement by its form is read as it, and only such lines are read as statements.
use Rattle.std.proofs.Common.{◌≡◌, ℕ, ◌&&◌, not, Bool, true, false, Option, Some, None, List, [], ◌∷◌, ◌++◌, refl, ap, sym, subst, ◌∙◌, arith}
use Rattle.std.specs.Prelude.{nat_le, length, if◌then◌else◌}
use Rattle.std.specs.List.{list_all, list_any}
use Rattle.std.proofs.lemmas.Bool.Decides.{nat_tests}
use Rattle.text_values.specs.Cuts.{is_space, first_word, behind_word, without_spaces}
use Rattle.asm_model.specs.Characters.{is_line_byte, is_star}
use Rattle.asm_model.specs.Expressions.{is_letter, is_label_character, longest_label, is_register_name, is_label}
use Rattle.asm_model.specs.Statements.{Action, label_alone, instruction, module_start, module_end, equals, byte_list, word_list, characters, system_call, Statement, action_of, skipped, broken, stated, is_skipped, statement, after_label, labelled, line_read}
use Rattle.asm_model.proofs.Spaces.{or_left, first_next}
use Rattle.asm_lines.specs.Instructions.{EndsThere, nothing, space}
use Rattle.asm_lines.specs.Statements.{IsAction, IsColumn, no_label, a_label, may_have, IsBody, label_only, asks, IsStatement, stating}
use Rattle.asm_lines.proofs.Lines.{first-part, behind-part, skip-all, skip-space, skip-none, word-free, ends-there, word-and-rest, spaces_of, spaces-all, spaces-and-rest}
use Rattle.asm_lines.proofs.Actions.{action-found, action-back}

-- ---- a statement by its form is read

body-begins : (body : List ℕ) (label : Option (List ℕ)) (action : Action) → IsBody body label action → without_spaces body ≡ body
body-begins _ _ _ label_only = refl
body-begins _ label action (asks c word spaces text one all apart is may) =
    skip-none c (word ++ (spaces ++ text)) (or_left (is_space c) (list_any is_space word) one)

statement-may : (label : Option (List ℕ)) (action : Action) → may_have label action ≡ true → statement label (Some action) ≡ stated (stating label action)
statement-may None label_alone may = refl
statement-may None (instruction s) may = refl
statement-may None (module_start m) may = refl
statement-may None module_end may = refl
statement-may None (equals e) may = absurd (cc)
statement-may None (byte_list es) may = refl
statement-may None (word_list es) may = refl
statement-may None (characters text) may = refl
statement-may None (system_call e) may = refl
statement-may (Some name) action may = refl

after-any : (label : Option (List ℕ)) (c : ℕ) (text : List ℕ) →
    after_label label (c ∷ text) ≡ statement label (action_of (first_word (c ∷ text)) (without_spaces (behind_word (c ∷ text))))
after-any None c text = refl
after-any (Some name) c text = refl

body-read : (body : List ℕ) (label : Option (List ℕ)) (action : Action) → IsBody body label action → after_label label body ≡ stated (stating label action)
body-read _ _ _ label_only = refl
body-read _ label action (asks c word spaces text one all apart is may) =
    let whole : List ℕ = (c ∷ word) ++ (spaces ++ text) in
    after-any label c (word ++ (spaces ++ text))
    ∙ ap (λ w. statement label (action_of w (without_spaces (behind_word whole)))) (first-part (c ∷ word) (spaces ++ text) one apart)
    ∙ ap (λ t. statement label (action_of (c ∷ word) (without_spaces t))) (behind-part (c ∷ word) (spaces ++ text) one apart)
    ∙ ap (λ t. statement label (action_of (c ∷ word) t)) (skip-all spaces text all)
    ∙ ap (statement label) (action-found (c ∷ word) text action is) ∙ statement-may label action may

column-read : (column body : List ℕ) (label : Option (List ℕ)) → IsColumn column label → labelled column body ≡ after_label label body
column-read _ body _ no_label = refl
column-read [] body _ (a_label is) = absurd (cc)
column-read (c ∷ name) body _ (a_label is) = ap (λ (b : Bool). if b then after_label (Some (c ∷ name)) body else broken None) is

letter-star : (c : ℕ) → is_letter c ≡ true → is_star c ≡ false
letter-star c is = grind (arith, nat_tests)

first-true : (a b c d : Bool) → (a && b && c && d) ≡ true → a ≡ true
first-true true b c d is = refl
first-true false b c d is = absurd (cc)

label-star : (c : ℕ) (name : List ℕ) → is_label (c ∷ name) ≡ true → is_star c ≡ false
label-star c name is =
    letter-star c (first-true (is_letter c) (list_all is_label_character name) (nat_le (length (c ∷ name)) longest_label) (not (is_register_name (c ∷ name))) is)

space-counts : (rest : List ℕ) → EndsThere rest → (without_spaces rest ≡ [] → ⊥) → is_skipped rest ≡ false
space-counts _ nothing some = absurd (some refl)
space-counts _ (space {rest = rest}) some = refl

body-some : (body : List ℕ) (action : Action) → IsBody body None action → body ≡ [] → ⊥
body-some _ action (asks c word spaces text one all apart is may) empty = absurd (cc)

counts : (column spaces body : List ℕ) (label : Option (List ℕ)) (action : Action) → IsColumn column label → list_all is_space spaces ≡ true → EndsThere (spaces ++ body) →
    IsBody body label action → is_skipped (column ++ (spaces ++ body)) ≡ false
counts _ spaces body _ action no_label all apart is =
    space-counts (spaces ++ body) apart (λ none. body-some body action is (sym (skip-all spaces body all ∙ body-begins body None action is) ∙ none))
counts [] spaces body _ action (a_label its) all apart is = absurd (cc)
counts (c ∷ name) spaces body _ action (a_label its) all apart is = label-star c name its

pub statement-read : (line : List ℕ) (s : Statement) → IsStatement line s → line_read line ≡ stated s
unfolding line_read
statement-read line s p =
    ap (λ (b : Bool). if not b then broken None else (if is_skipped line then skipped else labelled (first_word line) (without_spaces (behind_word line)))) p.shown
    ∙ ap (λ (b : Bool). if b then skipped else labelled (first_word line) (without_spaces (behind_word line)))
    (ap is_skipped p.line_is ∙ counts p.column p.spaces p.body s.name s.action p.column_is p.all_spaces p.apart p.body_is)
    ∙ ap (λ c. labelled c (without_spaces (behind_word line))) (ap first_word p.line_is ∙ first-part p.column (p.spaces ++ p.body) p.one_column p.apart)
    ∙ ap (λ r. labelled p.column (without_spaces r)) (ap behind_word p.line_is ∙ behind-part p.column (p.spaces ++ p.body) p.one_column p.apart)
    ∙ ap (labelled p.column) (skip-all p.spaces p.body p.all_spaces ∙ body-begins p.body s.name s.action p.body_is)
    ∙ column-read p.column p.body s.name p.column_is ∙ body-read p.body s.name s.action p.body_is

-- ---- what is read is a statement by its form

-- what a label, if there is one, and an action are of a statement
record Of (label : Option (List ℕ)) (action : Option Action) (s : Statement) : Type 0 where
  label_is : label ≡ s.name
  action_is : action ≡ Some s.action
  may : may_have s.name s.action ≡ true

of-stated : (label : Option (List ℕ)) (action : Action) (s : Statement) → may_have label action ≡ true → stated (stating label action) ≡ stated s → Of label (Some action) s
of-stated label action s may is =
    let same : stating label action ≡ s = cc in
    record { label_is = ap (λ s. s.name) same; action_is = ap (λ s. Some s.action) same; may = ap (λ s. may_have s.name s.action) (sym same) ∙ may }

statement-back : (label : Option (List ℕ)) (action : Option Action) (s : Statement) → statement label action ≡ stated s → Of label action s
statement-back label None s is = absurd (cc)
statement-back None (Some label_alone) s is = of-stated None label_alone s refl is
statement-back None (Some (instruction i)) s is = of-stated None (instruction i) s refl is
statement-back None (Some (module_start m)) s is = of-stated None (module_start m) s refl is
statement-back None (Some module_end) s is = of-stated None module_end s refl is
statement-back None (Some (equals e)) s is = absurd (cc)
statement-back None (Some (byte_list es)) s is = of-stated None (byte_list es) s refl is
statement-back None (Some (word_list es)) s is = of-stated None (word_list es) s refl is
statement-back None (Some (characters text)) s is = of-stated None (characters text) s refl is
statement-back None (Some (system_call e)) s is = of-stated None (system_call e) s refl is
statement-back (Some name) (Some action) s is = of-stated (Some name) action s refl is

-- the label of a statement, and its body
record Made (label : Option (List ℕ)) (body : List ℕ) (s : Statement) : Type 0 where
  label_is : label ≡ s.name
  body_is : IsBody body s.name s.action

word-made : (label : Option (List ℕ)) (c : ℕ) (text : List ℕ) (s : Statement) → is_space c ≡ false →
    Of label (action_of (first_word (c ∷ text)) (without_spaces (behind_word (c ∷ text)))) s → Made label (c ∷ text) s
word-made label c text s begins o =
    let word : List ℕ = first_word text in
    let first : first_word (c ∷ text) ≡ c ∷ word = first_next c text begins in
    let rest : List ℕ = behind_word (c ∷ text) in
    let spaces : List ℕ = spaces_of rest in
    let action = action-back (first_word (c ∷ text)) rest s.action o.action_is in
    let whole : (c ∷ word) ++ (spaces ++ without_spaces rest) ≡ c ∷ text =
    ap (λ w. w ++ (spaces ++ without_spaces rest)) (sym first) ∙ ap (λ r. first_word (c ∷ text) ++ r) (spaces-and-rest rest) ∙ word-and-rest (c ∷ text) in
    record {
      label_is = o.label_is;
      body_is =
          subst (λ (body : List ℕ). IsBody body s.name s.action) whole
          (asks c word spaces (without_spaces rest) (ap (list_any is_space) (sym first) ∙ word-free (c ∷ text)) (spaces-all rest)
          (subst EndsThere (sym (spaces-and-rest rest)) (ends-there (c ∷ text)))
          (subst (λ (w : List ℕ). IsAction w (without_spaces rest) s.action) first action) o.may);
    }

begins-plain : (rest : List ℕ) (c : ℕ) (text : List ℕ) → without_spaces rest ≡ c ∷ text → is_space c ≡ false
begins-plain [] c text is = absurd (cc)
begins-plain (d ∷ rest) c text is = by-space (is_space d) refl (λ others. begins-plain rest c text others)
  where
    by-space : (b : Bool) → is_space d ≡ b → (without_spaces rest ≡ c ∷ text → is_space c ≡ false) → is_space c ≡ false
    by-space true spaced others = others (sym (skip-space d rest spaced) ∙ is)
    by-space false other others = let whole : d ∷ rest ≡ c ∷ text = sym (skip-none d rest other) ∙ is in let same : d ≡ c = cc in ap is_space (sym same) ∙ other

rest-made : (label : Option (List ℕ)) (rest body : List ℕ) (s : Statement) → without_spaces rest ≡ body → after_label label body ≡ stated s → Made label body s
rest-made None rest [] s begins is = absurd (cc)
rest-made (Some name) rest [] s begins is =
    let same : stating (Some name) label_alone ≡ s = cc in
    record { label_is = ap (λ s. s.name) same; body_is = subst (λ (s : Statement). IsBody [] s.name s.action) same label_only }
rest-made label rest (c ∷ text) s begins is =
    word-made label c text s (begins-plain rest c text begins)
    (statement-back label (action_of (first_word (c ∷ text)) (without_spaces (behind_word (c ∷ text)))) s (sym (after-any label c text) ∙ is))

-- a first column with its label
record Column (column body : List ℕ) (s : Statement) : Type 0 where
  label : Option (List ℕ)
  is : IsColumn column label
  goes_on : after_label label body ≡ stated s

column-back : (column body : List ℕ) (s : Statement) → labelled column body ≡ stated s → Column column body s
column-back [] body s is = record { label = None; is = no_label; goes_on = is }
column-back (c ∷ name) body s is = by-label (is_label (c ∷ name)) refl is
  where
    by-label : (b : Bool) → is_label (c ∷ name) ≡ b → (if b then after_label (Some (c ∷ name)) body else broken None) ≡ stated s → Column (c ∷ name) body s
    by-label true its whole = record { label = Some (c ∷ name); is = a_label its; goes_on = whole }
    by-label false its whole = absurd (cc)

module _ (line : List ℕ) (s : Statement) (shown : list_all is_line_byte line ≡ true) where
  abbrev rest : List ℕ
  rest = behind_word line

  formed : labelled (first_word line) (without_spaces rest) ≡ stated s → IsStatement line s
  formed is =
      let column = column-back (first_word line) (without_spaces rest) s is in
      let made = rest-made column.label rest (without_spaces rest) s refl column.goes_on in
      record {
        column = first_word line;
        spaces = spaces_of rest;
        body = without_spaces rest;
        line_is = sym (word-and-rest line) ∙ ap (λ r. first_word line ++ r) (sym (spaces-and-rest rest));
        shown = shown;
        column_is = subst (IsColumn (first_word line)) made.label_is column.is;
        one_column = word-free line;
        all_spaces = spaces-all rest;
        apart = subst EndsThere (sym (spaces-and-rest rest)) (ends-there line);
        body_is = made.body_is;
      }

  by-skipped : (b : Bool) → (if b then skipped else labelled (first_word line) (without_spaces rest)) ≡ stated s → IsStatement line s
  by-skipped true is = absurd (cc)
  by-skipped false is = formed is

by-bytes : (line : List ℕ) (s : Statement) (b : Bool) → list_all is_line_byte line ≡ b →
    (if not b then broken None else (if is_skipped line then skipped else labelled (first_word line) (without_spaces (behind_word line)))) ≡ stated s → IsStatement line s
by-bytes line s true shown is = by-skipped line s shown (is_skipped line) is
by-bytes line s false shown is = absurd (cc)

pub statement-formed : (line : List ℕ) (s : Statement) → line_read line ≡ stated s → IsStatement line s
unfolding line_read
statement-formed line s is = by-bytes line s (list_all is_line_byte line) refl is
