-- Tables of labels against lists of labels.
use Rattle.std.proofs.Common.{◌≡◌, ℕ, ◌+◌, Bool, true, false, ◌&&◌, ◌||◌, cond, Option, Some, None, List, [], ◌∷◌, ◌++◌, map, refl, ap, sym, ◌∙◌, ℤ, pos, ◌+ℤ◌, ◌-ℤ◌}
use Rattle.std.specs.Prelude.{option_map, option_and_then, is_some, unwrap_or, if◌then◌else◌}
use Rattle.std.specs.Option.{option_or, option_map_or}
use Rattle.std.specs.List.{list_all, list_any}
use Rattle.std.specs.Str.{bytes_eq}
use Rattle.std.proofs.lemmas.Slice.Eq.{bytes_eq-Decides}
use Rattle.std.proofs.lemmas.List.Folds.{list_all-map}
use Rattle.asm_model.specs.declared.operand.Field.{Field}
use Rattle.asm_model.specs.Expressions.{Term, Signed, constant, label, here, terms, value_of, value_after}
use Rattle.asm_model.specs.Statements.{Action, label_alone, instruction, module_start, module_end, equals, byte_list, word_list, characters, system_call, Statement}
use Rattle.asm_model.specs.Placement.{LabelValue, FieldText, names_fit, is_twice, is_start, is_end, meaning_of, is_known, is_known_term, names_known, value_at, term_value, with_label, is_out, action_values, action_length, has_value_out, has_known_name, nameable, in_field, is_too_long, is_bad_kind, has_bad_value}
use Rattle.asm_model.specs.Placement as model
use Rattle.asm_lines.specs.declared.table.Labels.{Labels}
use Rattle.asm_lines.specs.declared.reached.Reached.{Reached}
use Rattle.asm_lines.specs.Labels.{HoldsLabels, value_in, term_in, is_term_in, names_in, expression_in, all_names_in, value_out_in, name_is_in, is_equals, is_text_filled_in, is_filled_in, IsReached}

-- ---- options

abbrev value_of_meaning : LabelValue → Option ℤ
value_of_meaning m = m.value

is_some-map : {A B : Type 0} (f : A → B) (o : Option A) → is_some (option_map f o) ≡ is_some o
is_some-map f None = refl
is_some-map f (Some x) = refl

or-none : {A : Type 0} (o : Option A) → option_or o None ≡ o
or-none None = refl
or-none (Some x) = refl

none-if : {A : Type 0} (o : Option A) → is_some o ≡ false → o ≡ None
none-if None is = refl
none-if (Some x) is = cc

-- ---- one label more

push-first : (b : Bool) (x : LabelValue) (rest whole last : Option LabelValue) → rest ≡ option_or whole last →
    (if b then Some x else rest) ≡ option_or (if b then Some x else whole) last
push-first true x rest whole last is = refl
push-first false x rest whole last is = is

meaning_of-push : (labels : List LabelValue) (m : LabelValue) (name : List ℕ) →
    meaning_of (labels ++ m ∷ []) name ≡ option_or (meaning_of labels name) (if bytes_eq m.name name then Some m else None)
meaning_of-push [] m name = refl
meaning_of-push (x ∷ labels) m name =
    push-first (bytes_eq x.name name) x _ _ _ (meaning_of-push labels m name)

with-one : (b : Bool) (value : Option ℤ) (o : Option LabelValue) (m : LabelValue) → m.value ≡ value → (b ≡ true → o ≡ None) →
    cond b (Some value) (option_map (λ m. m.value) o) ≡ option_map (λ m. m.value) (option_or o (if b then Some m else None))
with-one true value o m is none = rw (none refl) (ap Some (sym is))
with-one false value o m is none = ap (option_map value_of_meaning) (sym (or-none o))

known-in : (table : Labels) (labels : List LabelValue) (name : List ℕ) → HoldsLabels table labels → is_some (value_in table name) ≡ is_known labels name
known-in table labels name holds = ap is_some (holds.each name) ∙ is_some-map value_of_meaning (meaning_of labels name)

with_label-known : (labels : List LabelValue) (name : List ℕ) (value : Option ℤ) (b : Bool) → is_known labels name ≡ b →
    with_label labels (Some name) value ≡ (if b then labels else labels ++ (record { name = name; value = value } ∷ []))
with_label-known labels name value b is = ap (λ b. if b then labels else labels ++ (record { name = name; value = value } ∷ [])) is

pub holds-known : (table : Labels) (labels : List LabelValue) (name : List ℕ) (value : Option ℤ) → HoldsLabels table labels →
    is_some (value_in table name) ≡ true → HoldsLabels table (with_label labels (Some name) value)
holds-known table labels name value holds is =
    let known : is_known labels name ≡ true = sym (known-in table labels name holds) ∙ is in
    record { each = λ q. holds.each q ∙ ap (λ ls. option_map value_of_meaning (meaning_of ls q)) (sym (with_label-known labels name value true known)) }

same-name : (labels : List LabelValue) (name q : List ℕ) → is_known labels name ≡ false → bytes_eq name q ≡ true → meaning_of labels q ≡ None
same-name labels name q unknown same =
    let is : name ≡ q = (bytes_eq-Decides name q).0 same in
    none-if (meaning_of labels q) (ap (is_known labels) (sym is) ∙ unknown)

pub holds-added : (table new : Labels) (labels : List LabelValue) (name : List ℕ) (value : Option ℤ) → HoldsLabels table labels →
    is_some (value_in table name) ≡ false → ((q : List ℕ) → value_in new q ≡ cond (bytes_eq name q) (Some value) (value_in table q)) →
    HoldsLabels new (with_label labels (Some name) value)
holds-added table new labels name value holds is added =
    let unknown : is_known labels name ≡ false = sym (known-in table labels name holds) ∙ is in
    let m : LabelValue = record { name = name; value = value } in
    record {
      each = λ q.
          added q ∙ ap (λ o. cond (bytes_eq name q) (Some value) o) (holds.each q)
          ∙ with-one (bytes_eq name q) value (meaning_of labels q) m refl (same-name labels name q unknown)
          ∙ ap (option_map value_of_meaning) (sym (meaning_of-push labels m q))
          ∙ ap (λ ls. option_map value_of_meaning (meaning_of ls q)) (sym (with_label-known labels name value false unknown));
    }

-- ---- what is read by a table is what is read by its list

inner : (o : Option LabelValue) → option_and_then (λ (v : Option ℤ). v) (option_map value_of_meaning o) ≡ option_and_then (λ (m : LabelValue). m.value) o
inner None = refl
inner (Some m) = refl

term-same : (table : Labels) (labels : List LabelValue) (offset : Option ℕ) → HoldsLabels table labels → (t : Term) →
    term_in table offset t ≡ term_value labels offset t
term-same table labels offset holds (constant n) = refl
term-same table labels offset holds (label name) = ap (option_and_then (λ (v : Option ℤ). v)) (holds.each name) ∙ inner (meaning_of labels name)
term-same table labels offset holds here = refl

is_term-same : (table : Labels) (labels : List LabelValue) → HoldsLabels table labels → (t : Term) → is_term_in table t ≡ is_known_term labels t
is_term-same table labels holds (constant n) = refl
is_term-same table labels holds (label name) = known-in table labels name holds
is_term-same table labels holds here = refl

and_then-same : {A : Type 0} (f g : ℤ → Option A) → ((n : ℤ) → f n ≡ g n) → (o : Option ℤ) → option_and_then f o ≡ option_and_then g o
and_then-same f g same None = refl
and_then-same f g same (Some n) = same n

value_after-same : (f g : Term → Option ℤ) → ((t : Term) → f t ≡ g t) → (ts : List Signed) (value : ℤ) → value_after f value ts ≡ value_after g value ts
value_after-same f g same [] value = refl
value_after-same f g same (t ∷ ts) value =
    and_then-same _ _ (λ n. value_after-same f g same ts (if t.minus then value -ℤ n else value +ℤ n)) (f t.term)
    ∙ ap (option_and_then (λ n. value_after g (if t.minus then value -ℤ n else value +ℤ n) ts)) (same t.term)

value_of-same : (f g : Term → Option ℤ) → ((t : Term) → f t ≡ g t) → (o : Option (List Signed)) → option_and_then (value_of f) o ≡ option_and_then (value_of g) o
value_of-same f g same None = refl
value_of-same f g same (Some ts) = value_after-same f g same ts (pos 0)

pub expression-same : (table : Labels) (labels : List LabelValue) (offset : Option ℕ) (text : List ℕ) → HoldsLabels table labels →
    expression_in table offset text ≡ value_at labels offset text
expression-same table labels offset text holds =
    value_of-same (term_in table offset) (term_value labels offset) (term-same table labels offset holds) (terms text)

pub list_all-same : {A : Type 0} (f g : A → Bool) → ((x : A) → f x ≡ g x) → (xs : List A) → list_all f xs ≡ list_all g xs
list_all-same f g same [] = refl
list_all-same f g same (x ∷ xs) = ap (λ b. b && list_all f xs) (same x) ∙ ap (λ b. g x && b) (list_all-same f g same xs)

pub list_any-same : {A : Type 0} (f g : A → Bool) → ((x : A) → f x ≡ g x) → (xs : List A) → list_any f xs ≡ list_any g xs
list_any-same f g same [] = refl
list_any-same f g same (x ∷ xs) = ap (λ b. b || list_any f xs) (same x) ∙ ap (λ b. g x || b) (list_any-same f g same xs)

map_or-same : {A : Type 0} (f g : A → Bool) → ((x : A) → f x ≡ g x) → (d : Bool) (o : Option A) → option_map_or f o d ≡ option_map_or g o d
map_or-same f g same d None = refl
map_or-same f g same d (Some x) = same x

names-same : (table : Labels) (labels : List LabelValue) (text : List ℕ) → HoldsLabels table labels → names_in table text ≡ names_known labels text
names-same table labels text holds =
    map_or-same _ _ (λ ts. list_all-same (λ (t : Signed). is_term_in table t.term) (λ (t : Signed). is_known_term labels t.term) (λ t. is_term-same table labels holds t.term) ts) true (terms text)

pub all_names-same : (table : Labels) (labels : List LabelValue) (action : Action) → HoldsLabels table labels →
    all_names_in table action ≡ list_all (λ v. names_known labels v.text) (action_values action)
all_names-same table labels action holds =
    list_all-same (λ (v : FieldText). names_in table v.text) (λ (v : FieldText). names_known labels v.text) (λ v. names-same table labels v.text holds) (action_values action)

pub value_out-same : (table : Labels) (labels : List LabelValue) (offset : Option ℕ) (action : Action) → HoldsLabels table labels →
    value_out_in table offset action ≡ has_value_out labels offset action
value_out-same table labels offset action holds =
    list_any-same (λ (v : FieldText). is_out v.field (unwrap_or offset 0 + action_length action) (expression_in table offset v.text))
    (λ (v : FieldText). is_out v.field (unwrap_or offset 0 + action_length action) (value_at labels offset v.text))
    (λ v. ap (is_out v.field (unwrap_or offset 0 + action_length action)) (expression-same table labels offset v.text holds)) (action_values action)

pub name_is-same : (table : Labels) (labels : List LabelValue) (name : Option (List ℕ)) → HoldsLabels table labels →
    name_is_in table name ≡ option_map_or (is_known labels) name false
name_is-same table labels name holds = map_or-same _ _ (λ n. known-in table labels n holds) false name

pub nameable-is : (all above : model.Reached) (action : Action) → nameable all above action ≡ (if is_equals action then above.labels else all.labels)
nameable-is all above label_alone = refl
nameable-is all above (instruction s) = refl
nameable-is all above (module_start m) = refl
nameable-is all above module_end = refl
nameable-is all above (equals text) = refl
nameable-is all above (byte_list texts) = refl
nameable-is all above (word_list texts) = refl
nameable-is all above (characters text) = refl
nameable-is all above (system_call text) = refl

-- ---- what lines reach

pub value-reached : (r : Reached) (m : model.Reached) (text : List ℕ) → IsReached r m → expression_in r.labels r.offset text ≡ value_at m.labels m.offset text
value-reached r m text is =
    expression-same r.labels m.labels r.offset text is.labels ∙ ap (λ o. value_at m.labels o text) is.offset

pub names-reached : (r : Reached) (m a : model.Reached) (action : Action) → IsReached r (if is_equals action then a else m) →
    all_names_in r.labels action ≡ names_fit m a action
names-reached r m a action is =
    all_names-same r.labels (if is_equals action then a else m).labels action is.labels
    ∙ ap (λ labels. list_all (λ (v : FieldText). names_known labels v.text) (action_values action)) (labels-of (is_equals action) m a ∙ sym (nameable-is m a action))
  where
    labels-of : (b : Bool) (m a : model.Reached) → (if b then a else m).labels ≡ (if b then a.labels else m.labels)
    labels-of true m a = refl
    labels-of false m a = refl

pub values-reached : (all above : Reached) (m a : model.Reached) (action : Action) → IsReached all m → IsReached above a →
    value_out_in all.labels above.offset action ≡ has_value_out m.labels a.offset action
values-reached all above m a action all-is above-is =
    value_out-same all.labels m.labels above.offset action all-is.labels ∙ ap (λ o. has_value_out m.labels o action) above-is.offset

pub twice-reached : (r : Reached) (a : model.Reached) (s : Statement) → IsReached r a →
    (name_is_in r.labels s.name || (r.has_start && is_start s.action) || (r.has_end && is_end s.action)) ≡ is_twice a s
twice-reached r a s is =
    ap (λ b. b || (r.has_start && is_start s.action) || (r.has_end && is_end s.action)) (name_is-same r.labels a.labels s.name is.labels)
    ∙ ap (λ b. has_known_name a s || (b && is_start s.action) || (r.has_end && is_end s.action)) is.has_start
    ∙ ap (λ b. has_known_name a s || (a.has_start && is_start s.action) || (b && is_end s.action)) is.has_end

-- ---- lists of expressions

list_any-map : {A B : Type 0} (p : B → Bool) (f : A → B) (xs : List A) → list_any p (map f xs) ≡ list_any (λ x. p (f x)) xs
list_any-map p f [] = refl
list_any-map p f (x ∷ xs) = ap (λ b. p (f x) || b) (list_any-map p f xs)

module _ (labels : Labels) (f : Field) (parts : List (List ℕ)) (action : Action) (values : action_values action ≡ map (in_field f) parts) where
  pub list_names-is : list_all (names_in labels) parts ≡ all_names_in labels action
  list_names-is =
      sym (ap (list_all (λ (v : FieldText). names_in labels v.text)) values ∙ list_all-map (λ (v : FieldText). names_in labels v.text) (in_field f) parts)

  module _ (offset : Option ℕ) (next : ℕ) (is : next ≡ unwrap_or offset 0 + action_length action) where
    pub list_out-is : list_any (λ (t : List ℕ). is_out f next (expression_in labels offset t)) parts ≡ value_out_in labels offset action
    list_out-is =
        ap (λ (n : ℕ). list_any (λ (t : List ℕ). is_out f n (expression_in labels offset t)) parts) is
        ∙ sym (ap (list_any (λ (v : FieldText). is_out v.field (unwrap_or offset 0 + action_length action) (expression_in labels offset v.text))) values
        ∙ list_any-map (λ (v : FieldText). is_out v.field (unwrap_or offset 0 + action_length action) (expression_in labels offset v.text)) (in_field f) parts)

    pub list_filled-is : list_all (is_text_filled_in labels offset next f) parts ≡ is_filled_in labels offset action
    list_filled-is =
        ap (λ (n : ℕ). list_all (is_text_filled_in labels offset n f) parts) is
        ∙ sym (ap (list_all (λ (v : FieldText). is_text_filled_in labels offset (unwrap_or offset 0 + action_length action) v.field v.text)) values
        ∙ list_all-map (λ (v : FieldText). is_text_filled_in labels offset (unwrap_or offset 0 + action_length action) v.field v.text) (in_field f) parts)

-- ---- values out of range

module _ (m a : model.Reached) (action : Action) where
  pub bad-out : has_value_out m.labels a.offset action ≡ true → true ≡ has_bad_value m a action
  bad-out is = sym (ap (λ b. b || is_too_long a.offset action || is_bad_kind action) is)

  pub bad-other : (other : Bool) → has_value_out m.labels a.offset action ≡ false → other ≡ (is_too_long a.offset action || is_bad_kind action) → other ≡ has_bad_value m a action
  bad-other other none is = is ∙ sym (ap (λ b. b || is_too_long a.offset action || is_bad_kind action) none)
