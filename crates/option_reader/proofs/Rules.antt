-- The command as `clap` builds it, and what it finds by a name.
use Rattle.std.proofs.Common.{◌≡◌, ◌≢◌, ◌+◌, ◌∙◌, ◌&&◌, ◌||◌, ℕ, Bool, true, false, not, cond, List, [], ◌∷◌, map, Some, None, find, fold, bytes_eq, arith, All, refl, sym, ap, subst, true≢false, count_by, is_some}
use Rattle.std.specs.List.{list_all, list_any}
use Rattle.std.proofs.lemmas.Slice.Eq.{bytes_eq-Decides}
use Rattle.std.proofs.lemmas.List.Elements.{All-head, All-tail}
use Rattle.clap.specs.Walk.{Rule, Text, arg_by_id, arg_by_long, arg_by_short, is_early_multiple, has_long, has_short}
use Rattle.clap.specs.Simple.{App, Shape, built, filled, filled_from, new_shape, with_index, is_buildable, is_in_order, is_ready, is_ready_leaf, is_simple}
use Rattle.clap.specs.Faults.{is_free_app, is_simple_and_free}
use Rattle.option_reader.specs.Rows.{app_with, arguments_rule, option_rule}

-- the rules as built
abbrev pub arguments_built : Rule
arguments_built = with_index 1 (filled arguments_rule)

abbrev pub option_built : Text → Rule
option_built name = filled (option_rule name)

abbrev pub rules_with : List Text → List Rule
rules_with names = arguments_built ∷ map option_built names

abbrev pub shape_with : List Text → Shape
shape_with names = record (new_shape []) {
  rules = rules_with names;
  no_binary_name = true;
  disable_help_flag = true;
  disable_help_subcommand = true;
  is_built = true;
}

pub options_filled : (i : ℕ) (names : List Text) → filled_from i (map option_rule names) ≡ map option_built names
options_filled i [] = refl
options_filled i (name ∷ names) = ap (λ rules. option_built name ∷ rules) (options_filled i names)

pub built_with : (names : List Text) → built (app_with names) ≡ record { top = shape_with names; subs = [] }
built_with names = ap (λ (rules : List Rule). record { top = record (shape_with []) { rules = arguments_built ∷ rules }; subs = [] }) (options_filled 2 names)

-- ---- the command is simple

all_simple : (names : List Text) → list_all (λ (a : Rule). a.is_simple) (map option_rule names) ≡ true
all_simple [] = refl
all_simple (name ∷ names) = all_simple names

all_built_simple : (names : List Text) → list_all (λ (a : Rule). a.is_simple) (map option_built names) ≡ true
all_built_simple [] = refl
all_built_simple (name ∷ names) = all_built_simple names

all_built_free : (names : List Text) → list_all (λ (a : Rule). a.is_free) (map option_built names) ≡ true
all_built_free [] = refl
all_built_free (name ∷ names) = all_built_free names

no_index : (n : ℕ) (names : List Text) → fold (λ a (x : Rule). a + cond (is_some x.index) 1 0) n (map option_built names) ≡ n
no_index n [] = refl
no_index n (name ∷ names) =
    let same : n + 0 ≡ n = omega arith in
    ap (λ k. fold (λ a (x : Rule). a + cond (is_some x.index) 1 0) k (map option_built names)) same ∙ no_index n names

no_early : (n : ℕ) (names : List Text) → list_any (is_early_multiple n) (map option_built names) ≡ false
no_early n [] = refl
no_early n (name ∷ names) = no_early n names

one_index : (names : List Text) → count_by (λ (a : Rule). is_some a.index) (rules_with names) ≡ 1
one_index names = no_index 1 names

in_order : (names : List Text) → is_in_order (rules_with names) ≡ true
in_order names = ap (λ n. not (list_any (is_early_multiple n) (rules_with names))) (one_index names) ∙ rw (no_early 1 names) refl

pub simple_and_free : (names : List Text) → is_simple_and_free (app_with names) ≡ true
simple_and_free names =
    subst (λ (app : App). ((is_buildable (app_with names) && (is_ready app.top && list_all is_ready_leaf app.subs)) && is_free_app app) ≡ true) (sym (built_with names))
    (rw (all_simple names, all_built_simple names, all_built_free names, in_order names) refl)

-- ---- names

pub same_bytes : (a b : Text) → bytes_eq a b ≡ true → a ≡ b
same_bytes a b e = (bytes_eq-Decides a b).0 e

pub bytes-refl : (a : Text) → bytes_eq a a ≡ true
bytes-refl a = (bytes_eq-Decides a a).1 refl

pub bytes-sym : (a b : Text) → bytes_eq a b ≡ bytes_eq b a
bytes-sym a b = by (bytes_eq a b) (bytes_eq b a) refl refl
  where
    by : (p q : Bool) → bytes_eq a b ≡ p → bytes_eq b a ≡ q → bytes_eq a b ≡ bytes_eq b a
    by true q e f = e ∙ sym (ap (λ t. bytes_eq t a) (sym (same_bytes a b e)) ∙ bytes-refl a)
    by false true e f = absurd (true≢false (sym (ap (λ t. bytes_eq t b) (sym (same_bytes b a f)) ∙ bytes-refl b) ∙ e))
    by false false e f = e ∙ sym f

pub or-false : (b : Bool) → (b || false) ≡ b
or-false true = refl
or-false false = refl

pub and-false : (b : Bool) → (b && false) ≡ false
and-false true = refl
and-false false = refl

-- the option of this name
found : (p : Rule → Bool) (name : Text) (names : List Text) → ((other : Text) → p (option_built other) ≡ bytes_eq
    other name) → find p (map option_built names) ≡ cond (list_any (bytes_eq name) names) (Some (option_built name))
    None
found p name [] same = refl
found p name (other ∷ names) same = by (found p name names same) (bytes_eq name other) refl
  where
    by : find p (map option_built names) ≡ cond (list_any (bytes_eq name) names) (Some (option_built name)) None
        → (b : Bool) → bytes_eq name other ≡ b → find p (map option_built (other ∷ names)) ≡ cond (list_any (bytes_eq name) (other ∷ names)) (Some (option_built name)) None
    by rest true e = rw (same other, bytes-sym other name, e) (ap (λ t. Some (option_built t)) (sym (same_bytes name other e)))
    by rest false e = rw (same other, bytes-sym other name, e) rest

pub long_found : (names : List Text) (name : Text) (known : Bool) → list_any (bytes_eq name) names ≡ known → arg_by_long (rules_with names) name ≡ cond known (Some (option_built name)) None
long_found names name known e =
    found (λ a. not (is_some a.index) && has_long a name) name names (λ other. or-false (bytes_eq other name))
    ∙ ap (λ b. cond b (Some (option_built name)) None) e

pub id_found : (names : List Text) (name : Text) → bytes_eq [] name ≡ false → list_any (bytes_eq name) names ≡ true → arg_by_id (rules_with names) name ≡ Some (option_built name)
id_found names name named e =
    ap (λ b. cond b (Some arguments_built) (find (λ a. bytes_eq a.id name) (map option_built names))) named
    ∙ found (λ a. bytes_eq a.id name) name names (λ other. refl)
    ∙ ap (λ b. cond b (Some (option_built name)) None) e

no_short_option : (names : List Text) (char : ℕ) → find (λ a. not (is_some a.index) && has_short a char) (map option_built names) ≡ None
no_short_option [] char = refl
no_short_option (name ∷ names) char = no_short_option names char

pub short_found : (names : List Text) (char : ℕ) → arg_by_short (rules_with names) char ≡ None
short_found names char = no_short_option names char

-- a name of options that are named
pub name_is : (names : List Text) (name : Text) → All (λ other. other ≢ []) names → list_any (bytes_eq name) names ≡ true → bytes_eq name [] ≡ false
name_is [] name named e = absurd (true≢false (sym e))
name_is (other ∷ names) name named e = by (name_is names name (All-tail (λ n. n ≢ []) other names named)) (bytes_eq name other) (bytes_eq name []) refl refl
  where
    by : (list_any (bytes_eq name) names ≡ true → bytes_eq name [] ≡ false) → (b c : Bool) → bytes_eq name other ≡ b → bytes_eq name [] ≡ c → bytes_eq name [] ≡ false
    by rest b false is empty = empty
    by rest true true is empty = absurd (All-head (λ n. n ≢ []) other names named (sym (same_bytes name other is) ∙ same_bytes name [] empty))
    by rest false true is empty = rest (ap (λ t. t || list_any (bytes_eq name) names) (sym is) ∙ e)

first : (a b : Bool) → (a && b) ≡ true → a ≡ true
first true b e = refl
first false b e = absurd (true≢false (sym e))

pub simple : (names : List Text) → is_simple (app_with names) ≡ true
simple names = first (is_simple (app_with names)) (is_free_app (built (app_with names))) (simple_and_free names)
