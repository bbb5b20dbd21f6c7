-- What a parse of the command answers is what the words give.
use Rattle.std.proofs.Common.{◌≡◌, ◌≢◌, ◌∙◌, ◌&&◌, ◌||◌, Bool, true, false, not, cond, List, [], ◌∷◌, map, Option, Some, None, fold, is_some, refl, sym, ap, ap₂, subst, All, IsUtf8, inl, inr}
use Rattle.std.specs.List.{list_any}
use Rattle.clap.specs.Values.{kind_of}
use Rattle.clap.specs.Kinds.{HasKind, IsAmong, Kinds, or_else}
use Rattle.clap.specs.Walk.{Row, Rule, Text, Held, Walk, has_row, idle, nothing_held, settled, walk, with_default}
use Rattle.clap.specs.Simple.{App, entered, matches_of}
use Rattle.clap.specs.Faults.{built_fault, check_fault, defaults_fault, entered_fault, fault_of, settle_fault, walk_fault}
use Rattle.clap.specs.Takes.{is_given}
use Rattle.clap.specs.declared.error.Error.{Error}
use Rattle.clap.specs.declared.error.kind.ErrorKind.{ErrorKind}
use Rattle.clap.specs.declared.error.kind.ErrorKind.TheVariants.{OutOfMemory}
use Rattle.option_reader.specs.Given.{Given, words_give}
use Rattle.option_reader.specs.Dash.{has_dash_value}
use Rattle.option_reader.specs.Rows.{HasOptionValue, app_with, given_of}
use Rattle.option_reader.proofs.Rules.{built_with, option_built, rules_with, shape_with}
use Rattle.option_reader.proofs.RowLemmas.{AreRowsOf}
use Rattle.option_reader.proofs.Turns.{IsFault, at, rows_at_end, verdict}
use Rattle.option_reader.proofs.Walks.{Agrees, words-agree}

-- ---- behind the walk nothing is added, and nothing is missed

or-true : (b : Bool) → (b || true) ≡ true
or-true true = refl
or-true false = refl

cond-same : {T : Type 0} (b : Bool) (t : T) → cond b t t ≡ t
cond-same true t = refl
cond-same false t = refl

no_defaults : (names : List Text) (rows : List Row) → defaults_fault rows (map option_built names) ≡ []
unfolding defaults_fault
no_defaults [] rows = refl
no_defaults (name ∷ names) rows =
    rw (or-true (has_row name rows), cond-same (has_row name rows) rows) (no_defaults names rows)

no_defaults_with : (names : List Text) (rows : List Row) → defaults_fault rows (rules_with names) ≡ []
unfolding defaults_fault
no_defaults_with names rows = rw (or-true (has_row [] rows), cond-same (has_row [] rows) rows) (no_defaults names rows)

same_rows : (names : List Text) (rows : List Row) → fold with_default rows (map option_built names) ≡ rows
same_rows [] rows = refl
same_rows (name ∷ names) rows =
    ap (λ all. fold with_default all (map option_built names)) (cond-same (has_row name rows) rows) ∙ same_rows names rows

same_rows_with : (names : List Text) (rows : List Row) → fold with_default rows (rules_with names) ≡ rows
same_rows_with names rows =
    ap (λ all. fold with_default all (map option_built names)) (cond-same (has_row [] rows) rows) ∙ same_rows names rows

none_required : (names : List Text) (rows : List Row) → list_any (λ (a : Rule). a.required && not (is_given a.id rows)) (map option_built names) ≡ false
none_required [] rows = refl
none_required (name ∷ names) rows = none_required names rows

no_check : (names : List Text) (rows : List Row) → check_fault (shape_with names) rows false ≡ []
no_check names rows = rw (none_required names rows) refl

none_entered : (names : List Text) (stop : Option (Text × List Text))
    → (is_some (entered (record { top = shape_with names; subs = [] }) stop) ≡ false) ×
    (entered_fault (record { top = shape_with names; subs = [] }) stop ≡ [])
none_entered names None = (refl, refl)
none_entered names (Some stop) = (refl, refl)

or_else-nil : (kinds : Kinds) → or_else kinds [] ≡ kinds
or_else-nil [] = refl
or_else-nil (kind ∷ kinds) = refl

module _ (names : List Text) (words : List Text) where
  abbrev start : Walk
  start = at [] None idle false

  abbrev end : Held
  end = (walk (rules_with names) [] nothing_held words).held

  abbrev app : App
  app = record { top = shape_with names; subs = [] }

  abbrev rest_with : Bool → Kinds → Kinds → Kinds → Kinds
  rest_with entered below defaults check =
      or_else (walk_fault (shape_with names) [] start words) (or_else below (or_else (settle_fault (rules_with names) false end) (or_else defaults check)))

  level-is : built_fault app nothing_held words ≡ verdict names start words
  level-is =
      let stop = (walk (rules_with names) [] nothing_held words).stopped in
      let rows = (settled (rules_with names) end).rows in
      let none = none_entered names stop in
      ap₂ (λ inside below. or_else (walk_fault (shape_with names) [] start words)
      (or_else below (or_else (settle_fault (rules_with names) false end)
      (or_else (defaults_fault rows (rules_with names)) (check_fault (shape_with names)
      (fold with_default rows (rules_with names)) inside))))) none.0 none.1
      ∙ ap₂ (λ defaults check. or_else (walk_fault (shape_with names) [] start words)
      (or_else (settle_fault (rules_with names) false end) (or_else defaults check)))
      (no_defaults_with names rows) (no_check names (fold with_default rows (rules_with names)))
      ∙ ap (or_else (walk_fault (shape_with names) [] start words)) (or_else-nil (settle_fault (rules_with names) false end))

  fault-is : fault_of (app_with names) words ≡ verdict names start words
  fault-is = ap (λ a. built_fault a nothing_held words) (built_with names) ∙ level-is

  matches-are : matches_of (app_with names) words ≡ rows_at_end names start words
  matches-are =
      ap (λ (a : App). fold with_default (settled a.top.rules (walk a.top.rules [] nothing_held words).held).rows a.top.rules) (built_with names)
      ∙ same_rows_with names (settled (rules_with names) end).rows

-- ---- the answer

-- an `Ok` answer gives what the words give, and each row has a value
pub taken : (names words : List Text) (rows : List Row) → All (λ name. name ≢ []) names → All IsUtf8 words
    → has_dash_value false words ≡ false → fault_of (app_with names) words ≡ [] → rows ≡ matches_of (app_with names)
    words
    → (Some (given_of rows) ≡ words_give names words) × All HasOptionValue rows
taken names words rows named texts no_dash quiet is = by (words_give names words) (words-agree names named words no_dash texts)
  where
    by : (answer : Option Given) → Agrees names answer (at [] None idle false) words → (Some (given_of rows) ≡ answer) × All HasOptionValue rows
    by None agrees = absurd (subst IsFault (sym (fault-is names words) ∙ quiet) agrees)
    by (Some answer) agrees =
        let are = subst (λ all. AreRowsOf all answer) (sym (is ∙ matches-are names words)) agrees.1 in
        (ap Some are.0, are.1)

among-fault : (kind : ErrorKind) (kinds : Kinds) → IsAmong kind kinds → kinds ≡ [] → ⊥
among-fault kind [] h e = h
among-fault kind (other ∷ kinds) h e = subst IsFault e tt

-- an error that is not want of memory comes only where the words are refused
pub refused : (names words : List Text) (error : Error) → All (λ name. name ≢ []) names → All IsUtf8 words
    → has_dash_value false words ≡ false → HasKind (fault_of (app_with names) words) error
    → kind_of error ≢ OutOfMemory
    → None ≡ words_give names words
refused names words error named texts no_dash has other = by (words_give names words) (words-agree names named words no_dash texts)
  where
    by : (answer : Option Given) → Agrees names answer (at [] None idle false) words → None ≡ answer
    by None agrees = refl
    by (Some answer) agrees = elim has [
      | inl memory ↦ absurd (other memory)
      | inr among ↦ absurd (among-fault (kind_of error) (fault_of (app_with names) words) among (fault-is names words ∙ agrees.0))
    ]
