-- What the rows of the matches give, as options are used and arguments join.
use Rattle.std.proofs.Common.{◌≡◌, ◌≢◌, ◌∙◌, ◌&&◌, ◌||◌, ◌<◌, ℕ, Bool, true, false, not, cond, List, [], ◌∷◌, ◌++◌, map, length, take, Option, Some, None, find, flat_map, bytes_eq, slice_get, nat_lt, is_some, option_map, option_and_then, refl, sym, ap, ap₂, subst, All, append-nil, append_assoc, arith}
use Rattle.std.specs.Prelude.{unwrap_or}
use Rattle.std.specs.List.{list_any}
use Rattle.std.proofs.lemmas.Grind.{flat_map-append, common_steps}
use Rattle.std.proofs.lemmas.List.Elements.{All-cons, All-head, All-tail, All-nil, All-push}
use Rattle.std.specs.Borrow.{Bor}
use Rattle.clap.proofs.WalkLemmas.{raw_values-rows}
use Rattle.clap.specs.Matches.{matched_of, raw_values}
use Rattle.clap.specs.declared.parser.matches.Found.{Found}
use Rattle.clap.specs.Walk.{Row, Text, all_of, at_row, first_of, has_row, more_values, reading_by, used, with_values, rows_of}
use Rattle.clap.specs.declared.parser.matches.ValueSource.TheVariants.{CommandLine}
use Rattle.option_reader.specs.Given.{Given, is_given, value_of, with_arguments, with_option}
use Rattle.option_reader.specs.Rows.{HasOptionValue, given_of, option_of}
use Rattle.option_reader.proofs.Rules.{arguments_built, option_built, same_bytes, bytes-sym}

-- the rows give this, and each has a value
abbrev pub AreRowsOf : List Row → Given → Type 0
AreRowsOf rows words = (given_of rows ≡ words) × All HasOptionValue rows

parts : (a b : Bool) → (a || b) ≡ false → (a ≡ false) × (b ≡ false)
parts true b e = absurd (Rattle.std.proofs.Common.true≢false e)
parts false b e = (refl, e)

-- an id with no row gets one at the end
row-missing : (id : Text) (change : Row → List Row) (missing rows : List Row) → has_row id rows ≡ false → at_row id change missing rows ≡ rows ++ missing
row-missing id change missing [] e = refl
row-missing id change missing (row ∷ rows) e =
    let both = parts (bytes_eq row.id id) (has_row id rows) e in
    rw both.0 (ap (λ rest. row ∷ rest) (row-missing id change missing rows both.1))

abbrev option_row : Text → Text → Row
option_row name value = record { id = name; values = value ∷ []; count = None; source = Some CommandLine; reading = reading_by (option_built name) }

option_used : (name value : Text) (rows : List Row) → has_row name rows ≡ false → used (option_built name) (value ∷ []) rows ≡ rows ++ option_row name value ∷ []
option_used name value rows new =
    ap (with_values name (reading_by (option_built name)) CommandLine (value ∷ [])) (row-missing name (λ _. []) [] rows new ∙ append-nil rows)
    ∙ row-missing name (more_values CommandLine (value ∷ [])) (option_row name value ∷ []) rows new

find-push : {X : Type 0} (p : X → Bool) (x : X) (xs : List X) → p x ≡ false → find p (xs ++ x ∷ []) ≡ find p xs
find-push p x [] e = rw e refl
find-push p x (y ∷ ys) e = ap (cond (p y) (Some y)) (find-push p x ys e)

-- a new option
pub option_joins : (name value : Text) (rows : List Row) (words : Given) → bytes_eq name [] ≡ false → has_row name rows ≡ false → AreRowsOf rows words
    → AreRowsOf (used (option_built name) (value ∷ []) rows) (with_option words name value)
option_joins name value rows words named new are =
    let row = option_row name value in
    let options : flat_map option_of (rows ++ row ∷ []) ≡ flat_map option_of rows ++ record { name = name; value = value } ∷ [] =
    flat_map-append option_of rows (row ∷ []) ∙ ap (λ rest. flat_map option_of rows ++ rest) (rw named refl) in
    let arguments : unwrap_or (all_of [] (rows ++ row ∷ [])) [] ≡ unwrap_or (all_of [] rows) [] =
    ap (λ found. unwrap_or (option_map (λ (r : Row). r.values) found) []) (find-push (λ r. bytes_eq r.id []) row rows named) in
    let gives : given_of (rows ++ row ∷ []) ≡ with_option (given_of rows) name value =
    λ i. record { options = options i; arguments = arguments i } in
    subst (λ all. AreRowsOf all (with_option words name value)) (sym (option_used name value rows new))
    (gives ∙ ap (λ given. with_option given name value) are.0, All-push HasOptionValue rows row are.1 (omega arith))

-- one more argument
module _ (word : Text) where
  abbrev argument_row : Row
  argument_row = record { id = []; values = word ∷ []; count = None; source = Some CommandLine; reading = reading_by arguments_built }

  abbrev joined : List Row → List Row
  joined rows = at_row [] (more_values CommandLine (word ∷ [])) (argument_row ∷ []) rows

  same_options : (rows : List Row) → flat_map option_of (joined rows) ≡ flat_map option_of rows
  same_options [] = refl
  same_options (row ∷ rows) = by (same_options rows) (bytes_eq row.id []) refl
    where
      by : flat_map option_of (joined rows) ≡ flat_map option_of rows → (b : Bool) → bytes_eq row.id [] ≡ b → flat_map option_of (joined (row ∷ rows)) ≡ flat_map option_of (row ∷ rows)
      by rest true e = rw (e, e) refl
      by rest false e = rw (e, e) (ap (λ options. map (λ value. record { name = row.id; value = value }) (take 1 row.values) ++ options) rest)

  more_arguments : (rows : List Row) → unwrap_or (all_of [] (joined rows)) [] ≡ unwrap_or (all_of [] rows) [] ++ word ∷ []
  more_arguments [] = refl
  more_arguments (row ∷ rows) = by (more_arguments rows) (bytes_eq row.id []) refl
    where
      by : unwrap_or (all_of [] (joined rows)) [] ≡ unwrap_or (all_of [] rows) [] ++ word ∷ [] → (b : Bool) → bytes_eq row.id [] ≡ b
          → unwrap_or (all_of [] (joined (row ∷ rows))) [] ≡ unwrap_or (all_of [] (row ∷ rows)) [] ++ word ∷ []
      by rest true e = rw (e, e) refl
      by rest false e = rw (e, e) rest

  still_valued : (rows : List Row) → All HasOptionValue rows → All HasOptionValue (joined rows)
  still_valued [] all = All-cons HasOptionValue argument_row [] (omega arith) (All-nil HasOptionValue)
  still_valued (row ∷ rows) all = by (still_valued rows (All-tail HasOptionValue row rows all)) (bytes_eq row.id []) refl
    where
      by : All HasOptionValue (joined rows) → (b : Bool) → bytes_eq row.id [] ≡ b → All HasOptionValue (joined (row ∷ rows))
      by rest true e = rw e (All-cons HasOptionValue _ rows (grind (arith, common_steps)) (All-tail HasOptionValue row rows all))
      by rest false e = rw e (All-cons HasOptionValue row (joined rows) (All-head HasOptionValue row rows all) rest)

  pub argument_joins : (rows : List Row) (words : Given) → AreRowsOf rows words → AreRowsOf (used arguments_built (word ∷ []) rows) (with_arguments words (word ∷ []))
  argument_joins rows words are =
      let gives : given_of (joined rows) ≡ with_arguments (given_of rows) (word ∷ []) =
      λ i. record { options = same_options rows i; arguments = more_arguments rows i } in
      (gives ∙ ap (λ given. with_arguments given (word ∷ [])) are.0, still_valued rows are.1)

-- ---- what was given

-- the options of a row with a value
one_option : (row : Row) (values : List Text) → row.values ≡ values → 0 < length values → bytes_eq row.id [] ≡ false
    → (value : Text) × (option_of row ≡ record { name = row.id; value = value } ∷ []) × (slice_get row.values 0 ≡ Some
    value)
one_option row [] is some named = absurd (omega arith)
one_option row (value ∷ values) is some named = (value, rw (named, is) refl, rw is refl)

module _ (name : Text) (named : bytes_eq name [] ≡ false) where
  no_argument : (row : Row) → bytes_eq row.id [] ≡ true → bytes_eq row.id name ≡ false
  no_argument row e = ap (λ id. bytes_eq id name) (same_bytes row.id [] e) ∙ bytes-sym [] name ∙ named

  given-row : (rows : List Row) → All HasOptionValue rows → list_any (λ option. bytes_eq name option.name) (flat_map option_of rows) ≡ has_row name rows
  given-row [] all = refl
  given-row (row ∷ rows) all = by (given-row rows (All-tail HasOptionValue row rows all)) (bytes_eq row.id []) refl
    where
      by : list_any (λ option. bytes_eq name option.name) (flat_map option_of rows) ≡ has_row name rows → (b : Bool) → bytes_eq row.id [] ≡ b
          → list_any (λ option. bytes_eq name option.name) (flat_map option_of (row ∷ rows)) ≡ has_row name (row ∷ rows)
      by rest true e = rw (e, no_argument row e) rest
      by rest false e =
          let one = one_option row row.values refl (All-head HasOptionValue row rows all) e in
          ap (λ options. list_any (λ option. bytes_eq name option.name) (options ++ flat_map option_of rows)) one.1
          ∙ ap₂ (λ a b. a || b) (bytes-sym name row.id) rest

  -- an option is given where it has a row
  pub is_given-row : (rows : List Row) (words : Given) → AreRowsOf rows words → is_given words name ≡ has_row name rows
  is_given-row rows words are = ap (λ given. is_given given name) (sym are.0) ∙ given-row rows are.1

  value-row : (rows : List Row) → All HasOptionValue rows → option_map (λ option. option.value) (find (λ option. bytes_eq option.name name) (flat_map option_of rows)) ≡ first_of name rows
  value-row [] all = refl
  value-row (row ∷ rows) all = by (value-row rows (All-tail HasOptionValue row rows all)) (bytes_eq row.id []) refl
    where
      named_so : (value : Text) → option_of row ≡ record { name = row.id; value = value } ∷ [] → slice_get row.values 0 ≡ Some value
          → option_map (λ option. option.value) (find (λ option. bytes_eq option.name name) (flat_map option_of rows)) ≡ first_of name rows → (b : Bool) → bytes_eq row.id name ≡ b
          → option_map (λ option. option.value) (find (λ option. bytes_eq option.name name) (flat_map option_of (row ∷ rows))) ≡ first_of name (row ∷ rows)
      named_so value is first rest true e =
          ap (λ options. option_map (λ option. option.value) (find (λ option. bytes_eq option.name name) (options ++ flat_map option_of rows))) is ∙ rw e (sym first)
      named_so value is first rest false e =
          ap (λ options. option_map (λ option. option.value) (find (λ option. bytes_eq option.name name) (options ++ flat_map option_of rows))) is ∙ rw e rest

      by : option_map (λ option. option.value) (find (λ option. bytes_eq option.name name) (flat_map option_of rows)) ≡ first_of name rows → (b : Bool) → bytes_eq row.id [] ≡ b
          → option_map (λ option. option.value) (find (λ option. bytes_eq option.name name) (flat_map option_of (row ∷ rows))) ≡ first_of name (row ∷ rows)
      by rest true e = rw (e, no_argument row e) rest
      by rest false e =
          let one = one_option row row.values refl (All-head HasOptionValue row rows all) e in
          named_so one.0 one.1 one.2 rest (bytes_eq row.id name) refl

  -- and its value is the first of that row
  pub value_of-row : (rows : List Row) → All HasOptionValue rows → value_of (given_of rows) name ≡ first_of name rows
  value_of-row rows all = value-row rows all

-- the arguments, by what the matches have of them
module _ (found : Found) (raw : Option (Bor (List (Bor Text)))) (is : option_map (λ texts. map (λ text. text.now) texts.now) raw ≡ option_map raw_values (matched_of found [])) where
  rows-raw : option_map (λ texts. map (λ text. text.now) texts.now) raw ≡ all_of [] (rows_of found)
  rows-raw = is ∙ raw_values-rows found []

  pub no_arguments : raw ≡ None → (given_of (rows_of found)).arguments ≡ []
  no_arguments none = ap (λ o. unwrap_or o []) (sym rows-raw ∙ ap (option_map (λ texts. map (λ text. text.now) texts.now)) none)

  pub some_arguments : (texts : Bor (List (Bor Text))) → raw ≡ Some texts → (given_of (rows_of found)).arguments ≡ map (λ text. text.now) texts.now
  some_arguments texts some = ap (λ o. unwrap_or o []) (sym rows-raw ∙ ap (option_map (λ texts. map (λ text. text.now) texts.now)) some)
