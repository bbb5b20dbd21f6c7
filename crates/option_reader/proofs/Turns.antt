-- What `clap` makes of one word.
use Rattle.std.proofs.Common.{◌≡◌, ◌∙◌, ℕ, Bool, true, false, List, [], ◌∷◌, length, Option, Some, None, fold, bytes_eq, slice_get, chars, nat_lt, refl, sym, ap, subst}
use Rattle.clap.specs.Lexer.{long_of, short_of}
use Rattle.clap.specs.Kinds.{Kinds, or_else}
use Rattle.clap.specs.Walk.{Row, Text, Waiting, Walk, idle, option, positional, arg_by_id, arg_by_long, has_row, is_pending, settled, settled_rows, subcommand_met, used, walked}
use Rattle.clap.specs.Faults.{flags_fault, settle_fault, turn_fault, use_fault, walk_fault}
use Rattle.option_reader.proofs.Forms.{IsPlainWord}
use Rattle.option_reader.proofs.Rules.{arguments_built, option_built, rules_with, shape_with, and-false, short_found, bytes-refl}

-- there is a kind of fault
abbrev pub IsFault : Kinds → Type 0
IsFault [] = ⊥
IsFault (kind ∷ kinds) = Unit

pub fault_first : (a b : Kinds) → IsFault a → IsFault (or_else a b)
fault_first [] b h = absurd h
fault_first (kind ∷ kinds) b h = tt

pub fault_second : (a b : Kinds) → IsFault b → IsFault (or_else a b)
fault_second [] b h = h
fault_second (kind ∷ kinds) b h = tt

fault_past : (t a b : Kinds) → IsFault (or_else a b) → IsFault (or_else (or_else t a) b)
fault_past [] a b h = h
fault_past (kind ∷ kinds) a b h = tt

abbrev pub Pending : Type 0
Pending = Option (Text × List Text)

-- the walk stands between two words, with these rows and what is pending
abbrev pub at : List Row → Pending → Waiting → Bool → Walk
at rows pending waiting is_trailing = record {
  held = record { rows = rows; pending = pending; skip = 0 };
  waiting = waiting;
  position = 1;
  is_trailing = is_trailing;
  stopped = None;
}

-- no option waits for its value
abbrev pub IsFree : Waiting → Type 0
IsFree (option name) = ⊥
IsFree _ = Unit

module _ (names : List Text) where
  -- the faults of what is pending, and the rows once it is used
  abbrev pub pending_fault : List Row → Pending → Kinds
  pending_fault rows pending = settle_fault (rules_with names) false (record { rows = rows; pending = pending; skip = 0 })

  abbrev pub rows_with : List Row → Pending → List Row
  rows_with rows pending = settled_rows (rules_with names) pending rows

  -- the faults of a walk, and the rows at its end
  abbrev pub verdict : Walk → List Text → Kinds
  verdict w words = or_else (walk_fault (shape_with names) [] w words) (settle_fault (rules_with names) false (fold (walked (rules_with names) []) w words).held)

  abbrev pub rows_at_end : Walk → List Text → List Row
  rows_at_end w words = (settled (rules_with names) (fold (walked (rules_with names) []) w words).held).rows

  abbrev pub faults : Walk → Text → Kinds
  faults w word = turn_fault (shape_with names) [] w word

  abbrev pub Goes : Walk → Text → Walk → Type 0
  Goes before word after = walked (rules_with names) [] before word ≡ after

  pub verdict-step : (w after : Walk) (word : Text) (words : List Text) → faults w word ≡ [] → Goes w word after → verdict w (word ∷ words) ≡ verdict after words
  unfolding walk_fault
  verdict-step w after word words quiet goes =
      ap (λ kinds. or_else (or_else kinds (walk_fault (shape_with names) [] (walked (rules_with names) [] w word)
      words)) (settle_fault (rules_with names) false (fold (walked (rules_with names) [])
      (walked (rules_with names) [] w word) words).held)) quiet
      ∙ ap (λ v. verdict v words) goes

  pub verdict-end : (rows : List Row) (pending : Pending) (waiting : Waiting) (is_trailing : Bool) → verdict (at rows pending waiting is_trailing) [] ≡ pending_fault rows pending
  unfolding walk_fault
  verdict-end rows pending waiting is_trailing = refl

  pub refused-now : (w : Walk) (word : Text) (words : List Text) → IsFault (faults w word) → IsFault (verdict w (word ∷ words))
  unfolding walk_fault
  refused-now w word words h = fault_first _ _ (fault_first _ _ h)

  pub refused-later : (w after : Walk) (word : Text) (words : List Text) → Goes w word after → IsFault (verdict after words) → IsFault (verdict w (word ∷ words))
  unfolding walk_fault
  refused-later w after word words goes h = fault_past (turn_fault (shape_with names) [] w word)
      (walk_fault (shape_with names) [] (walked (rules_with names) [] w word) words) (settle_fault (rules_with names)
      false (fold (walked (rules_with names) []) (walked (rules_with names) [] w word) words).held)
      (subst (λ v. IsFault (verdict v words)) (sym goes) h)

  -- ---- one word

  no_subcommand : (waiting : Waiting) (word : Text) → subcommand_met [] waiting word ≡ None
  no_subcommand idle word = refl
  no_subcommand (option name) word = refl
  no_subcommand positional word = refl

  -- `--`
  pub dashes_turn : (rows : List Row) (pending : Pending) (waiting : Waiting)
      → (faults (at rows pending waiting false) (45 ∷ 45 ∷ []) ≡ []) × Goes (at rows pending waiting false)
      (45 ∷ 45 ∷ []) (at rows pending waiting true)
  unfolding walked
  dashes_turn rows pending idle = (refl, refl)
  dashes_turn rows pending (option name) = (refl, refl)
  dashes_turn rows pending positional = (refl, refl)

  -- an argument
  pub plain_turn : (rows : List Row) (pending : Pending) (waiting : Waiting) (word : Text) → IsFree waiting → IsPlainWord word
      → (faults (at rows pending waiting false) word ≡ pending_fault rows pending) × Goes (at rows pending waiting false) word (at (rows_with rows pending) (Some ([], word ∷ [])) positional false)
  unfolding walked
  plain_turn rows pending idle word free is =
      (rw (is.0, is.1, is.2, and-false (is_pending arguments_built pending)) refl, rw (is.0, is.1, is.2, and-false (is_pending arguments_built pending)) refl)
  plain_turn rows pending (option name) word free is = absurd free
  plain_turn rows pending positional word free is =
      (rw (is.0, is.1, is.2, and-false (is_pending arguments_built pending)) refl, rw (is.0, is.1, is.2, and-false (is_pending arguments_built pending)) refl)

  -- an argument behind `--`
  pub trailing_turn : (rows : List Row) (pending : Pending) (waiting : Waiting) (word : Text)
      → (faults (at rows pending waiting true) word ≡ pending_fault rows pending) × Goes (at rows pending waiting true) word (at (rows_with rows pending) (Some ([], word ∷ [])) positional true)
  unfolding walked
  trailing_turn rows pending waiting word =
      (rw (and-false (is_pending arguments_built pending)) refl, rw (and-false (is_pending arguments_built pending)) refl)

  -- the value of the option that waits
  pub value_turn : (rows : List Row) (name word : Text) → arg_by_id (rules_with names) name ≡ Some (option_built name) → IsPlainWord word
      → (faults (at rows (Some (name, [])) (option name) false) word ≡ []) × Goes (at rows (Some (name, [])) (option name) false) word (at rows (Some (name, word ∷ [])) idle false)
  unfolding walked
  value_turn rows name word known is =
      (rw (is.0, is.1, is.2) refl, rw (is.0, is.1, is.2, known, bytes-refl name) refl)

  -- an option with its value
  pub equals_turn : (rows : List Row) (pending : Pending) (waiting : Waiting) (word name value : Text)
      → bytes_eq word (45 ∷ 45 ∷ []) ≡ false → long_of word ≡ Some (name, Some value) → arg_by_long (rules_with names)
      name ≡ Some (option_built name)
      → (faults (at rows pending waiting false) word ≡ or_else (or_else (pending_fault rows pending) (use_fault false (option_built name) (value ∷ []) (rows_with rows pending))) [])
      × Goes (at rows pending waiting false) word (at (used (option_built name) (value ∷ []) (rows_with rows pending)) None idle false)
  unfolding walked
  equals_turn rows pending waiting word name value other is known =
      (rw (no_subcommand waiting word, other, is, known) refl, rw (no_subcommand waiting word, other, is, known) refl)

  -- an option that waits for its value
  pub waits_turn : (rows : List Row) (pending : Pending) (waiting : Waiting) (word name : Text)
      → bytes_eq word (45 ∷ 45 ∷ []) ≡ false → long_of word ≡ Some (name, None) → arg_by_long (rules_with names) name
      ≡ Some (option_built name)
      → (faults (at rows pending waiting false) word ≡ or_else (pending_fault rows pending) []) × Goes
      (at rows pending waiting false) word (at (rows_with rows pending) (Some (name, [])) (option name) false)
  unfolding walked
  waits_turn rows pending waiting word name other is known =
      (rw (no_subcommand waiting word, other, is, known) refl, rw (no_subcommand waiting word, other, is, known) refl)

  -- an option that there is not
  pub unknown_turn : (rows : List Row) (pending : Pending) (waiting : Waiting) (word name : Text)
      (value : Option Text) → bytes_eq word (45 ∷ 45 ∷ []) ≡ false → long_of word ≡ Some (name, value)
      → arg_by_long (rules_with names) name ≡ None
      → IsFault (faults (at rows pending waiting false) word)
  unknown_turn rows pending waiting word name value other is missing =
      rw (no_subcommand waiting word, other, is, missing) tt

  -- a word with one `-`
  pub short_turn : (rows : List Row) (pending : Pending) (waiting : Waiting) (word : Text) (x : ℕ) (xs : Text)
      (char : ℕ) → bytes_eq word (45 ∷ 45 ∷ []) ≡ false → long_of word ≡ None → short_of word ≡ Some (x ∷ xs)
      → slice_get (chars (x ∷ xs)) 0 ≡ Some char
      → IsFault (faults (at rows pending waiting false) word)
  unfolding flags_fault
  short_turn rows pending waiting word x xs char other long short first =
      rw (no_subcommand waiting word, other, long, short, first, short_found names char) tt

  -- ---- uses

  pub use-quiet : (name value : Text) (rows : List Row) → has_row name rows ≡ false → nat_lt 0 (length value) ≡ true → use_fault false (option_built name) (value ∷ []) rows ≡ []
  use-quiet name value rows new given = rw (new, given) refl

  pub use-again : (name value : Text) (rows : List Row) → has_row name rows ≡ true → IsFault (use_fault false (option_built name) (value ∷ []) rows)
  use-again name value rows there = rw there tt

  pub use-empty : (name : Text) (rows : List Row) → IsFault (use_fault false (option_built name) ([] ∷ []) rows)
  use-empty name rows = by (has_row name rows) refl
    where
      by : (b : Bool) → has_row name rows ≡ b → IsFault (use_fault false (option_built name) ([] ∷ []) rows)
      by true e = rw e tt
      by false e = rw e tt

  module _ (name : Text) (known : arg_by_id (rules_with names) name ≡ Some (option_built name)) where
    pub pending-option : (rows : List Row) (values : List Text)
        → (pending_fault rows (Some (name, values)) ≡ use_fault false (option_built name) values rows) ×
        (rows_with rows (Some (name, values)) ≡ used (option_built name) values rows)
    pending-option rows values = (rw known refl, rw known refl)

    pub pending-none : (rows : List Row) → IsFault (pending_fault rows (Some (name, [])))
    pending-none rows = rw known tt
