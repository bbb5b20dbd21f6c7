-- `clap`'s walk over the words, and what the words give, agree.
use Rattle.std.proofs.Common.{◌≡◌, ◌≢◌, ◌∙◌, ◌==◌, ◌+◌, ◌&&◌, ◌<◌, ℕ, suc, Bool, true, false, not, cond, List, [], ◌∷◌, length, drop, Option, Some, None, bytes_eq, nat_lt, nat_eq, lt-ltb, refl, sym, ap, ap₂, subst, true≢false, All, IsUtf8, append-nil, append_assoc, arith}
use Rattle.std.specs.List.{list_any, before_first, after_first, position_or_len}
use Rattle.std.proofs.lemmas.Bool.Decides.{nat_tests}
use Rattle.std.proofs.lemmas.List.Elements.{All-head, All-nil, All-tail}
use Rattle.clap.specs.Kinds.{or_else}
use Rattle.clap.specs.Walk.{Row, Text, Waiting, Walk, idle, option, positional, arg_by_id, has_row, used}
use Rattle.clap.specs.Faults.{use_fault}
use Rattle.option_reader.specs.Given.{Given, given, is_equals, is_given, nothing_given, with_arguments, with_option, words_give}
use Rattle.option_reader.specs.Dash.{has_dash_value}
use Rattle.option_reader.proofs.Forms.{IsPlainWord, by_form, flag_char, plain_dash, plain_empty, plain_other, short_is}
use Rattle.option_reader.proofs.Rules.{option_built, rules_with, long_found, id_found, name_is, same_bytes, bytes-sym}
use Rattle.option_reader.proofs.RowLemmas.{AreRowsOf, argument_joins, is_given-row, option_joins}
use Rattle.option_reader.proofs.Turns.{Goes, IsFault, IsFree, Pending, at, dashes_turn, equals_turn, fault_first, fault_second, faults, pending-none, pending-option, pending_fault, plain_turn, refused-later, refused-now, rows_at_end, rows_with, short_turn, trailing_turn, unknown_turn, use-again, use-empty, use-quiet, value_turn, verdict, verdict-end, verdict-step, waits_turn}

-- what stands behind the first `=` of a word `--name=value`
pub value_behind : (rest : Text) → after_first is_equals (45 ∷ 45 ∷ rest) ≡ after_first is_equals rest
value_behind rest =
    let more : 1 + (1 + position_or_len is_equals rest) + 1 ≡ suc (suc (position_or_len is_equals rest + 1)) = omega arith in
    ap (λ k. drop k (45 ∷ 45 ∷ rest)) more

or_nil : (a b : _) → a ≡ [] → b ≡ [] → or_else (or_else a b) [] ≡ []
or_nil a b e f = ap₂ (λ x y. or_else (or_else x y) []) e f

pub dash_apart : (b : ℕ) → (b == 45) ≡ false → nat_eq 45 b ≡ false
dash_apart b e = grind (arith, nat_tests)

not_empty : (value : Text) → bytes_eq value [] ≡ false → nat_lt 0 (length value) ≡ true
not_empty [] e = absurd (true≢false e)
not_empty (x ∷ xs) e = lt-ltb 0 (length (x ∷ xs)) (omega arith)

module _ (names : List Text) where
  -- the walk fails, or ends with rows that give this
  abbrev pub Agrees : Option Given → Walk → List Text → Type 0
  Agrees None w words = IsFault (verdict names w words)
  Agrees (Some words_given) w words = (verdict names w words ≡ []) × AreRowsOf (rows_at_end names w words) words_given

  agrees-step : (answer : Option Given) (w after : Walk) (word : Text) (words : List Text) → faults names w word ≡ []
      → Goes names w word after → Agrees answer after words → Agrees answer w (word ∷ words)
  agrees-step None w after word words quiet goes h = subst IsFault (sym (verdict-step names w after word words quiet goes)) h
  agrees-step (Some so_far) w after word words quiet goes h =
      (verdict-step names w after word words quiet goes ∙ h.0, subst (λ v. AreRowsOf (rows_at_end names v words) so_far) (sym goes) h.1)

  -- what is pending is no fault, and once it is used the rows give this
  abbrev pub Settles : List Row → Pending → Given → Type 0
  Settles rows pending so_far = (pending_fault names rows pending ≡ []) × AreRowsOf (rows_with names rows pending) so_far

  settles-argument : (rows : List Row) (so_far : Given) (word : Text) → AreRowsOf rows so_far → Settles rows (Some ([], word ∷ [])) (with_arguments so_far (word ∷ []))
  settles-argument rows so_far word are = (refl, argument_joins word rows so_far are)

  -- behind `--`
  trailing : (words : List Text) (rows : List Row) (pending : Pending) (waiting : Waiting) (so_far : Given)
      → Settles rows pending so_far → Agrees (Some (with_arguments so_far words)) (at rows pending waiting true) words
  trailing [] rows pending waiting so_far settles = (
    verdict-end names rows pending waiting true ∙ settles.0,
    subst
        (λ arguments. AreRowsOf (rows_with names rows pending) (record so_far { arguments = arguments }))
        (sym (append-nil so_far.arguments)) settles.1,
  )
  trailing (word ∷ words) rows pending waiting so_far settles =
      let turn = trailing_turn names rows pending waiting word in
      let after = at (rows_with names rows pending) (Some ([], word ∷ [])) positional true in
      agrees-step (Some (with_arguments so_far (word ∷ words))) (at rows pending waiting true) after word words (turn.0 ∙ settles.0) turn.1
      (subst (λ arguments. Agrees (Some (record so_far { arguments = arguments })) after words) (append_assoc so_far.arguments (word ∷ []) words)
      (trailing words (rows_with names rows pending) (Some ([], word ∷ [])) positional (with_arguments so_far (word ∷ [])) (settles-argument (rows_with names rows pending) so_far word settles.1)))

  -- ---- words that are refused

  bad-trailing : (words : List Text) (rows : List Row) (pending : Pending) (waiting : Waiting)
      → IsFault (pending_fault names rows pending) → IsFault (verdict names (at rows pending waiting true) words)
  bad-trailing [] rows pending waiting bad = subst IsFault (sym (verdict-end names rows pending waiting true)) bad
  bad-trailing (word ∷ words) rows pending waiting bad =
      refused-now names (at rows pending waiting true) word words (subst IsFault (sym (trailing_turn names rows pending waiting word).0) bad)

  bad-short : (rows : List Row) (pending : Pending) (waiting : Waiting) (x : ℕ) (xs : Text) (words : List Text)
      → (x == 45) ≡ false → IsUtf8 (45 ∷ x ∷ xs) → IsFault (verdict names (at rows pending waiting false)
      ((45 ∷ x ∷ xs) ∷ words))
  bad-short rows pending waiting x xs words other text =
      let is = short_is x xs other in
      let char = flag_char x xs text in
      refused-now names (at rows pending waiting false) (45 ∷ x ∷ xs) words
      (short_turn names rows pending waiting (45 ∷ x ∷ xs) x xs char.0 is.2 is.0 is.1 char.1)

  -- `--name` or `--name=value`, where what is pending is bad
  bad-long : (rows : List Row) (pending : Pending) (waiting : Waiting) (x : ℕ) (xs : Text) (words : List Text)
      → IsFault (pending_fault names rows pending) → IsFault (verdict names (at rows pending waiting false)
      ((45 ∷ 45 ∷ x ∷ xs) ∷ words))
  bad-long rows pending waiting x xs words bad = refused-now names here word words (by (list_any (bytes_eq name) names) (list_any is_equals (x ∷ xs)) refl refl)
    where
      word : Text
      word = 45 ∷ 45 ∷ x ∷ xs

      name : Text
      name = before_first is_equals (x ∷ xs)

      here : Walk
      here = at rows pending waiting false

      by : (known equals : Bool) → list_any (bytes_eq (before_first is_equals (x ∷ xs))) names ≡ known
          → list_any is_equals (x ∷ xs) ≡ equals → IsFault (faults names (at rows pending waiting false)
          (45 ∷ 45 ∷ x ∷ xs))
      by false equals e f = unknown_turn names rows pending waiting (45 ∷ 45 ∷ x ∷ xs)
          (before_first is_equals (x ∷ xs)) (cond (list_any is_equals (x ∷ xs))
          (Some (after_first is_equals (x ∷ xs))) None) refl refl (long_found names (before_first is_equals (x ∷ xs))
          false e)
      by true true e f =
          subst IsFault (sym (equals_turn names rows pending waiting (45 ∷ 45 ∷ x ∷ xs)
          (before_first is_equals (x ∷ xs)) (after_first is_equals (x ∷ xs)) refl (rw f refl)
          (long_found names (before_first is_equals (x ∷ xs)) true e)).0)
          (fault_first _ [] (fault_first (pending_fault names rows pending) _ bad))
      by true false e f =
          subst IsFault (sym (waits_turn names rows pending waiting (45 ∷ 45 ∷ x ∷ xs)
          (before_first is_equals (x ∷ xs)) refl (rw f refl) (long_found names (before_first is_equals (x ∷ xs))
          true e)).0)
          (fault_first _ [] bad)

  -- a value of what is pending is refused, and is used whatever follows
  module _ (rows : List Row) (pending : Pending) (waiting : Waiting) (free : IsFree waiting) (bad : IsFault (pending_fault names rows pending)) (words : List Text) where
    bad-plain : (word : Text) → IsPlainWord word → IsFault (verdict names (at rows pending waiting false) (word ∷ words))
    bad-plain word plain = refused-now names (at rows pending waiting false) word words (subst IsFault (sym (plain_turn names rows pending waiting word free plain).0) bad)

    bad-word : (word : Text) → IsUtf8 word → IsFault (verdict names (at rows pending waiting false) (word ∷ words))
    bad-word = by_form (λ word. IsUtf8 word → IsFault (verdict names (at rows pending waiting false) (word ∷ words)))
        (λ text. bad-plain [] plain_empty)
        (λ text. bad-plain (45 ∷ []) plain_dash)
        (λ text. refused-later names (at rows pending waiting false) (at rows pending waiting true) (45 ∷ 45 ∷ [])
        words (dashes_turn names rows pending waiting).1 (bad-trailing words rows pending waiting bad))
        (λ x xs text. bad-long rows pending waiting x xs words bad)
        (λ x xs other text. bad-short rows pending waiting x xs words other text)
        (λ b bs other text. bad-plain (b ∷ bs) (plain_other b bs other))

  bad-pending : (words : List Text) (rows : List Row) (pending : Pending) (waiting : Waiting) → IsFree waiting
      → IsFault (pending_fault names rows pending) → All IsUtf8 words
      → IsFault (verdict names (at rows pending waiting false) words)
  bad-pending [] rows pending waiting free bad texts = subst IsFault (sym (verdict-end names rows pending waiting false)) bad
  bad-pending (word ∷ words) rows pending waiting free bad texts = bad-word rows pending waiting free bad words word (All-head IsUtf8 word words texts)

  -- ---- an option that waits for its value

  -- an option of these names
  abbrev pub IsName : Text → Type 0
  IsName name = (bytes_eq name [] ≡ false) × (list_any (bytes_eq name) names ≡ true)

  known : (name : Text) → IsName name → arg_by_id (rules_with names) name ≡ Some (option_built name)
  known name is = id_found names name (bytes-sym [] name ∙ is.0) is.1

  -- the next word is no value
  module _ (rows : List Row) (name : Text) (is : IsName name) (words : List Text) where
    waits-dashes : IsFault (verdict names (at rows (Some (name, [])) (option name) false) ((45 ∷ 45 ∷ []) ∷ words))
    waits-dashes =
        refused-later names (at rows (Some (name, [])) (option name) false) (at rows (Some (name, [])) (option name)
        true) (45 ∷ 45 ∷ []) words (dashes_turn names rows (Some (name, [])) (option name)).1
        (bad-trailing words rows (Some (name, [])) (option name) (pending-none names name (known name is) rows))

    waits-long : (x : ℕ) (xs : Text) → IsFault (verdict names (at rows (Some (name, [])) (option name) false) ((45 ∷ 45 ∷ x ∷ xs) ∷ words))
    waits-long x xs = bad-long rows (Some (name, [])) (option name) x xs words (pending-none names name (known name is) rows)

    waits-short : (x : ℕ) (xs : Text) → (x == 45) ≡ false → IsUtf8 (45 ∷ x ∷ xs) → IsFault (verdict names (at rows (Some (name, [])) (option name) false) ((45 ∷ x ∷ xs) ∷ words))
    waits-short x xs other text = bad-short rows (Some (name, [])) (option name) x xs words other text

    -- the next word is its value, which is refused when it is used
    waits-bad : (word : Text) → IsPlainWord word → All IsUtf8 words
        → IsFault (use_fault false (option_built name) (word ∷ []) rows)
        → IsFault (verdict names (at rows (Some (name, [])) (option name) false) (word ∷ words))
    waits-bad word plain texts bad =
        refused-later names (at rows (Some (name, [])) (option name) false) (at rows (Some (name, word ∷ [])) idle false) word words (value_turn names rows name word (known name is) plain).1
        (bad-pending words rows (Some (name, word ∷ [])) idle tt (subst IsFault (sym (pending-option names name (known name is) rows (word ∷ [])).0) bad) texts)

  waits-end : (rows : List Row) (name : Text) → IsName name → IsFault (verdict names (at rows (Some (name, [])) (option name) false) [])
  waits-end rows name is = subst IsFault (sym (verdict-end names rows (Some (name, [])) (option name) false)) (pending-none names name (known name is) rows)

  -- the option was given before
  waits-again : (words : List Text) (rows : List Row) (name : Text) → IsName name → has_row name rows ≡ true
      → All IsUtf8 words → IsFault (verdict names (at rows (Some (name, [])) (option name) false) words)
  waits-again [] rows name is there texts = waits-end rows name is
  waits-again (word ∷ words) rows name is there texts =
      let later = All-tail IsUtf8 word words texts in
      by_form (λ word. IsUtf8 word → IsFault (verdict names (at rows (Some (name, [])) (option name) false) (word ∷ words)))
      (λ text. waits-bad rows name is words [] plain_empty later (use-again names name [] rows there))
      (λ text. waits-bad rows name is words (45 ∷ []) plain_dash later (use-again names name (45 ∷ []) rows there))
      (λ text. waits-dashes rows name is words)
      (λ x xs text. waits-long rows name is words x xs)
      (λ x xs other text. waits-short rows name is words x xs other text)
      (λ b bs other text. waits-bad rows name is words (b ∷ bs) (plain_other b bs other) later (use-again names name (b ∷ bs) rows there))
      word (All-head IsUtf8 word words texts)

  -- ---- the induction

  -- between two words, where nothing waits, and where an option waits for its value
  abbrev Between : List Text → Type 0
  Between words = (rows : List Row) (pending : Pending) (waiting : Waiting) (so_far : Given) → IsFree waiting → Settles rows pending so_far → has_dash_value false words ≡ false → All IsUtf8 words
      → Agrees (given names None words so_far) (at rows pending waiting false) words

  abbrev Waits : List Text → Type 0
  Waits words = (rows : List Row) (name : Text) (so_far : Given) → IsName name → AreRowsOf rows so_far → is_given so_far name ≡ false → has_dash_value true words ≡ false → All IsUtf8 words
      → Agrees (given names (Some name) words so_far) (at rows (Some (name, [])) (option name) false) words

module _ (names : List Text) (named : All (λ name. name ≢ []) names) where
  -- the word is an argument
  between-argument : (word : Text) (words : List Text) → Between names words → (rows : List Row) (pending : Pending)
      (waiting : Waiting) (so_far : Given) → IsFree waiting → Settles names rows pending so_far → IsPlainWord word
      → has_dash_value false words ≡ false → All IsUtf8 words → Agrees names (given names None words (with_arguments so_far (word ∷ []))) (at rows pending waiting false) (word ∷ words)
  between-argument word words ih rows pending waiting so_far free settles plain no_dash texts =
      let turn = plain_turn names rows pending waiting word free plain in
      agrees-step names (given names None words (with_arguments so_far (word ∷ []))) (at rows pending waiting false)
      (at (rows_with names rows pending) (Some ([], word ∷ [])) positional false) word words (turn.0 ∙ settles.0)
      turn.1
      (ih (rows_with names rows pending) (Some ([], word ∷ [])) positional (with_arguments so_far (word ∷ [])) tt
      (settles-argument names (rows_with names rows pending) so_far word settles.1) no_dash texts)

  -- the word is `--name` or `--name=value`
  module _ (x : ℕ) (xs : Text) (words : List Text) (between : Between names words) (waits : Waits names words)
      (rows : List Row) (pending : Pending) (waiting : Waiting) (so_far : Given) (settles : Settles names rows pending
      so_far) (texts : All IsUtf8 words) where
    abbrev long_word : Text
    long_word = 45 ∷ 45 ∷ x ∷ xs

    abbrev long_name : Text
    long_name = before_first is_equals (x ∷ xs)

    abbrev long_value : Text
    long_value = after_first is_equals (x ∷ xs)

    abbrev now : List Row
    now = rows_with names rows pending

    abbrev here : Walk
    here = at rows pending waiting false

    abbrev answer : Text → Bool → Bool → Bool → Bool → Option Given
    answer behind known again equals empty =
        cond (known && not again) (cond equals (cond empty None (given names None words (with_option so_far long_name behind))) (given names (Some long_name) words so_far)) None

    answer-is : given names None (long_word ∷ words) so_far ≡ answer long_value (list_any (bytes_eq long_name) names) (is_given so_far long_name) (list_any is_equals (x ∷ xs)) (bytes_eq long_value [])
    answer-is = ap (λ behind. answer behind (list_any (bytes_eq long_name) names) (is_given so_far long_name) (list_any is_equals (x ∷ xs)) (bytes_eq behind [])) (value_behind (x ∷ xs))

    new-option : list_any (bytes_eq long_name) names ≡ true → is_given so_far long_name ≡ false → has_dash_value false
        (long_word ∷ words) ≡ false → (equals empty : Bool) → list_any is_equals (x ∷ xs) ≡ equals
        → bytes_eq long_value [] ≡ empty
        → Agrees names (answer long_value true false equals empty) here (long_word ∷ words)
    new-option k a no_dash true true e f =
        refused-now names here long_word words
        (subst IsFault (sym (equals_turn names rows pending waiting long_word long_name long_value refl (rw e refl) (long_found names long_name true k)).0)
        (fault_first _ [] (fault_second (pending_fault names rows pending) _
        (subst (λ v. IsFault (use_fault false (option_built long_name) (v ∷ []) now))
        (sym (same_bytes long_value [] f)) (use-empty names long_name now)))))
    new-option k a no_dash true false e f =
        let turn = equals_turn names rows pending waiting long_word long_name long_value refl (rw e refl) (long_found names long_name true k) in
        let is = name_is names long_name named k in
        let new = sym (is_given-row long_name is now so_far settles.1) ∙ a in
        let after = used (option_built long_name) (long_value ∷ []) now in
        agrees-step names (given names None words (with_option so_far long_name long_value)) here (at after None idle false) long_word words
        (turn.0 ∙ or_nil _ _ settles.0 (use-quiet names long_name long_value now new (not_empty long_value f))) turn.1
        (between after None idle (with_option so_far long_name long_value) tt (
          refl,
          option_joins long_name long_value
              now so_far is new settles.1,
        ) (ap (λ b. has_dash_value (not b) words) (sym e) ∙ no_dash) texts)
    new-option k a no_dash false empty e f =
        let turn = waits_turn names rows pending waiting long_word long_name refl (rw e refl) (long_found names long_name true k) in
        agrees-step names (given names (Some long_name) words so_far) here (at now (Some (long_name, []))
        (option long_name) false) long_word words (turn.0 ∙ ap (λ kinds. or_else kinds []) settles.0) turn.1
        (waits now long_name so_far (name_is names long_name named k, k) settles.1 a (ap (λ b. has_dash_value (not b) words) (sym e) ∙ no_dash) texts)

    old-option : list_any (bytes_eq long_name) names ≡ true → is_given so_far long_name ≡ true → (equals : Bool)
        → list_any is_equals (x ∷ xs) ≡ equals → IsFault (verdict names here (long_word ∷ words))
    old-option k a true e =
        let there = sym (is_given-row long_name (name_is names long_name named k) now so_far settles.1) ∙ a in
        refused-now names here long_word words
        (subst IsFault (sym (equals_turn names rows pending waiting long_word long_name long_value refl (rw e refl) (long_found names long_name true k)).0)
        (fault_first _ [] (fault_second (pending_fault names rows pending) _ (use-again names long_name long_value now there))))
    old-option k a false e =
        let is = name_is names long_name named k in
        let there = sym (is_given-row long_name is now so_far settles.1) ∙ a in
        refused-later names here (at now (Some (long_name, [])) (option long_name) false) long_word words
        (waits_turn names rows pending waiting long_word long_name refl (rw e refl) (long_found names long_name
        true k)).1
        (waits-again names words now long_name (is, k) there texts)

    between-long : has_dash_value false (long_word ∷ words) ≡ false → Agrees names (given names None (long_word ∷ words) so_far) here (long_word ∷ words)
    between-long no_dash = subst (λ o. Agrees names o here (long_word ∷ words)) (sym answer-is) (by (list_any (bytes_eq long_name) names) (is_given so_far long_name) refl refl)
      where
        by : (known again : Bool) → list_any (bytes_eq long_name) names ≡ known → is_given so_far long_name ≡ again
            → Agrees names (answer long_value (list_any (bytes_eq long_name) names) (is_given so_far long_name)
            (list_any is_equals (x ∷ xs)) (bytes_eq long_value [])) here (long_word ∷ words)
        by false again k a =
            subst (λ b. Agrees names (answer long_value b (is_given so_far long_name) (list_any is_equals (x ∷ xs)) (bytes_eq long_value [])) here (long_word ∷ words)) (sym k)
            (refused-now names here long_word words (unknown_turn names rows pending waiting long_word long_name
            (cond (list_any is_equals (x ∷ xs)) (Some long_value) None) refl refl (long_found names long_name
            false k)))
        by true true k a =
            subst (λ b. Agrees names (answer long_value b (is_given so_far long_name) (list_any is_equals (x ∷ xs)) (bytes_eq long_value [])) here (long_word ∷ words)) (sym k)
            (subst (λ b. Agrees names (answer long_value true b (list_any is_equals (x ∷ xs)) (bytes_eq long_value [])) here (long_word ∷ words)) (sym a)
            (old-option k a (list_any is_equals (x ∷ xs)) refl))
        by true false k a =
            subst (λ b. Agrees names (answer long_value b (is_given so_far long_name) (list_any is_equals (x ∷ xs)) (bytes_eq long_value [])) here (long_word ∷ words)) (sym k)
            (subst (λ b. Agrees names (answer long_value true b (list_any is_equals (x ∷ xs)) (bytes_eq long_value [])) here (long_word ∷ words)) (sym a)
            (new-option k a no_dash (list_any is_equals (x ∷ xs)) (bytes_eq long_value []) refl refl))

  -- ---- one more word

  between-step : (word : Text) (words : List Text) → Between names words → Waits names words → Between names (word ∷ words)
  between-step word words between waits rows pending waiting so_far free settles no_dash texts =
      let later = All-tail IsUtf8 word words texts in
      by_form (λ word. IsUtf8 word → has_dash_value false (word ∷ words) ≡ false → Agrees names (given names None (word ∷ words) so_far) (at rows pending waiting false) (word ∷ words))
      (λ text none. between-argument [] words between rows pending waiting so_far free settles plain_empty none later)
      (λ text none. between-argument (45 ∷ []) words between rows pending waiting so_far free settles plain_dash none later)
      (λ text none.
      agrees-step names (Some (with_arguments so_far words)) (at rows pending waiting false)
      (at rows pending waiting true) (45 ∷ 45 ∷ []) words (dashes_turn names rows pending waiting).0
      (dashes_turn names rows pending waiting).1
      (trailing names words rows pending waiting so_far settles))
      (λ x xs text none. between-long x xs words between waits rows pending waiting so_far settles later none)
      (λ x xs other text none.
      let refused : given names None ((45 ∷ x ∷ xs) ∷ words) so_far ≡ None = simp (other, dash_apart x other) refl in
      subst (λ o. Agrees names o (at rows pending waiting false) ((45 ∷ x ∷ xs) ∷ words)) (sym refused) (bad-short names rows pending waiting x xs words other text))
      (λ b bs other text none.
      let joins : given names None ((b ∷ bs) ∷ words) so_far ≡ given names None words (with_arguments so_far ((b ∷ bs) ∷ [])) = simp other refl in
      let past : has_dash_value false ((b ∷ bs) ∷ words) ≡ has_dash_value false words = simp (other, dash_apart b other) refl in
      subst (λ o. Agrees names o (at rows pending waiting false) ((b ∷ bs) ∷ words)) (sym joins)
      (between-argument (b ∷ bs) words between rows pending waiting so_far free settles (plain_other b bs other) (sym past ∙ none) later))
      word (All-head IsUtf8 word words texts) no_dash

  waits-step : (word : Text) (words : List Text) → Between names words → Waits names (word ∷ words)
  waits-step word words between rows name so_far is are new no_dash texts =
      let later = All-tail IsUtf8 word words texts in
      let row = sym (is_given-row name is.0 rows so_far are) ∙ new in
      by_form (λ word. IsUtf8 word → has_dash_value true (word ∷ words) ≡ false
      → Agrees names (given names (Some name) (word ∷ words) so_far) (at rows (Some (name, [])) (option name)
      false) (word ∷ words))
      (λ text none. waits-bad names rows name is words [] plain_empty later (use-empty names name rows))
      (λ text none. absurd (true≢false none))
      (λ text none. waits-dashes names rows name is words)
      (λ x xs text none. waits-long names rows name is words x xs)
      (λ x xs other text none. waits-short names rows name is words x xs other text)
      (λ b bs other text none.
      let value = b ∷ bs in
      let turn = value_turn names rows name value (known names name is) (plain_other b bs other) in
      let pending = pending-option names name (known names name is) rows (value ∷ []) in
      let takes : given names (Some name) ((b ∷ bs) ∷ words) so_far ≡ given names None words (with_option so_far name (b ∷ bs)) = simp other refl in
      let past : has_dash_value true ((b ∷ bs) ∷ words) ≡ has_dash_value false words = simp (other, dash_apart b other) refl in
      subst (λ o. Agrees names o (at rows (Some (name, [])) (option name) false) ((b ∷ bs) ∷ words)) (sym takes)
      (agrees-step names (given names None words (with_option so_far name value))
      (at rows (Some (name, [])) (option name) false) (at rows (Some (name, value ∷ [])) idle false) value words
      turn.0 turn.1
      (between rows (Some (name, value ∷ [])) idle (with_option so_far name value) tt (
        pending.0 ∙ use-quiet names name value rows row (not_empty value refl),
        subst
            (λ all. AreRowsOf all (with_option so_far name value)) (sym pending.1) (option_joins name value rows so_far
            is.0 row are),
      )
      (sym past ∙ none) later)))
      word (All-head IsUtf8 word words texts) no_dash

  both : (words : List Text) → Between names words × Waits names words
  both [] = (
    λ rows pending waiting so_far free settles no_dash texts. (verdict-end names rows pending waiting false ∙ settles.0, settles.1),
    λ rows name so_far is are new no_dash texts. waits-end names rows name is,
  )
  both (word ∷ words) = let rest = both words in (between-step word words rest.0 rest.1, waits-step word words rest.0)

  -- what the words give, and `clap`'s walk over them, agree
  pub words-agree : (words : List Text) → has_dash_value false words ≡ false → All IsUtf8 words → Agrees names (words_give names words) (at [] None idle false) words
  words-agree words no_dash texts = (both words).0 [] None idle nothing_given tt (refl, (refl, All-nil (λ (row : Row). 0 < length row.values))) no_dash texts
