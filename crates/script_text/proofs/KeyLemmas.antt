-- The keys of a text, line after line.
use Rattle.std.proofs.Common.{◌≡◌, ◌≤◌, ◌<◌, ℕ, ◌+◌, ◌&&◌, Bool, true, false, nat_le, Option, Some, None, option_map, Ok, Err, List, [], ◌∷◌, ◌++◌, All, length, map, get_or, refl, sym, ap, ◌∙◌, IfSome, inl, inr, ◌⊎◌, nat_lt, position, arith, append-nil, length-append, if◌then◌else◌}
use Rattle.std.specs.Option.{option_and_then, option_map_or}
use Rattle.std.proofs.lemmas.Bool.{le-leb, and_from, and_parts, ltb-true}
use Rattle.std.proofs.lemmas.List.Elements.{All-append, All-replicate}
use Rattle.std.specs.Str.{bytes_eq}
use Rattle.text_values.specs.Number.{number_of}
use Rattle.script_text.specs.declared.script.ScriptKey.{ScriptKey}
use Rattle.script_text.specs.declared.script.Reached.{Reached}
use Rattle.script_text.specs.Lines.{line_words, is_edged, text_lines}
use Rattle.script_text.specs.Script.{is_skipped, tick_of, terminal_of, terminal_names, bytes_of, byte_of, key_at, keys_at, words_keys, keys_of, line_keys, are_few_keys, never_fall, IsScriptKey, AreKeys}
use Rattle.script_text.specs.Reached.{reached_with, IsReachable}
use Rattle.script_text.proofs.SliceLemmas.{range-as}
use Rattle.script_text.proofs.TextLemmas.{ReadSoFar, ReadSoFar-start, ReadSoFar-next, refused-unread, refused-passed, all_read}

-- ---- counting bytes
-- the words that are left bring the count to that of all words
abbrev pub counted_with : ℕ → Option (List ℕ) → Option ℕ
counted_with count None = None
counted_with count (Some bytes) = Some (count + length bytes)

-- ---- pushing keys
-- the keys that words give, those that spell no byte left out
abbrev pub keys_left : ℕ → ℕ → List (List ℕ) → List ScriptKey
keys_left tick term [] = []
keys_left tick term (word ∷ words) =
    option_map_or (λ byte. key_at tick term byte ∷ []) (byte_of word) [] ++ keys_left tick term words

key-word : (tick term : ℕ) (first : Option ℕ) (others : Option (List ℕ)) (left : List ScriptKey) (bytes : List ℕ)
    → ((bs : List ℕ) → others ≡ Some bs → left ≡ map (key_at tick term) bs)
    → option_and_then (λ f. option_map (λ r. f ++ r) others) (option_map (λ b. b ∷ []) first) ≡ Some bytes
    → option_map_or (λ b. key_at tick term b ∷ []) first [] ++ left ≡ map (key_at tick term) bytes
key-word tick term None others left bytes same is = absurd (cc)
key-word tick term (Some first) None left bytes same is = absurd (cc)
key-word tick term (Some first) (Some others) left bytes same is =
    let these : first ∷ others ≡ bytes = cc in
    rw (same others refl, ← these) refl

-- they are the keys of the bytes that the words spell
pub keys_left-all : (tick term : ℕ) (words : List (List ℕ)) (bytes : List ℕ) → bytes_of words ≡ Some bytes → keys_left tick term words ≡ map (key_at tick term) bytes
keys_left-all tick term [] bytes is = let none : [] ≡ bytes = cc in rw (← none) refl
keys_left-all tick term (word ∷ words) bytes is =
    key-word tick term (byte_of word) (bytes_of words) (keys_left tick term words) bytes (keys_left-all tick term words) is

if-keys : (tick term : ℕ) (words : List (List ℕ)) (now old : List ScriptKey) (bytes : Option (List ℕ))
    → bytes_of words ≡ bytes → now ≡ old ++ keys_left tick term words
    → IfSome bytes (λ bs. now ≡ old ++ map (key_at tick term) bs)
if-keys tick term words now old None is are = tt
if-keys tick term words now old (Some bytes) is are =
    are ∙ ap (λ ks. old ++ ks) (keys_left-all tick term words bytes is)

pub keys_pushed : (tick term : ℕ) (words left : List (List ℕ)) (now old : List ScriptKey) → left ≡ []
    → now ++ keys_left tick term left ≡ old ++ keys_left tick term words → IfSome (bytes_of words)
    (λ bs. now ≡ old ++ map (key_at tick term) bs)
keys_pushed tick term words left now old none same =
    if-keys tick term words now old (bytes_of words) refl
    (sym (append-nil now) ∙ ap (λ ks. now ++ keys_left tick term ks) (sym none) ∙ same)

-- ---- ticks that never fall
-- the tick of the last of these keys, or this one
abbrev pub last_tick : ℕ → List ScriptKey → ℕ
last_tick tick [] = tick
last_tick tick (key ∷ keys) = last_tick key.tick keys

last_tick-append : (tick : ℕ) (keys more : List ScriptKey) → last_tick tick (keys ++ more) ≡ last_tick (last_tick tick keys) more
last_tick-append tick [] more = refl
last_tick-append tick (key ∷ keys) more = last_tick-append key.tick keys more

last_tick-typed : (before tick term byte : ℕ) (bytes : List ℕ) → last_tick before (map (key_at tick term) (byte ∷ bytes)) ≡ tick
last_tick-typed before tick term byte [] = refl
last_tick-typed before tick term byte (next ∷ bytes) = last_tick-typed tick tick term next bytes

never_fall-typed : (tick term byte : ℕ) (bytes : List ℕ) → never_fall (map (key_at tick term) (byte ∷ bytes)) ≡ true
never_fall-typed tick term byte [] = refl
never_fall-typed tick term byte (next ∷ bytes) =
    and_from (nat_le tick tick) _ (le-leb tick tick (omega arith)) (never_fall-typed tick term next bytes)

and-true : (a b : Bool) → b ≡ true → (a && b) ≡ a
and-true true b is = is
and-true false b is = refl

never_fall-behind : (key : ScriptKey) (keys : List ScriptKey) (tick term byte : ℕ) (bytes : List ℕ)
    → never_fall (key ∷ keys) ≡ true → never_fall ((key ∷ keys) ++ map (key_at tick term) (byte ∷ bytes)) ≡ nat_le
    (last_tick key.tick keys) tick
never_fall-behind key [] tick term byte bytes rising =
    and-true (nat_le key.tick tick) _ (never_fall-typed tick term byte bytes)
never_fall-behind key (next ∷ keys) tick term byte bytes rising =
    let both = and_parts (nat_le key.tick next.tick) (never_fall (next ∷ keys)) rising in
    rw both.0 (never_fall-behind next keys tick term byte bytes both.1)

-- keys at one tick behind others
never_fall-append : (keys : List ScriptKey) (tick term byte : ℕ) (bytes : List ℕ) → never_fall keys ≡ true → never_fall (keys ++ map (key_at tick term) (byte ∷ bytes)) ≡ nat_le (last_tick 0 keys) tick
never_fall-append [] tick term byte bytes rising =
    never_fall-typed tick term byte bytes ∙ sym (le-leb 0 tick (omega arith))
never_fall-append (key ∷ keys) tick term byte bytes rising = never_fall-behind key keys tick term byte bytes rising

-- ---- what a line gives
-- one or more keys at one tick at one terminal
record AreTyped (terminals : ℕ) (added : List ScriptKey) : Type 0 where
  tick : ℕ
  term : ℕ
  byte : ℕ
  bytes : List ℕ
  is : added ≡ map (key_at tick term) (byte ∷ bytes)
  early : tick ≤ 1000000
  there : term < terminals

typed-bytes : (terminals tick term : ℕ) (bytes : Option (List ℕ)) (added : List ScriptKey) → tick ≤ 1000000
    → term < terminals → option_and_then (keys_at tick term) bytes ≡ Some added → AreTyped terminals added
typed-bytes terminals tick term None added early there is = absurd (cc)
typed-bytes terminals tick term (Some []) added early there is = absurd (cc)
typed-bytes terminals tick term (Some (byte ∷ bytes)) added early there is = record {
  tick = tick;
  term = term;
  byte = byte;
  bytes = bytes;
  is = (let same : map (key_at tick term) (byte ∷ bytes) ≡ added = cc in sym same);
  early = early;
  there = there;
}

typed-term : (terminals tick : ℕ) (term : Option ℕ) (bytes : Option (List ℕ)) (added : List ScriptKey)
    → tick ≤ 1000000 → ((n : ℕ) → term ≡ Some n → n < terminals)
    → option_and_then (λ n. option_and_then (keys_at tick n) bytes) term ≡ Some added → AreTyped terminals added
typed-term terminals tick None bytes added early there is = absurd (cc)
typed-term terminals tick (Some term) bytes added early there is = typed-bytes terminals tick term bytes added early (there term refl) is

typed-tick : (terminals : ℕ) (tick term : Option ℕ) (bytes : Option (List ℕ)) (added : List ScriptKey)
    → ((t : ℕ) → tick ≡ Some t → t ≤ 1000000) → ((n : ℕ) → term ≡ Some n → n < terminals)
    → option_and_then (λ t. option_and_then (λ n. option_and_then (keys_at t n) bytes) term) tick ≡ Some added
    → AreTyped terminals added
typed-tick terminals None term bytes added early there is = absurd (cc)
typed-tick terminals (Some tick) term bytes added early there is = typed-term terminals tick term bytes added (early tick refl) there is

terminal-at : (terminals m n : ℕ) (test : Bool) → nat_lt m terminals ≡ test → (if test then Some m else None) ≡ Some n → n < terminals
terminal-at terminals m n true is some =
    let same : m ≡ n = cc in
    let less : m < terminals = ltb-true m terminals is in
    omega arith
terminal-at terminals m n false is some = absurd (cc)

terminal-below : (terminals : ℕ) (number : Option ℕ) (n : ℕ) → option_and_then (λ m. if nat_lt m terminals then Some m else None) number ≡ Some n → n < terminals
terminal-below terminals None n is = absurd (cc)
terminal-below terminals (Some m) n is = terminal-at terminals m n _ refl is

typed-words : (terminals : ℕ) (words : List (List ℕ)) (added : List ScriptKey) → words_keys terminals words ≡ Some added → AreTyped terminals added
typed-words terminals [] added is = absurd (cc)
typed-words terminals (tick ∷ []) added is = absurd (cc)
typed-words terminals (tick ∷ terminal ∷ bytes) added is =
    typed-tick terminals (tick_of tick) (terminal_of terminals terminal) (bytes_of bytes) added
    (λ t reads. (range-as 0 1000000 (number_of tick) t reads).1) (λ n reads. terminal-below terminals
    (position (bytes_eq terminal) terminal_names) n reads) is

line-as : (terminals : ℕ) (line : List ℕ) (added : List ScriptKey) (skipped edged : Bool) → is_skipped line ≡ skipped
    → is_edged line ≡ edged → line_keys terminals line ≡ Some added → (added ≡ []) ⊎ AreTyped terminals added
line-as terminals line added true edged skips edges is =
    let none : line_keys terminals line ≡ Some [] = simp skips in
    inl (let same : [] ≡ added = cc in sym same)
line-as terminals line added false true skips edges is =
    let none : line_keys terminals line ≡ None = simp (skips, edges) in absurd (cc)
line-as terminals line added false false skips edges is =
    let words : line_keys terminals line ≡ words_keys terminals (line_words line) = simp (skips, edges) in
    inr (typed-words terminals (line_words line) added (sym words ∙ is))

each-typed : (terminals tick term : ℕ) (bytes : List ℕ) → tick ≤ 1000000 → term < terminals → All (IsScriptKey terminals) (map (key_at tick term) bytes)
each-typed terminals tick term [] early there = λ k d below. absurd (omega arith)
each-typed terminals tick term (byte ∷ bytes) early there =
    All-append (IsScriptKey terminals) (key_at tick term byte ∷ []) (map (key_at tick term) bytes)
    (All-replicate (IsScriptKey terminals) 1 (key_at tick term byte) (record { there = there; early = early }))
    (each-typed terminals tick term bytes early there)

-- a choice that gives none, and one that gives some
if-none : (test : Bool) (r : Reached) → None ≡ (if test then Some r else None) → test ≡ false
if-none true r is = absurd (cc)
if-none false r is = refl

if-some-true : (test : Bool) (r next : Reached) → Some next ≡ (if test then Some r else None) → test ≡ true
if-some-true true r next is = refl
if-some-true false r next is = absurd (cc)

if-some : (test : Bool) (r next : Reached) → Some next ≡ (if test then Some r else None) → next ≡ r
if-some true r next is = (cc)
if-some false r next is = absurd (cc)

-- ---- keys of the first lines
-- how far they reach
pub record KeysSoFar (terminals : ℕ) (text : List ℕ) (place : ℕ) (keys : List ScriptKey) (reached : Reached) : Type 0 where
  pub so_far : ReadSoFar (line_keys terminals) are_few_keys (text_lines text) place keys
  pub many : reached.keys ≡ length keys
  pub last : reached.tick ≡ last_tick 0 keys
  pub rising : never_fall keys ≡ true
  pub each : All (IsScriptKey terminals) keys
  pub reachable : IsReachable reached

pub KeysSoFar-start : (terminals : ℕ) (text : List ℕ) → KeysSoFar terminals text 0 [] (record { tick = 0; keys = 0 })
KeysSoFar-start terminals text = record {
  so_far = ReadSoFar-start (line_keys terminals) are_few_keys (text_lines text);
  many = refl;
  last = refl;
  rising = refl;
  each = λ k d below. absurd (omega arith);
  reachable = record { few = omega arith; early = omega arith };
}

pub KeysSoFar-all : (terminals : ℕ) (text : List ℕ) (place : ℕ) (keys : List ScriptKey) (reached : Reached)
    → KeysSoFar terminals text place keys reached → place ≡ length (text_lines text) → keys_of terminals text ≡ Ok
    keys
KeysSoFar-all terminals text place keys reached so_far all =
    all_read (line_keys terminals) are_few_keys (text_lines text) place keys so_far.so_far (omega arith)

pub KeysSoFar-limits : (terminals : ℕ) (text : List ℕ) (place : ℕ) (keys : List ScriptKey) (reached : Reached) → KeysSoFar terminals text place keys reached → AreKeys terminals keys
KeysSoFar-limits terminals text place keys reached so_far = record {
  few = omega (arith, so_far.many, so_far.reachable.few);
  each = so_far.each;
  rising = so_far.rising;
}

module _ (terminals : ℕ) (text : List ℕ) (place : ℕ) (keys : List ScriptKey) (reached : Reached) (line : List ℕ)
    (so_far : KeysSoFar terminals text place keys reached) (below : place < length (text_lines text))
    (is : line ≡ get_or (text_lines text) place line) where
  -- the test of the keys with these is that of how far they reach
  typed-test : (tick term byte : ℕ) (bytes : List ℕ) → are_few_keys (keys ++ map (key_at tick term) (byte ∷ bytes)) ≡
      (nat_le reached.tick tick && nat_le (reached.keys + length (map (key_at tick term) (byte ∷ bytes))) 1000000)
  typed-test tick term byte bytes =
      let many : length (keys ++ map (key_at tick term) (byte ∷ bytes)) ≡ reached.keys + length
      (map (key_at tick term) (byte ∷ bytes)) = omega
      (arith, length-append keys (map (key_at tick term) (byte ∷ bytes)), so_far.many) in
      rw (never_fall-append keys tick term byte bytes so_far.rising, many, so_far.last) refl

  typed-refused : (added : List ScriptKey) → AreTyped terminals added → None ≡ reached_with reached (Some added) → are_few_keys (keys ++ added) ≡ false
  typed-refused added typed none =
      let at : None ≡ reached_with reached (Some (map (key_at typed.tick typed.term) (typed.byte ∷ typed.bytes))) = none ∙ ap (λ a. reached_with reached (Some a)) typed.is in
      let test : (nat_le reached.tick typed.tick && nat_le (reached.keys + length (map (key_at typed.tick typed.term) (typed.byte ∷ typed.bytes))) 1000000) ≡ false = if-none _ _ at in
      ap (λ a. are_few_keys (keys ++ a)) typed.is ∙ typed-test typed.tick typed.term typed.byte typed.bytes ∙ test

  refused-as : (added : Option (List ScriptKey)) → line_keys terminals line ≡ added → None ≡ reached_with reached added → keys_of terminals text ≡ Err (place + 1)
  refused-as None reads none =
      refused-unread (line_keys terminals) are_few_keys (text_lines text) place keys line so_far.so_far below is reads
  refused-as (Some added) reads none =
      elim (line-as terminals line added (is_skipped line) (is_edged line) refl refl reads) [
        | inl empty ↦ let some : reached_with reached (Some added) ≡ Some reached = ap (λ a. reached_with reached (Some a)) empty in absurd (cc)
        | inr typed ↦
            refused-passed (line_keys terminals) are_few_keys (text_lines text) place keys added line so_far.so_far below is reads (typed-refused added typed none)
      ]

  pub keys-refused : None ≡ reached_with reached (line_keys terminals line) → keys_of terminals text ≡ Err (place + 1)
  keys-refused none = refused-as (line_keys terminals line) refl none

  typed-next : (added : List ScriptKey) (next : Reached) → AreTyped terminals added → line_keys terminals line ≡ Some
      added → Some next ≡ reached_with reached (Some added) → IsReachable next → KeysSoFar terminals text (place + 1)
      (keys ++ added) next
  typed-next added next typed reads some reachable =
      let keys_typed : List ScriptKey = map (key_at typed.tick typed.term) (typed.byte ∷ typed.bytes) in
      let at : Some next ≡ reached_with reached (Some (map (key_at typed.tick typed.term) (typed.byte ∷ typed.bytes))) = some ∙ ap (λ a. reached_with reached (Some a)) typed.is in
      let test : (nat_le reached.tick typed.tick && nat_le (reached.keys + length (map (key_at typed.tick typed.term) (typed.byte ∷ typed.bytes))) 1000000) ≡ true = if-some-true _ _ next at in
      let fields : next ≡ record { tick = typed.tick; keys = reached.keys + length (map (key_at typed.tick typed.term) (typed.byte ∷ typed.bytes)) } = if-some _ _ next at in
      let whole : are_few_keys (keys ++ added) ≡ true = ap (λ a. are_few_keys (keys ++ a)) typed.is ∙ typed-test typed.tick typed.term typed.byte typed.bytes ∙ test in
      record {
        so_far = ReadSoFar-next (line_keys terminals) are_few_keys (text_lines text) place keys added line so_far.so_far below is reads whole;
        many = ap (λ r. r.keys) fields ∙ (let sum : reached.keys + length (map (key_at typed.tick typed.term)
            (typed.byte ∷ typed.bytes)) ≡ length (keys ++ added) = rw typed.is
            (omega (
              arith,
              length-append keys (map (key_at typed.tick typed.term) (typed.byte ∷ typed.bytes)),
              so_far.many,
            )) in sum);
        last = ap (λ r. r.tick) fields ∙ sym (ap (λ a. last_tick 0 (keys ++ a)) typed.is ∙ last_tick-append 0 keys
            (map (key_at typed.tick typed.term) (typed.byte ∷ typed.bytes)) ∙ last_tick-typed (last_tick 0 keys)
            typed.tick typed.term typed.byte typed.bytes);
        rising = (and_parts (never_fall (keys ++ added)) (nat_le (length (keys ++ added)) 1000000) whole).0;
        each = All-append (IsScriptKey terminals) keys added so_far.each (rw typed.is (each-typed terminals typed.tick typed.term (typed.byte ∷ typed.bytes) typed.early typed.there));
        reachable = reachable;
      }

  empty-next : line_keys terminals line ≡ Some [] → KeysSoFar terminals text (place + 1) (keys ++ []) reached
  empty-next reads =
      let whole : are_few_keys (keys ++ []) ≡ true = rw (append-nil keys) (and_from (never_fall keys)
      (nat_le (length keys) 1000000) so_far.rising (le-leb (length keys) 1000000
      (omega (arith, so_far.many, so_far.reachable.few)))) in
      record {
        so_far = ReadSoFar-next (line_keys terminals) are_few_keys (text_lines text) place keys [] line so_far.so_far below is reads whole;
        many = rw (append-nil keys) so_far.many;
        last = rw (append-nil keys) so_far.last;
        rising = rw (append-nil keys) so_far.rising;
        each = rw (append-nil keys) so_far.each;
        reachable = so_far.reachable;
      }

  next-as : (added : Option (List ScriptKey)) (next : Reached) (now : List ScriptKey) → line_keys terminals line ≡
      added → Some next ≡ reached_with reached added → IfSome added (λ a. now ≡ keys ++ a) → IsReachable next
      → KeysSoFar terminals text (place + 1) now next
  next-as None next now reads some is_now reachable = absurd (cc)
  next-as (Some added) next now reads some is_now reachable =
      elim (line-as terminals line added (is_skipped line) (is_edged line) refl refl reads) [
        | inl empty ↦
            let at : Some next ≡ Some reached = some ∙ ap (λ a. reached_with reached (Some a)) empty in
            let same : next ≡ reached = cc in
            let all : now ≡ keys ++ [] = is_now ∙ ap (λ a. keys ++ a) empty in
            rw (all, same) (empty-next (reads ∙ ap Some empty))
        | inr typed ↦ rw is_now (typed-next added next typed reads some reachable)
      ]

  -- a line that keeps the rules
  pub KeysSoFar-next : (next : Reached) (now : List ScriptKey) → Some next ≡ reached_with reached
      (line_keys terminals line) → IfSome (line_keys terminals line) (λ added. now ≡ keys ++ added) → IsReachable next
      → KeysSoFar terminals text (place + 1) now next
  KeysSoFar-next next now some is_now reachable = next-as (line_keys terminals line) next now refl some is_now reachable
