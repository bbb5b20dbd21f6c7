-- The texts of a session give its keys and its slices.
use Rattle.std.proofs.Common.{◌≡◌, ◌≤◌, ◌<◌, ℕ, ◌+◌, ◌-◌, ◌*◌, ◌/◌, ◌%◌, ◌^◌, ◌==◌, zero, suc, Bool, true, false, nat_le, nat_lt, Some, None, Ok, List, [], ◌∷◌, ◌++◌, All, drop, length, map, filter, get_or, take, refl, sym, ap, ◌∙◌, subst, arith, append-nil, append_assoc, length-append, if◌then◌else◌}
use Rattle.std.specs.Prelude.{codes, decimal, nat_eq, replicate, sum}
use Rattle.std.specs.List.{ends_with, flat_map, position_or_len, slice_split, starts_with}
use Rattle.std.specs.Option.{option_and_then}
use Rattle.std.proofs.lemmas.Bool.{and_from, and_parts, le-leb, leb-true, lt-leb, ltb-false, ltb-true, ne_eqb}
use Rattle.std.proofs.lemmas.Fmt.{decimal_by_steps}
use Rattle.std.proofs.lemmas.List.{length-drop, length-replicate}
use Rattle.std.proofs.lemmas.List.Concat.{flat_map-append}
use Rattle.std.proofs.lemmas.List.Elements.{All-append, All-cons, All-head, All-nil, All-tail, All-weaker}
use Rattle.std.proofs.lemmas.List.Splits.{slice_split_at, slice_split_none}
use Rattle.std.proofs.lemmas.Option.{none-some, same_Some}
use Rattle.text_values.specs.Number.{hex_digit, is_digit, number_after, number_of, within}
use Rattle.text_values.specs.Cuts.{is_space}
use Rattle.script_text.specs.declared.script.ScriptKey.{ScriptKey}
use Rattle.script_text.specs.Lines.{is_edged, is_word, line_words, text_lines}
use Rattle.script_text.specs.Script.{AreKeys, IsScriptKey, are_few_keys, byte_of, bytes_of, is_skipped, key_at, keys_at, keys_of, line_keys, never_fall, tick_of, words_keys}
use Rattle.script_text.specs.Slices.{AreSlices, are_few_slices, is_asterisk, line_slices, slices_of, word_slices}
use Rattle.script_text.proofs.TextLemmas.{ReadSoFar, ReadSoFar-next, ReadSoFar-start, all_read, outcome}
use Rattle.console_run.specs.Texts.{HasTypedBytes, IsByte, byte_word, hex_digit as digit, script_line, script_text, slice_text}
use Rattle.console_run.specs.Typed.{kept_keys, kept_slices, keys_typed, part_bytes}
use Rattle.console_run.specs.declared.typed.TheConstants.{SLICE}
use Rattle.console_run.specs.declared.typed.Typed.{Typed}
use Rattle.console_run.specs.declared.typed.TypedPart.{TypedPart}

-- ---- numbers

abbrev IsDigit : ℕ → Type 0
IsDigit byte = is_digit byte ≡ true

number-behind : (value w last : ℕ) (ds : List ℕ) → number_after value ds ≡ Some w → is_digit last ≡ true → number_after value (ds ++ last ∷ []) ≡ Some (10 * w + (last - 48))
number-behind value w last [] is shown = rw (shown, same_Some value w is) refl
number-behind value w last (first ∷ ds) is shown = by (is_digit first) is (λ there. number-behind (10 * value + (first - 48)) w last ds there shown)
  where
    by : (b : Bool) → (if b then number_after (10 * value + (first - 48)) ds else None) ≡ Some w
        → (number_after (10 * value + (first - 48)) ds ≡ Some w → number_after (10 * value + (first - 48)) (ds ++ last ∷ []) ≡ Some (10 * w + (last - 48)))
        → (if b then number_after (10 * value + (first - 48)) (ds ++ last ∷ []) else None) ≡ Some (10 * w + (last - 48))
    by true is more = more is
    by false is more = absurd (none-some w is)

digit-is : (n : ℕ) → n < 10 → is_digit (48 + n) ≡ true
digit-is n low = and_from (nat_le 48 (48 + n)) (nat_le (48 + n) 57) (le-leb 48 (48 + n) (omega arith)) (le-leb (48 + n) 57 (omega arith))

-- digits spell a number
record Spells (n : ℕ) (ds : List ℕ) : Type 0 where
  number : number_after 0 ds ≡ Some n
  some : 0 < length ds
  digits : All IsDigit ds

spelled : (n : ℕ) → n < 2 ^ 64 → Spells n (decimal n)
spelled n below = decimal_by_steps Spells one more n below
  where
    one : (n : ℕ) → n < 10 → Spells n ((48 + n) ∷ [])
    one n low = record {
      number = rw (digit-is n low) (ap Some (omega arith));
      some = omega arith;
      digits = All-cons IsDigit (48 + n) [] (digit-is n low) (All-nil IsDigit);
    }

    more : (n : ℕ) (ds : List ℕ) → 10 ≤ n → Spells (n / 10) ds → Spells n (ds ++ (48 + n % 10) ∷ [])
    more n ds high it =
        let low : n % 10 < 10 = omega arith in
        record {
          number = number-behind 0 (n / 10) (48 + n % 10) ds it.number (digit-is (n % 10) low) ∙ ap Some (omega arith);
          some = omega (arith, length-append ds ((48 + n % 10) ∷ []));
          digits = All-append IsDigit ds ((48 + n % 10) ∷ []) it.digits (All-cons IsDigit (48 + n % 10) [] (digit-is (n % 10) low) (All-nil IsDigit));
        }

number-of : (ds : List ℕ) (n : ℕ) → Spells n ds → number_of ds ≡ Some n
number-of [] n it = absurd (omega (arith, it.some))
number-of (d ∷ ds) n it = it.number

-- ---- bytes that are none of these

not-low : (byte c : ℕ) → c < 48 → 48 ≤ byte → (byte == c) ≡ false
not-low byte c low high = ne_eqb byte c (λ e. absurd (omega (arith, e, low, high)))

digit-high : (byte : ℕ) → IsDigit byte → 48 ≤ byte
digit-high byte is = leb-true 48 byte (and_parts (nat_le 48 byte) (nat_le byte 57) is).0

hex-high : (n : ℕ) → 48 ≤ digit n
hex-high n = by (nat_lt n 10) refl
  where
    by : (b : Bool) → nat_lt n 10 ≡ b → 48 ≤ (if b then 48 + n else 55 + n)
    by true is = omega arith
    by false is = omega arith

all-not : (c : ℕ) → c < 48 → (bytes : List ℕ) → All (λ byte. 48 ≤ byte) bytes → All (λ byte. (byte == c) ≡ false) bytes
all-not c low bytes high = All-weaker (λ byte. 48 ≤ byte) (λ byte. (byte == c) ≡ false) (λ byte is. not-low byte c low is) bytes high

-- ---- hexadecimal digits

hex-digit : (n : ℕ) → n < 16 → hex_digit (digit n) ≡ Some n
hex-digit n low = by (nat_lt n 10) refl
  where
    by : (b : Bool) → nat_lt n 10 ≡ b → hex_digit (if b then 48 + n else 55 + n) ≡ Some n
    by true is =
        let less : n < 10 = ltb-true n 10 is in
        rw (le-leb 48 (48 + n) (omega arith), le-leb (48 + n) 57 (omega arith)) (ap Some (omega arith))
    by false is =
        let most : 10 ≤ n = ltb-false n 10 is in
        rw (
          le-leb 48 (55 + n) (omega arith),
          lt-leb (55 + n) 57 (omega (arith, most)),
          le-leb 65 (55 + n)
              (omega (arith, most)),
          le-leb (55 + n) 70 (omega (arith, low)),
        ) (ap Some (omega (arith, most)))

abbrev pair : ℕ → List ℕ
pair byte = digit (byte / 16) ∷ digit (byte % 16) ∷ []

byte-of : (byte : ℕ) → IsByte byte → byte_of (pair byte) ≡ Some byte
byte-of byte low = rw (hex-digit (byte / 16) (omega arith), hex-digit (byte % 16) (omega arith)) (ap Some (omega arith))

bytes-of : (bytes : List ℕ) → All IsByte bytes → bytes_of (map pair bytes) ≡ Some bytes
bytes-of [] all = refl
bytes-of (byte ∷ bytes) all =
    rw (byte-of byte (All-head IsByte byte bytes all), bytes-of bytes (All-tail IsByte byte bytes all)) refl

-- ---- the words of a line

pair-high : (byte : ℕ) → All (λ byte. 48 ≤ byte) (pair byte)
pair-high byte =
    All-cons (λ byte. 48 ≤ byte) (digit (byte / 16)) (digit (byte % 16) ∷ []) (hex-high (byte / 16))
    (All-cons (λ byte. 48 ≤ byte) (digit (byte % 16)) [] (hex-high (byte % 16)) (All-nil (λ byte. 48 ≤ byte)))

split-words : (word bytes : List ℕ) → All (λ byte. 48 ≤ byte) word → slice_split is_space (word ++ flat_map byte_word bytes) ≡ word ∷ map pair bytes
split-words word [] high =
    ap (slice_split is_space) (append-nil word) ∙ slice_split_none is_space word (all-not 32 (omega arith) word high)
split-words word (byte ∷ bytes) high =
    slice_split_at is_space word 32 (pair byte ++ flat_map byte_word bytes) (all-not 32 (omega arith) word high) refl
    ∙ ap (λ (rest : List (List ℕ)). word ∷ rest) (split-words (pair byte) bytes (pair-high byte))

term-high : All (λ byte. 48 ≤ byte) (codes "TERM")
term-high =
    All-cons (λ byte. 48 ≤ byte) 84 (69 ∷ 82 ∷ 77 ∷ []) (omega arith)
    (All-cons (λ byte. 48 ≤ byte) 69 (82 ∷ 77 ∷ []) (omega arith) (All-cons (λ byte. 48 ≤ byte) 82 (77 ∷ [])
    (omega arith) (All-cons (λ byte. 48 ≤ byte) 77 [] (omega arith) (All-nil (λ byte. 48 ≤ byte)))))

-- the line without its end
abbrev body : TypedPart → List ℕ
body line = decimal line.tick ++ (codes " TERM" ++ flat_map byte_word (part_bytes line))

digits-high : (n : ℕ) (ds : List ℕ) → Spells n ds → All (λ byte. 48 ≤ byte) ds
digits-high n ds it = All-weaker IsDigit (λ byte. 48 ≤ byte) digit-high ds it.digits

split-line : (line : TypedPart) → Spells line.tick (decimal line.tick) → slice_split is_space (body line) ≡ decimal line.tick ∷ codes "TERM" ∷ map pair (part_bytes line)
split-line line it =
    slice_split_at is_space (decimal line.tick) 32 (codes "TERM" ++ flat_map byte_word (part_bytes line))
    (all-not 32 (omega arith) (decimal line.tick) (digits-high line.tick (decimal line.tick) it)) refl
    ∙ ap (λ (rest : List (List ℕ)). decimal line.tick ∷ rest) (split-words (codes "TERM") (part_bytes line) term-high)

all-words : (bytes : List ℕ) → filter is_word (map pair bytes) ≡ map pair bytes
all-words [] = refl
all-words (byte ∷ bytes) = ap (λ (rest : List (List ℕ)). pair byte ∷ rest) (all-words bytes)

first-word : (ds : List ℕ) (rest : List (List ℕ)) → 0 < length ds → filter is_word (ds ∷ rest) ≡ ds ∷ filter is_word rest
first-word [] rest some = absurd (omega (arith, some))
first-word (d ∷ ds) rest some = refl

words-line : (line : TypedPart) → Spells line.tick (decimal line.tick) → line_words (body line) ≡ decimal line.tick ∷ codes "TERM" ∷ map pair (part_bytes line)
words-line line it =
    ap (filter is_word) (split-line line it)
    ∙ first-word (decimal line.tick) (codes "TERM" ∷ map pair (part_bytes line)) it.some
    ∙ ap (λ (rest : List (List ℕ)). decimal line.tick ∷ codes "TERM" ∷ rest) (all-words (part_bytes line))

-- ---- what a line gives

is-skipped : (ds rest : List ℕ) → 0 < length ds → All (λ byte. 48 ≤ byte) ds → is_skipped (ds ++ rest) ≡ false
is-skipped [] rest some high = absurd (omega (arith, some))
is-skipped (d ∷ ds) rest some high = not-low d 35 (omega arith) (All-head (λ byte. 48 ≤ byte) d ds high)

starts-high : (ds rest : List ℕ) → 0 < length ds → All (λ byte. 48 ≤ byte) ds → starts_with nat_eq (ds ++ rest) (32 ∷ []) ≡ false
starts-high [] rest some high = absurd (omega (arith, some))
starts-high (d ∷ ds) rest some high =
    let first : 48 ≤ d = All-head (λ byte. 48 ≤ byte) d ds high in
    rw (ne_eqb 32 d (λ e. absurd (omega (arith, e, first)))) refl

drop-front : (front rest : List ℕ) → drop (length front) (front ++ rest) ≡ rest
drop-front [] rest = refl
drop-front (first ∷ front) rest = drop-front front rest

ends-high : (front : List ℕ) (d : ℕ) → 48 ≤ d → ends_with nat_eq (front ++ d ∷ []) (32 ∷ []) ≡ false
ends-high front d high =
    let count : length (front ++ d ∷ []) - 1 ≡ length front = omega (arith, length-append front (d ∷ [])) in
    rw (count, drop-front front (d ∷ []), ne_eqb 32 d (λ e. absurd (omega (arith, e, high)))) refl

-- all but the last digit
abbrev front_of : TypedPart → List ℕ
front_of line = decimal line.tick ++ (codes " TERM" ++ (flat_map byte_word line.bytes.items ++ 32 ∷ digit (line.last / 16) ∷ []))

last-word : (bytes : List ℕ) (last : ℕ) → flat_map byte_word (bytes ++ last ∷ []) ≡ (flat_map byte_word bytes ++ 32 ∷ digit (last / 16) ∷ []) ++ digit (last % 16) ∷ []
last-word bytes last = flat_map-append byte_word bytes (last ∷ []) ∙ sym (append_assoc (flat_map byte_word bytes) (32 ∷ digit (last / 16) ∷ []) (digit (last % 16) ∷ []))

body-last : (line : TypedPart) → body line ≡ front_of line ++ digit (line.last % 16) ∷ []
body-last line =
    let words : List ℕ = flat_map byte_word line.bytes.items ++ 32 ∷ digit (line.last / 16) ∷ [] in
    let end : List ℕ = digit (line.last % 16) ∷ [] in
    ap (λ (rest : List ℕ). decimal line.tick ++ (codes " TERM" ++ rest)) (last-word line.bytes.items line.last)
    ∙ ap (λ (rest : List ℕ). decimal line.tick ++ rest) (sym (append_assoc (codes " TERM") words end))
    ∙ sym (append_assoc (decimal line.tick) (codes " TERM" ++ words) end)

not-both : (line : List ℕ) → starts_with nat_eq line (32 ∷ []) ≡ false → ends_with nat_eq line (32 ∷ []) ≡ false → is_edged line ≡ false
not-both line starts ends = rw (starts, ends) refl

keys-line : (line : List ℕ) → is_skipped line ≡ false → is_edged line ≡ false → line_keys 4 line ≡ words_keys 4 (line_words line)
keys-line line kept plain = rw (kept, plain) refl

tick-of : (t : ℕ) → t ≤ 1000000 → within 0 1000000 (Some t) ≡ Some t
tick-of t early = rw (and_from (nat_le 0 t) (nat_le t 1000000) (le-leb 0 t (omega arith)) (le-leb t 1000000 early)) refl

words-give : (digits : List ℕ) (words : List (List ℕ)) (t : ℕ) (bytes : List ℕ) → number_of digits ≡ Some t
    → t ≤ 1000000 → bytes_of words ≡ Some bytes → words_keys 4 (digits ∷ codes "TERM" ∷ words) ≡ option_and_then
    (keys_at t 0) (Some bytes)
words-give digits words t bytes number early are =
    let tick : tick_of digits ≡ Some t = ap (within 0 1000000) number ∙ tick-of t early in
    rw (tick, are) refl

keys-some : (tick : ℕ) (bytes : List ℕ) (end : ℕ) → option_and_then (keys_at tick 0) (Some (bytes ++ end ∷ [])) ≡ Some (keys_typed tick (bytes ++ end ∷ []))
keys-some tick [] end = refl
keys-some tick (byte ∷ bytes) end = refl

line-gives : (line : TypedPart) → line.tick ≤ 1000000 → HasTypedBytes line → line_keys 4 (body line) ≡ Some (keys_typed line.tick (part_bytes line))
line-gives line early bytes =
    let it : Spells line.tick (decimal line.tick) = spelled line.tick (omega (arith, early)) in
    let high : All (λ byte. 48 ≤ byte) (decimal line.tick) = digits-high line.tick (decimal line.tick) it in
    let rest : List ℕ = codes " TERM" ++ flat_map byte_word (part_bytes line) in
    let ends : ends_with nat_eq (body line) (32 ∷ []) ≡ false = subst (λ (text : List ℕ). ends_with nat_eq text
    (32 ∷ []) ≡ false) (sym (body-last line)) (ends-high (front_of line) (digit (line.last % 16)) (hex-high (line.last % 16))) in
    keys-line (body line) (is-skipped (decimal line.tick) rest it.some high) (not-both (body line) (starts-high (decimal line.tick) rest it.some high) ends)
    ∙ ap (words_keys 4) (words-line line it)
    ∙ words-give (decimal line.tick) (map pair (part_bytes line)) line.tick (part_bytes line)
    (number-of (decimal line.tick) line.tick it) early (bytes-of (part_bytes line) bytes)
    ∙ keys-some line.tick line.bytes.items line.last

-- ---- the lines of a text

not-high : (c : ℕ) → c < 32 → (bytes : List ℕ) → All (λ byte. 32 ≤ byte) bytes → All (λ byte. (byte == c) ≡ false) bytes
not-high c low bytes high = All-weaker (λ byte. 32 ≤ byte) (λ byte. (byte == c) ≡ false) (λ byte is. ne_eqb byte c (λ e. absurd (omega (arith, e, low, is)))) bytes high

word-shown : (byte : ℕ) → All (λ byte. 32 ≤ byte) (byte_word byte)
word-shown byte =
    All-cons (λ byte. 32 ≤ byte) 32 (pair byte) (omega arith) (All-weaker (λ byte. 48 ≤ byte) (λ byte. 32 ≤ byte) (λ byte is. omega (arith, is)) (pair byte) (pair-high byte))

words-shown : (bytes : List ℕ) → All (λ byte. 32 ≤ byte) (flat_map byte_word bytes)
words-shown [] = All-nil (λ byte. 32 ≤ byte)
words-shown (byte ∷ bytes) = All-append (λ byte. 32 ≤ byte) (byte_word byte) (flat_map byte_word bytes) (word-shown byte) (words-shown bytes)

body-shown : (line : TypedPart) → Spells line.tick (decimal line.tick) → All (λ byte. 32 ≤ byte) (body line)
body-shown line it =
    All-append (λ byte. 32 ≤ byte) (decimal line.tick) (codes " TERM" ++ flat_map byte_word (part_bytes line))
    (All-weaker (λ byte. 48 ≤ byte) (λ byte. 32 ≤ byte) (λ byte is. omega (arith, is)) (decimal line.tick)
    (digits-high line.tick (decimal line.tick) it))
    (All-append (λ byte. 32 ≤ byte) (codes " TERM") (flat_map byte_word (part_bytes line))
    (All-cons (λ byte. 32 ≤ byte) 32 (codes "TERM") (omega arith) (All-weaker (λ byte. 48 ≤ byte)
    (λ byte. 32 ≤ byte) (λ byte is. omega (arith, is)) (codes "TERM") term-high)) (words-shown (part_bytes line)))

line-is : (line : TypedPart) → script_line line ≡ body line ++ 10 ∷ []
line-is line =
    ap (λ (front : List ℕ). front ++ 10 ∷ []) (append_assoc (decimal line.tick) (codes " TERM") (flat_map byte_word (part_bytes line)))

lines-of : (lines : List TypedPart) → All (λ line. line.tick ≤ 1000000) lines → text_lines (flat_map script_line lines) ≡ map body lines ++ [] ∷ []
lines-of [] early = refl
lines-of (line ∷ lines) early =
    let first : line.tick ≤ 1000000 = All-head (λ line. line.tick ≤ 1000000) line lines early in
    ap text_lines (ap (λ (front : List ℕ). front ++ flat_map script_line lines) (line-is line) ∙ append_assoc (body line) (10 ∷ []) (flat_map script_line lines))
    ∙ slice_split_at (λ byte. byte == 10) (body line) 10 (flat_map script_line lines) (not-high 10 (omega arith) (body line) (body-shown line (spelled line.tick (omega (arith, first))))) refl
    ∙ ap (λ (rest : List (List ℕ)). body line ∷ rest) (lines-of lines (All-tail (λ line. line.tick ≤ 1000000) line lines early))

-- ---- all lines of a script

abbrev pub line_keys_of : TypedPart → List ScriptKey
line_keys_of line = keys_typed line.tick (part_bytes line)

-- a line whose tick a script may have
abbrev pub IsEarly : TypedPart → Type 0
IsEarly line = line.tick ≤ 1000000

pub line-early : (line : TypedPart) → All (IsScriptKey 4) (line_keys_of line) → IsEarly line
line-early line all = by line.bytes.items all
  where
    by : (bytes : List ℕ) → All (IsScriptKey 4) (keys_typed line.tick (bytes ++ line.last ∷ [])) → IsEarly line
    by [] all = (All-head (IsScriptKey 4) (key_at line.tick 0 line.last) [] all).early
    by (byte ∷ bytes) all = (All-head (IsScriptKey 4) (key_at line.tick 0 byte) (map (key_at line.tick 0) (bytes ++ line.last ∷ [])) all).early

pub front-keys : (front behind : List ScriptKey) → All (IsScriptKey 4) (front ++ behind) → All (IsScriptKey 4) front
front-keys [] behind all = All-nil (IsScriptKey 4)
front-keys (key ∷ front) behind all =
    All-cons (IsScriptKey 4) key front (All-head (IsScriptKey 4) key (front ++ behind) all) (front-keys front behind (All-tail (IsScriptKey 4) key (front ++ behind) all))

pub behind-keys : (front behind : List ScriptKey) → All (IsScriptKey 4) (front ++ behind) → All (IsScriptKey 4) behind
behind-keys [] behind all = all
behind-keys (key ∷ front) behind all = behind-keys front behind (All-tail (IsScriptKey 4) key (front ++ behind) all)

early-lines : (lines : List TypedPart) → All (IsScriptKey 4) (flat_map line_keys_of lines) → All IsEarly lines
early-lines [] all = All-nil IsEarly
early-lines (line ∷ lines) all =
    All-cons IsEarly line lines (line-early line (front-keys (line_keys_of line) (flat_map line_keys_of lines) all))
    (early-lines lines (behind-keys (line_keys_of line) (flat_map line_keys_of lines) all))

-- keys in front of others that a script may have
never-front : (front behind : List ScriptKey) → never_fall (front ++ behind) ≡ true → never_fall front ≡ true
never-front [] behind is = refl
never-front (key ∷ []) behind is = refl
never-front (key ∷ next ∷ front) behind is =
    let both = and_parts (nat_le key.tick next.tick) (never_fall (next ∷ front ++ behind)) is in
    and_from (nat_le key.tick next.tick) (never_fall (next ∷ front)) both.0 (never-front (next ∷ front) behind both.1)

few-front : (front behind : List ScriptKey) → are_few_keys (front ++ behind) ≡ true → are_few_keys front ≡ true
few-front front behind is =
    let both = and_parts (never_fall (front ++ behind)) (nat_le (length (front ++ behind)) 1000000) is in
    and_from (never_fall front) (nat_le (length front) 1000000) (never-front front behind both.0)
    (le-leb (length front) 1000000 (omega (
      arith,
      leb-true (length (front ++ behind)) 1000000 both.1,
      length-append front behind,
    )))

-- what is at a place of a list
record IsAt (xs : List (List ℕ)) (place : ℕ) (x : List ℕ) (rest : List (List ℕ)) : Type 0 where
  below : place < length xs
  here : x ≡ get_or xs place x
  behind : drop (place + 1) xs ≡ rest

at-drop : (xs : List (List ℕ)) (place : ℕ) (x : List ℕ) (rest : List (List ℕ)) → drop place xs ≡ x ∷ rest → IsAt xs place x rest
at-drop [] zero x rest is = absurd (omega (arith, ap length is))
at-drop [] (suc place) x rest is = absurd (omega (arith, ap length is))
at-drop (y ∷ xs) zero x rest is = record {
  below = omega arith;
  here = sym (ap (λ (list : List (List ℕ)). get_or list 0 x) is);
  behind = ap (drop 1) is;
}
at-drop (y ∷ xs) (suc place) x rest is =
    let it = at-drop xs place x rest is in
    let next : suc place + 1 ≡ suc (place + 1) = omega arith in
    record { below = omega (arith, it.below); here = it.here; behind = rw next it.behind }

module _ (texts : List (List ℕ)) where
  reads-on : (todo : List TypedPart) (place : ℕ) (given : List ScriptKey) → drop place texts ≡ map body todo ++ [] ∷
      [] → All IsEarly todo → All HasTypedBytes todo → are_few_keys (given ++ flat_map line_keys_of todo) ≡ true
      → ReadSoFar (line_keys 4) are_few_keys texts place given
      → outcome (line_keys 4) are_few_keys texts ≡ Ok (given ++ flat_map line_keys_of todo)
  reads-on [] place given left early bytes few so_far =
      let it = at-drop texts place [] [] left in
      let all : length texts ≤ place + 1 = omega (arith, ap length it.behind, length-drop (place + 1) texts) in
      all_read (line_keys 4) are_few_keys texts (place + 1) (given ++ []) (ReadSoFar-next (line_keys 4) are_few_keys texts place given [] [] so_far it.below it.here refl few) all
  reads-on (line ∷ todo) place given left early bytes few so_far =
      let it = at-drop texts place (body line) (map body todo ++ [] ∷ []) left in
      let reads : line_keys 4 (body line) ≡ Some (line_keys_of line) = line-gives line (All-head IsEarly line todo early) (All-head HasTypedBytes line todo bytes) in
      let same : given ++ flat_map line_keys_of (line ∷ todo) ≡ (given ++ line_keys_of line) ++ flat_map line_keys_of
      todo = sym (append_assoc given (line_keys_of line) (flat_map line_keys_of todo)) in
      let few_then : are_few_keys ((given ++ line_keys_of line) ++ flat_map line_keys_of todo) ≡ true = subst (λ (keys : List ScriptKey). are_few_keys keys ≡ true) same few in
      let next = ReadSoFar-next (line_keys 4) are_few_keys texts place given (line_keys_of line) (body line) so_far
      it.below it.here reads (few-front (given ++ line_keys_of line) (flat_map line_keys_of todo) few_then) in
      reads-on todo (place + 1) (given ++ line_keys_of line) it.behind (All-tail IsEarly line todo early) (All-tail HasTypedBytes line todo bytes) few_then next ∙ ap Ok (sym same)

pub script-gives : (typed : Typed) → AreKeys 4 (kept_keys typed) → All HasTypedBytes typed.parts.items → keys_of 4 (script_text typed) ≡ Ok (kept_keys typed)
script-gives typed keys bytes =
    let lines : List TypedPart = typed.parts.items in
    let early : All IsEarly lines = early-lines lines keys.each in
    let few : are_few_keys (kept_keys typed) ≡ true = and_from (never_fall (kept_keys typed))
    (nat_le (length (kept_keys typed)) 1000000) keys.rising (le-leb (length (kept_keys typed)) 1000000 keys.few)
    in
    ap (λ (texts : List (List ℕ)). outcome (line_keys 4) are_few_keys texts) (lines-of lines early)
    ∙ reads-on (map body lines ++ [] ∷ []) lines 0 [] refl early bytes few (ReadSoFar-start (line_keys 4) are_few_keys (map body lines ++ [] ∷ []))

-- ---- the slice text

-- a line without spaces
starts-no : (line : List ℕ) → All (λ byte. 32 < byte) line → starts_with nat_eq line (32 ∷ []) ≡ false
starts-no [] high = refl
starts-no (first ∷ line) high =
    let low : 32 < first = All-head (λ byte. 32 < byte) first line high in
    rw (ne_eqb 32 first (λ e. absurd (omega (arith, e, low)))) refl

last-of : (line : List ℕ) → All (λ byte. 32 < byte) line → ends_with nat_eq line (32 ∷ []) ≡ false
last-of [] high = refl
last-of (first ∷ []) high =
    let low : 32 < first = All-head (λ byte. 32 < byte) first [] high in
    rw (ne_eqb 32 first (λ e. absurd (omega (arith, e, low)))) refl
last-of (first ∷ next ∷ line) high =
    let count : suc (suc (length line)) - 1 ≡ suc (suc (length line) - 1) = omega arith in
    rw count (last-of (next ∷ line) (All-tail (λ byte. 32 < byte) first (next ∷ line) high))

not-edged : (line : List ℕ) → All (λ byte. 32 < byte) line → is_edged line ≡ false
not-edged line high = rw (starts-no line high, last-of line high) refl

no-asterisk : (ds : List ℕ) → All IsDigit ds → All (λ byte. is_asterisk byte ≡ false) ds
no-asterisk ds digits = All-weaker IsDigit (λ byte. is_asterisk byte ≡ false) (λ byte is. not-low byte 42 (omega arith) (digit-high byte is)) ds digits

one-more : (n : ℕ) → 1 + n ≡ suc n
one-more n = omega arith

asterisk-at : (ds rest : List ℕ) → All (λ byte. is_asterisk byte ≡ false) ds → position_or_len is_asterisk (ds ++ 42 ∷ rest) ≡ length ds
asterisk-at [] rest none = refl
asterisk-at (d ∷ ds) rest none =
    rw (All-head (λ byte. is_asterisk byte ≡ false) d ds none) (ap (λ (n : ℕ). 1 + n) (asterisk-at ds rest (All-tail (λ byte. is_asterisk byte ≡ false) d ds none)) ∙ one-more (length ds))

take-front : (front rest : List ℕ) → take (length front) (front ++ rest) ≡ front
take-front [] rest = refl
take-front (first ∷ front) rest = ap (λ (rest : List ℕ). first ∷ rest) (take-front front rest)

-- the word for so many slices
abbrev slices_word : ℕ → List ℕ
slices_word n = decimal SLICE ++ 42 ∷ decimal n

word-gives : (n : ℕ) → 1 ≤ n → n ≤ 1000000 → word_slices (slices_word n) ≡ Some (replicate n SLICE)
word-gives n some few =
    let each : Spells SLICE (decimal SLICE) = spelled SLICE (omega arith) in
    let count : Spells n (decimal n) = spelled n (omega (arith, few)) in
    let at : position_or_len is_asterisk (slices_word n) ≡ length (decimal SLICE) = asterisk-at (decimal SLICE) (decimal n) (no-asterisk (decimal SLICE) each.digits) in
    rw (
      at,
      take-front (decimal SLICE) (42 ∷ decimal n),
      drop-front (decimal SLICE) (42 ∷ decimal n),
      number-of (decimal SLICE) SLICE each,
      number-of (decimal n) n count,
      le-leb 1 n some,
      le-leb n 1000000 few,
    ) refl

slices-line : (n : ℕ) → 1 ≤ n → n ≤ 1000000 → line_slices (slices_word n) ≡ Some (replicate n SLICE)
slices-line n some few =
    let each : Spells SLICE (decimal SLICE) = spelled SLICE (omega arith) in
    let count : Spells n (decimal n) = spelled n (omega (arith, few)) in
    let high : All (λ byte. 32 < byte) (slices_word n) =
    All-append (λ byte. 32 < byte) (decimal SLICE) (42 ∷ decimal n) (All-weaker IsDigit (λ byte. 32 < byte) (λ byte is. omega (arith, digit-high byte is)) (decimal SLICE) each.digits)
    (All-cons (λ byte. 32 < byte) 42 (decimal n) (omega arith) (All-weaker IsDigit (λ byte. 32 < byte) (λ byte is. omega (arith, digit-high byte is)) (decimal n) count.digits)) in
    let words : line_words (slices_word n) ≡ slices_word n ∷ [] =
    ap (filter is_word) (slice_split_none is_space (slices_word n) (All-weaker (λ byte. 32 < byte)
    (λ byte. is_space byte ≡ false) (λ byte is. ne_eqb byte 32 (λ e. absurd (omega (arith, e, is))))
    (slices_word n) high))
    ∙ first-word (slices_word n) [] (omega (arith, each.some, length-append (decimal SLICE) (42 ∷ decimal n))) in
    rw (not-edged (slices_word n) high, words, word-gives n some few) (ap Some (append-nil (replicate n SLICE)))

slice-lines : (n : ℕ) → Spells n (decimal n) → text_lines (decimal SLICE ++ codes "*" ++ decimal n ++ 10 ∷ []) ≡ slices_word n ∷ [] ∷ []
slice-lines n count =
    let each : Spells SLICE (decimal SLICE) = spelled SLICE (omega arith) in
    let shown : All (λ byte. 32 ≤ byte) (slices_word n) =
    All-append (λ byte. 32 ≤ byte) (decimal SLICE) (42 ∷ decimal n) (All-weaker IsDigit (λ byte. 32 ≤ byte) (λ byte is. omega (arith, digit-high byte is)) (decimal SLICE) each.digits)
    (All-cons (λ byte. 32 ≤ byte) 42 (decimal n) (omega arith) (All-weaker IsDigit (λ byte. 32 ≤ byte) (λ byte is. omega (arith, digit-high byte is)) (decimal n) count.digits)) in
    ap (λ (front : List ℕ). text_lines (front ++ 10 ∷ [])) (append_assoc (decimal SLICE) (codes "*") (decimal n))
    ∙ slice_split_at (λ byte. byte == 10) (slices_word n) 10 [] (not-high 10 (omega arith) (slices_word n) shown) refl

-- they are read line by line
two-lines : (line : List ℕ) (slices : List ℕ) → line_slices line ≡ Some slices → are_few_slices slices ≡ true → outcome line_slices are_few_slices (line ∷ [] ∷ []) ≡ Ok slices
two-lines line slices reads few =
    let texts : List (List ℕ) = line ∷ [] ∷ [] in
    let first : ReadSoFar line_slices are_few_slices texts (0 + 1) ([] ++ slices) = ReadSoFar-next line_slices
    are_few_slices texts 0 [] slices line (ReadSoFar-start line_slices are_few_slices texts) (omega arith) refl
    reads few in
    let same : slices ++ [] ≡ slices = append-nil slices in
    all_read line_slices are_few_slices texts 2 (slices ++ []) (ReadSoFar-next line_slices are_few_slices texts 1 slices [] [] first (omega arith) refl refl (rw same few)) (omega arith) ∙ ap Ok same

pub slices-give : (typed : Typed) → AreSlices (kept_slices typed) → slices_of (slice_text typed) ≡ Ok (kept_slices typed)
slices-give typed are = by typed.slices are
  where
    by : (n : ℕ) → AreSlices (replicate n SLICE) → slices_of (if nat_eq n 0 then [] else decimal SLICE ++ codes "*" ++ decimal n ++ 10 ∷ []) ≡ Ok (replicate n SLICE)
    by zero are = refl
    by (suc n) are =
        let few : suc n ≤ 1000000 = omega (arith, are.few, length-replicate (suc n) SLICE) in
        let keeps : are_few_slices (replicate (suc n) SLICE) ≡ true = and_from
        (nat_le (length (replicate (suc n) SLICE)) 1000000) (nat_le (sum (replicate (suc n) SLICE)) 10000000)
        (le-leb (length (replicate (suc n) SLICE)) 1000000 are.few) (le-leb (sum (replicate (suc n) SLICE))
        10000000 are.total) in
        let none : (suc n == 0) ≡ false = ne_eqb (suc n) 0 (λ e. absurd (omega (arith, e))) in
        ap (λ (empty : Bool). slices_of (if empty then [] else decimal SLICE ++ codes "*" ++ decimal (suc n) ++ 10 ∷ [])) none
        ∙ ap (λ (texts : List (List ℕ)). outcome line_slices are_few_slices texts) (slice-lines (suc n) (spelled (suc n) (omega (arith, few))))
        ∙ two-lines (slices_word (suc n)) (replicate (suc n) SLICE) (slices-line (suc n) (omega arith) few) keeps
