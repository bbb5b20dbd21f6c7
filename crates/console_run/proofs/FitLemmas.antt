-- Which sessions fit in texts.
use Rattle.std.proofs.Common.{◌≡◌, ◌≤◌, ◌<◌, ℕ, suc, ◌+◌, ◌-◌, ◌*◌, ◌&&◌, Bool, true, false, nat_le, nat_lt, List, [], ◌∷◌, ◌++◌, All, length, map, drop, get_or, refl, sym, ap, ◌∙◌, arith, length-append, drop-cons}
use Rattle.std.specs.Prelude.{replicate, sum}
use Rattle.std.specs.List.{flat_map}
use Rattle.std.proofs.lemmas.Bool.{and_from, and_parts, false≢true, le-leb, leb-true, lt-ltb, ltb-true}
use Rattle.std.proofs.lemmas.List.{drop_all, length-map, length-replicate}
use Rattle.std.proofs.lemmas.List.Elements.{All-append, All-cons, All-nil, All-replicate}
use Rattle.std.proofs.lemmas.List.Folds.{sum_by-replicate}
use Rattle.script_text.specs.declared.script.ScriptKey.{ScriptKey}
use Rattle.script_text.specs.Script.{AreKeys, IsScriptKey, key_at, never_fall}
use Rattle.script_text.specs.Slices.{AreSlices, IsSlice}
use Rattle.console_run.specs.Texts.{FitsTexts, line_fits}
use Rattle.console_run.specs.Typed.{keys_of_parts, keys_typed, part_bytes}
use Rattle.console_run.specs.declared.typed.TheConstants.{SLICE}
use Rattle.console_run.specs.declared.typed.Typed.{Typed}
use Rattle.console_run.specs.declared.typed.TypedPart.{TypedPart}
use Rattle.console_run.proofs.TextLemmas.{behind-keys, front-keys, line-early, line_keys_of}

-- ---- ticks that never fall

-- the ticks of keys never fall, the first from this one
abbrev rises : ℕ → List ScriptKey → Bool
rises last [] = true
rises last (key ∷ keys) = nat_le last key.tick && rises key.tick keys

never-is : (key : ScriptKey) (keys : List ScriptKey) → never_fall (key ∷ keys) ≡ rises key.tick keys
never-is key [] = refl
never-is key (next ∷ keys) = ap (λ (others : Bool). nat_le key.tick next.tick && others) (never-is next keys)

never-rises : (keys : List ScriptKey) → never_fall keys ≡ rises 0 keys
never-rises [] = refl
never-rises (key ∷ keys) = never-is key keys ∙ sym (ap (λ (first : Bool). first && rises key.tick keys) (le-leb 0 key.tick (omega arith)))

-- keys that are due in one tick, and others after them
some-rise : (tick last byte : ℕ) (bytes : List ℕ) (rest : List ScriptKey) → last ≤ tick → rises tick rest ≡ true → rises last (map (key_at tick 0) (byte ∷ bytes) ++ rest) ≡ true
some-rise tick last byte [] rest low more = and_from (nat_le last tick) (rises tick rest) (le-leb last tick low) more
some-rise tick last byte (next ∷ bytes) rest low more =
    and_from (nat_le last tick) (rises tick (map (key_at tick 0) (next ∷ bytes) ++ rest)) (le-leb last tick low) (some-rise tick tick next bytes rest (omega arith) more)

some-rose : (tick last byte : ℕ) (bytes : List ℕ) (rest : List ScriptKey) → rises last (map (key_at tick 0) (byte ∷ bytes) ++ rest) ≡ true → (last ≤ tick) × (rises tick rest ≡ true)
some-rose tick last byte [] rest is =
    let both = and_parts (nat_le last tick) (rises tick rest) is in
    (leb-true last tick both.0, both.1)
some-rose tick last byte (next ∷ bytes) rest is =
    let both = and_parts (nat_le last tick) (rises tick (map (key_at tick 0) (next ∷ bytes) ++ rest)) is in
    (leb-true last tick both.0, (some-rose tick tick next bytes rest both.1).1)

line-rises : (tick last : ℕ) (bytes : List ℕ) (end : ℕ) (rest : List ScriptKey) → last ≤ tick → rises tick rest ≡ true → rises last (keys_typed tick (bytes ++ end ∷ []) ++ rest) ≡ true
line-rises tick last [] end rest low more = some-rise tick last end [] rest low more
line-rises tick last (byte ∷ bytes) end rest low more = some-rise tick last byte (bytes ++ end ∷ []) rest low more

line-rose : (tick last : ℕ) (bytes : List ℕ) (end : ℕ) (rest : List ScriptKey) → rises last (keys_typed tick (bytes ++ end ∷ []) ++ rest) ≡ true → (last ≤ tick) × (rises tick rest ≡ true)
line-rose tick last [] end rest is = some-rose tick last end [] rest is
line-rose tick last (byte ∷ bytes) end rest is = some-rose tick last byte (bytes ++ end ∷ []) rest is

-- ---- the keys of lines

-- lines fit after others
abbrev pub lines_fit : ℕ → ℕ → List TypedPart → Bool
lines_fit room last [] = true
lines_fit room last (line ∷ lines) = line_fits line room last && lines_fit (room - (length line.bytes.items + 1)) line.tick lines

-- keys that fit after others
record Fit (room last : ℕ) (keys : List ScriptKey) : Type 0 where
  few : length keys ≤ room
  each : All (IsScriptKey 4) keys
  rising : rises last keys ≡ true

line-count : (line : TypedPart) → length (line_keys_of line) ≡ length line.bytes.items + 1
line-count line = length-map (part_bytes line) (key_at line.tick 0) ∙ length-append line.bytes.items (line.last ∷ [])

each-key : (tick : ℕ) (bytes : List ℕ) → tick ≤ 1000000 → All (IsScriptKey 4) (map (key_at tick 0) bytes)
each-key tick [] early = All-nil (IsScriptKey 4)
each-key tick (byte ∷ bytes) early =
    All-cons (IsScriptKey 4) (key_at tick 0 byte) (map (key_at tick 0) bytes) (record { there = omega arith; early = early }) (each-key tick bytes early)

-- what it says of a line that it fits
record LineFacts (line : TypedPart) (room last : ℕ) : Type 0 where
  there : length line.bytes.items < room
  rising : last ≤ line.tick
  early : line.tick ≤ 1000000

line-facts : (line : TypedPart) (room last : ℕ) → line_fits line room last ≡ true → LineFacts line room last
line-facts line room last is =
    let outer = and_parts (nat_lt (length line.bytes.items) room) (nat_le last line.tick && nat_le line.tick 1000000) is in
    let inner = and_parts (nat_le last line.tick) (nat_le line.tick 1000000) outer.1 in
    record {
      there = ltb-true (length line.bytes.items) room outer.0;
      rising = leb-true last line.tick inner.0;
      early = leb-true line.tick 1000000 inner.1;
    }

line-fits : (line : TypedPart) (room last : ℕ) → LineFacts line room last → line_fits line room last ≡ true
line-fits line room last it =
    and_from (nat_lt (length line.bytes.items) room) (nat_le last line.tick && nat_le line.tick 1000000) (lt-ltb (length line.bytes.items) room it.there)
    (and_from (nat_le last line.tick) (nat_le line.tick 1000000) (le-leb last line.tick it.rising) (le-leb line.tick 1000000 it.early))

-- it has room
pub has-room : (line : TypedPart) (room last : ℕ) → line_fits line room last ≡ true → length line.bytes.items < room
has-room line room last is = (line-facts line room last is).there

fit-lines : (room last : ℕ) (lines : List TypedPart) → lines_fit room last lines ≡ true → Fit room last (flat_map line_keys_of lines)
fit-lines room last [] is = record { few = omega arith; each = All-nil (IsScriptKey 4); rising = refl }
fit-lines room last (line ∷ lines) is =
    let left : ℕ = room - (length line.bytes.items + 1) in
    let both = and_parts (line_fits line room last) (lines_fit (room - (length line.bytes.items + 1)) line.tick lines) is in
    let first : LineFacts line room last = line-facts line room last both.0 in
    let rest : Fit (room - (length line.bytes.items + 1)) line.tick (flat_map line_keys_of lines) = fit-lines (room - (length line.bytes.items + 1)) line.tick lines both.1 in
    record {
      few = omega (arith, length-append (line_keys_of line) (flat_map line_keys_of lines), line-count line, rest.few, first.there);
      each = All-append (IsScriptKey 4) (line_keys_of line) (flat_map line_keys_of lines) (each-key line.tick (part_bytes line) first.early) rest.each;
      rising = line-rises line.tick last line.bytes.items line.last (flat_map line_keys_of lines) first.rising rest.rising;
    }

lines-fit : (room last : ℕ) (lines : List TypedPart) → Fit room last (flat_map line_keys_of lines) → lines_fit room last lines ≡ true
lines-fit room last [] it = refl
lines-fit room last (line ∷ lines) it =
    let count : length (line_keys_of line ++ flat_map line_keys_of lines) ≡ length (line_keys_of line) + length
    (flat_map line_keys_of lines) = length-append (line_keys_of line) (flat_map line_keys_of lines) in
    let rose = line-rose line.tick last line.bytes.items line.last (flat_map line_keys_of lines) it.rising in
    let first : LineFacts line room last = record {
      there = omega (arith, count, line-count line, it.few);
      rising = rose.0;
      early = line-early line (front-keys (line_keys_of line) (flat_map line_keys_of lines) it.each);
    } in
    and_from (line_fits line room last) (lines_fit (room - (length line.bytes.items + 1)) line.tick lines) (line-fits line room last first)
    (lines-fit (room - (length line.bytes.items + 1)) line.tick lines
    (record { few = omega (arith, count, line-count line, it.few); each = behind-keys (line_keys_of line) (flat_map line_keys_of lines) it.each; rising = rose.1 }))

-- ---- a script can give them

pub keys-fit : (lines : List TypedPart) → lines_fit 1000000 0 lines ≡ true → AreKeys 4 (keys_of_parts lines)
keys-fit lines is =
    let it : Fit 1000000 0 (flat_map line_keys_of lines) = fit-lines 1000000 0 lines is in
    record { few = it.few; each = it.each; rising = never-rises (keys_of_parts lines) ∙ it.rising }

pub keys-no : (lines : List TypedPart) → lines_fit 1000000 0 lines ≡ false → ¬ AreKeys 4 (keys_of_parts lines)
keys-no lines is keys =
    absurd (false≢true (sym is ∙ lines-fit 1000000 0 lines (record { few = keys.few; each = keys.each; rising = sym (never-rises (keys_of_parts lines)) ∙ keys.rising })))

-- a line at a place does not fit
pub fits-no : (lines : List TypedPart) (place room last : ℕ) (line : TypedPart) (whole : Bool) → place < length lines
    → line ≡ get_or lines place line → lines_fit room last (drop place lines) ≡ whole → line_fits line room last ≡
    false → whole ≡ false
fits-no lines place room last line whole below is so_far refused =
    let rest : List TypedPart = drop (suc place) lines in
    sym so_far
    ∙ ap (lines_fit room last) (drop-cons lines place line below)
    ∙ ap (λ (here : TypedPart). lines_fit room last (here ∷ rest)) (sym is)
    ∙ ap (λ (first : Bool). first && lines_fit (room - (length line.bytes.items + 1)) line.tick rest) refused

-- none is left
pub fits-end : (lines : List TypedPart) (place room last : ℕ) (whole : Bool) → length lines ≤ place → lines_fit room last (drop place lines) ≡ whole → whole ≡ true
fits-end lines place room last whole all so_far = sym so_far ∙ ap (lines_fit room last) (drop_all place lines all)

-- ---- a slice text can give them

sum-slices : (n : ℕ) → sum (replicate n SLICE) ≡ n * 10
sum-slices n = grind (arith, sum_by-replicate (λ (x : ℕ). x) n SLICE)

pub slices-fit : (typed : Typed) → typed.slices ≤ 1000000 → AreSlices (replicate typed.slices SLICE)
slices-fit typed few = record {
  few = omega (arith, few, length-replicate typed.slices SLICE);
  each = All-replicate IsSlice typed.slices SLICE (record { least = omega arith; most = omega arith });
  total = omega (arith, few, sum-slices typed.slices);
}

pub too-many : (typed : Typed) → 1000000 < typed.slices → ¬ FitsTexts typed
too-many typed many it = absurd (omega (arith, many, it.slices.few, length-replicate typed.slices SLICE))
