-- Lines that are typed in parts.
use Rattle.std.proofs.Common.{◌≡◌, ◌≢◌, ◌⊎◌, ◌≤◌, ◌<◌, ℕ, ◌+◌, ◌-◌, zero, suc, Bool, true, false, nat_lt, Option, Some, None, List, [], ◌∷◌, ◌++◌, drop, length, map, take, get_or, refl, sym, ap, ◌∙◌, subst, arith, append-nil, append_assoc, length-append, inl, inr}
use Rattle.std.specs.Prelude.{IsSome}
use Rattle.std.specs.List.{flat_map}
use Rattle.std.proofs.lemmas.Bool.{ltb-false, ltb-true}
use Rattle.std.proofs.lemmas.List.{drop-drop, drop_all, length-drop, length-take-le, map-append, take_all, take_more}
use Rattle.std.proofs.lemmas.List.Concat.{flat_map-append}
use Rattle.script_text.specs.declared.script.ScriptKey.{ScriptKey}
use Rattle.console_run.specs.Typed.{IsUntyped, kept_bytes, kept_keys, keys_typed}
use Rattle.console_run.specs.declared.typed.Typed.{Typed}
use Rattle.console_run.specs.Kept.{IsKept}
use Rattle.console_run.specs.Keyboard.{FailsToGive, GivesEnd, KeyboardState, TakesLines, line_list, shown_for}
use Rattle.console_run.specs.Lines.{AreTyped, GaveLines, KeepsLines, LacksKeys, TypesIf, asked_bytes, last_bytes, left_after, line_bytes}
use Rattle.console_run.specs.declared.part.TheConstants.{PART}
use Rattle.console_run.proofs.KeyLemmas.{keys-still, none-kept}
use Rattle.console_run.proofs.LineLemmas.{takes-none, takes-then}

-- ---- a part of a line

pub line-some : (line : List ℕ) → line_bytes line ≢ []
line-some line none = absurd (omega (arith, length-append line (13 ∷ []), ap length none))

-- a rest is left before the end of the line
pub rest-there : (items : List ℕ) (place : ℕ) → drop place items ≢ [] → place < length items
rest-there items place some = by (nat_lt place (length items)) refl
  where
    by : (b : Bool) → nat_lt place (length items) ≡ b → place < length items
    by true is = ltb-true place (length items) is
    by false is = absurd (some (drop_all place items (ltb-false place (length items) is)))

pub rest-some : (items : List ℕ) (place : ℕ) → place < length items → drop place items ≢ []
rest-some items place below none = absurd (omega (arith, below, length-drop place items, ap length none))

module _ (items : List ℕ) (place end : ℕ) (ahead : place < end) (within : end ≤ length items) where
  pub part-count : length (take (end - place) (drop place items)) ≡ end - place
  part-count = length-take-le (end - place) (drop place items) (omega (arith, within, length-drop place items))

  pub part-taken : end ≤ place + PART → (end < length items → end ≡ place + PART) → take (end - place) (drop place items) ≡ take PART (drop place items)
  part-taken few most = by (nat_lt end (length items)) refl
    where
      by : (b : Bool) → nat_lt end (length items) ≡ b → take (end - place) (drop place items) ≡ take PART (drop place items)
      by true is =
          let below : end < length items = ltb-true end (length items) is in
          let count : end - place ≡ PART = omega (arith, most below) in
          ap (λ (count : ℕ). take count (drop place items)) count
      by false is =
          let all : length items ≤ end = ltb-false end (length items) is in
          take_all (end - place) (drop place items) (omega (arith, all, length-drop place items))
          ∙ sym (take_all PART (drop place items) (omega (arith, all, few, length-drop place items)))

  pub part-left : drop end items ≡ drop (length (take (end - place) (drop place items))) (drop place items)
  part-left =
      let there : end ≡ place + (end - place) = omega (arith, ahead) in
      ap (λ (end : ℕ). drop end items) there
      ∙ sym (drop-drop (end - place) place items)
      ∙ ap (λ (count : ℕ). drop count (drop place items)) (sym part-count)

-- the bytes before the last, and the last
pub with-last : (bytes : List ℕ) (d : ℕ) → 0 < length bytes → take (length bytes - 1) bytes ++ get_or bytes (length bytes - 1) d ∷ [] ≡ bytes
with-last bytes d some =
    let all : length bytes ≤ (length bytes - 1) + 1 = omega (arith, some) in
    sym (take_more bytes (length bytes - 1) d (omega (arith, some))) ∙ take_all ((length bytes - 1) + 1) bytes all

-- ---- what is typed, and what is left

take-left : (count : ℕ) (xs : List ℕ) → take count xs ++ drop (length (take count xs)) xs ≡ xs
take-left zero xs = refl
take-left (suc count) [] = refl
take-left (suc count) (x ∷ xs) = ap (λ (rest : List ℕ). x ∷ rest) (take-left count xs)

module _ (waits : Type 0) (rest : List ℕ) (line : Option (List ℕ)) (bytes : List ℕ) where
  abbrev all : List ℕ
  all = rest ++ asked_bytes line

  pub types-all : TypesIf waits rest line bytes → bytes ++ left_after rest line bytes ≡ all
  types-all (inl (here, it)) = subst (λ (bytes : List ℕ). bytes ++ drop (length bytes) all ≡ all) (sym it.part) (take-left PART all)
  types-all (inr (other, it)) = subst (λ (bytes : List ℕ). bytes ++ drop (length bytes) all ≡ all) (sym it.none) refl

  pub asks-behind : TypesIf waits rest line bytes → IsSome line → rest ≡ []
  asks-behind (inl (here, it)) is = it.asked.0 is
  asks-behind (inr (other, it)) is =
      let none : IsSome {T = List ℕ} None = subst IsSome it.unasked is in
      absurd (cc none)

last-more : (lines : List (List ℕ)) (line : List ℕ) → last_bytes (lines ++ line ∷ []) ≡ line_bytes line
last-more [] line = refl
last-more (first ∷ []) line = refl
last-more (first ∷ next ∷ lines) line = last-more (next ∷ lines) line

typed-more : (lines : List (List ℕ)) (line : Option (List ℕ)) (typed rest bytes left : List ℕ) → AreTyped lines typed
    rest → (IsSome line → rest ≡ []) → bytes ++ left ≡ rest ++ asked_bytes line
    → AreTyped (lines ++ line_list line) (typed ++ bytes) left
typed-more lines None typed rest bytes left it none is =
    let (done, last) = it.of_last in
    let same : bytes ++ left ≡ rest = is ∙ append-nil rest in
    subst (λ (lines : List (List ℕ)). AreTyped lines (typed ++ bytes) left) (sym (append-nil lines))
    (record {
      all = append_assoc typed bytes left ∙ ap (λ (rest : List ℕ). typed ++ rest) same ∙ it.all;
      of_last = (done ++ bytes, append_assoc done bytes left ∙ ap (λ (rest : List ℕ). done ++ rest) same ∙ last);
    })
typed-more lines (Some line) typed rest bytes left it none is =
    let one : flat_map line_bytes (line ∷ []) ≡ line_bytes line = append-nil (line_bytes line) in
    record {
      all =
          append_assoc typed bytes left
          ∙ ap (λ (rest : List ℕ). typed ++ rest) is
          ∙ sym (append_assoc typed rest (line_bytes line))
          ∙ ap (λ (front : List ℕ). front ++ line_bytes line) it.all
          ∙ ap (λ (here : List ℕ). flat_map line_bytes lines ++ here) (sym one)
          ∙ sym (flat_map-append line_bytes lines (line ∷ []));
      of_last = (bytes, is ∙ ap (λ (rest : List ℕ). rest ++ line_bytes line) (none refl) ∙ sym (last-more lines line));
    }

-- ---- lines that the keyboard gave

count-for : (out : Option (List ℕ)) (line : Option (List ℕ)) → length (shown_for out line) ≡ length (line_list line)
count-for out None = refl
count-for out (Some line) = refl

gave-more : (typed rest bytes left : List ℕ) (line : Option (List ℕ)) (out : Option (List ℕ))
    (from mid to : KeyboardState) → GaveLines typed rest from mid → (IsSome line → rest ≡ [])
    → bytes ++ left ≡ rest ++ asked_bytes line → TakesLines (line_list line) (shown_for out line) mid to
    → GaveLines (typed ++ bytes) left from to
gave-more typed rest bytes left line out from mid to it none is taken = record {
  lines = it.lines ++ line_list line;
  shown = it.shown ++ shown_for out line;
  taken = takes-then it.lines (line_list line) it.shown (shown_for out line) from mid to it.taken taken;
  once = length-append it.shown (shown_for out line)
      ∙ (λ i. it.once i + count-for out line i) ∙ sym (length-append it.lines (line_list line));
  typed = typed-more it.lines line typed rest bytes left it.typed none is;
}

-- before anything was typed
pub gave-none : (typed : Typed) (keyboard : KeyboardState) → IsUntyped typed → GaveLines (kept_bytes typed) [] keyboard keyboard
gave-none typed keyboard untyped =
    subst (λ (keys : List ScriptKey). GaveLines (map (λ (key : ScriptKey). key.byte) keys) [] keyboard keyboard) (sym (none-kept typed untyped.parts))
    (record { lines = []; shown = []; taken = takes-none keyboard; once = refl; typed = record { all = refl; of_last = ([], refl) } })

bytes-typed : (tick : ℕ) (bytes : List ℕ) → map (λ (key : ScriptKey). key.byte) (keys_typed tick bytes) ≡ bytes
bytes-typed tick [] = refl
bytes-typed tick (byte ∷ bytes) = ap (λ (rest : List ℕ). byte ∷ rest) (bytes-typed tick bytes)

pub bytes-more : (old new : Typed) (tick : ℕ) (bytes : List ℕ) → kept_keys new ≡ kept_keys old ++ keys_typed tick bytes → kept_bytes new ≡ kept_bytes old ++ bytes
bytes-more old new tick bytes kept =
    let byte : ScriptKey → ℕ = λ key. key.byte in
    ap (map byte) kept
    ∙ map-append byte (kept_keys old) (keys_typed tick bytes)
    ∙ ap (λ (rest : List ℕ). kept_bytes old ++ rest) (bytes-typed tick bytes)

-- a turn more
pub gave-then : (waits : Type 0) (old new : Typed) (rest left bytes : List ℕ) (tick : ℕ) (line : Option (List ℕ))
    (out : Option (List ℕ)) (from mid to : KeyboardState) → GaveLines (kept_bytes old) rest from mid
    → TypesIf waits rest line bytes → left ≡ left_after rest line bytes
    → kept_keys new ≡ kept_keys old ++ keys_typed tick bytes
    → TakesLines (line_list line) (shown_for out line) mid to → GaveLines (kept_bytes new) left from to
gave-then waits old new rest left bytes tick line out from mid to it types is kept taken =
    let all : bytes ++ left ≡ rest ++ asked_bytes line = ap (λ (left : List ℕ). bytes ++ left) is ∙ types-all waits rest line bytes types in
    subst (λ (typed : List ℕ). GaveLines typed left from to) (sym (bytes-more old new tick bytes kept))
    (gave-more (kept_bytes old) rest bytes left line out from mid to it (asks-behind waits rest line bytes types) all taken)

-- ---- what is kept of a session

pub keeps-none : (typed : Typed) (keyboard : KeyboardState) → IsUntyped typed → KeepsLines typed keyboard keyboard
keeps-none typed keyboard untyped = record { rest = []; mid = keyboard; gave = gave-none typed keyboard untyped; end = inl refl }

pub keeps-so : (typed : Typed) (rest : List ℕ) (from to : KeyboardState) → GaveLines (kept_bytes typed) rest from to → KeepsLines typed from to
keeps-so typed rest from to it = record { rest = rest; mid = to; gave = it; end = inl refl }

gave-still : (typed now : Typed) (rest : List ℕ) (from to : KeyboardState) → IsKept typed now → GaveLines (kept_bytes typed) rest from to → GaveLines (kept_bytes now) rest from to
gave-still typed now rest from to same it =
    subst (λ (keys : List ScriptKey). GaveLines (map (λ (key : ScriptKey). key.byte) keys) rest from to) (sym (keys-still typed now same)) it

-- the keyboard gave its end
pub keeps-end : (typed now : Typed) (rest : List ℕ) (shown : ℕ) (from mid to : KeyboardState) → IsKept typed now
    → GaveLines (kept_bytes typed) rest from mid → GivesEnd shown mid to → KeepsLines now from to
keeps-end typed now rest shown from mid to same it end =
    record { rest = rest; mid = mid; gave = gave-still typed now rest from mid same it; end = inr (inl (shown, end)) }

-- memory was out for a line
pub keeps-lost : (typed now : Typed) (rest : List ℕ) (lost : Option (List ℕ)) (out : Option (List ℕ))
    (from mid at to : KeyboardState) → IsKept typed now → GaveLines (kept_bytes typed) rest from mid
    → (IsSome lost → rest ≡ []) → TakesLines (line_list lost) (shown_for out lost) mid at → LacksKeys lost rest at to → KeepsLines now from to
keeps-lost typed now rest lost out from mid at to same it none taken lacks =
    let gave : GaveLines (kept_bytes now ++ []) (rest ++ asked_bytes lost) from at = gave-more (kept_bytes now) rest
    [] (rest ++ asked_bytes lost) lost out from mid at (gave-still typed now rest from mid same it) none refl
    taken in
    record {
      rest = rest ++ asked_bytes lost;
      mid = at;
      gave = subst (λ (bytes : List ℕ). GaveLines bytes (rest ++ asked_bytes lost) from at) (append-nil (kept_bytes now)) gave;
      end = by lacks;
    }
  where
    by : LacksKeys lost rest at to → (to ≡ at) ⊎ (((shown : ℕ) × GivesEnd shown at to) ⊎ FailsToGive at to)
    by (inl (keys, same)) = inl same
    by (inr (none, no_rest, fails)) = inr (inr fails)
