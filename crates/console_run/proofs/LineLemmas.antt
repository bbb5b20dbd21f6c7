-- Lines that are taken from a keyboard.
use Rattle.std.proofs.Common.{◌≡◌, ◌<◌, ℕ, ◌+◌, zero, suc, arith, get_or, length, map, Option, Some, None, List, [], ◌∷◌, ◌++◌, drop, refl, sym, ap, ◌∙◌, subst, append_assoc}
use Rattle.std.specs.Prelude.{Bool, IfSome, option_map, slice_get, true, false}
use Rattle.std.proofs.lemmas.Option.{none-some, same_Some}
use Rattle.os9_outer.specs.Stream.{stream_with}
use Rattle.device_table.proofs.StreamLemmas.{appended-twice, appended-nothing}
use Rattle.console_run.specs.Keyboard.{FailsToGive, GivesEnd, KeyboardState, TakesLines, over_after}
use Rattle.console_run.specs.Shown.{counted}

abbrev Takes : List (List ℕ) → Option (List (List ℕ)) → Option (List (List ℕ)) → Type 0
Takes taken before after = IfSome before (λ lines. (left : List (List ℕ)) × (lines ≡ taken ++ left) × (after ≡ Some left))

-- none are
none-taken : (before : Option (List (List ℕ))) → Takes [] before before
none-taken None = tt
none-taken (Some lines) = (lines, refl, refl)

pub takes-none : (keyboard : KeyboardState) → TakesLines [] [] keyboard keyboard
takes-none keyboard = record {
  lines = none-taken keyboard.lines;
  unseen = λ none. none;
  asked = sym (appended-nothing keyboard.asked);
  over = refl;
  failed = refl;
}

-- some are, and then others
then-taken : (one two : List (List ℕ)) (before mid after : Option (List (List ℕ))) → Takes one before mid → Takes two mid after → Takes (one ++ two) before after
then-taken one two None mid after first second = tt
then-taken one two (Some lines) mid after (left, is, there) second =
    let (rest, left_is, here) = subst (λ (mid : Option (List (List ℕ))). Takes two mid after) there second in
    (rest, is ∙ ap (λ (left : List (List ℕ)). one ++ left) left_is ∙ sym (append_assoc one two rest), here)

over-then : (one two : List (List ℕ)) (before : Bool) → over_after two (over_after one before) ≡ over_after (one ++ two) before
over-then [] two before = refl
over-then (line ∷ one) [] before = refl
over-then (line ∷ one) (next ∷ two) before = refl

pub takes-then : (one two : List (List ℕ)) (shown more : List ℕ) (before mid after : KeyboardState)
    → TakesLines one shown before mid → TakesLines two more mid after → TakesLines (one ++ two) (shown ++ more) before
    after
takes-then one two shown more before mid after first second = record {
  lines = then-taken one two before.lines mid.lines after.lines first.lines second.lines;
  unseen = λ none. second.unseen (first.unseen none);
  over = second.over ∙ ap (over_after two) first.over ∙ over-then one two before.is_over;
  failed = second.failed ∙ first.failed;
  asked = second.asked ∙ ap (λ (asked : Option (List ℕ)). stream_with asked more) first.asked ∙ appended-twice before.asked shown more;
}

-- the next one is
next-taken : (line : List ℕ) (before after : Option (List (List ℕ))) → IfSome before (λ lines. Some line ≡ slice_get lines 0) → after ≡ option_map (drop 1) before → Takes (line ∷ []) before after
next-taken line None after first rest = tt
next-taken line (Some []) after first rest = absurd (none-some line (sym first))
next-taken line (Some (next ∷ lines)) after first rest =
    (lines, ap (λ (line : List ℕ). line ∷ lines) (sym (same_Some line next first)), rest)

pub takes-line : (line : List ℕ) (shown : ℕ) (before after : KeyboardState) → IfSome before.lines (λ lines. Some line
    ≡ slice_get lines 0) → after.lines ≡ option_map (drop 1) before.lines → after.asked ≡ stream_with before.asked
    (shown ∷ []) → after.is_over ≡ false → after.failed ≡ before.failed → TakesLines (line ∷ []) (shown ∷ []) before after
takes-line line shown before after first rest asked over failed = record {
  lines = next-taken line before.lines after.lines first rest;
  unseen = λ none. rest ∙ ap (option_map (drop 1)) none;
  asked = asked;
  over = over;
  failed = failed;
}

-- the end is
end-taken : (before after : Option (List (List ℕ))) → IfSome before (λ lines. None ≡ slice_get lines 0)
    → after ≡ option_map (drop 1) before → IfSome before (λ lines. lines ≡ []) × (after ≡ before)
end-taken None after first rest = (tt, rest)
end-taken (Some []) after first rest = (refl, rest)
end-taken (Some (next ∷ lines)) after first rest = absurd (none-some next first)

pub takes-end : (shown : ℕ) (before after : KeyboardState) → IfSome before.lines (λ lines. None ≡ slice_get lines 0)
    → after.lines ≡ option_map (drop 1) before.lines → after.asked ≡ stream_with before.asked (shown ∷ [])
    → after.is_over ≡ true → after.failed ≡ before.failed → GivesEnd shown before after
takes-end shown before after first rest asked over failed =
    let (none, lines) = end-taken before.lines after.lines first rest in
    record { none = none; lines = lines; asked = asked; over = over; failed = failed }

-- none is, if memory is out
pub fails-to-give : (before after : KeyboardState) → after.lines ≡ before.lines → after.is_over ≡ before.is_over
    → after.asked ≡ before.asked → after.failed ≡ counted before.failed → FailsToGive before after
fails-to-give before after lines over asked failed =
    λ i. record { lines = lines i; is_over = over i; asked = asked i; failed = failed i }

-- ---- lines in memory

-- the line at a place is the next one
pub next-line : {Line : Type 0} (bytes : Line → List ℕ) (lines : List Line) (place : ℕ) (d line : Line)
    → place < length lines → line ≡ get_or lines place d → slice_get (drop place (map bytes lines)) 0 ≡ Some
    (bytes line)
next-line bytes [] place d line below is = absurd (omega (arith, below))
next-line bytes (first ∷ lines) zero d line below is = ap (λ here. Some (bytes here)) (sym is)
next-line bytes (first ∷ lines) (suc place) d line below is = next-line bytes lines place d line (omega (arith, below)) is

pub drop-next : (lines : List (List ℕ)) (place : ℕ) → drop (place + 1) lines ≡ drop 1 (drop place lines)
drop-next [] zero = refl
drop-next [] (suc place) =
    let next : suc place + 1 ≡ suc (place + 1) = omega arith in
    rw next refl
drop-next (first ∷ lines) zero = refl
drop-next (first ∷ lines) (suc place) =
    let next : suc place + 1 ≡ suc (place + 1) = omega arith in
    rw next (drop-next lines place)
