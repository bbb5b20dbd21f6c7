-- What can be observed of a keyboard, and what is taken from it.
use Rattle.std.specs.Prelude.{◌≡◌, true, false, Bool, IfSome, Option, Some, None, List, [], ◌∷◌, ◌++◌, ℕ}
use Rattle.os9_outer.specs.Stream.{stream_with}
use Rattle.console_run.specs.Shown.{counted, shown_length}
use Rattle.console_run.specs.declared.keyboard.Keyboard.{Ghosts}

pub record KeyboardState : Type 0 where
  pub lines : Option (List (List ℕ))  -- the lines that it is to give before its end, if they are observed
  pub is_over : Bool  -- it has given its end
  pub asked : Option (List ℕ)  -- how much was shown each time that it answered, if that is observed
  pub failed : ℕ  -- how often memory was out for a line

-- the state of a keyboard, as `keyboard_state K.Keyboard console.keyboard`
abbrev pub keyboard_state : {Keyboard Host : Type 0} → Ghosts Keyboard Host → Keyboard → KeyboardState
keyboard_state members keyboard = record {
  lines = members.lines_left keyboard;
  is_over = members.is_over keyboard;
  asked = members.asked keyboard;
  failed = members.failed_asks keyboard;
}

-- a keyboard that gave a line last is not at its end
abbrev pub over_after : List (List ℕ) → Bool → Bool
over_after [] over = over
over_after (line ∷ lines) over = false

-- it gave these lines, which were the next ones, when so much was shown; lines that were not observed stay so
pub record TakesLines (taken : List (List ℕ)) (shown : List ℕ) (before after : KeyboardState) : Type 0 where
  pub lines : IfSome before.lines (λ lines. (left : List (List ℕ)) × (lines ≡ taken ++ left)
      × (after.lines ≡ Some left))
  pub unseen : before.lines ≡ None → after.lines ≡ None
  pub asked : after.asked ≡ stream_with before.asked shown
  pub over : after.is_over ≡ over_after taken before.is_over
  pub failed : after.failed ≡ before.failed

-- it answered once, when so much was shown, and gave its end: it has no lines left
pub record GivesEnd (shown : ℕ) (before after : KeyboardState) : Type 0 where
  pub none : IfSome before.lines (λ lines. lines ≡ [])
  pub lines : after.lines ≡ before.lines
  pub asked : after.asked ≡ stream_with before.asked (shown ∷ [])
  pub over : after.is_over ≡ true
  pub failed : after.failed ≡ before.failed

-- it was asked once, and memory was out for the line: else it is as before
abbrev pub FailsToGive : KeyboardState → KeyboardState → Type 0
FailsToGive before after = after ≡ record before { failed = counted before.failed }

-- the line, if there is one
abbrev pub line_list : Option (List ℕ) → List (List ℕ)
line_list None = []
line_list (Some line) = line ∷ []

-- how much is shown with this output if it gives a line then
abbrev pub shown_for : Option (List ℕ) → Option (List ℕ) → List ℕ
shown_for out None = []
shown_for out (Some line) = shown_length out ∷ []
