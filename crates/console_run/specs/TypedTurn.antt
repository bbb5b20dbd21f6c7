-- The turns of a session at a keyboard (this project's own).
use Rattle.std.specs.Prelude.{◌≡◌, ℕ, ◌+◌, ◌++◌, true, Option, List, [], ◌∷◌, length}
use Rattle.std.specs.List.{flat_map}
use Rattle.os9_outer.specs.Stream.{stream_with}
use Rattle.machine_model.specs.Console.{console_bytes, terminals_emptied}
use Rattle.machine_model.specs.declared.ends.SliceEnd.{SliceEnd}
use Rattle.script_text.specs.declared.script.ScriptKey.{ScriptKey}
use Rattle.machine_model.specs.Run.{Slice}
use Rattle.machine_model.specs.State.{State, has_living}
use Rattle.run_laws.specs.Session.{SessionTurn, with_keys}
use Rattle.console_run.specs.Kept.{load_of}
use Rattle.console_run.specs.Typed.{kept_keys, keys_typed}
use Rattle.console_run.specs.Keyboard.{line_list, shown_for}
use Rattle.console_run.specs.Lines.{TypesIf, left_after}
use Rattle.console_run.specs.Waiting.{WaitsForLine}
use Rattle.console_run.specs.declared.typed.Typed.{Typed}
use Rattle.console_run.specs.declared.typed.TheConstants.{SLICE}

-- a turn: a line or a part of one is typed or nothing, and then a slice is run
pub record TypedTurn : Type 0 where
  pub tick : ℕ  -- with which its slice begins
  pub line : Option (List ℕ)  -- the line that the keyboard gives, if it is asked
  pub bytes : List ℕ  -- what is typed
  pub end : SliceEnd  -- how its slice ends
  pub written : List ℕ  -- what its slice writes

-- its keys, which are due in that tick
abbrev pub turn_keys : TypedTurn → List ScriptKey
turn_keys turn = keys_typed turn.tick turn.bytes

-- they are loaded before its slice
abbrev pub turn_of : TypedTurn → SessionTurn
turn_of turn = record { load = load_of (turn_keys turn); count = SLICE }

-- the lines of turns, in their order
abbrev pub lines_of : List TypedTurn → List (List ℕ)
lines_of turns = flat_map (λ turn. line_list turn.line) turns

-- How much was shown each time that the keyboard gave one, if this was the output before the turns: the bytes of each
-- slice are out before the keyboard is asked again.
abbrev pub shown_at : Option (List ℕ) → List TypedTurn → List ℕ
shown_at out [] = []
shown_at out (turn ∷ turns) = shown_for out turn.line ++ shown_at (stream_with out turn.written) turns

-- the end of the last slice of turns that follow a slice with this end
abbrev pub last_end : SliceEnd → List TypedTurn → SliceEnd
last_end last [] = last
last_end last (turn ∷ turns) = last_end turn.end turns

-- what is left of the last line after turns, if this was left before
abbrev pub left_of : List ℕ → List TypedTurn → List ℕ
left_of rest [] = rest
left_of rest (turn ∷ turns) = left_of (left_after rest turn.line turn.bytes) turns

-- Turns that follow a slice with this end, while this rest of a line is left, from s through these states to t, and the
-- bytes that they write. What is typed before a slice is due in the next tick.
abbrev pub TypedTurns : SliceEnd → List ℕ → List TypedTurn → State → List State → List ℕ → State → Type 0
TypedTurns last rest [] s states written t = (states ≡ []) × (written ≡ []) × (t ≡ s)
TypedTurns last rest (turn ∷ turns) s states written t =
    (has_living s ≡ true) × (turn.tick ≡ s.processes.tick + 1) × TypesIf (WaitsForLine last s) rest turn.line turn.bytes
    × (m : State) × (first later : List State) × (more : List ℕ)
    × Slice SLICE (with_keys s (turn_of turn).load) first turn.end m × (states ≡ first ++ later)
    × (turn.written ≡ console_bytes m.terms) × (written ≡ turn.written ++ more)
    × TypedTurns turn.end (left_after rest turn.line turn.bytes) turns
    (record m { terms = terminals_emptied m.terms }) later more t

-- what is kept of a session are the keys of its turns, and a slice for each
pub record KeepsTypedTurns (typed : Typed) (turns : List TypedTurn) : Type 0 where
  pub keys : kept_keys typed ≡ flat_map turn_keys turns
  pub slices : typed.slices ≡ length turns
