-- What is typed before a slice, and a slice whose bytes are passed on.
use Rattle.std.specs.Prelude.{◌≡◌, ◌≢◌, ◌⊎◌, ◌↔◌, ℕ, ◌+◌, ◌++◌, IsSome, Option, Result, List, [], drop, length, take, IfOk, OnOk, OnErr, All}
use Rattle.os9_outer.specs.Stream.{stream_with}
use Rattle.os9_outer.specs.TerminalState.{TerminalState}
use Rattle.script_text.specs.declared.script.ScriptKey.{ScriptKey}
use Rattle.machine_model.specs.Console.{console_bytes, terminals_emptied}
use Rattle.machine_model.specs.declared.ends.SliceEnd.{SliceEnd}
use Rattle.machine_model.specs.Run.{BeginsSlice, Slice}
use Rattle.machine_model.specs.State.{State}
use Rattle.run_laws.specs.Session.{keys_loaded}
use Rattle.os9_kernel.specs.Calls.{StopsSlice}
use Rattle.os9_kernel.specs.Changes.{KeepsImages}
use Rattle.os9_kernel.specs.Outside.{Outside}
use Rattle.os9_kernel.specs.Tie.{Represents, RepresentsSomeState, ticks}
use Rattle.os9_kernel.specs.declared.kernel.Kernel.{Kernel}
use Rattle.boot_run.specs.Console.{IsObserved}
use Rattle.boot_run.specs.RunFault.{OnOutputFault, UnlessOutputFault}
use Rattle.boot_run.specs.Slices.{BreaksOutput}
use Rattle.boot_run.specs.World.{World, FailsToWrite, HasNoFault}
use Rattle.boot_run.specs.declared.run.RunFault.{RunFault}
use Rattle.console_run.specs.Kept.{IsKept, load_of}
use Rattle.console_run.specs.Typed.{kept_keys, keys_typed}
use Rattle.console_run.specs.Keyboard.{GivesEnd, KeyboardState, TakesLines, keyboard_state, line_list, shown_for}
use Rattle.console_run.specs.Lines.{LacksKeys, TypesIf, asked_bytes, left_after}
use Rattle.console_run.specs.Shown.{shown_length}
use Rattle.console_run.specs.declared.console.Console.{Console}
use Rattle.console_run.specs.declared.keyboard.Keyboard.{Ghosts}
use Rattle.console_run.specs.declared.part.TheConstants.{PART}
use Rattle.console_run.specs.Waiting.{WaitsForLine}
use Rattle.console_run.specs.declared.typed.TheConstants.{SLICE}
use Rattle.console_run.specs.declared.typed.Typed.{Typed}
use Rattle.console_run.specs.declared.asking.Asked.{Asked}
use Rattle.console_run.specs.declared.asking.Asked.TheVariants.{GoesOn, AtEnd, NoMemory}

-- ---- before a slice

-- these keys were loaded, and kept after the earlier ones
pub record LoadsKeys (load : List ScriptKey) (old new : Typed) (before after : List TerminalState) : Type 0 where
  pub kept : kept_keys new ≡ kept_keys old ++ load
  pub slices : new.slices ≡ old.slices
  pub terms : after ≡ keys_loaded before (load_of load)

-- what a console has typed, what is left of a line, and its keyboard
pub record ConsoleState : Type 0 where
  pub typed : Typed
  pub rest : List ℕ
  pub keyboard : KeyboardState

-- what is left of the line that it types
abbrev pub rest_of : {Keyboard : Type 0} → Console Keyboard → List ℕ
rest_of console = drop console.place console.line.items

-- the state of a console, as `console_state K.Keyboard console.now`
abbrev pub console_state : {Keyboard Host : Type 0} → Ghosts Keyboard Host → Console Keyboard → ConsoleState
console_state members console = record {
  typed = console.typed;
  rest = rest_of console;
  keyboard = keyboard_state members console.keyboard;
}

-- Of this rest of a line the next bytes were typed, and are due in this tick. This is left behind them.
pub record TypesRest (tick : ℕ) (rest left : List ℕ) (old new : Typed) (before after : List TerminalState)
    : Type 0 where
  pub bytes : List ℕ
  pub part : bytes ≡ take PART rest
  pub left_is : left ≡ drop (length bytes) rest
  pub loaded : LoadsKeys (keys_typed tick bytes) old new before after

-- The keyboard was asked for this line if and only if no rest was left, with this output. It is left then.
pub record AsksLine (out : Option (List ℕ)) (line : Option (List ℕ)) (old new : ConsoleState) : Type 0 where
  pub asked : IsSome line ↔ (old.rest ≡ [])
  pub rest : new.rest ≡ old.rest ++ asked_bytes line
  pub some : new.rest ≢ []
  pub taken : TakesLines (line_list line) (shown_for out line) old.keyboard new.keyboard
  pub typed : new.typed ≡ old.typed

-- Nothing was typed, since memory was out. A line for which it was out may have been taken, if no rest was left.
pub record LosesLine (out : Option (List ℕ)) (old new : ConsoleState) : Type 0 where
  pub lost : Option (List ℕ)
  pub none_left : IsSome lost → old.rest ≡ []
  pub mid : KeyboardState
  pub taken : TakesLines (line_list lost) (shown_for out lost) old.keyboard mid
  pub lacks : LacksKeys lost old.rest mid new.keyboard
  pub typed : IsKept old.typed new.typed

-- nothing was typed: no rest was left, and the keyboard was asked, and gave its end
pub record MeetsEnd (out : Option (List ℕ)) (old new : ConsoleState) : Type 0 where
  pub none_left : old.rest ≡ []
  pub end : GivesEnd (shown_length out) old.keyboard new.keyboard
  pub typed : IsKept old.typed new.typed

-- by what was answered: a rest of a line is there
abbrev pub HasRest : Asked → Option (List ℕ) → ConsoleState → ConsoleState → Type 0
HasRest GoesOn out old new = (line : Option (List ℕ)) × AsksLine out line old new
HasRest AtEnd out old new = MeetsEnd out old new
HasRest NoMemory out old new = LosesLine out old new

-- whatever state is represented, every process waits for keys
abbrev pub AllWait : SliceEnd → Kernel → Outside → Type 0
AllWait last kernel devices = (s : State) → Represents kernel devices s → WaitsForLine last s

-- the session goes on: what is typed was loaded, and is due in the next tick
pub record TypesLine (last : SliceEnd) (kernel : Kernel) (out : Option (List ℕ)) (old new : ConsoleState)
    (before after : Outside) : Type 0 where
  pub line : Option (List ℕ)
  pub bytes : List ℕ
  pub types : (s : State) → Represents kernel before s → TypesIf (WaitsForLine last s) old.rest line bytes
  pub left_is : new.rest ≡ left_after old.rest line bytes
  pub taken : TakesLines (line_list line) (shown_for out line) old.keyboard new.keyboard
  pub loaded : LoadsKeys (keys_typed (ticks kernel + 1) bytes) old.typed new.typed before.terms after.terms
  pub drives : after.drives ≡ before.drives

-- by what was answered; if the session does not go on, every process waits for keys, and nothing was typed
abbrev pub HasAsked : SliceEnd → Kernel → Option (List ℕ) → Asked → ConsoleState → ConsoleState → Outside → Outside
    → Type 0
HasAsked last kernel out GoesOn old new before after = TypesLine last kernel out old new before after
HasAsked last kernel out AtEnd old new before after =
    AllWait last kernel before × (after ≡ before) × MeetsEnd out old new
HasAsked last kernel out NoMemory old new before after =
    AllWait last kernel before × (after ≡ before) × LosesLine out old new

-- ---- a slice

-- from this state a slice was run that ended so, and its bytes were taken and passed on; the images that no event of it
-- asks to change are unchanged
pub record PassesSlice (u : State) (new : Kernel) (before after : World) (end : SliceEnd) : Type 0 where
  pub states : List State
  pub t : State
  pub slice : Slice SLICE u states end t
  pub there : Represents new after.devices (record t { terms = terminals_emptied t.terms })
  pub output : All IsObserved before.devices.terms → after.out ≡ stream_with before.out (console_bytes t.terms)
  pub images : KeepsImages (BeginsSlice SLICE u) states before.devices.drives after.devices.drives

-- memory was out within it, or the output did not take all that it wrote
abbrev pub StopsTurn : State → World → World → Type 0
StopsTurn u before after =
    (StopsSlice SLICE u after.devices × (after.out ≡ before.out) × HasNoFault before after)
    ⊎ BreaksOutput SLICE u before.out after

-- a slice was run, and the answer is how it ended
pub record RunsTurn (old new : Kernel) (answer : Result SliceEnd RunFault) (before after : World) : Type 0 where
  pub ran : IfOk answer (λ end. (s : State) → Represents old before.devices s → PassesSlice s new before after end)
  pub stopped : OnErr answer ((s : State) → All IsObserved before.devices.terms → Represents old before.devices s
      → StopsTurn s before after)
  pub stands : OnOk answer (RepresentsSomeState new after.devices)
  pub count : OnOk answer (ticks new ≡ ticks old + 1)
  pub output_fault : OnOutputFault answer (FailsToWrite before after)
  pub no_fault : UnlessOutputFault answer (HasNoFault before after)
  pub files_kept : after.files ≡ before.files
