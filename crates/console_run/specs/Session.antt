-- A session of a machine at whose terminal a person types.
use Rattle.std.specs.Prelude.{◌≡◌, ◌≢◌, ◌⊎◌, ◌+◌, ◌++◌, ℕ, ⊤, Bool, true, false, IsSome, Option, Result, List, [], length, map, replicate, IfOk, OnErr, All}
use Rattle.std.specs.List.{flat_map}
use Rattle.os9_outer.specs.Stream.{stream_with}
use Rattle.lock_model.specs.declared.history.Entry.{Entry}
use Rattle.cold_start.specs.Start.{HaveImages}
use Rattle.machine_model.specs.declared.ends.SliceEnd.{SliceEnd}
use Rattle.machine_model.specs.Run.{Run}
use Rattle.machine_model.specs.State.{State, has_living}
use Rattle.run_laws.specs.Session.{Session, with_keys}
use Rattle.os9_kernel.specs.Tie.{Represents}
use Rattle.os9_kernel.specs.Volumes.{HoldsVolumes}
use Rattle.os9_kernel.specs.declared.kernel.Kernel.{Kernel}
use Rattle.os9_kernel.specs.declared.new.Config.{Config}
use Rattle.boot_run.specs.Console.{IsObserved}
use Rattle.boot_run.specs.Machine.{IsUnrun, MachineCall, Setup, StartsLoaded, setup_with}
use Rattle.boot_run.specs.Slices.{RunsSlices}
use Rattle.boot_run.specs.World.{World}
use Rattle.boot_run.specs.declared.machine.RunEnd.{RunEnd}
use Rattle.boot_run.specs.declared.machine.RunEnd.TheVariants.{Ended, Living, Refused, DriveFailed, OutputFailed, NoMemory}
use Rattle.boot_run.specs.declared.run.RunFault.{RunFault}
use Rattle.console_run.specs.Kept.{load_of, with_typed}
use Rattle.console_run.specs.Typed.{kept_keys, kept_slices, keys_typed}
use Rattle.console_run.specs.Keyboard.{GivesEnd, KeyboardState, TakesLines, line_list, shown_for}
use Rattle.console_run.specs.Lines.{KeepsLines, LacksKeys, TypesIf}
use Rattle.console_run.specs.Shown.{shown_length}
use Rattle.console_run.specs.Turn.{StopsTurn}
use Rattle.console_run.specs.TypedTurn.{KeepsTypedTurns, TypedTurn, TypedTurns, last_end, left_of, lines_of, shown_at, turn_keys, turn_of}
use Rattle.console_run.specs.Waiting.{IsRunOver, WaitsForLine}
use Rattle.console_run.specs.declared.typed.TheConstants.{SLICE}
use Rattle.console_run.specs.declared.typed.Typed.{Typed}
use Rattle.console_run.specs.declared.session.SessionEnd.{SessionEnd}
use Rattle.console_run.specs.declared.session.SessionEnd.TheVariants.{OfRun, LineLost}
use Rattle.console_run.specs.declared.turns.Stop.{Stop}

-- what goes before the first slice: no process is known to wait
abbrev pub at_start : SliceEnd
at_start = SliceEnd.Ran

-- A session from s over these turns to t, with keys typed before its slices: a run whose keys are loaded before each
-- slice. The output gained what it wrote, and its keys and slices are kept: over these it is one run of terminals that
-- were loaded with all the keys before it.
pub record HasTypedSession (turns : List TypedTurn) (s t : State) (typed : Typed) (before after : Option (List ℕ))
    : Type 0 where
  pub states : List State
  pub written : List ℕ
  pub turns_typed : TypedTurns at_start [] turns s states written t
  pub session : Session (map turn_of turns) s states written t
  pub through : List State
  pub run : Run (kept_slices typed) (with_keys s (load_of (kept_keys typed))) through written t
  pub kept : KeepsTypedTurns typed turns
  pub output : after ≡ stream_with before written

-- No slice can follow these turns. The keyboard gave their lines, each at its time, and was not asked again.
pub record StopsAsOver (turns : List TypedTurn) (t : State) (from to : KeyboardState) (before : Option (List ℕ))
    : Type 0 where
  pub taken : TakesLines (lines_of turns) (shown_at before turns) from to
  pub over : IsRunOver t

-- Or every process waits for keys, no rest of a line is left, and the keyboard was asked once more and gave its end.
pub record StopsAtEnd (turns : List TypedTurn) (t : State) (from to : KeyboardState) (before after : Option (List ℕ))
    : Type 0 where
  pub mid : KeyboardState
  pub taken : TakesLines (lines_of turns) (shown_at before turns) from mid
  pub waits : WaitsForLine (last_end at_start turns) t
  pub lives : has_living t ≡ true
  pub none_left : left_of [] turns ≡ []
  pub end : GivesEnd (shown_length after) mid to

-- Or every process waits for keys, and memory was out for them. A line for which it was out may have been taken too.
pub record StopsAtLine (turns : List TypedTurn) (t : State) (from to : KeyboardState) (before after : Option (List ℕ))
    : Type 0 where
  pub lost : Option (List ℕ)
  pub mid : KeyboardState
  pub taken : TakesLines (lines_of turns ++ line_list lost) (shown_at before turns ++ shown_for after lost) from mid
  pub lacks : LacksKeys lost (left_of [] turns) mid to
  pub none_left : IsSome lost → left_of [] turns ≡ []
  pub waits : WaitsForLine (last_end at_start turns) t
  pub lives : has_living t ≡ true

-- why a session stopped after these turns, in this state, with these outputs before and after
abbrev pub StopsFor : Stop → List TypedTurn → State → KeyboardState → KeyboardState → Option (List ℕ)
    → Option (List ℕ) → Type 0
StopsFor Stop.Over turns t from to before after =
    StopsAsOver turns t from to before ⊎ StopsAtEnd turns t from to before after
StopsFor Stop.LineLost turns t from to before after = StopsAtLine turns t from to before after

-- a state with keys of these bytes, due in the next tick
abbrev pub with_bytes : State → List ℕ → State
with_bytes m bytes = with_keys m (load_of (keys_typed (m.processes.tick + 1) bytes))

-- A session from s that stopped within the slice behind these turns, or as the bytes of that slice were put out. What
-- is kept was typed in these turns and before that slice, each at its time, and over it the turns are one run.
pub record HasPartOfSession (s : State) (typed : Typed) (from to : KeyboardState) (before after : World) : Type 0 where
  pub turns : List TypedTurn
  pub states : List State
  pub written : List ℕ
  pub m : State
  pub turns_typed : TypedTurns at_start [] turns s states written m
  pub lives : has_living m ≡ true
  pub line : Option (List ℕ)
  pub bytes : List ℕ
  pub types : TypesIf (WaitsForLine (last_end at_start turns) m) (left_of [] turns) line bytes
  pub keys : kept_keys typed ≡ flat_map turn_keys turns ++ keys_typed (m.processes.tick + 1) bytes
  pub slices : typed.slices ≡ length turns + 1
  pub through : List State
  pub run : Run (replicate (length turns) SLICE) (with_keys s (load_of (kept_keys typed))) through written
      (with_bytes m bytes)
  pub stopped : StopsTurn (with_bytes m bytes) (record before { out = stream_with before.out written }) after
  pub taken : TakesLines (lines_of turns ++ line_list line)
      (shown_at before.out turns ++ shown_for (stream_with before.out written) line) from to

-- ---- of a kernel that was started

-- it came from this state to one that is represented now, and stopped
pub record RunsSession (stop : Stop) (s : State) (new : Kernel) (typed : Typed) (from to : KeyboardState)
    (before after : World) : Type 0 where
  pub turns : List TypedTurn
  pub t : State
  pub session : HasTypedSession turns s t typed before.out after.out
  pub there : Represents new after.devices t
  pub stops : StopsFor stop turns t from to before.out after.out

-- It is the run of what is kept, of terminals that were loaded with those keys before it, and those are keys of lines
-- that the keyboard gave. There was a session from each state that was represented, or a part of one.
pub record RunsTurns (typed : Typed) (old new : Kernel) (answer : Result Stop RunFault) (from to : KeyboardState)
    (before after : World) : Type 0 where
  pub ran : RunsSlices (kept_slices typed) old new answer (with_typed (kept_keys typed) before) after
  pub lines : KeepsLines typed from to
  pub session : IfOk answer (λ stop. (s : State) → All IsObserved before.devices.terms
      → Represents old before.devices s → RunsSession stop s new typed from to before after)
  pub stopped : OnErr answer ((s : State) → All IsObserved before.devices.terms → Represents old before.devices s
      → HasPartOfSession s typed from to before after)

-- ---- of a machine

-- the machine before anything was typed
abbrev pub untyped : Setup → Setup
untyped setup = record setup { keys = []; slices = [] }

-- The machine that is set up so was started, and there was a session over these turns from its start to this state, in
-- which its terminals are now, whose volumes its drives hold, and whose history this is.
pub record LeadsSession (setup : Setup) (typed : Typed) (history : List Entry) (before after : World)
    (turns : List TypedTurn) (t : State) : Type 0 where
  pub s : State
  pub starts : StartsLoaded (untyped setup) before s
  pub session : HasTypedSession turns s t typed before.out after.out
  pub terminals : after.devices.terms ≡ t.terms
  pub drives : HoldsVolumes t after.devices.drives
  pub recorded : history ≡ t.files.records.history

-- a session came so to its last state, in which a process lives or none does, and stopped
pub record StopsConsoleSession (comes : List TypedTurn → State → Type 0) (lives : Bool) (stop : Stop)
    (from to : KeyboardState) (before after : World) : Type 0 where
  pub turns : List TypedTurn
  pub t : State
  pub came : comes turns t
  pub living : has_living t ≡ lives
  pub stops : StopsFor stop turns t from to before.out after.out

-- by how it ended
abbrev pub IsSessionTo : (List TypedTurn → State → Type 0) → SessionEnd → KeyboardState → KeyboardState → World → World
    → Type 0
IsSessionTo comes (OfRun (Ended begun)) from to before after = StopsConsoleSession comes false Stop.Over from to before
    after
IsSessionTo comes (OfRun (Living begun)) from to before after = StopsConsoleSession comes true Stop.Over from to before
    after
IsSessionTo comes (LineLost end) from to before after = StopsConsoleSession comes true Stop.LineLost from to before
    after
IsSessionTo comes end from to before after = ⊤

-- the machine that is set up so was started, and there was a part of a session from its start
pub record StopsWithin (setup : Setup) (typed : Typed) (from to : KeyboardState) (before after : World) : Type 0
  where
    pub s : State
    pub starts : StartsLoaded (untyped setup) before s
    pub part : HasPartOfSession s typed from to before after

-- If the output failed, that was within a session. If memory was out, that was too, or nothing was run and the keyboard
-- was not asked.
abbrev pub IsPartTo : (unrun within : Type 0) → SessionEnd → KeyboardState → KeyboardState → Type 0
IsPartTo unrun within (OfRun OutputFailed) from to = within
IsPartTo unrun within (OfRun NoMemory) from to = (unrun × (to ≡ from)) ⊎ within
IsPartTo unrun within end from to = ⊤

-- if memory was out for keys, the output did not fail
abbrev pub EndsAtLine : SessionEnd → Type 0
EndsAtLine (LineLost end) = end ≢ RunEnd.OutputFailed
EndsAtLine end = ⊤

-- a machine that was not started did not ask the keyboard
abbrev pub AsksKeyboard : SessionEnd → KeyboardState → KeyboardState → Type 0
AsksKeyboard (OfRun (Refused fault)) from to = to ≡ from
AsksKeyboard (OfRun (DriveFailed drive number)) from to = to ≡ from
AsksKeyboard end from to = ⊤

-- how the run of its machine ended
abbrev pub run_end : SessionEnd → RunEnd
run_end (OfRun end) = end
run_end (LineLost end) = end

-- It is the run of the machine over the slices and with the keys that are kept, which are keys of lines that the
-- keyboard gave, and a session or a part of one if the bytes of all terminals are observed.
pub record ConsoleSessionCall (setup : Setup) (end : SessionEnd) (history : List Entry) (typed : Typed)
    (from to : KeyboardState) (before after : World) : Type 0 where
  pub machine : MachineCall setup history before after (run_end end)
  pub at_line : EndsAtLine end
  pub keyboard : AsksKeyboard end from to
  pub lines : KeepsLines typed from to
  pub session : All IsObserved before.devices.terms
      → IsSessionTo (LeadsSession setup typed history before after) end from to before after
  pub stopped : All IsObserved before.devices.terms
      → IsPartTo (IsUnrun before after) (StopsWithin setup typed from to before after) end from to

-- so with the images that were in the first drives
abbrev pub SessionRuns : Config → List ℕ → SessionEnd → List Entry → Typed → KeyboardState → KeyboardState → World
    → World → Type 0
SessionRuns config file end history typed from to before after =
    (images : List (List ℕ)) → HaveImages config.images images before.devices.drives
    → ConsoleSessionCall (setup_with config file images (kept_keys typed) (kept_slices typed)) end history typed from to
    before after
