-- A session with images in the drives (this project's own).
use Rattle.std.specs.Prelude.{◌≡◌, ℕ, List, All}
use Rattle.lock_model.specs.declared.history.Entry.{Entry}
use Rattle.file_drives.specs.Drives.{drive_states}
use Rattle.machine_model.specs.State.{State}
use Rattle.boot_run.specs.Outcome.{AreImagesOf, RunsImages, with_images_in}
use Rattle.boot_run.specs.declared.imaged.Start.{Start}
use Rattle.boot_run.specs.Console.{IsObserved}
use Rattle.boot_run.specs.Machine.{IsUnrun, Setup, StartsLoaded, setup_of}
use Rattle.boot_run.specs.World.{World}
use Rattle.console_run.specs.Typed.{kept_keys, kept_slices}
use Rattle.console_run.specs.Keyboard.{KeyboardState}
use Rattle.console_run.specs.Session.{AsksKeyboard, EndsAtLine, HasTypedSession, IsPartTo, IsSessionTo, StopsWithin, run_end, untyped}
use Rattle.console_run.specs.Lines.{KeepsLines}
use Rattle.console_run.specs.TypedTurn.{TypedTurn}
use Rattle.console_run.specs.declared.typed.Typed.{Typed}
use Rattle.console_run.specs.declared.session.SessionEnd.{SessionEnd}

-- the machine that is started so with these images, driven by what is kept of a session
abbrev pub session_setup : Start → List (List ℕ) → Typed → Setup
session_setup start images typed =
    record (setup_of start images) { keys = kept_keys typed; slices = kept_slices typed }

-- The machine that is set up so was started, and there was a session over these turns from its start to this state. Its
-- terminals and the states of its drives are those that are there now, these images hold its volumes, and this is its
-- history.
pub record LeavesSession (setup : Setup) (images : List (List ℕ)) (history : List Entry) (typed : Typed)
    (before after : World) (turns : List TypedTurn) (t : State) : Type 0 where
  pub s : State
  pub starts : StartsLoaded (untyped setup) before s
  pub session : HasTypedSession turns s t typed before.out after.out
  pub terminals : after.devices.terms ≡ t.terms
  pub drives : drive_states after.devices.drives ≡ t.files.drives
  pub volumes : AreImagesOf t setup.images images
  pub recorded : history ≡ t.files.records.history

-- it was a part of a session, with these images in its drives when that stopped
abbrev pub StopsMidway : Setup → Typed → List (List ℕ) → KeyboardState → KeyboardState → World → World → Type 0
StopsMidway setup typed images from to before after =
    StopsWithin setup typed from to before (with_images_in images after)

-- The machine that is set up so was run with its images in the drives, these were taken out again, and this history was
-- handed out. What is kept was typed, and it was a session or a part of one if the bytes of all terminals are observed.
pub record RunsConsole (setup : Setup) (typed : Typed) (images : List (List ℕ)) (history : List Entry)
    (end : SessionEnd) (from to : KeyboardState) (before after : World) : Type 0 where
  pub machine : RunsImages setup images history before after (run_end end)
  pub at_line : EndsAtLine end
  pub keyboard : AsksKeyboard end from to
  pub lines : KeepsLines typed from to
  pub session : All IsObserved before.devices.terms
      → IsSessionTo (LeavesSession setup images history typed before after) end from to before after
  pub stopped : All IsObserved before.devices.terms
      → IsPartTo (IsUnrun before after) (StopsMidway setup typed images from to before after) end from to
