-- The outcome of a boot of disks at whose machine a person types (this project's own).
use Rattle.std.specs.Prelude.{◌≡◌, ◌⊎◌, ℕ, ⊤, Bool, true, false, Option, List, IfSome, length, All}
use Rattle.os9_outer.specs.Host.{HostFiles, IfObserved}
use Rattle.os9_words.specs.declared.command.RunWords.{RunWords}
use Rattle.lock_model.specs.declared.history.Entry.{Entry}
use Rattle.boot_run.specs.BootFile.{IsBootFile, IsFirstFault, IsVolume}
use Rattle.boot_run.specs.Images.{WritesAll, WritesUpTo, images_of}
use Rattle.boot_run.specs.Machine.{Setup}
use Rattle.boot_run.specs.World.{World}
use Rattle.boot_run.specs.End.{run_file_name}
use Rattle.boot_run.specs.Fails.{FailsAsReported}
use Rattle.boot_run.specs.declared.status.End.{End}
use Rattle.boot_run.specs.declared.status.End.TheVariants.{Ended, Living, CannotRead, CannotWrite, CannotWriteFile, CannotWriteImage, NoMemory, BadImage, BadText, BadBounds}
use Rattle.console_run.specs.Typed.{kept_keys, kept_slices}
use Rattle.console_run.specs.Keyboard.{KeyboardState}
use Rattle.console_run.specs.Lines.{KeepsLines}
use Rattle.console_run.specs.Session.{StopsConsoleSession}
use Rattle.console_run.specs.declared.typed.Typed.{Typed}
use Rattle.console_run.specs.declared.turns.Stop.TheVariants.{LineLost, Over}
use Rattle.os9_console.specs.Images.{LeavesSession, StopsMidway}
use Rattle.os9_boot.specs.Boots.{IfAllObserved, IsUndone, MachineComesTo}
use Rattle.os9_boot.specs.History.{Outputs, output_bytes, output_names, outputs_of}
use Rattle.os9_boot.specs.Images.{LackBootFile}
use Rattle.os9_boot.specs.BootLeft.{BootLeavesFiles, BootMayEnd, CommandLeavesDevices}

-- The machine is that of the words, with images that represent volumes, and what is kept of its session drives it. If
-- the files are observed, the images are those of the files that the words name.
pub record SetsUpSession (told : Option HostFiles) (boot : RunWords) (typed : Typed) (setup : Setup) : Type 0 where
  pub keys : setup.keys ≡ kept_keys typed
  pub slices : setup.slices ≡ kept_slices typed
  pub blocks : setup.blocks ≡ boot.blocks
  pub time : setup.time ≡ boot.start
  pub as_many : length setup.images ≡ length boot.files
  pub images : IfSome told (λ files. setup.images ≡ images_of files boot.files)
  pub volumes : All IsVolume setup.images
  pub file : IsBootFile setup.images setup.file

-- A session came to its end, at which a process lives or none does, and its images and its history are written.
pub record EndsAsSession (setup : Setup) (outputs : Outputs) (typed : Typed) (lives : Bool) (from to : KeyboardState)
    (before after : World) : Type 0 where
  pub images : List (List ℕ)
  pub history : List Entry
  pub session : StopsConsoleSession (LeavesSession setup images history typed before after) lives Over from to before
      after
  pub files : IfObserved (WritesAll (output_names outputs) (output_bytes outputs images history)) before.files
      after.files

-- A session came to its end, and its images and its history are written up to the file of this number, whose write
-- failed.
pub record EndsUnwritten (setup : Setup) (outputs : Outputs) (typed : Typed) (number : ℕ) (from to : KeyboardState)
    (before after : World) : Type 0 where
  pub lives : Bool
  pub images : List (List ℕ)
  pub history : List Entry
  pub session : StopsConsoleSession (LeavesSession setup images history typed before after) lives Over from to before
      after
  pub files : IfObserved (WritesUpTo number (output_names outputs) (output_bytes outputs images history))
      before.files after.files

-- A session stopped within a slice or as the bytes of one were put out, with these images in the drives, and no file is
-- written.
pub record StopsUnwritten (setup : Setup) (typed : Typed) (from to : KeyboardState) (before after : World) : Type 0
  where
    pub images : List (List ℕ)
    pub within : StopsMidway setup typed images from to before after
    pub files : after.files ≡ before.files

-- A session came to keys for which memory was out, and no image is written.
pub record SessionLosesLine (setup : Setup) (typed : Typed) (from to : KeyboardState) (before after : World) : Type 0
  where
    pub images : List (List ℕ)
    pub history : List Entry
    pub session : StopsConsoleSession (LeavesSession setup images history typed before after) true LineLost from to
        before
        after
    pub files : after.files ≡ before.files

-- A machine that came to its end came there as a session, if the bytes of all terminals are observed. An image is
-- written then alone, also if memory was out. If the output failed, or memory was out before, it stopped within a
-- session.
abbrev pub WasSession : Setup → Outputs → Typed → KeyboardState → KeyboardState → World → World → End → Type 0
WasSession setup outputs typed from to before after Ended =
    IfAllObserved before (EndsAsSession setup outputs typed false from to before after)
WasSession setup outputs typed from to before after Living =
    IfAllObserved before (EndsAsSession setup outputs typed true from to before after)
WasSession setup outputs typed from to before after (CannotWriteImage number) =
    IfAllObserved before (EndsUnwritten setup outputs typed number from to before after)
WasSession setup outputs typed from to before after CannotWriteFile =
    IfAllObserved before (EndsUnwritten setup outputs typed (length outputs.images) from to before after)
WasSession setup outputs typed from to before after CannotWrite =
    IfAllObserved before (StopsUnwritten setup typed from to before after)
WasSession setup outputs typed from to before after NoMemory =
    IfAllObserved before (StopsUnwritten setup typed from to before after
    ⊎ ((number : ℕ) × EndsUnwritten setup outputs typed number from to before after))
WasSession setup outputs typed from to before after end = ⊤

-- a machine is set up so, and its outcome is that of a boot whose machine has the kept keys and slices
pub record MachineIsSession (boot : RunWords) (typed : Typed) (from to : KeyboardState) (before after : World)
    (end : End) : Type 0 where
  pub setup : Setup
  pub sets : SetsUpSession before.files boot typed setup
  pub comes : MachineComesTo setup (outputs_of boot) before after end
  pub session : WasSession setup (outputs_of boot) typed from to before after end

-- or it came to keys for which memory was out
pub record MachineLosesLine (boot : RunWords) (typed : Typed) (from to : KeyboardState) (before after : World) : Type 0
  where
    pub setup : Setup
    pub sets : SetsUpSession before.files boot typed setup
    pub session : IfAllObserved before (SessionLosesLine setup typed from to before after)

-- memory was out before the keyboard was asked, and nothing was done; or it was out for a session
abbrev pub ConsoleWithoutMemory : RunWords → Typed → KeyboardState → KeyboardState → World → World → Type 0
ConsoleWithoutMemory boot typed from to before after =
    (IsUndone before after × (to ≡ from))
    ⊎ (MachineIsSession boot typed from to before after NoMemory
    ⊎ MachineLosesLine boot typed from to before after)

-- by how it ended
abbrev pub ConsoleComesTo : RunWords → Typed → KeyboardState → KeyboardState → World → World → End → Type 0
ConsoleComesTo boot typed from to before after (CannotRead input) = ⊤
ConsoleComesTo boot typed from to before after (BadImage number fault) =
    IfSome before.files (λ files. IsFirstFault (images_of files boot.files) number fault)
ConsoleComesTo boot typed from to before after BadBounds =
    IfSome before.files (λ files. LackBootFile (images_of files boot.files))
ConsoleComesTo boot typed from to before after NoMemory = ConsoleWithoutMemory boot typed from to before after
ConsoleComesTo boot typed from to before after end = MachineIsSession boot typed from to before after end

-- it reads no text, and else ends as a boot may
abbrev pub ConsoleMayEnd : Outputs → End → Type 0
ConsoleMayEnd outputs (BadText input line) = ⊥
ConsoleMayEnd outputs end = BootMayEnd outputs end

-- the keyboard is not asked if no machine was started, as `ConsoleWithoutMemory` says if memory was out
abbrev pub LeavesKeyboard : End → KeyboardState → KeyboardState → Type 0
LeavesKeyboard Ended from to = ⊤
LeavesKeyboard Living from to = ⊤
LeavesKeyboard CannotWrite from to = ⊤
LeavesKeyboard (CannotWriteImage number) from to = ⊤
LeavesKeyboard CannotWriteFile from to = ⊤
LeavesKeyboard NoMemory from to = ⊤
LeavesKeyboard end from to = to ≡ from

-- The images were booted at this keyboard, and the session ended so. The keys that are kept are those of lines that it
-- gave, at every end.
pub record ConsoleCall (boot : RunWords) (typed : Typed) (end : End) (from to : KeyboardState) (before after : World)
    : Type 0 where
  pub comes : ConsoleComesTo boot typed from to before after end
  pub may : ConsoleMayEnd (outputs_of boot) end
  pub keyboard : LeavesKeyboard end from to
  pub lines : KeepsLines typed from to
  pub devices : CommandLeavesDevices (length boot.files) before after end
  pub host : FailsAsReported (run_file_name boot) end before after
  pub files : BootLeavesFiles (output_names (outputs_of boot)) before after end
