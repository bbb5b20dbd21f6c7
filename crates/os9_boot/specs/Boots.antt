-- The outcome of a command that runs a machine on what its files hold (Level Two manual, "Booting"; the order of the
-- tests is this project's own).
use Rattle.std.specs.Prelude.{◌≡◌, ◌⊎◌, ℕ, ⊤, Bool, true, false, Err, List, length, All}
use Rattle.os9_outer.specs.Host.{HostFiles, file_contents, IfObserved}
use Rattle.os9_outer.specs.Stream.{stream_with}
use Rattle.script_text.specs.declared.script.ScriptKey.{ScriptKey}
use Rattle.script_text.specs.Script.{keys_of}
use Rattle.machine_model.specs.declared.ends.BootFault.{BootFault}
use Rattle.machine_model.specs.ProcessStart.{RefusesBoot}
use Rattle.machine_model.specs.State.{State, has_living}
use Rattle.os9_words.specs.declared.command.RunWords.{RunWords}
use Rattle.boot_run.specs.BootFile.{IsFirstFault}
use Rattle.boot_run.specs.Images.{WritesAll, WritesUpTo, images_of}
use Rattle.boot_run.specs.Outcome.{HasOutcome, StopsWithImages}
use Rattle.boot_run.specs.Console.{IsObserved}
use Rattle.boot_run.specs.Machine.{IsUnrun, Setup}
use Rattle.boot_run.specs.World.{World}
use Rattle.boot_run.specs.declared.status.End.{End}
use Rattle.boot_run.specs.declared.status.End.TheVariants.{Ended, Living, CannotRead, CannotWrite, CannotWriteFile, CannotWriteImage, NoMemory, BadImage, BadText, BadBounds, DriveFailed}
use Rattle.boot_run.specs.declared.status.Input.{Input}
use Rattle.boot_run.specs.declared.status.Input.TheVariants.{Script}
use Rattle.boot_run.specs.End.{boot_end}
use Rattle.os9_boot.specs.Images.{LackBootFile}
use Rattle.boot_run.specs.Reading.{BreaksSlices}
use Rattle.boot_run.specs.Setup.{HaveTexts, SetsUpBoot, SetsUpRun, script_of}
use Rattle.os9_boot.specs.History.{Outputs, no_outputs, output_bytes, output_names, outputs_of}

-- ---- the outcome of a machine with a setup

-- it ran to its end: a process lives then or none does, the output has gained what it wrote, and its images and its
-- history are written
pub record RunsToEnd (setup : Setup) (outputs : Outputs) (lives : Bool) (before after : World) : Type 0 where
  pub t : State
  pub written : List ℕ
  pub images : List (List ℕ)
  pub outcome : HasOutcome setup t written images before after
  pub living : has_living t ≡ lives
  pub output : after.out ≡ stream_with before.out written
  pub files : IfObserved (WritesAll (output_names outputs) (output_bytes outputs images t.files.records.history))
      before.files after.files

-- it ran to its end, and its images and its history are written up to the file of this number, which is not written
pub record RunsUnwritten (setup : Setup) (outputs : Outputs) (number : ℕ) (before after : World) : Type 0 where
  pub t : State
  pub written : List ℕ
  pub images : List (List ℕ)
  pub outcome : HasOutcome setup t written images before after
  pub output : after.out ≡ stream_with before.out written
  pub files : IfObserved (WritesUpTo number (output_names outputs)
      (output_bytes outputs images t.files.records.history)) before.files after.files

-- nothing was run, and nothing observable has changed but the number of calls of drives
pub record IsUndone (before after : World) : Type 0 where
  pub unrun : IsUnrun before after
  pub files : after.files ≡ before.files

-- it ran over the first of its slices, its images are those in the drives if it stops there, and none was written
pub record RunsUnended (setup : Setup) (before after : World) : Type 0 where
  pub first : StopsWithImages setup before after
  pub files : after.files ≡ before.files

-- the fact holds if the bytes of all terminals are observed
abbrev pub IfAllObserved : World → Type 0 → Type 0
IfAllObserved before fact = All IsObserved before.devices.terms → fact

-- Its outcome, by the end of the command, which writes these files: the images, then the history. What it ran is said
-- if all terminals are observed, and why its boot file is refused in any case. That memory may be out before anything
-- is run is said of the command.
abbrev pub MachineComesTo : Setup → Outputs → World → World → End → Type 0
MachineComesTo setup outputs before after Ended = IfAllObserved before (RunsToEnd setup outputs false before after)
MachineComesTo setup outputs before after Living = IfAllObserved before (RunsToEnd setup outputs true before after)
MachineComesTo setup outputs before after CannotWrite = IfAllObserved before (RunsUnended setup before after)
MachineComesTo setup outputs before after (CannotWriteImage number) =
    IfAllObserved before (RunsUnwritten setup outputs number before after)
MachineComesTo setup outputs before after CannotWriteFile =
    IfAllObserved before (RunsUnwritten setup outputs (length outputs.images) before after)
MachineComesTo setup outputs before after NoMemory =
    IfAllObserved before (RunsUnended setup before after
    ⊎ ((number : ℕ) × RunsUnwritten setup outputs number before after))
MachineComesTo setup outputs before after (DriveFailed drive number) =
    (fault : BootFault) → ¬ RefusesBoot setup.file setup.blocks fault
MachineComesTo setup outputs before after end =
    (fault : BootFault) × RefusesBoot setup.file setup.blocks fault × (end ≡ boot_end fault)

-- ---- of a run and of a boot

-- a text is refused, with its first bad line: the script, or after an accepted script the slice text
abbrev pub RefusesRunText : HostFiles → RunWords → ℕ → Input → ℕ → Type 0
RefusesRunText files run terminals Script line = keys_of terminals (script_of files run) ≡ Err line
RefusesRunText files run terminals input line =
    BreaksSlices terminals line (script_of files run) (file_contents files run.slices)

-- the texts are accepted
abbrev pub AcceptsTexts : HostFiles → RunWords → ℕ → Type 0
AcceptsTexts files run terminals =
    (keys : List ScriptKey) × (slices : List ℕ) × HaveTexts files run terminals keys slices

-- a machine has this setup, and this outcome
abbrev pub SetUpComesTo : (Setup → Type 0) → Outputs → World → World → End → Type 0
SetUpComesTo is_so outputs before after end =
    (setup : Setup) × is_so setup × MachineComesTo setup outputs before after end

-- the outcome of a run, by its end; if memory is out nothing was run, or the machine was
abbrev pub RunComesTo : HostFiles → RunWords → World → World → End → Type 0
RunComesTo files run before after (CannotRead input) = ⊤
RunComesTo files run before after (BadText input line) =
    RefusesRunText files run (length before.devices.terms) input line
RunComesTo files run before after NoMemory =
    IsUndone before after
    ⊎ SetUpComesTo (SetsUpRun files run (length before.devices.terms)) no_outputs before after NoMemory
RunComesTo files run before after end =
    SetUpComesTo (SetsUpRun files run (length before.devices.terms)) no_outputs before after end

-- the outcome of a boot
abbrev pub BootComesTo : HostFiles → RunWords → World → World → End → Type 0
BootComesTo files boot before after (CannotRead input) = ⊤
BootComesTo files boot before after (BadText input line) =
    RefusesRunText files boot (length before.devices.terms) input line
BootComesTo files boot before after (BadImage number fault) =
    AcceptsTexts files boot (length before.devices.terms) × IsFirstFault (images_of files boot.files) number fault
BootComesTo files boot before after BadBounds =
    AcceptsTexts files boot (length before.devices.terms) × LackBootFile (images_of files boot.files)
BootComesTo files boot before after NoMemory =
    IsUndone before after
    ⊎ SetUpComesTo (SetsUpBoot files boot (length before.devices.terms)) (outputs_of boot) before after NoMemory
BootComesTo files boot before after end =
    SetUpComesTo (SetsUpBoot files boot (length before.devices.terms)) (outputs_of boot) before after end
