-- The headline of a boot, in one place (this project's own).
use Rattle.std.specs.Prelude.{◌≡◌, ◌≢◌, ◌⊎◌, ◌++◌, ℕ, List, length}
use Rattle.os9_outer.specs.Host.{HostFiles, IfObserved}
use Rattle.os9_outer.specs.Stream.{stream_with}
use Rattle.os9_words.specs.Notes.{Notes}
use Rattle.os9_words.specs.declared.command.RunWords.{RunWords}
use Rattle.machine_model.specs.ProcessStart.{RefusesBoot}
use Rattle.machine_model.specs.declared.ends.BootFault.{BootFault}
use Rattle.machine_model.specs.Run.{Run, status_of}
use Rattle.machine_model.specs.State.{State}
use Rattle.file_drives.specs.Drives.{drive_states}
use Rattle.boot_run.specs.Machine.{FailsToMount, Setup, StartsLoaded}
use Rattle.boot_run.specs.World.{World}
use Rattle.boot_run.specs.Images.{WritesAll}
use Rattle.boot_run.specs.Outcome.{AreImagesOf, KeepsUnchanged}
use Rattle.boot_run.specs.declared.status.End.TheVariants.{Ended, Living, CannotWrite, NoMemory, DriveFailed}
use Rattle.boot_run.specs.End.{status_number}
use Rattle.boot_run.specs.FileNames.{AreFirstNames}
use Rattle.boot_run.specs.Setup.{SetsUpBoot}
use Rattle.os9_boot.specs.Boots.{BootComesTo}
use Rattle.os9_boot.specs.History.{output_bytes, output_names, outputs_of}

-- the texts and the images are accepted, the first image has a boot file, and that is not refused
pub record AcceptsRun (files : HostFiles) (boot : RunWords) (terminals : ℕ) : Type 0 where
  pub setup : Setup
  pub sets : SetsUpBoot files boot terminals setup
  pub starts : (fault : BootFault) → ¬ RefusesBoot setup.file setup.blocks fault

-- A boot is one run of the machine: the output has gained what the run writes, its images hold the volumes of the last
-- state, the file that is named for the history has that of the last state, and the status says whether a process lives
-- then. An image is unchanged, byte for byte, if no event of the run asks for a change of the volume in its drive. The
-- terminals and the states of the drives are those of the last state.
pub record IsOneRun (files : HostFiles) (boot : RunWords) (before after : World) (status : ℕ) : Type 0 where
  pub setup : Setup
  pub sets : SetsUpBoot files boot (length before.devices.terms) setup
  pub s : State
  pub starts : StartsLoaded setup before s
  pub states : List State
  pub written : List ℕ
  pub t : State
  pub run : Run setup.slices s states written t
  pub output : after.out ≡ stream_with before.out written
  pub images : List (List ℕ)
  pub volumes : AreImagesOf t setup.images images
  pub unchanged : KeepsUnchanged setup s states images
  pub disks : IfObserved (WritesAll (output_names (outputs_of boot))
      (output_bytes (outputs_of boot) images t.files.records.history)) before.files after.files
  pub terminals : after.devices.terms ≡ t.terms
  pub drives : drive_states after.devices.drives ≡ t.files.drives
  pub lives : status ≡ status_of t

-- Memory was out: nothing was run, or a machine of this setup stopped within its run, or after it when an image was to
-- be written. The status reports it.
pub record BootWithoutMemory (files : HostFiles) (boot : RunWords) (before after : World) (status : ℕ) : Type 0 where
  pub told : status ≡ status_number NoMemory
  pub left : BootComesTo files boot before after NoMemory

-- a drive that held one of `images` images failed, and no other; nothing of a run can be seen, no file was written, and
-- the status reports it
pub record EndsAtMount (images : ℕ) (before after : World) (status : ℕ) : Type 0 where
  pub drive : ℕ
  pub number : ℕ
  pub failed : FailsToMount images drive number before after
  pub files : after.files ≡ before.files
  pub told : status ≡ status_number (DriveFailed drive number)

-- or memory was out, or a drive with an image failed and nothing of a run can be seen
abbrev pub BootIsOneRun : HostFiles → RunWords → World → World → ℕ → Type 0
BootIsOneRun files boot before after status =
    IsOneRun files boot before after status
    ⊎ (BootWithoutMemory files boot before after status ⊎ EndsAtMount (length boot.files) before after status)

-- the status is that of a machine that ran to its end
abbrev pub IsOfWholeRun : ℕ → Type 0
IsOfWholeRun status = (status ≡ status_number Ended) ⊎ (status ≡ status_number Living)

-- A boot that writes files of these names, its images and its history, has written each once and in their order if its
-- machine ran to the end. Else it has written the first of them, all, some or none, each once, and no file unless a
-- write failed or memory was out.
pub record WritesByStatus (names : List (List ℕ)) (status : ℕ) (noted notes : Notes) : Type 0 where
  pub whole : IsOfWholeRun status → notes.written ≡ noted.written ++ names
  pub none : ¬ IsOfWholeRun status → status ≢ status_number CannotWrite → status ≢ status_number NoMemory
      → notes.written ≡ noted.written
  pub first : (written : List (List ℕ)) × AreFirstNames written names × (notes.written ≡ noted.written ++ written)
