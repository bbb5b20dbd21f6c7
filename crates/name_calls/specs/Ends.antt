-- How attempts go on after reads of a drive, and how attempts that change no volume end.
use Rattle.std.specs.Prelude.{◌≡◌, ℕ, Option, List}
use Rattle.os9_base.specs.declared.call.CallEnd.{CallEnd}
use Rattle.proc_model.specs.Processes.{Processes}
use Rattle.io_model.specs.Attempts.{result_of}
use Rattle.proc_state.specs.Tie.{ReturnsCallEnd}
use Rattle.proc_state.specs.declared.state.ProcState.{ProcState}
use Rattle.file_rules.specs.Attempts.{files_kept, io_effect}
use Rattle.file_rules.specs.Files.{Files}
use Rattle.file_rules.specs.Step.{FileEffect, FileStep, deed_of, leaves_so}
use Rattle.file_drives.specs.Drives.{DriveView, drive_states}
use Rattle.file_state.specs.Counted.{CalledAtMost}
use Rattle.file_state.specs.Reached.{HasReadDrive}
use Rattle.file_state.specs.Tie.{RepresentsFiles}
use Rattle.file_state.specs.declared.state.FileState.{FileState}

-- since these files the drive was read, at most `most` times
pub record HasReadIn (most : ℕ) (fault : Option ℕ) (drive : ℕ) (files : Files) (new : FileState)
    (before now : List DriveView) : Type 0 where
  pub first : files.drives ≡ drive_states before
  pub read : HasReadDrive fault drive files new before now
  pub calls : CalledAtMost most before now

-- the attempt of a process that is this step from here on has this end, and leaves these processes and files; it
-- changes no volume, and calls no drive from here on
pub record EndsQuietly (step : FileStep) (m : Processes) (files : Files) (p : ℕ) (end : CallEnd) (processes : ProcState)
    (new : FileState) (views : List DriveView) : Type 0 where
  pub effect : FileEffect
  pub is : deed_of step files ≡ leaves_so effect
  pub comes : ReturnsCallEnd m p (result_of m p (io_effect effect)) end processes
  pub stands : RepresentsFiles new views (files_kept p effect)
