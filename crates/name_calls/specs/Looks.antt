-- A part of a call that may reach a drive and changes no volume: its result, and what it leaves of the kernel's files.
use Rattle.std.specs.Prelude.{◌≡◌, ◌⊎◌, ℕ, Some, None, List, Result, Ok, Err}
use Rattle.os9_base.specs.declared.registers.TimePacket.{TimePacket}
use Rattle.proc_model.specs.Processes.{Processes}
use Rattle.proc_state.specs.Tie.{RepresentsProcesses}
use Rattle.rbf_model.specs.Volume.{DiskVolume}
use Rattle.file_rules.specs.Attempts.{asker_of}
use Rattle.file_rules.specs.Files.{Asker, Files, volume_at}
use Rattle.file_rules.specs.Step.{Step, refused, comes, reaches, drive_of}
use Rattle.file_drives.specs.Drives.{DriveView, drive_states}
use Rattle.file_state.specs.Attempt.{MachineOnDrives}
use Rattle.file_state.specs.Counted.{CalledAtMost, calls_of}
use Rattle.file_state.specs.Reached.{HasReadDrive}
use Rattle.file_state.specs.Tie.{RepresentsFiles}
use Rattle.file_state.specs.declared.state.FileState.{FileState}

-- the result of a step if no drive fails
abbrev pub answer_of : {A : Type 0} → Step A → Result A ℕ
answer_of (refused number) = Err number
answer_of (comes it) = Ok it
answer_of (reaches drive step) = answer_of step

-- no drive failed; the step has read the drive that it reached, or no drive
pub record LooksWell {A : Type 0} (step : Step A) (answer : Result A ℕ) (files : Files) (new : FileState)
    (before now : List DriveView) : Type 0 where
  pub is : answer ≡ answer_of step
  pub drive : ℕ
  pub reached : (drive_of step ≡ Some drive) ⊎ (now ≡ before)
  pub read : HasReadDrive None drive files new before now

-- the drive that the step reached has failed, and the result is the number of that fault
pub record LooksBroken {A : Type 0} (step : Step A) (answer : Result A ℕ) (files : Files) (new : FileState)
    (before now : List DriveView) : Type 0 where
  pub drive : ℕ
  pub reached : drive_of step ≡ Some drive
  pub volume : DiskVolume
  pub is : volume_at files drive ≡ Some volume
  pub number : ℕ
  pub read : HasReadDrive (Some number) drive files new before now
  pub answer_is : answer ≡ Err number

abbrev pub Looks : {A : Type 0} → Step A → Result A ℕ → Files → FileState → List DriveView → List DriveView → Type 0
Looks step answer files new before now =
    LooksWell step answer files new before now ⊎ LooksBroken step answer files new before now

-- ---- the result in the code's form

-- this fact holds of the two results, or both are refused with the same number
abbrev pub AnswersBy : {A R : Type 0} → (A → R → Type 0) → Result A ℕ → Result R ℕ → Type 0
AnswersBy fact (Ok it) (Ok found) = fact it found
AnswersBy fact (Err number) (Err other) = number ≡ other
AnswersBy fact (Ok it) (Err number) = ⊥
AnswersBy fact (Err number) (Ok found) = ⊥

-- the search has this result, and the drives were called at most `most` times if the step reaches one, else not at all
pub record SearchHasResult {A R : Type 0} (fact : A → R → Type 0) (step : Step A) (most : ℕ) (result : Result R ℕ)
    (files : Files) (new : FileState) (before now : List DriveView) : Type 0 where
  pub answer : Result A ℕ
  pub is : AnswersBy fact answer result
  pub looks : Looks step answer files new before now
  pub drives_are : files.drives ≡ drive_states before
  pub calls : CalledAtMost (calls_of step most) before now

-- a search by a process, at any time and with this number of terminals, has this result, from each state of the machine
-- that the kernel's state represents
abbrev pub LooksFrom : {A R : Type 0} → (Step A → Files → A → R → Type 0) → (Asker → Files → ℕ → Step A)
    → (Asker → Files → ℕ → ℕ) → ℕ → ℕ → Result R ℕ → MachineOnDrives → MachineOnDrives → Type 0
LooksFrom fact step most p terms result before after =
    (m : Processes) (was : Files) (now : TimePacket) → RepresentsProcesses before.processes m
    → RepresentsFiles before.files before.views was
    → SearchHasResult (fact (step (asker_of m p now) was terms) was) (step (asker_of m p now) was terms)
    (most (asker_of m p now) was terms) result was after.files before.views after.views

-- the search has found this, and these are the drives after it
pub record HasFoundInSearch {A R : Type 0} (fact : A → R
    → Type 0) (step : Step A) (most : ℕ) (found : R) (files : Files)
    (mid : FileState) (before views : List DriveView) : Type 0 where
  pub it : A
  pub is : fact it found
  pub answer : answer_of step ≡ Ok it
  pub drive : ℕ
  pub reached : (drive_of step ≡ Some drive) ⊎ (views ≡ before)
  pub read : HasReadDrive None drive files mid before views
  pub drives_are : files.drives ≡ drive_states before
  pub calls : CalledAtMost (calls_of step most) before views
