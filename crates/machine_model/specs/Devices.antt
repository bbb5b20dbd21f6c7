-- How the devices of a machine may change along a run.
use Rattle.std.specs.Prelude.{◌≡◌, ℕ, ◌≤◌, List, length}
use Rattle.file_rules.specs.Files.{DriveState, drive_at}
use Rattle.machine_model.specs.Terminals.{TerminalsOnlyGain}
use Rattle.machine_model.specs.State.{State}

-- the number of drives is the same, and no count of faults fell
pub record DrivesOnlyGain (before now : List DriveState) : Type 0 where
  pub as_many : length now ≡ length before
  pub faults : (drive : ℕ) → (drive_at before drive).faults ≤ (drive_at now drive).faults

pub record OnlyGain (s t : State) : Type 0 where
  pub terminals : TerminalsOnlyGain s.terms t.terms
  pub drives : DrivesOnlyGain s.files.drives t.files.drives
