-- The changes of the devices from one event to the next.
use Rattle.std.specs.Prelude.{◌≡◌}
use Rattle.std.specs.List.{AllZip}
use Rattle.os9_outer.specs.TerminalState.{TerminalState}
use Rattle.machine_model.specs.Console.{without_bytes}
use Rattle.machine_model.specs.Terminals.{TerminalsOnlyGain}
use Rattle.file_drives.specs.Drives.{drive_states}
use Rattle.machine_model.specs.Devices.{DrivesOnlyGain}
use Rattle.os9_kernel.specs.Outside.{Outside}
use Rattle.run_laws.specs.Faults.{NoDriveFailed, NotFailed}

-- the terminal has no bytes any more
abbrev pub IsEmptied : TerminalState → TerminalState → Type 0
IsEmptied old new = new ≡ without_bytes old

-- no count of faults rose, of a terminal or of a drive
pub record Unfailed (before after : Outside) : Type 0 where
  pub terminals : AllZip NotFailed before.terms after.terms
  pub drives : NoDriveFailed (drive_states before.drives) (drive_states after.drives)

-- the number of devices is the same, and no count of faults fell
pub record DevicesGain (before after : Outside) : Type 0 where
  pub terminals : TerminalsOnlyGain before.terms after.terms
  pub drives : DrivesOnlyGain (drive_states before.drives) (drive_states after.drives)
