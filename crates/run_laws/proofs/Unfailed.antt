-- Where counts of faults stay and can rise, nothing has failed.
use Rattle.std.proofs.Common.{◌≡◌, ℕ, List, ap}
use Rattle.file_rules.specs.Files.{DriveState, KeepsDriveFaults as NoDriveChanged, drive_at}
use Rattle.machine_model.specs.State.{State}
use Rattle.run_laws.specs.Faults.{CanRise, NoneFailed}
use Rattle.run_laws.specs.Runs.{SameCounts}
use Rattle.run_laws.proofs.Terminals.{none-of, stays-none}

pub unfailed : (s t : State) → SameCounts s t → NoDriveChanged s.files.drives t.files.drives → CanRise s → NoneFailed s t
unfailed s t same drives rise = record {
  terminals = none-of s.terms t.terms same rise.terminals;
  drives =
      λ drive rose. stays-none _ (drive_at s.files.drives drive).faults (drive_at t.files.drives drive).faults
      (rise.drives drive) (ap (λ (drives : List DriveState). (drive_at drives drive).faults) drives) rose;
}
