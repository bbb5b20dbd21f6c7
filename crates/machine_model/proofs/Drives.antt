-- The drives only gain: where none failed, where one failed, and over two steps.
use Rattle.std.proofs.Common.{◌≡◌, ◌⊎◌, ℕ, ◌≤◌, Option, List, refl, sym, ap, ◌∙◌, inl, inr, subst, arith}
use Rattle.std.proofs.lemmas.Bool.{cases_eq}
use Rattle.proc_model.specs.CallResult.{CallResult}
use Rattle.file_rules.specs.Files.{DriveState, Files, KeepsDriveFaults, OneFailed, drive_at}
use Rattle.file_laws.specs.Touch.{FaultAnswers, NoVolumeChanges, OneDriveFails, OneVolumeChanges}
use Rattle.machine_model.specs.Devices.{DrivesOnlyGain}

pub drives-same : (drives : List DriveState) → DrivesOnlyGain drives drives
drives-same drives = record { as_many = refl; faults = λ drive. omega arith }

pub drives-then : (a b c : List DriveState) → DrivesOnlyGain a b → DrivesOnlyGain b c → DrivesOnlyGain a c
drives-then a b c first next = record {
  as_many = next.as_many ∙ first.as_many;
  faults = λ drive. omega (arith, first.faults drive, next.faults drive);
}

-- ---- where none failed

pub none-gains : (before now : List DriveState) → KeepsDriveFaults before now → DrivesOnlyGain before now
none-gains before now none = subst (DrivesOnlyGain before) (sym none) (drives-same before)

-- ---- where one failed

pub one-gains : (drive number : ℕ) (before now : List DriveState) → OneFailed drive number before now → DrivesOnlyGain before now
one-gains drive number before now failed =
    record { as_many = failed.as_many; faults = λ other. by_drive other (cases_eq other drive) }
  where
    by_drive : (other : ℕ) → (other ≡ drive) ⊎ (other ≡ drive → ⊥) → (drive_at before other).faults ≤ (drive_at now other).faults
    by_drive other (inl same) =
        subst (λ (n : ℕ). (drive_at before n).faults ≤ (drive_at now n).faults) (sym same) failed.never_falls
    by_drive other (inr apart) =
        let still : (drive_at now other).faults ≡ (drive_at before other).faults = ap (λ (drive : DriveState). drive.faults) (failed.others other apart) in
        omega arith

-- ---- what calls leave

-- after a load, or the start of a program in a file
pub loads-gain : {reached : Option ℕ} (old : Files) (result : CallResult) (new : Files) → KeepsDriveFaults old.drives
    new.drives ⊎ FaultAnswers reached old result new → DrivesOnlyGain old.drives new.drives
loads-gain old result new (inl none) = none-gains old.drives new.drives none
loads-gain old result new (inr fault) = one-gains fault.drive fault.number old.drives new.drives fault.failed

-- after a call that touches no terminal and no pipe
pub volumes-gain : {reached : Option ℕ} (old : Files) (result : CallResult) (new : Files) → NoVolumeChanges old new ⊎
    OneVolumeChanges reached old new ⊎ OneDriveFails reached old result new → DrivesOnlyGain old.drives new.drives
volumes-gain old result new (inl stay) = none-gains old.drives new.drives stay.none_failed
volumes-gain old result new (inr (inl one)) = none-gains old.drives new.drives one.none_failed
volumes-gain old result new (inr (inr fails)) =
    one-gains fails.drive fails.number old.drives new.drives fails.failed
