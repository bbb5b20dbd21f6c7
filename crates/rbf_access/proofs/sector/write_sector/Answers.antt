use Rattle.std.proofs.Common.{◌≡◌, ◌+◌, ◌^◌, ◌≤◌, ◌-◌, min, Result, Ok, Err, Some, OnOk, OnErr, ap, arith}
use Rattle.std.specs.Prelude.{IfErr, option_map}
use Rattle.os9_base.specs.Count.{Rose}
use Rattle.os9_outer.specs.Drive.{drive_error}
use Rattle.os9_outer.specs.declared.drive.DriveFault.{DriveFault}
use Rattle.rbf_access.specs.Drive.{DriveCounts, MovesCounts}
use Rattle.rbf_access.specs.Faults.{drive_fault}
use Rattle.rbf_access.proofs.sector.write_sector.Goals as goal

moves : (r : Result (Unit {0}) DriveFault) (s t : DriveCounts) → OnErr r (Rose s.faults t.faults) → IfErr r (λ fault. t.last ≡ Some fault) → OnOk r (t.faults ≡ s.faults) → OnOk r (t.last ≡ s.last)
    → s.faults ≤ t.faults → t.calls ≡ min (s.calls + 1) (2 ^ 64 - 1) → MovesCounts (drive_fault r) 1 s t
moves (Ok a) s t rose last kept last_kept never calls =
    record { calls_made = omega arith; never_falls = never; rose = tt; number = tt; kept = kept; last_kept = last_kept }
moves (Err e) s t rose last kept last_kept never calls =
    record { calls_made = omega arith; never_falls = never; rose = rose; number = ap (option_map drive_error) last; kept = tt; last_kept = tt }

pub returns-clause-counts : goal.returns-clause-counts
returns-clause-counts g c =
    let e = c.write.ensures.1.1 in
    moves c.write.result _ _ e.0 e.1.0 e.1.1.0 e.1.1.1.0 e.1.1.1.1.0 e.1.1.1.1.1
