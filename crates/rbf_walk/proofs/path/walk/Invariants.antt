-- So far the names before this one have been gone along.
use Rattle.rbf_access.specs.Drive.{drive_counts}
use Rattle.rbf_access.specs.Mounted.{mounted_part}
use Rattle.rbf_walk.proofs.Stepping.{IsWalkedTo}
use Rattle.rbf_walk.proofs.path.walk.Given as goal

abbrev pub invariant-loop-name : goal.invariant-loop-name
invariant-loop-name g l =
    IsWalkedTo ((goal.BlockDriver-dyn g l.fn.d.now).media l.fn.d.now.1) l.by.user l.by.execute l.from l.names l.at l.name-index
    ((goal.BlockDriver-dyn g l.d.now).media l.d.now.1) (mounted_part l.fn.v) (mounted_part l.v) l.v.cache
    (drive_counts (goal.BlockDriver-dyn g l.fn.d.now) l.fn.d.now.1) (drive_counts (goal.BlockDriver-dyn g l.d.now) l.d.now.1)
