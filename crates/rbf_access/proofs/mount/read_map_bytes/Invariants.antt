-- So far the sectors of the map below this one have been read.
use Rattle.std.proofs.Common.{◌-◌}
use Rattle.rbf_access.specs.Drive.{drive_counts}
use Rattle.rbf_access.proofs.Mounting.{IsMapRead}
use Rattle.rbf_access.proofs.mount.read_map_bytes.Given as goal

abbrev pub invariant-loop-lsn : goal.invariant-loop-lsn
invariant-loop-lsn g l =
    IsMapRead ((goal.BlockDriver-dyn g l.fn.d.now).media l.fn.d.now.1) (drive_counts (goal.BlockDriver-dyn g l.fn.d.now) l.fn.d.now.1) (l.lsn - 1) l.bytes.items
    ((goal.BlockDriver-dyn g l.d.now).media l.d.now.1) (drive_counts (goal.BlockDriver-dyn g l.d.now) l.d.now.1)
