-- So far the sectors before this one have been laid over.
use Rattle.std.proofs.Common.{◌/◌, min}
use Rattle.rbf_access.specs.Drive.{drive_counts}
use Rattle.rbf_access.specs.Mounted.{mounted_part}
use Rattle.rbf_write.proofs.Filling.{IsFillSoFar}
use Rattle.rbf_write.proofs.data.fill.Given as goal

abbrev pub invariant-loop-place : goal.invariant-loop-place
invariant-loop-place g l =
    IsFillSoFar l.file.segs.now l.file.size l.write.at l.write.bytes.now (min l.file.size l.write.at / 256) l.place (mounted_part l.fn.volume) (mounted_part l.volume)
    ((goal.BlockDriver-dyn g l.fn.d.now).media l.fn.d.now.1) ((goal.BlockDriver-dyn g l.d.now).media l.d.now.1) l.volume.cache
    (drive_counts (goal.BlockDriver-dyn g l.fn.d.now) l.fn.d.now.1) (drive_counts (goal.BlockDriver-dyn g l.d.now) l.d.now.1)
