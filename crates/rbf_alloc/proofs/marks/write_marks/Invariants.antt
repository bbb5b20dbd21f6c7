-- So far the marks of the places before this one have been written.
use Rattle.rbf_access.specs.Drive.{drive_counts}
use Rattle.rbf_access.specs.Mounted.{mounted_part}
use Rattle.rbf_alloc.proofs.Written.{IsMarkedSoFar}
use Rattle.rbf_alloc.proofs.marks.write_marks.Given as goal

abbrev pub invariant-loop-i : goal.invariant-loop-i
invariant-loop-i g l =
    IsMarkedSoFar l.fn.v.ident.cluster l.segs l.range.first l.i (mounted_part l.fn.v) (mounted_part l.v)
    ((goal.BlockDriver-dyn g l.fn.d.now).media l.fn.d.now.1) ((goal.BlockDriver-dyn g l.d.now).media l.d.now.1) l.fn.written l.written l.v.cache
    (drive_counts (goal.BlockDriver-dyn g l.fn.d.now) l.fn.d.now.1) (drive_counts (goal.BlockDriver-dyn g l.d.now) l.d.now.1)
