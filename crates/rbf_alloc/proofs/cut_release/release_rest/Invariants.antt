-- So far the sectors of the map before this one have been written, without the marks.
use Rattle.rbf_access.specs.Cached.{IsCacheOf}
use Rattle.rbf_access.specs.Drive.{drive_counts}
use Rattle.rbf_access.specs.Mounted.{mounted_part}
use Rattle.rbf_alloc.specs.Rest.{in_rest}
use Rattle.rbf_alloc.proofs.Released.{IsReleaseSoFar}
use Rattle.rbf_alloc.proofs.cut_release.release_rest.Given as goal

abbrev pub invariant-loop-place : goal.invariant-loop-place
invariant-loop-place g l =
    (IsReleaseSoFar (in_rest l.fn.volume.ident.cluster l.cut) l.place (mounted_part l.fn.volume) (mounted_part l.volume)
    ((goal.BlockDriver-dyn g l.fn.d.now).media l.fn.d.now.1) ((goal.BlockDriver-dyn g l.d.now).media l.d.now.1)
    (drive_counts (goal.BlockDriver-dyn g l.fn.d.now) l.fn.d.now.1) (drive_counts (goal.BlockDriver-dyn g l.d.now) l.d.now.1))
    × IsCacheOf ((goal.BlockDriver-dyn g l.d.now).media l.d.now.1) l.volume.cache
