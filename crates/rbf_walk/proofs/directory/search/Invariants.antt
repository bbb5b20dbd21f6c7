-- So far the sectors before this one have been searched.
use Rattle.std.proofs.Common.{◌/◌}
use Rattle.os9_outer.specs.Drive.{sector_at}
use Rattle.rbf_model.specs.File.{segment_bytes}
use Rattle.rbf_access.specs.Drive.{drive_counts}
use Rattle.rbf_access.specs.Mounted.{mounted_part}
use Rattle.rbf_walk.proofs.Searching.{IsSearchedTo}
use Rattle.rbf_walk.proofs.directory.search.Given as goal

abbrev pub invariant-loop-place : goal.invariant-loop-place
invariant-loop-place g l =
    IsSearchedTo l.name (segment_bytes (sector_at ((goal.BlockDriver-dyn g l.fn.d.now).media l.fn.d.now.1)) l.dir.segs) (l.dir.size / 32) l.place l.free
    ((goal.BlockDriver-dyn g l.fn.d.now).media l.fn.d.now.1) ((goal.BlockDriver-dyn g l.d.now).media l.d.now.1) (mounted_part l.fn.v) (mounted_part l.v) l.v.cache
    (drive_counts (goal.BlockDriver-dyn g l.fn.d.now) l.fn.d.now.1) (drive_counts (goal.BlockDriver-dyn g l.d.now) l.d.now.1)
