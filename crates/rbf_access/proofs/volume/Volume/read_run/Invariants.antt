-- So far the sectors before this one have been read.
use Rattle.rbf_model.specs.File.{segment_bytes}
use Rattle.os9_outer.specs.Drive.{sector_at}
use Rattle.rbf_access.specs.Drive.{drive_counts}
use Rattle.rbf_access.specs.Mounted.{mounted_part}
use Rattle.rbf_access.specs.Reading.{run_list}
use Rattle.rbf_access.proofs.ReadPieces.{IsReadTo}
use Rattle.rbf_access.proofs.volume.Volume.read_run.Given as goal

abbrev pub invariant-loop-place : goal.invariant-loop-place
invariant-loop-place g l =
    IsReadTo (segment_bytes (sector_at ((goal.BlockDriver-dyn g l.fn.d.now).media l.fn.d.now.1)) (run_list l.run)) l.fn.into l.at l.place l.into
    ((goal.BlockDriver-dyn g l.fn.d.now).media l.fn.d.now.1) ((goal.BlockDriver-dyn g l.d.now).media l.d.now.1)
    (mounted_part l.fn.self) (mounted_part l.self) (run_list l.run) l.fn.self.cache l.self.cache
    (drive_counts (goal.BlockDriver-dyn g l.fn.d.now) l.fn.d.now.1) (drive_counts (goal.BlockDriver-dyn g l.d.now) l.d.now.1)
