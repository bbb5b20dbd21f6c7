-- The lines of the entries before this place.
use Rattle.rbf_access.specs.Drive.{drive_counts}
use Rattle.vol_tools.proofs.Lines.{AreListedTo}
use Rattle.vol_tools.proofs.listing.entry_lines.Given as goal

abbrev pub invariant-loop-place : goal.invariant-loop-place
invariant-loop-place g l =
    AreListedTo l.contents ((goal.BlockDriver-dyn g l.fn.d.now).media l.fn.d.now.1) l.place l.lines.items l.v ((goal.BlockDriver-dyn g l.d.now).media l.d.now.1)
    (drive_counts (goal.BlockDriver-dyn g l.fn.d.now) l.fn.d.now.1) (drive_counts (goal.BlockDriver-dyn g l.d.now) l.d.now.1)
