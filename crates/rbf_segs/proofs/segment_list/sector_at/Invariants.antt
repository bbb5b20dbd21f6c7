use Rattle.std.proofs.Common.{◌≡◌, drop, slice_get}
use Rattle.rbf_model.specs.Segments.{sectors_of}
use Rattle.rbf_segs.proofs.segment_list.sector_at.Given as goal

abbrev pub invariant-loop-lsn : goal.invariant-loop-lsn
invariant-loop-lsn l =
    slice_get (sectors_of (drop l.lsn-index l.runs)) l.left ≡ slice_get (sectors_of l.runs) l.place
