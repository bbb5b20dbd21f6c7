use Rattle.std.proofs.Common.{◌≡◌, ◌≤◌, ◌*◌, length, take}
use Rattle.rbf_model.specs.Segments.{sectors_of}
use Rattle.rbf_segs.proofs.segment_list.total.Given as goal

abbrev pub invariant-loop-count : goal.invariant-loop-count
invariant-loop-count l =
    (l.sectors ≡ length (sectors_of (take l.count-index l.runs))) × (l.sectors ≤ 65535 * l.count-index)
