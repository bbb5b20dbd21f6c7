use Rattle.std.proofs.Common.{◌≡◌, ℕ, ◌<◌, true, map}
use Rattle.std.specs.List.{range_with_len}
use Rattle.rbf_model.specs.Fields.{segment_field, has_sectors}
use Rattle.rbf_sector.proofs.fd.read_segs.Given as goal

abbrev pub invariant-loop-i : goal.invariant-loop-i
invariant-loop-i l =
    (l.segs ≡ map (segment_field l.b) (range_with_len 0 l.i)) × ((k : ℕ) → k < l.i → has_sectors (segment_field l.b k) ≡ true)
