use Rattle.std.proofs.Common.{◌≡◌, take}
use Rattle.rbf_model.specs.Geometry.{sector}
use Rattle.rbf_model.specs.File.{segment_bytes}
use Rattle.rbf_check.proofs.contents.read_contents.Given as goal

abbrev pub invariant-loop-i : goal.invariant-loop-i
invariant-loop-i l = l.bytes.items ≡ take l.size (segment_bytes (sector l.image) (take l.i l.segs))
