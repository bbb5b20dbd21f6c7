use Rattle.std.proofs.Common.{take}
use Rattle.rbf_model.specs.Segments.{sectors_of}
use Rattle.rbf_sector_rules.specs.Noted.{IsNoted}
use Rattle.rbf_sector_rules.proofs.uses.Uses.note_segments.Given as goal

abbrev pub invariant-loop-segment : goal.invariant-loop-segment
invariant-loop-segment l =
    IsNoted l.cluster l.owner (sectors_of (take l.segment-index l.segments)) l.fn.self l.self
