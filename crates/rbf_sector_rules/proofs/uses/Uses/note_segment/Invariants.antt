use Rattle.std.proofs.Common.{◌-◌}
use Rattle.std.specs.List.{range_with_len}
use Rattle.rbf_sector_rules.specs.Noted.{IsNoted}
use Rattle.rbf_sector_rules.proofs.uses.Uses.note_segment.Given as goal

abbrev pub invariant-loop-s : goal.invariant-loop-s
invariant-loop-s l =
    IsNoted l.cluster l.owner (range_with_len l.fn.segment.0 (l.s - l.fn.segment.0)) l.fn.self l.self
