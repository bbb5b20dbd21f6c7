use Rattle.std.proofs.Common.{◌-◌}
use Rattle.std.specs.List.{range_with_len}
use Rattle.rbf_check.specs.Clusters.{NotesClusters}
use Rattle.rbf_check.proofs.clusters.note_sectors.Given as goal

abbrev pub invariant-loop-s : goal.invariant-loop-s
invariant-loop-s l = NotesClusters l.cluster (range_with_len l.first (l.s - l.first)) l.fn.used.items l.used.items
