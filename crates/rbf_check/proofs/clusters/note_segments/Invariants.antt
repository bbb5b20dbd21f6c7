use Rattle.std.proofs.Common.{take}
use Rattle.rbf_model.specs.Segments.{sectors_of}
use Rattle.rbf_check.specs.Clusters.{NotesClusters}
use Rattle.rbf_check.proofs.clusters.note_segments.Given as goal

abbrev pub invariant-loop-i : goal.invariant-loop-i
invariant-loop-i l = NotesClusters l.cluster (sectors_of (take l.i l.segs)) l.fn.used.items l.used.items
