use Rattle.std.proofs.Common.{◌≡◌}
use Rattle.std.specs.Prelude.{filter}
use Rattle.std.specs.List.{range_with_len}
use Rattle.rbf_check.specs.VolumeNodes.{volume_from}
use Rattle.rbf_check.proofs.lost.lost_clusters.Given as goal

abbrev pub invariant-loop-c : goal.invariant-loop-c
invariant-loop-c l = l.lost.items ≡ filter (volume_from l.survey).lost (range_with_len 0 l.c)
