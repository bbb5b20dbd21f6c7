use Rattle.std.proofs.Common.{◌≡◌, ◌&&◌, not, length}
use Rattle.std.specs.Prelude.{filter}
use Rattle.std.specs.List.{range_with_len}
use Rattle.rbf_model.specs.Geometry.{sector}
use Rattle.rbf_model.specs.Space.{is_whole, is_marked}
use Rattle.rbf_sector.specs.Ident.{geometry_of}
use Rattle.rbf_check.specs.VolumeNodes.{volume_from}
use Rattle.rbf_check.proofs.space.count_clusters.Given as goal

abbrev pub invariant-loop-c : goal.invariant-loop-c
invariant-loop-c l =
    (l.space.free ≡ length (filter (λ c. is_whole (geometry_of l.survey.image.ident) c && not (is_marked (sector l.survey.image.bytes.now) c)) (range_with_len 0 l.c)))
    × (l.space.lost ≡ length (filter (volume_from l.survey).lost (range_with_len 0 l.c)))
