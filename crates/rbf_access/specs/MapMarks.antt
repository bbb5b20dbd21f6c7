-- The sectors of the map that have the marks of clusters.
use Rattle.std.specs.Prelude.{ℕ, ◌/◌, ◌==◌, ◌&&◌, Bool, count_by}
use Rattle.std.specs.List.{range_with_len, list_any}
use Rattle.rbf_model.specs.Geometry.{Geometry, map_sectors}
use Rattle.rbf_model.specs.Space.{cluster_count}

-- the map's sector in this place has the mark of one of these clusters; each sector has the marks of 2,048 clusters
abbrev pub has_mark_of : Geometry → (ℕ → Bool) → ℕ → Bool
has_mark_of g clusters place = list_any (λ c. clusters c && (c / 2048 == place)) (range_with_len 0 (cluster_count g))

-- the number of the map's sectors that have such a mark
abbrev pub marking_sectors : Geometry → (ℕ → Bool) → ℕ
marking_sectors g clusters = count_by (has_mark_of g clusters) (range_with_len 0 (map_sectors g))
