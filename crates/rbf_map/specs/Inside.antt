-- The fields in which an `RbfMap` keeps its map.
use Rattle.std.specs.Prelude.{◌≡◌, ℕ, ◌+◌, ◌*◌, ◌<◌, ◌≤◌, length}
use Rattle.rbf_map.specs.declared.map.RbfMap.TheInside.{Inside}
use Rattle.rbf_model.specs.ClusterMap.{ClusterMap, mark, map_free_clusters}
use Rattle.rbf_map.specs.Runs.{is_clear, AreFree}

abbrev pub map_of : Inside → ClusterMap
map_of inside =
    record { clusters = inside.clusters; whole = inside.whole; bytes = inside.bytes.items }

-- the bytes have a bit for each cluster, the free ones are counted, no cluster before `first` is free, and no run is
-- longer than `longest`
pub record HoldsMap (inside : Inside) : Type 0 where
  pub whole_ones : inside.whole ≤ inside.clusters
  pub bits : inside.clusters ≤ 8 * length inside.bytes.items
  pub counted : inside.free ≡ length (map_free_clusters (map_of inside))
  pub first_whole : inside.first ≤ inside.whole
  pub used_before : (cluster : ℕ) → cluster < inside.first → mark inside.bytes.items cluster ≡ 1
  pub none_longer : (cluster : ℕ) → ¬ AreFree (is_clear (map_of inside)) cluster (inside.longest + 1)
