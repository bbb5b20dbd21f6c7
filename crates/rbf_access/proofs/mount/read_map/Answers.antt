use Rattle.std.proofs.Common.{◌≡◌, ◌-◌, ◌/◌, ap, ◌∙◌, arith}
use Rattle.rbf_model.specs.Geometry.{map_sectors}
use Rattle.rbf_model.specs.ClusterMap.{ClusterMap}
use Rattle.rbf_sector.specs.Ident.{geometry_of}
use Rattle.rbf_access.specs.Mounted.{map_bytes}
use Rattle.rbf_access.proofs.Mounting.{sizes_of, bits_enough, cluster_count_is, map_agrees}
use Rattle.rbf_access.proofs.mount.read_map.Goals as goal

pub new-requires-clause-bits : goal.new-requires-clause-bits
new-requires-clause-bits g c =
    let sizes = sizes_of _ c.args.ident.now c.requires in
    let end : c.system_sectors.result - 1 ≡ map_sectors (geometry_of c.args.ident.now) = omega arith in
    bits_enough _ (geometry_of c.args.ident.now) c.div_ceil-clusters.result c.from-cluster.result _ sizes c.from-cluster.ensures c.div_ceil-clusters.ensures
    (c.in_ok-bytes.ensures.bytes ∙ ap (map_bytes _) end)

pub returns-clause-map : goal.returns-clause-map
returns-clause-map g c =
    let sizes = sizes_of _ c.args.ident.now c.requires in
    let end : c.system_sectors.result - 1 ≡ map_sectors (geometry_of c.args.ident.now) = omega arith in
    map_agrees _ c.args.ident.now c.new.result c.requires
    (ap (λ (m : ClusterMap). m.clusters) c.new.ensures ∙ cluster_count_is (geometry_of c.args.ident.now) _ _ sizes.cluster_some c.from-cluster.ensures c.div_ceil-clusters.ensures)
    (ap (λ (m : ClusterMap). m.whole) c.new.ensures ∙ ap (λ k. c.args.ident.now.total / k) c.from-cluster.ensures)
    (ap (λ (m : ClusterMap). m.bytes) c.new.ensures ∙ c.in_ok-bytes.ensures.bytes ∙ ap (map_bytes _) end)
