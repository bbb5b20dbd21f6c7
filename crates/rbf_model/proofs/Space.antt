-- Sectors and clusters of an owner.
use Rattle.std.proofs.Common.{◌≡◌, ℕ, ◌/◌, ◌==◌, true, refl, eqb-true, eq-eqb}
use Rattle.rbf_model.specs.Geometry.{Geometry}
use Rattle.rbf_model.specs.File.{DiskFile}
use Rattle.rbf_model.specs.Space.{owned, owns, has_cluster}
use Rattle.rbf_model.proofs.Lists.{any_witness, any_from}

-- the cluster of a sector that is owned
pub cluster_from_owns : (g : Geometry) (n : ℕ) (file : DiskFile) (s : ℕ) → owns g n file s ≡ true → has_cluster g n file (s / g.cluster) ≡ true
unfolding owns has_cluster
cluster_from_owns g n file s h =
    any_from (λ t. t / g.cluster == s / g.cluster) (owned g n file) s h (eq-eqb (s / g.cluster) (s / g.cluster) refl)

-- a sector of a cluster that the owner has
pub owns_from_cluster : (g : Geometry) (n : ℕ) (file : DiskFile) (c : ℕ) → has_cluster g n file c ≡ true → (s : ℕ) × (owns g n file s ≡ true) × (s / g.cluster ≡ c)
unfolding owns has_cluster
owns_from_cluster g n file c h =
    let w = any_witness (λ t. t / g.cluster == c) (owned g n file) h in
    (w.0, w.1, eqb-true (w.0 / g.cluster) c w.2)
