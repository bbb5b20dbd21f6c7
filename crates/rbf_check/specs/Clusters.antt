-- Clusters that are in use.
use Rattle.std.specs.Prelude.{◌≡◌, ℕ, ◌+◌, ◌/◌, ◌==◌, ◌||◌, Bool, false, List, length, get_or, if◌then◌else◌}
use Rattle.std.specs.List.{list_any}
use Rattle.rbf_model.specs.Disk.{Disk}
use Rattle.rbf_model.specs.Geometry.{Geometry, map_sectors}
use Rattle.rbf_model.specs.File.{file_at}
use Rattle.rbf_model.specs.Space.{has_cluster}

-- the number of the system's sectors that belong to the file of a descriptor: all of them if it is the root
abbrev pub system_count : Geometry → ℕ → ℕ
system_count g n = if n == g.root then 1 + map_sectors g else 0

-- the clusters of these sectors, of k sectors each, have been noted
pub record NotesClusters (k : ℕ) (sectors : List ℕ) (old new : List Bool) : Type 0 where
  pub size : length new ≡ length old
  pub each : (c : ℕ) → get_or new c false ≡ (get_or old c false || list_any (λ s. s / k == c) sectors)

-- the table says for each cluster whether one of the files found has it
pub record AreUsed (disk : Disk) (found : List ℕ) (used : List Bool) : Type 0 where
  pub size : length used ≡ disk.geometry.total
  pub each : (c : ℕ)
      → get_or used c false ≡ list_any (λ n. has_cluster disk.geometry n (file_at disk.sectors n) c) found
