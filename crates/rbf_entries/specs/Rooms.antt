-- The clusters that a new file and its entry need.
use Rattle.std.specs.Prelude.{◌≡◌, ℕ, ◌+◌, ◌*◌, ◌<◌, ◌≤◌, length, Result, Ok, Err}
use Rattle.rbf_model.specs.File.{DiskFile}
use Rattle.rbf_model.specs.Volume.{DiskVolume}
use Rattle.rbf_change.specs.Calls.{cluster_size, free_total}
use Rattle.rbf_change.specs.Growth.{clusters_needed}
use Rattle.rbf_access.specs.declared.faults.FileFault.{FileFault}
use Rattle.rbf_access.specs.declared.faults.FileFault.TheVariants.{Device, NoCluster, TooManyRuns}

-- the number of clusters that a directory still needs to have an entry in a place
abbrev pub place_clusters : DiskVolume → DiskFile → ℕ → ℕ
place_clusters v dir place = clusters_needed (cluster_size v) dir.segments (32 * (place + 1))

-- there is room for `clusters` clusters, and for those of the directory
pub record HasClusterRoom (v : DiskVolume) (dir : DiskFile) (place clusters : ℕ) : Type 0 where
  pub enough : clusters + place_clusters v dir place ≤ free_total v
  pub few : 0 < place_clusters v dir place → length dir.segments < 48

-- error 217: enough clusters are free, but the directory needs one and already has 48 segments
pub record HasNoSegment (v : DiskVolume) (dir : DiskFile) (place clusters : ℕ) : Type 0 where
  pub enough : clusters + place_clusters v dir place ≤ free_total v
  pub needs : 0 < place_clusters v dir place
  pub full : length dir.segments ≡ 48

-- each answer of the test with its cause
abbrev pub AnswersRoom : DiskVolume → DiskFile → ℕ → ℕ → Result (Unit {0}) FileFault → Type 0
AnswersRoom v dir place clusters (Ok done) = HasClusterRoom v dir place clusters
AnswersRoom v dir place clusters (Err (Device n)) = ⊥
AnswersRoom v dir place clusters (Err NoCluster) = free_total v < clusters + place_clusters v dir place
AnswersRoom v dir place clusters (Err TooManyRuns) = HasNoSegment v dir place clusters
