-- The sectors that a reached file uses, for rules 3 and 4.
use Rattle.std.specs.Prelude.{◌≡◌, ℕ, ◌/◌, true, false, List}
use Rattle.rbf_model.specs.Disk.{Disk}
use Rattle.rbf_model.specs.Segments.{has}
use Rattle.rbf_model.specs.File.{file_at}
use Rattle.rbf_model.specs.Space.{is_marked, owned}

-- the sectors of the owner whose descriptor is in sector n
abbrev pub used_by : Disk → ℕ → List ℕ
used_by disk n = owned disk.geometry n (file_at disk.sectors n)

-- the map does not mark the cluster of the sector
abbrev pub IsUnmarked : Disk → ℕ → Type 0
IsUnmarked disk s = is_marked disk.sectors (s / disk.geometry.cluster) ≡ false

-- the same for a sector of the list
abbrev pub IsUnmarkedIn : Disk → List ℕ → ℕ → Type 0
IsUnmarkedIn disk sectors s = (has sectors s ≡ true) × IsUnmarked disk s
