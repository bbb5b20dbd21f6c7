-- The search for the reached descriptors.
use Rattle.std.specs.Prelude.{◌≡◌, ℕ, ◌+◌, ◌*◌, true, length}
use Rattle.rbf_model.specs.Disk.{Disk}
use Rattle.rbf_model.specs.Geometry.{IsNumber}
use Rattle.rbf_model.specs.Segments.{has}
use Rattle.rbf_sector_rules.specs.declared.walk.Search.{Search}
use Rattle.rbf_sector_rules.specs.Found.{IsSearch}
use Rattle.rbf_sector_rules.specs.Positions.{PositionNames}
use Rattle.rbf_sector_rules.specs.Unread.{IsOrdered, IsPositionRead}

-- the marks are those of the found descriptors, and every descriptor that an entry in a read position names is found
pub record IsSearching (disk : Disk) (search : Search) : Type 0 where
  pub marks : IsSearch search.seen.items search.found.items
  pub size : length search.seen.items ≡ disk.geometry.total
  pub positions : length search.unread.next.items ≡ 8 * disk.geometry.total + 1
  pub ordered : IsOrdered search.unread
  pub read : (e n : ℕ) → IsPositionRead search.unread e → PositionNames disk.sectors e n → IsNumber disk.geometry n
      → has search.found.items n ≡ true
