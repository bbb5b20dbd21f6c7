-- The first two entries of a directory, for rule 7.
use Rattle.std.specs.Prelude.{◌≡◌, ◌≢◌, ◌⊎◌, ℕ, true, false, Bool, List, length, get_or, Some}
use Rattle.rbf_model.specs.Disk.{Disk}
use Rattle.os9_base.specs.Name.{stored_name}
use Rattle.rbf_model.specs.Fields.{directory_entry}
use Rattle.rbf_model.specs.Geometry.{IsNumber}
use Rattle.rbf_model.specs.File.{file_at, is_directory}
use Rattle.rbf_model.specs.Tree.{dot, dot_dot, IsEntry, HasDots}
use Rattle.rbf_model.specs.Search.{searchable_bytes}
use Rattle.rbf_sector.specs.declared.entry.Entry.{Entry}
use Rattle.rbf_sector_rules.specs.declared.links.Link.{Link}

-- the entry has this name and this descriptor
abbrev pub NamesSo : Entry → List ℕ → ℕ → Type 0
NamesSo entry name n = (stored_name entry.name ≡ Some name) × (entry.lsn ≡ n)

-- the one entry is `.` of directory d, and the other `..` for p
abbrev pub AreDots : Entry → Entry → ℕ → ℕ → Type 0
AreDots own parent d p = NamesSo own dot d × NamesSo parent dot_dot p

-- the first two entries are these, in either order
abbrev pub BeginsWithDots : List ℕ → ℕ → ℕ → Type 0
BeginsWithDots contents d p =
    (IsEntry (directory_entry contents 0) dot d × IsEntry (directory_entry contents 1) dot_dot p)
    ⊎ (IsEntry (directory_entry contents 0) dot_dot p × IsEntry (directory_entry contents 1) dot d)

-- the descriptor that the link names is marked if it is not the root's and begins with dots for the directory of the
-- link
pub record MarksDots (contents : List ℕ) (root : ℕ) (link : Link) (old new : List Bool) : Type 0 where
  pub size : length new ≡ length old
  pub kept : (n : ℕ) → get_or old n false ≡ true → get_or new n false ≡ true
  pub only : (n : ℕ) → get_or new n false ≡ true
      → (get_or old n false ≡ true)
      ⊎ ((n ≡ link.descriptor) × (link.descriptor ≢ root) × BeginsWithDots contents link.descriptor link.directory)
  pub there : link.descriptor ≢ root → BeginsWithDots contents link.descriptor link.directory
      → get_or new link.descriptor false ≡ true

-- the directories that begin with themselves and their parents are marked
pub record AreDotted (disk : Disk) (dotted : List Bool) : Type 0 where
  pub size : length dotted ≡ disk.geometry.total
  pub only : (n : ℕ) → get_or dotted n false ≡ true → HasDots disk.geometry (searchable_bytes disk) n
  pub there : (n : ℕ) → IsNumber disk.geometry n → HasDots disk.geometry (searchable_bytes disk) n
      → get_or dotted n false ≡ true

-- the descriptor is that of a directory that does not begin with its dots
abbrev pub IsWithoutDots : Disk → ℕ → ℕ → Type 0
IsWithoutDots disk n s = (s ≡ n)
    × ((is_directory (file_at disk.sectors n) ≡ true) × (HasDots disk.geometry (searchable_bytes disk) n → ⊥))

-- for each number of the volume it is decided whether it begins with its dots
abbrev pub AreDotsDecided : Disk → Type 0
AreDotsDecided disk = (n : ℕ) → IsNumber disk.geometry n
    → HasDots disk.geometry (searchable_bytes disk) n ⊎ (HasDots disk.geometry (searchable_bytes disk) n → ⊥)
