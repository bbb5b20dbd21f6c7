-- The links of the reached directories: their used entries after the first two, which name descriptors.
use Rattle.std.specs.Prelude.{◌≡◌, ◌⊎◌, ℕ, ◌<◌, List, Contains}
use Rattle.rbf_model.specs.Disk.{Disk}
use Rattle.rbf_model.specs.Fields.{directory_entry}
use Rattle.rbf_model.specs.Geometry.{Geometry, IsNumber}
use Rattle.rbf_model.specs.Tree.{EntryNames, Links}
use Rattle.rbf_model.specs.Search.{searchable_bytes}
use Rattle.rbf_sector_rules.specs.declared.links.Link.{Link}

-- the link is one of a reached directory of the disk
abbrev pub IsLinkOn : Disk → Link → Type 0
IsLinkOn disk link = Links disk.geometry (searchable_bytes disk) link.directory link.entry link.descriptor

-- the entry of the link
abbrev pub linked_entry : Disk → Link → List ℕ
linked_entry disk link = directory_entry (searchable_bytes disk link.directory) link.entry

-- the links of directory d before place i have been added to the list
pub record AreAdded (g : Geometry) (contents : List ℕ) (d : ℕ) (old new : List Link) (i : ℕ) : Type 0 where
  pub kept : (l : Link) → Contains old l → Contains new l
  pub only : (l : Link) → Contains new l
      → Contains old l ⊎ ((l.directory ≡ d) × EntryNames contents l.entry l.descriptor × IsNumber g l.descriptor)
  pub there : (j n : ℕ) → j < i → EntryNames contents j n → IsNumber g n
      → Contains new (record { directory = d; entry = j; descriptor = n })

-- the list has every link of the reached directories to a number of the volume, and nothing else
pub record AreLinks (disk : Disk) (links : List Link) : Type 0 where
  pub each : (l : Link) → Contains links l → IsLinkOn disk l × IsNumber disk.geometry l.descriptor
  pub all : (d i n : ℕ) → Links disk.geometry (searchable_bytes disk) d i n → IsNumber disk.geometry n
      → Contains links (record { directory = d; entry = i; descriptor = n })
