-- Directories, and the tree of their entries. `dirs` gives the bytes of each directory by the number of its descriptor,
-- and no bytes for any other number.
use Rattle.std.specs.Prelude.{◌≡◌, ◌≢◌, ℕ, ◌+◌, ◌*◌, ◌≤◌, true, List, [], ◌∷◌, length, Some}
use Rattle.os9_base.specs.Name.{SameName}
use Rattle.rbf_model.specs.Fields.{directory_entry, is_used, entry_name_field, descriptor_field}
use Rattle.rbf_model.specs.Geometry.{Geometry, IsNumber}

-- the names `.`, of the directory itself, and `..`, of its parent ("Directories")
abbrev pub dot : List ℕ
dot = 46 ∷ []

abbrev pub dot_dot : List ℕ
dot_dot = 46 ∷ 46 ∷ []

-- the directory has an entry in this place, and it is used
pub record HasEntry (contents : List ℕ) (i : ℕ) : Type 0 where
  pub within : 32 * (i + 1) ≤ length contents
  pub used : is_used (directory_entry contents i) ≡ true

-- the directory names descriptor n in place i, after the first two
pub record EntryNames (contents : List ℕ) (i n : ℕ) : Type 0 where
  pub after : 2 ≤ i
  pub entry : HasEntry contents i
  pub descriptor : descriptor_field (directory_entry contents i) ≡ n

-- the reached files: the root, and each number of the volume that a reached directory names
pub data ReachedFile (g : Geometry) (dirs : ℕ → List ℕ) : ℕ → Type 0 where
  root : ReachedFile g dirs g.root
  named : {d i n : ℕ} → ReachedFile g dirs d → EntryNames (dirs d) i n → IsNumber g n → ReachedFile g dirs n

-- a reached directory names n
pub record Links (g : Geometry) (dirs : ℕ → List ℕ) (d i n : ℕ) : Type 0 where
  pub from : ReachedFile g dirs d
  pub names : EntryNames (dirs d) i n

-- the entry has this name and this descriptor
pub record IsEntry (entry name : List ℕ) (n : ℕ) : Type 0 where
  pub name_is : entry_name_field entry ≡ Some name
  pub descriptor : descriptor_field entry ≡ n

-- p is the parent of directory d: a reached directory that names it; the root is its own
pub data IsParent (g : Geometry) (dirs : ℕ → List ℕ) (d p : ℕ) : Type 0 where
  of_root : d ≡ g.root → p ≡ g.root → IsParent g dirs d p
  of_other : {i : ℕ} → d ≢ g.root → Links g dirs p i d → IsParent g dirs d p

-- the first two entries of a directory are the directory itself and its parent, in either order
pub data HasDots (g : Geometry) (dirs : ℕ → List ℕ) (d : ℕ) : Type 0 where
  self_first : {p : ℕ} → IsEntry (directory_entry (dirs d) 0) dot d → IsEntry (directory_entry (dirs d) 1) dot_dot p
      → IsParent g dirs d p
      → HasDots g dirs d
  parent_first : {p : ℕ} → IsEntry (directory_entry (dirs d) 0) dot_dot p → IsEntry (directory_entry (dirs d) 1) dot d
      → IsParent g dirs d p
      → HasDots g dirs d

-- a name that a file may have in a directory
pub record IsProper (name : List ℕ) : Type 0 where
  pub not_self : name ≢ dot
  pub not_parent : name ≢ dot_dot

-- every used entry after the first two has a name
abbrev pub HasEntryNames : List ℕ → Type 0
HasEntryNames contents =
    (i : ℕ) → 2 ≤ i → HasEntry contents i
    → (name : List ℕ) × (entry_name_field (directory_entry contents i) ≡ Some name) × IsProper name

-- and no two of them have the same name
abbrev pub HasDifferentNames : List ℕ → Type 0
HasDifferentNames contents =
    (i j : ℕ) (one other : List ℕ) → 2 ≤ i → 2 ≤ j → HasEntry contents i → HasEntry contents j
    → entry_name_field (directory_entry contents i) ≡ Some one
    → entry_name_field (directory_entry contents j) ≡ Some other → SameName one other → i ≡ j
