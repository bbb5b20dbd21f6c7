-- The names of a directory, compared with the case of letters ignored, for rule 8.
use Rattle.std.specs.Prelude.{◌≡◌, ◌⊎◌, ℕ, ◌<◌, ◌≤◌, true, List, length, get_or, Some}
use Rattle.std.specs.Ordering.{nat_cmp}
use Rattle.std.specs.Cmp.Lexicographic.{slice_cmp}
use Rattle.std.specs.BTreeSet.{BTreeSet, contains}
use Rattle.rbf_model.specs.Disk.{Disk}
use Rattle.os9_base.specs.Name.{lower, SameName}
use Rattle.rbf_model.specs.Fields.{directory_entry, entry_name_field}
use Rattle.rbf_model.specs.Search.{searchable_bytes}
use Rattle.rbf_model.specs.Tree.{HasEntry, IsProper, HasEntryNames, HasDifferentNames}

-- the characters of the name, none of them zero, in lower case, with zeros after them
pub record IsNameKey (name key : List ℕ) : Type 0 where
  pub size : length key ≡ 29
  pub characters : (k : ℕ) → k < length name → 1 ≤ get_or name k 0
  pub same : (k : ℕ) → k < length name → get_or key k 0 ≡ lower (get_or name k 0)
  pub behind : (k : ℕ) → length name ≤ k → get_or key k 0 ≡ 0

-- the set has the key
abbrev pub HasKey : BTreeSet (List ℕ) → List ℕ → Type 0
HasKey keys key = contains (slice_cmp nat_cmp) keys key ≡ true

-- the key has been added to the set
pub record IsKeyAdded (old new : BTreeSet (List ℕ)) (key : List ℕ) : Type 0 where
  pub kept : (q : List ℕ) → HasKey old q → HasKey new q
  pub there : HasKey new key
  pub only : (q : List ℕ) → HasKey new q → HasKey old q ⊎ (q ≡ key)

-- the proper name of an entry, and its key, which is in the set
pub record IsNamedSo (contents : List ℕ) (keys : BTreeSet (List ℕ)) (k : ℕ) : Type 0 where
  pub name : List ℕ
  pub key : List ℕ
  pub is : entry_name_field (directory_entry contents k) ≡ Some name
  pub proper : IsProper name
  pub key_is : IsNameKey name key
  pub there : HasKey keys key

-- an entry before place i whose name has the key
pub record IsKeyOf (contents : List ℕ) (i : ℕ) (key : List ℕ) : Type 0 where
  pub place : ℕ
  pub name : List ℕ
  pub after : 2 ≤ place
  pub before : place < i
  pub entry : HasEntry contents place
  pub is : entry_name_field (directory_entry contents place) ≡ Some name
  pub key_is : IsNameKey name key

-- the entries of a directory before one place have proper names that differ, and the set has their keys
pub record AreNamed (contents : List ℕ) (keys : BTreeSet (List ℕ)) (i : ℕ) : Type 0 where
  pub named : (k : ℕ) → 2 ≤ k → k < i → HasEntry contents k → IsNamedSo contents keys k
  pub from : (q : List ℕ) → HasKey keys q → IsKeyOf contents i q
  pub apart : (j k : ℕ) (one other : List ℕ) → 2 ≤ j → 2 ≤ k → j < i → k < i → HasEntry contents j → HasEntry contents k
      → entry_name_field (directory_entry contents j) ≡ Some one
      → entry_name_field (directory_entry contents k) ≡ Some other → SameName one other → j ≡ k

-- an entry has no proper name, or two have the same name
abbrev pub IsBadlyNamed : List ℕ → Type 0
IsBadlyNamed contents = (HasEntryNames contents → ⊥) ⊎ (HasDifferentNames contents → ⊥)

-- the descriptor is that of a directory with such entries
abbrev pub IsBadlyNamedAt : Disk → ℕ → ℕ → Type 0
IsBadlyNamedAt disk n s = (s ≡ n) × IsBadlyNamed (searchable_bytes disk n)
