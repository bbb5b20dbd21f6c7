-- The descriptors that a search from the root finds.
use Rattle.std.specs.Prelude.{◌≡◌, ◌⊎◌, ℕ, ◌<◌, ◌≤◌, Bool, true, false, List, [], ◌∷◌, ◌++◌, length, get_or, count_by, if◌then◌else◌}
use Rattle.rbf_model.specs.Disk.{Disk}
use Rattle.rbf_model.specs.Fields.{is_used, descriptor_field}
use Rattle.rbf_model.specs.Geometry.{Geometry, IsNumber}
use Rattle.rbf_model.specs.Segments.{has, AreDistinct}
use Rattle.rbf_model.specs.Tree.{EntryNames}
use Rattle.rbf_sector_rules.specs.Positions.{PositionNames}

-- the marks say which numbers are in the list, and each number is in it once
pub record IsSearch (seen : List Bool) (found : List ℕ) : Type 0 where
  pub same : (n : ℕ) → n < length seen → get_or seen n false ≡ has found n
  pub numbers : (n : ℕ) → has found n ≡ true → n < length seen
  pub once : AreDistinct found
  pub counted : length found ≡ count_by (λ mark. mark) seen

-- the entry is free or does not name a number of the volume
abbrev pub NamesNoNumber : Geometry → List ℕ → Type 0
NamesNoNumber g entry = is_used entry ≡ true → ¬ IsNumber g (descriptor_field entry)

-- the entry is used and names number n of the volume
abbrev pub NamesNumber : Geometry → List ℕ → ℕ → Type 0
NamesNumber g entry n = (is_used entry ≡ true) × (descriptor_field entry ≡ n) × IsNumber g n

-- the entry in place i of a directory does not link to a number of the volume
abbrev pub LinksNowhere : Geometry → List ℕ → ℕ → Type 0
LinksNowhere g contents i = (n : ℕ) → EntryNames contents i n → ¬ IsNumber g n

-- the entry in place i of a directory links to number n of the volume
abbrev pub LinksTo : Geometry → List ℕ → ℕ → ℕ → Type 0
LinksTo g contents i n = EntryNames contents i n × IsNumber g n

-- the list followed by a number, unless the list already has it
abbrev pub added : List ℕ → ℕ → List ℕ
added found n = if has found n then found else found ++ n ∷ []

-- the list has been extended at its end
pub record Extends (old new : List ℕ) : Type 0 where
  pub more : List ℕ
  pub is : new ≡ old ++ more

-- the descriptors that the entries in the positions from `first` up to `end` name have been found, and nothing else
pub record AreFound (disk : Disk) (first end : ℕ) (old new : List ℕ) : Type 0 where
  pub extends : Extends old new
  pub named : (e n : ℕ) → first ≤ e → e < end → PositionNames disk.sectors e n → IsNumber disk.geometry n
      → has new n ≡ true
  pub only : (n : ℕ) → has new n ≡ true
      → (has old n ≡ true)
      ⊎ ((e : ℕ) × (first ≤ e) × (e < end) × PositionNames disk.sectors e n × IsNumber disk.geometry n)

-- the descriptors that a directory's entries name have been found, and nothing else
pub record IsVisited (g : Geometry) (contents old new : List ℕ) : Type 0 where
  pub extends : Extends old new
  pub named : (k n : ℕ) → EntryNames contents k n → IsNumber g n → has new n ≡ true
  pub only : (n : ℕ) → has new n ≡ true → (has old n ≡ true) ⊎ ((k : ℕ) × EntryNames contents k n × IsNumber g n)
