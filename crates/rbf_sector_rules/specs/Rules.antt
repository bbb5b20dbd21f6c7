-- The rules that a descriptor breaks by itself.
use Rattle.std.specs.Prelude.{◌≡◌, ◌⊎◌, ℕ, List, true, false}
use Rattle.std.specs.List.{list_all}
use Rattle.rbf_model.specs.Disk.{Disk}
use Rattle.rbf_model.specs.Fields.{size_field, segments_field, directory_entry, is_used, descriptor_field}
use Rattle.rbf_model.specs.Geometry.{Geometry, IsNumber, is_within}
use Rattle.rbf_model.specs.File.{file_at, is_directory, is_directory_size, has_room}
use Rattle.rbf_model.specs.Tree.{HasEntry}
use Rattle.rbf_model.specs.Search.{searchable_bytes}
use Rattle.rbf_sector_rules.specs.Positions.{entry_at_position}
use Rattle.rbf_sector_rules.specs.declared.descriptors.OwnRule.{OwnRule}
use Rattle.rbf_sector_rules.specs.declared.descriptors.OwnRule.TheVariants.{Room, Size}

-- a used entry does not name a descriptor of the volume
abbrev pub HasBadNumber : Geometry → List ℕ → Type 0
HasBadNumber g contents = (i : ℕ) × HasEntry contents i
    × (IsNumber g (descriptor_field (directory_entry contents i)) → ⊥)

-- position e has such an entry
pub record IsBadPosition (disk : Disk) (e : ℕ) : Type 0 where
  pub used : is_used (entry_at_position disk.sectors e) ≡ true
  pub number : IsNumber disk.geometry (descriptor_field (entry_at_position disk.sectors e)) → ⊥

-- the descriptor breaks rule 1: it has a segment that is not within the volume, or a used entry that does not name a
-- descriptor of the volume
abbrev pub BreaksNumbers : Disk → ℕ → Type 0
BreaksNumbers disk n = (list_all (is_within disk.geometry) (segments_field (disk.sectors n)) ≡ false)
    ⊎ HasBadNumber disk.geometry (searchable_bytes disk n)

-- the descriptor is this one, which breaks rule 1
abbrev pub BreaksNumbersAt : Disk → ℕ → ℕ → Type 0
BreaksNumbersAt disk n s = (s ≡ n) × BreaksNumbers disk n

-- the descriptor breaks the rule
abbrev pub BreaksOwn : OwnRule → Disk → ℕ → Type 0
BreaksOwn Room disk n = has_room (segments_field (disk.sectors n)) (size_field (disk.sectors n)) ≡ false
BreaksOwn Size disk n =
    ((n ≡ disk.geometry.root) × (is_directory (file_at disk.sectors n) ≡ false))
    ⊎ ((is_directory (file_at disk.sectors n) ≡ true) × (is_directory_size (size_field (disk.sectors n)) ≡ false))

-- the descriptor is this one, which breaks the rule
abbrev pub BreaksOwnAt : OwnRule → Disk → ℕ → ℕ → Type 0
BreaksOwnAt rule disk n s = (s ≡ n) × BreaksOwn rule disk n

-- the number of the rule
abbrev pub rule_number : OwnRule → ℕ
rule_number Room = 5
rule_number Size = 6
