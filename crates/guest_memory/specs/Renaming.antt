-- Maps and groups of blocks as maps and groups of the objects that the blocks represent.
use Rattle.std.specs.Prelude.{◌≡◌, ℕ, Option, Some, option_map, List, map, slice_get}
use Rattle.block_pool.specs.Blocks.{Blocks, IsLive, block_bytes}
use Rattle.proc_model.specs.declared.group.BlockId.{BlockId}
use Rattle.proc_model.specs.ModuleList.{ModuleEntry}
use Rattle.proc_model.specs.Slots.{Slots}

-- Live blocks represent objects by their numbers: each has the object's bytes, and different blocks represent
-- different objects.
pub record RepresentObjects (number : ℕ → ℕ) (pool : Blocks) (objects : List (List ℕ)) : Type 0 where
  pub same_bytes : (block : ℕ) → IsLive pool block → slice_get objects (number block) ≡ Some (block_bytes pool block)
  pub apart : (one other : ℕ) → IsLive pool one → IsLive pool other → number one ≡ number other → one ≡ other

-- a map of blocks as a map of the objects that they represent
abbrev pub renamed_map : (ℕ → ℕ) → Slots BlockId → Slots ℕ
renamed_map number slots =
    record {
      places =
          map (option_map (λ (id : BlockId). number id.0)) slots.places;
      low = slots.low;
      groups = slots.groups;
    }

-- an entry with a group of objects
abbrev pub renamed_entry : (ℕ → ℕ) → ModuleEntry → ModuleEntry
renamed_entry number entry = record entry { group = map number entry.group }

-- the module directory with groups of objects
abbrev pub renamed_modules : (ℕ → ℕ) → List (Option ModuleEntry) → List (Option ModuleEntry)
renamed_modules number entries = map (option_map (renamed_entry number)) entries

-- a map by the numbers of its blocks
abbrev pub numbered_map : Slots BlockId → Slots ℕ
numbered_map slots = renamed_map (λ block. block) slots
