-- The map of a process: the eight slots of 8,192 bytes that it sees (Level Two manual, "Memory management"). A slot
-- holds a block of the pool or, in the machine, an object.
use Rattle.std.specs.Prelude.{◌≡◌, ℕ, zero, suc, ◌+◌, ◌-◌, ◌<◌, ◌≤◌, ◌==◌, ◌&&◌, nat_le, Bool, false, Option, Some, None, is_none, option_and_then, List, ◌++◌, length, take, drop, replicate, map, position, slice_get, slice_index, slice_index_or, slice_range, slice_set, if◌then◌else◌}
use Rattle.std.specs.List.{filter_map, list_all}

-- the eight places, the length of the low area, which begins at slot 0, and for each slot the length of the group that
-- begins there, if one does
pub record Slots (Block : Type 0) : Type 0 where
  pub places : List (Option Block)
  pub low : ℕ
  pub groups : List (Option ℕ)

-- a map that names nothing
abbrev pub no_slots : {Block : Type 0} → Slots Block
no_slots = record { places = replicate 8 None; low = 0; groups = replicate 8 None }

-- the content of a slot
abbrev pub block_at : {Block : Type 0} → Slots Block → ℕ → Option Block
block_at slots slot = slice_index_or slots.places slot None

-- the length of the group that begins at a slot
abbrev pub group_of : {Block : Type 0} → Slots Block → ℕ → Option ℕ
group_of slots slot = slice_index_or slots.groups slot None

-- the map names a block
abbrev pub NamesBlock : {Block : Type 0} → Slots Block → Block → Type 0
NamesBlock slots block = (slot : ℕ) × (block_at slots slot ≡ Some block)

-- what holds of every map: it has eight slots, and no two of them name the same block
pub record IsMap {Block : Type 0} (slots : Slots Block) : Type 0 where
  pub eight_places : length slots.places ≡ 8
  pub eight_groups : length slots.groups ≡ 8
  pub low_fits : slots.low ≤ 8
  pub group_fits : (slot len : ℕ) → group_of slots slot ≡ Some len → slot + len ≤ 8
  pub once : (slot other : ℕ) (block : Block) → block_at slots slot ≡ Some block → block_at slots other ≡ Some block
      → slot ≡ other

-- a run of slots that name nothing
abbrev pub IsFreeRun : {Block : Type 0} → Slots Block → ℕ → ℕ → Type 0
IsFreeRun slots first len =
    (first + len ≤ 8) × ((slot : ℕ) → first ≤ slot → slot < first + len → block_at slots slot ≡ None)

-- the highest run of slots of this length that name nothing
abbrev pub IsHighestFreeRun : {Block : Type 0} → Slots Block → ℕ → ℕ → Type 0
IsHighestFreeRun slots len first =
    IsFreeRun slots first len × ((higher : ℕ) → IsFreeRun slots higher len → higher ≤ first)

-- the test of a run of slots that name nothing
abbrev pub is_free_run : {Block : Type 0} → Slots Block → ℕ → ℕ → Bool
is_free_run slots first len = nat_le (first + len) 8 && list_all is_none (slice_range slots.places first (first + len))

-- the first slot of the highest run of this length that names nothing and begins at a slot or below it, if there is one
unfoldable pub highest_run_upto : {Block : Type 0} → Slots Block → ℕ → ℕ → Option ℕ
highest_run_upto slots len zero = if is_free_run slots 0 len then Some 0 else None
highest_run_upto slots len (suc first) = if is_free_run slots (suc first) len then Some (suc first)
    else highest_run_upto slots len first

-- the first slot of the highest run of this length that names nothing, if there is one
abbrev pub highest_free_run : {Block : Type 0} → Slots Block → ℕ → Option ℕ
highest_free_run slots len = highest_run_upto slots len 8

-- a group begins at a slot: its length is kept there, and its blocks are in the slots from there on
pub record HasGroupAt (slots : Slots ℕ) (group : List ℕ) (first : ℕ) : Type 0 where
  pub length_is : group_of slots first ≡ Some (length group)
  pub stands : (k : ℕ) → k < length group → block_at slots (first + k) ≡ Some (slice_index group k)

-- the place names this block
abbrev pub place_names : ℕ → Option ℕ → Bool
place_names block None = false
place_names block (Some other) = other == block

-- the slot at which a group begins in a map, if it does: the slot of its first block
abbrev pub group_slot : Slots ℕ → List ℕ → Option ℕ
group_slot slots group = option_and_then (λ first. position (place_names first) slots.places) (slice_get group 0)

-- the places with these from one slot on
abbrev pub put_places : {Block : Type 0} → List (Option Block) → ℕ → List (Option Block) → List (Option Block)
put_places places first new = take first places ++ (new ++ drop (first + length new) places)

-- the blocks that places name, in order
abbrev pub blocks_in : {Block : Type 0} → List (Option Block) → List Block
blocks_in places = filter_map (λ place. place) places

-- the blocks that the slots from one up to another name
abbrev pub blocks_between : {Block : Type 0} → Slots Block → ℕ → ℕ → List Block
blocks_between slots first end = blocks_in (slice_range slots.places first end)

-- places that name these blocks
abbrev pub filled_places : {Block : Type 0} → List Block → List (Option Block)
filled_places blocks = map (λ block. Some block) blocks

-- the map with these blocks in the slots that follow the low area, which then includes them
abbrev pub with_low : {Block : Type 0} → Slots Block → List Block → Slots Block
with_low slots blocks =
    record slots {
      places =
          put_places slots.places slots.low (filled_places blocks);
      low = slots.low + length blocks;
    }

-- the map with only this many of the first slots of its low area
abbrev pub cut_low_to : {Block : Type 0} → Slots Block → ℕ → Slots Block
cut_low_to slots len =
    record slots { places = put_places slots.places len (replicate (slots.low - len) None); low = len }

-- the map with a group of these blocks from one slot on
abbrev pub with_group : {Block : Type 0} → Slots Block → ℕ → List Block → Slots Block
with_group slots first blocks =
    record slots {
      places =
          put_places slots.places first (filled_places blocks);
      groups =
          slice_set slots.groups first (Some (length blocks));
    }

-- the map without the group of this length that begins at a slot
abbrev pub map_without_group : {Block : Type 0} → Slots Block → ℕ → ℕ → Slots Block
map_without_group slots first len =
    record slots {
      places =
          put_places slots.places first (replicate len None);
      groups = slice_set slots.groups first None;
    }
