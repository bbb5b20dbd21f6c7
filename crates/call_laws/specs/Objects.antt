-- What an event of a process leaves unchanged of the objects (Level Two manual, "Memory management": each process sees
-- only the blocks of its own map).
use Rattle.std.specs.Prelude.{option_map, ◌≡◌, ◌⊎◌, ℕ, ◌<◌, ◌≤◌, Some, length, slice_get}
use Rattle.proc_model.specs.Memory.{MemoryState, map_at}
use Rattle.proc_model.specs.ModuleList.{ModuleEntry, module_entry_at}
use Rattle.proc_model.specs.Slots.{NamesBlock}

-- an object is of the group of an entered module
pub record IsOfModule (m : MemoryState) (object : ℕ) : Type 0 where
  pub number : ℕ
  pub entry : ModuleEntry
  pub is : module_entry_at m.modules number ≡ Some entry
  pub stands : (k : ℕ) × (slice_get entry.group k ≡ Some object)

-- an object appears from one state to the next
abbrev pub Appears : MemoryState → MemoryState → ℕ → Type 0
Appears m n object = (length m.objects ≤ object) × (object < length n.objects)

-- an object may get into a map: it appears now, or is in the group of an entered module
abbrev pub IsNewOrShared : MemoryState → MemoryState → ℕ → Type 0
IsNewOrShared m n object = Appears m n object ⊎ IsOfModule m object

-- every object that has appeared stays, with its size
abbrev pub KeepsSizes : MemoryState → MemoryState → Type 0
KeepsSizes m n =
    (object : ℕ) → object < length m.objects
    → option_map length (slice_get n.objects object) ≡ option_map length (slice_get m.objects object)

-- the objects that the map of a process does not name keep their bytes
abbrev pub KeepsObjects : MemoryState → ℕ → MemoryState → Type 0
KeepsObjects m p n =
    (object : ℕ) → object < length m.objects → (NamesBlock (map_at m p) object → ⊥)
    → slice_get n.objects object ≡ slice_get m.objects object

-- the map of a process names what it named, and otherwise only new or shared objects
abbrev pub KeepsToItself : MemoryState → ℕ → MemoryState → Type 0
KeepsToItself m p n =
    (object : ℕ) → NamesBlock (map_at n p) object → NamesBlock (map_at m p) object ⊎ IsNewOrShared m n object
