-- Blocks that are a process's own.
use Rattle.std.specs.Prelude.{◌≡◌, ◌≢◌, ◌⊎◌, ℕ, ◌<◌, Some, length, slice_get}
use Rattle.proc_model.specs.Memory.{map_at}
use Rattle.proc_model.specs.Slots.{NamesBlock, block_at}
use Rattle.proc_model.specs.Records.{IsLiving}
use Rattle.proc_model.specs.Processes.{Processes}
use Rattle.call_laws.specs.Objects.{Appears, IsOfModule}
use Rattle.call_laws.specs.Others.{HasRecord}

-- the maps of processes and the groups of modules name objects that have appeared
pub record NameAppeared (m : Processes) : Type 0 where
  pub maps : (q object : ℕ) → HasRecord m q → NamesBlock (map_at m.memory q) object → object < length m.memory.objects
  pub groups : (object : ℕ) → IsOfModule m.memory object → object < length m.memory.objects

-- an object is a process's own: its map names it, no other process's map does, and no entered module's group has it
pub record IsOwn (m : Processes) (p object : ℕ) : Type 0 where
  pub appeared : object < length m.memory.objects
  pub named : NamesBlock (map_at m.memory p) object
  pub alone : (q : ℕ) → q ≢ p → HasRecord m q → NamesBlock (map_at m.memory q) object → ⊥
  pub in_no_module : IsOfModule m.memory object → ⊥

-- an object is a process's own, or an entered module's group has it
abbrev pub IsOwnOrShared : Processes → ℕ → ℕ → Type 0
IsOwnOrShared m p object = IsOwn m p object ⊎ IsOfModule m.memory object

-- an object is in the data area of a process: a slot of the low area of its map names it
abbrev pub IsOfArea : Processes → ℕ → ℕ → Type 0
IsOfArea m p object =
    (slot : ℕ) × (slot < (map_at m.memory p).low) × (block_at (map_at m.memory p) slot ≡ Some object)

-- an object appears in the map of a process from one state to the next
pub record AppearsIn (m : Processes) (p object : ℕ) (n : Processes) : Type 0 where
  pub has : HasRecord n p
  pub named : NamesBlock (map_at n.memory p) object
  pub appears : Appears m.memory n.memory object

-- a living process still lives, and the object is still its own, with the same bytes
pub record KeepsOwnObject (m : Processes) (p object : ℕ) (n : Processes) : Type 0 where
  pub lives : IsLiving n.records p
  pub own : IsOwn n p object
  pub bytes : slice_get n.memory.objects object ≡ slice_get m.memory.objects object
