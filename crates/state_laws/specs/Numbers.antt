-- The numbers of objects in two states of the machine (Level Two manual, "Memory management"; objects and their numbers
-- are this project's own).
use Rattle.std.specs.Prelude.{◌≡◌, ℕ, true, option_map, List, map, slice_get}
use Rattle.proc_model.specs.Memory.{MemoryState, is_living_object}
use Rattle.proc_model.specs.Slots.{Slots}
use Rattle.proc_model.specs.Processes.{with_memory}
use Rattle.guest_memory.specs.Renaming.{renamed_modules}
use Rattle.machine_model.specs.State.{State}

-- an object lives: a map or an entered group names it
abbrev pub Lives : MemoryState → ℕ → Type 0
Lives m object = is_living_object m object ≡ true

-- a map with other numbers in its places
abbrev pub renumbered_map : (ℕ → ℕ) → Slots ℕ → Slots ℕ
renumbered_map new slots = record slots { places = map (option_map new) slots.places }

-- the memory with these objects, which are named by new numbers
abbrev pub renumbered : (ℕ → ℕ) → List (List ℕ) → MemoryState → MemoryState
renumbered new objects m =
    record m { objects = objects; maps = map (renumbered_map new) m.maps; modules = renamed_modules new m.modules }

-- The second memory is the first with other numbers of objects: the live objects of one are those of the other, one to
-- one and with the same bytes, and maps and groups name each by its new number. Objects that nothing names may differ.
pub record IsRenumbered (m n : MemoryState) : Type 0 where
  pub new : ℕ → ℕ  -- the number in the second memory of an object of the first one
  pub old : ℕ → ℕ  -- its number in the first one
  pub there : (object : ℕ) → Lives m object → Lives n (new object) × (old (new object) ≡ object)
  pub back : (object : ℕ) → Lives n object → Lives m (old object) × (new (old object) ≡ object)
  pub same_bytes : (object : ℕ) → Lives m object → slice_get n.objects (new object) ≡ slice_get m.objects object
  pub is : n ≡ renumbered new n.objects m

-- Two states differ only in the numbers of objects: their memories do, and all else is equal, including the volumes
-- that are mounted on the drives and the bytes that were put on terminals.
pub record DifferInNumbersAlone (s t : State) : Type 0 where
  pub memory : IsRenumbered s.processes.memory t.processes.memory
  pub rest : t ≡ record s { processes = with_memory s.processes t.processes.memory }
