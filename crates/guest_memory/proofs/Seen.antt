-- What a process sees in the blocks is what it sees in the machine.
use Rattle.std.proofs.Common.{◌≡◌, ℕ, ◌+◌, ◌<◌, ◌≤◌, ◌/◌, ◌%◌, nat_lt, Option, Some, None, IsSome, option_map, option_and_then, IfNone, IfSome, List, [], length, take, slice_get, get_or, sym, subst, refl, ap, ◌∙◌, arith}
use Rattle.std.specs.Option.{option_map_or}
use Rattle.std.proofs.lemmas.Bool.{cond-true, lt-ltb}
use Rattle.std.proofs.lemmas.List.{length-map, length-take-le}
use Rattle.std.proofs.lemmas.Option.{slice_get-get_or, none-some, same_Some}
use Rattle.block_map.specs.TakenBlocks.{NamesLiveBlocks}
use Rattle.block_map.specs.Window.{map_cells, live_byte, SameBeyond-self}
use Rattle.block_map.proofs.Windows.{length-block_bytes}
use Rattle.block_pool.specs.Blocks.{Blocks, IsLive, is_live, free_block_count, reference_count, block_bytes}
use Rattle.proc_model.specs.declared.group.BlockId.{BlockId}
use Rattle.proc_model.specs.declared.group.Group.{Group}
use Rattle.proc_model.specs.Group.{group_block_numbers}
use Rattle.proc_model.specs.Memory.{MemoryState, map_at, group_at, free_blocks}
use Rattle.proc_model.specs.ModuleList.{ModuleEntry, module_entry_at, found_module}
use Rattle.guest_memory.proofs.Objects.{NamesObjects}
use Rattle.proc_model.specs.Slots.{Slots, no_slots, block_at, IsFreeRun, IsHighestFreeRun, highest_free_run}
use Rattle.guest_memory.specs.Renaming.{renamed_map, renamed_entry}
use Rattle.guest_memory.proofs.Directory.{entry_at-renamed}
use Rattle.guest_memory.proofs.Keeping.{held_at, map_of, names_live}
use Rattle.guest_memory.proofs.Naming.{map_at-memory_of, free_blocks-tied}
use Rattle.guest_memory.proofs.Renamed.{found-renamed}
use Rattle.guest_memory.proofs.Runs.{highest_free_run-renamed, highest_free_run-is, highest_free_run-none}
use Rattle.guest_memory.proofs.Stores.{IsMap-renamed}
use Rattle.guest_memory.proofs.Writing.{cells-tied}
use Rattle.os9_base.specs.UserNames.{user_cell}
use Rattle.guest_memory.proofs.GroupCalls.{some-len}
use Rattle.guest_memory.proofs.MapCalls.{is_map_of, live}
use Rattle.guest_memory.specs.declared.memory.Memory.{Memory}
use Rattle.guest_memory.specs.Tie.{RepresentsMemory, cells_of, modules_of, group_len, seen_cells}

pub cells_of-seen : (memory : Memory) (process : ℕ) → process < 33 → (m : MemoryState) → RepresentsMemory memory m → cells_of memory process ≡ seen_cells m process
cells_of-seen memory process within m tied =
    sym (cells-tied memory.pool memory.pool memory.maps.items memory.dir memory.sound process within (SameBeyond-self (get_or memory.maps.items process no_slots) memory.pool) m tied)

-- the map that was borrowed shows what the process sees
pub borrowed-cells : (memory : Memory) (process : ℕ) → process < 33 → (old : Slots BlockId)
    → old ≡ get_or memory.maps.items process old → (slots : Slots BlockId) → slots ≡ old → (pool : Blocks)
    → pool ≡ memory.pool → map_cells slots pool ≡ cells_of memory process
borrowed-cells memory process within old at slots is pool same =
    let whole : slots ≡ get_or memory.maps.items process no_slots = is ∙ is_map_of memory.pool memory.maps.items memory.dir memory.sound process within old at in
    λ i. map_cells (whole i) (same i)

-- it names live blocks
pub seen-names : (memory : Memory) (process : ℕ) → process < 33 → (old : Slots BlockId)
    → old ≡ get_or memory.maps.items process old → NamesLiveBlocks old memory.pool
seen-names memory process within old at = live memory.pool memory.maps.items memory.dir memory.sound process within old at

module _ (memory : Memory) (process : ℕ) (within : process < 33) (old : Slots BlockId)
    (at : old ≡ get_or memory.maps.items process old) (address : ℕ) (id : BlockId)
    (place : block_at old (address / 8192) ≡ Some id) where
  -- the block of an address is live
  pub seen-live : IsLive memory.pool id.0
  seen-live = live memory.pool memory.maps.items memory.dir memory.sound process within old at (address / 8192) id place

  -- its byte is the one that the process sees
  pub seen-byte : address < 65536 → user_cell (cells_of memory process) address ≡ Some (get_or (block_bytes memory.pool id.0) (address % 8192) 0)
  seen-byte small =
      let bytes = block_bytes memory.pool id.0 in
      let long = length-block_bytes memory.pool id.0 memory.sound.shape seen-live in
      cond-true (nat_lt address 65536) (cells_of memory process address) None (lt-ltb address 65536 small)
      ∙ ap (λ (cells : ℕ → Option ℕ). cells address) (sym (borrowed-cells memory process within old at old refl memory.pool refl))
      ∙ ap (option_and_then (live_byte memory.pool (address % 8192))) place
      ∙ cond-true (is_live memory.pool id.0) (slice_get bytes (address % 8192)) None (lt-ltb 0 (reference_count memory.pool id.0) seen-live)
      ∙ slice_get-get_or bytes (address % 8192) 0 (omega arith)

-- ---- the maps and the module directory of the machine

module _ (memory : Memory) (m : MemoryState) (tied : RepresentsMemory memory m) where
  -- the map of a process is that of the machine, by the numbers of objects
  pub map-seen : (process : ℕ) → process < 33 → map_at m process ≡ renamed_map tied.number (get_or memory.maps.items process no_slots)
  map-seen process within =
      ap (λ (s : MemoryState). map_at s process) tied.is
      ∙ map_at-memory_of tied.number memory.pool memory.maps.items memory.dir tied.objects process (omega (arith, memory.sound.processes))

  -- and names objects that are there
  pub names-seen : (process : ℕ) → process < 33 → NamesObjects m.objects (map_at m process).places
  names-seen process within =
      subst (λ (s : MemoryState). NamesObjects s.objects (map_at s process).places) (sym tied.is)
      (subst (λ (s : Slots ℕ). NamesObjects tied.objects s.places)
      (sym (map_at-memory_of tied.number memory.pool memory.maps.items memory.dir tied.objects process
      (omega (arith, memory.sound.processes))))
      (IsMap-renamed tied.number (map_of memory.pool memory.maps.items memory.dir memory.sound process) memory.pool
      tied.objects tied.represent (names_live memory.pool memory.maps.items memory.dir memory.sound process)
      (held_at memory.pool memory.maps.items memory.dir memory.sound process within).map))

  -- an entry is that of the machine, by the numbers of objects
  pub entry-seen : (number : ℕ) → module_entry_at m.modules number ≡ option_map (renamed_entry tied.number) (module_entry_at (modules_of memory) number)
  entry-seen number = ap (λ (s : MemoryState). module_entry_at s.modules number) tied.is ∙ entry_at-renamed tied.number memory.dir number

  -- what is found is what the machine finds
  pub found-seen : (name : List ℕ) (kind : ℕ) → found_module m.modules name kind ≡ found_module (modules_of memory) name kind
  found-seen name kind = ap (λ (s : MemoryState). found_module s.modules name kind) tied.is ∙ found-renamed tied.number memory.dir name kind

  -- a group has as many objects as blocks
  pub group-seen : (number : ℕ) → length (group_at m number) ≡ option_map_or (λ (entry : ModuleEntry). length entry.group) (module_entry_at (modules_of memory) number) 0
  group-seen number =
      ap (λ (place : Option ModuleEntry). length (option_map_or (λ (entry : ModuleEntry). entry.group) place [])) (entry-seen number)
      ∙ by_place (module_entry_at (modules_of memory) number)
    where
      by_place : (place : Option ModuleEntry) → length (option_map_or (λ (entry : ModuleEntry). entry.group)
          (option_map (renamed_entry tied.number) place) []) ≡ option_map_or (λ (entry : ModuleEntry). length
          entry.group) place 0
      by_place None = refl
      by_place (Some entry) = length-map entry.group tied.number

-- the slot at which a run of free slots begins
module _ (memory : Memory) (process : ℕ) (within : process < 33) (old : Slots BlockId) (at : old ≡ get_or memory.maps.items process old) (len : ℕ) where
  run-seen : (m : MemoryState) → RepresentsMemory memory m → highest_free_run (map_at m process) len ≡ highest_free_run old len
  run-seen m tied =
      (λ i. highest_free_run (map-seen memory m tied process within i) len)
      ∙ highest_free_run-renamed tied.number (get_or memory.maps.items process no_slots) len
      ∙ (λ i. highest_free_run (sym (is_map_of memory.pool memory.maps.items memory.dir memory.sound process within old at) i) len)

  eight : length old.places ≡ 8
  eight =
      ap (λ (s : Slots BlockId). length s.places) (is_map_of memory.pool memory.maps.items memory.dir memory.sound process within old at)
      ∙ (held_at memory.pool memory.maps.items memory.dir memory.sound process within).map.eight_places

  found-run : (result : Option ℕ) → IfNone result ((first : ℕ) → IsFreeRun old first len → ⊥) → IfSome result (IsHighestFreeRun old len) → result ≡ highest_free_run old len
  found-run None none highest = sym (highest_free_run-none old eight len none)
  found-run (Some first) none highest = sym (highest_free_run-is old eight len first highest)

  pub run-found : (result : Option ℕ) → IfNone result ((first : ℕ) → IsFreeRun old first len → ⊥)
      → IfSome result (IsHighestFreeRun old len) → (m : MemoryState) → RepresentsMemory memory m → result ≡ highest_free_run
      (map_at m process) len
  run-found result none highest m tied = found-run result none highest ∙ sym (run-seen m tied)

  pub run-fits : (result : Option ℕ) → IfSome result (IsHighestFreeRun old len) → IfSome result (λ slot. slot + len ≤ 8)
  run-fits None highest = highest
  run-fits (Some first) highest = highest.0.0

-- the group of an entered module
module _ (memory : Memory) (process : ℕ) (within : process < 33) (number : ℕ)
    (some : IsSome (module_entry_at (modules_of memory) number)) (group : Group)
    (group_is : option_map (λ (entry : ModuleEntry). entry.group) (module_entry_at (modules_of memory) number) ≡ Some
    (group_block_numbers group)) (seven : length group.blocks ≡ 7) where
  pub free-len : 1 ≤ group.len
  free-len = some-len memory.pool memory.maps.items memory.dir memory.sound process within number some group seven group_is

  pub group-long : group_len memory number ≡ group.len
  group-long = by_place (module_entry_at (modules_of memory) number) group_is
    where
      by_place : (place : Option ModuleEntry) → option_map (λ (entry : ModuleEntry). entry.group) place ≡ Some
          (group_block_numbers group) → option_map_or (λ (entry : ModuleEntry). length entry.group) place 0 ≡
          group.len
      by_place None is = absurd (none-some (group_block_numbers group) is)
      by_place (Some entry) is = ap (λ (g : List ℕ). length g) (same_Some entry.group (group_block_numbers group) is)
          ∙ length-map (take group.len group.blocks) (λ (id : BlockId). id.0) ∙ length-take-le group.len group.blocks
          (omega (arith, group.in_range))

  pub group-as-long : (m : MemoryState) → RepresentsMemory memory m → length (group_at m number) ≡ group.len
  group-as-long m tied = group-seen memory m tied number ∙ group-long

-- as many blocks of the machine are free as of the kernel's
pub free-seen : (memory : Memory) (m : MemoryState) → RepresentsMemory memory m → free_block_count memory.pool ≡ free_blocks m
free-seen memory m tied = sym (ap free_blocks tied.is ∙ free_blocks-tied memory.pool memory.maps.items memory.dir memory.sound tied.number tied.objects tied.represent)
