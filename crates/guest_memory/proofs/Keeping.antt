-- Memory is sound still after one map, or the module directory, has changed.
use Rattle.std.proofs.Common.{◌≡◌, ◌≢◌, ℕ, zero, suc, ◌+◌, ◌-◌, ◌<◌, ◌≤◌, Option, Some, None, ◌⊎◌, inl, inr, List, [], ◌∷◌, length, get_or, set, map, flat_map, All, refl, sym, ap, ◌∙◌, subst, arith}
use Rattle.std.proofs.lemmas.List.{length-set, get_or-set_same, get_or-set_other, get_or_default}
use Rattle.std.proofs.lemmas.List.Elements.{All-from_get_or}
use Rattle.std.proofs.lemmas.Option.{none-some, same_Some}
use Rattle.std.proofs.lemmas.Bool.{cases_eq}
use Rattle.block_pool.specs.Blocks.{Blocks, IsPool, IsLive, reference_count}
use Rattle.block_map.specs.TakenBlocks.{NamesLiveBlocks}
use Rattle.proc_model.specs.declared.group.BlockId.{BlockId}
use Rattle.proc_model.specs.ModuleList.{ModuleEntry, module_entry_at, entered_groups}
use Rattle.proc_model.specs.Slots.{Slots, IsMap, no_slots, block_at, HasGroupAt}
use Rattle.guest_memory.specs.References.{times, Has, mapped_blocks, references, AreReferenceCounts}
use Rattle.guest_memory.specs.Renaming.{numbered_map}
use Rattle.guest_memory.specs.Sound.{IsSoundMap, IsGrouped, AreGrouped, IsSoundMemory}
use Rattle.guest_memory.proofs.Times.{times-append, times-at, named_once, named_at_most_once, times-maps_set, times-one_map}
use Rattle.guest_memory.proofs.HeldGroups.{grouped_blocks, HasGroup, HasBlock, times-grouped, once_or_not}

-- 33 maps name a block at most 33 times
times-maps_most : (maps : List (Slots BlockId)) → All (λ slots. IsMap slots) maps → (block : ℕ) → times block (flat_map mapped_blocks maps) ≤ length maps
times-maps_most [] all block = omega arith
times-maps_most (first ∷ maps) all block =
    let here : IsMap first = all 0 first (omega arith) in
    omega (
      arith,
      times-append block (mapped_blocks first) (flat_map mapped_blocks maps),
      named_at_most_once first.places here.once block,
      times-maps_most maps (λ k d within. all (suc k) d (omega arith)) block,
    )

module _ (pool : Blocks) (maps : List (Slots BlockId)) (entries : List (Option ModuleEntry)) (sound : IsSoundMemory pool maps entries) where
  -- the map of a process
  abbrev pub map_of : ℕ → Slots BlockId
  map_of process = get_or maps process no_slots

  pub held_at : (process : ℕ) → process < 33 → IsSoundMap pool entries (map_of process)
  held_at process within = sound.held process no_slots (omega (arith, sound.processes))

  -- the count of a block is that of the maps that name it, and of the groups
  pub counted_parts : (block : ℕ) → reference_count pool block ≡ times block (flat_map mapped_blocks maps) + times block (grouped_blocks entries)
  counted_parts block = sound.counted block ∙ times-append block (flat_map mapped_blocks maps) (grouped_blocks entries)

  -- each block that a map names is live
  pub names_live : (process : ℕ) → NamesLiveBlocks (map_of process) pool
  names_live process slot id is =
      omega (arith, counted_parts id.0, times-one_map id.0 maps process, named_once (map_of process).places slot id is)

  -- each block of an entered group is
  pub grouped_live : (block : ℕ) → HasBlock entries block → IsLive pool block
  grouped_live block has = omega (arith, counted_parts block, times-grouped entries sound.groups block has)

  pub group_live : (number : ℕ) (entry : ModuleEntry) → module_entry_at entries number ≡ Some entry → (k : ℕ) → k < length entry.group → IsLive pool (get_or entry.group k 0)
  group_live number entry is k within =
      grouped_live (get_or entry.group k 0) (record { number = number; entry = entry; is = is; has = times-at entry.group k (get_or entry.group k 0) within refl })

  -- a block of an entered group that a map names is counted twice
  pub counted_twice : (process slot : ℕ) (id : BlockId) → block_at (map_of process) slot ≡ Some id → HasBlock entries id.0 → 2 ≤ reference_count pool id.0
  counted_twice process slot id is has =
      omega (
        arith,
        counted_parts id.0,
        times-one_map id.0 maps process,
        named_once (map_of process).places slot id is,
        times-grouped entries sound.groups id.0 has,
      )

  -- a block of a data area is in no entered group
  pub low_ungrouped : (process : ℕ) → process < 33 → (slot : ℕ) (id : BlockId) → slot < (map_of process).low → block_at (map_of process) slot ≡ Some id → HasBlock entries id.0 → ⊥
  low_ungrouped process within slot id low is has =
      absurd (omega (arith, (held_at process within).alone slot id low is, counted_twice process slot id is has))

  -- no block is counted more often than there are maps, and once more
  pub counted_most : (block : ℕ) → reference_count pool block ≤ 34
  counted_most block =
      omega (
        arith,
        counted_parts block,
        sound.processes,
        times-maps_most maps (λ k d within. (sound.held k d within).map) block,
        groups_most,
      )
    where
      groups_most : times block (grouped_blocks entries) ≤ 1
      groups_most = elim (once_or_not entries sound.groups block) [ inl one ↦ omega (arith, one.1) | inr none ↦ omega (arith, none.1) ]

  -- a map that stays owes nothing new where no block that is counted once is counted twice later
  module _ (later_maps : List (Slots BlockId)) (later : List (Option ModuleEntry)) (after : Blocks) (counted : AreReferenceCounts after later_maps later) where
    pub alone_still : (process : ℕ) → process < 33 → get_or later_maps process no_slots ≡ map_of process
        → ((block : ℕ) → reference_count pool block ≡ 1 → (HasBlock entries block → ⊥) → reference_count after block ≤ 1)
        → (slot : ℕ) (id : BlockId) → slot < (map_of process).low → block_at (map_of process) slot ≡ Some id → reference_count after id.0 ≡ 1
    alone_still process within stays others slot id low is =
        let was = (held_at process within).alone slot id low is in
        let some = named_once (get_or later_maps process no_slots).places slot id (ap (λ (slots : Slots BlockId). block_at slots slot) stays ∙ is) in
        omega (
          arith,
          others id.0 was (low_ungrouped process within slot id low is),
          counted id.0,
          times-append id.0 (flat_map mapped_blocks later_maps) (grouped_blocks later),
          times-one_map id.0 later_maps process,
          some,
        )

  -- ---- one map has changed

  module _ (after : Blocks) (process : ℕ) (within : process < 33) (new : Slots BlockId) where
    counted_set : ((block : ℕ) → reference_count after block + times block (mapped_blocks (map_of process)) ≡
        reference_count pool block + times block (mapped_blocks new)) → AreReferenceCounts after
        (set maps process new) entries
    counted_set changed block =
        omega (
          arith,
          changed block,
          counted_parts block,
          times-maps_set block maps process new (omega (arith, sound.processes)),
          times-append block (flat_map mapped_blocks (set maps process new)) (grouped_blocks entries),
        )

    pub IsSound-map : IsPool after
        → ((block : ℕ) → reference_count after block + times block (mapped_blocks (map_of process)) ≡ reference_count pool block + times block (mapped_blocks new))
        → ((block : ℕ) → reference_count pool block ≡ 1 → (HasBlock entries block → ⊥) → reference_count after block ≤ 1)
        → IsSoundMap after entries new → IsSoundMemory after (set maps process new) entries
    IsSound-map shape changed others held = record {
      shape = shape;
      processes = length-set maps process new ∙ sound.processes;
      numbers = sound.numbers;
      counted = counted_set changed;
      held = All-from_get_or (IsSoundMap after entries) (set maps process new) no_slots (λ other inside. by_process other
          (omega (arith, length-set maps process new, sound.processes)) (cases_eq other process));
      groups = sound.groups;
    }
      where
        by_process : (other : ℕ) → other < 33 → (other ≡ process) ⊎ (other ≢ process) → IsSoundMap after entries (get_or (set maps process new) other no_slots)
        by_process other inside (inl same) =
            subst (IsSoundMap after entries) (sym (ap (λ (k : ℕ). get_or (set maps process new) k no_slots) same ∙ get_or-set_same maps process new no_slots (omega (arith, sound.processes)))) held
        by_process other inside (inr apart) =
            let stays = get_or-set_other maps process other new no_slots apart in
            let was = held_at other inside in
            subst (IsSoundMap after entries) (sym stays) (record {
              map = was.map;
              full = was.full;
              alone = alone_still (set maps process new) entries after (counted_set changed) other inside stays others;
              grouped = was.grouped;
            })

  -- ---- the module directory has changed

  module _ (after : Blocks) (later : List (Option ModuleEntry)) where
    counted_later : ((block : ℕ) → reference_count after block + times block (grouped_blocks entries) ≡
        reference_count pool block + times block (grouped_blocks later)) → AreReferenceCounts after maps later
    counted_later changed block =
        omega (arith, changed block, counted_parts block, times-append block (flat_map mapped_blocks maps) (grouped_blocks later))

    pub IsSound-entries : IsPool after → length later ≡ 64 → AreGrouped later
        → ((block : ℕ) → reference_count after block + times block (grouped_blocks entries) ≡ reference_count pool block + times block (grouped_blocks later))
        → ((block : ℕ) → reference_count pool block ≡ 1 → (HasBlock entries block → ⊥) → reference_count after block ≤ 1)
        → ((number : ℕ) (entry : ModuleEntry) → module_entry_at later number ≡ Some entry
        → HasGroup entries entry.group ⊎ ((k : ℕ) → k < length entry.group → reference_count pool
        (get_or entry.group k 0) ≡ 0))
        → IsSoundMemory after maps later
    IsSound-entries shape places groups changed others kept = record {
      shape = shape;
      processes = sound.processes;
      numbers = places;
      counted = counted_later changed;
      held = All-from_get_or (IsSoundMap after later) maps no_slots (λ process inside. here process (omega (arith, sound.processes)));
      groups = groups;
    }
      where
        stands : (process : ℕ) → process < 33 → (number : ℕ) (entry : ModuleEntry) → module_entry_at later number ≡
            Some entry → HasGroup entries entry.group ⊎ ((k : ℕ) → k < length entry.group → reference_count pool
            (get_or entry.group k 0) ≡ 0) → (slot k : ℕ) (id : BlockId) → block_at (map_of process) slot ≡ Some id
            → k < length entry.group → id.0 ≡ get_or entry.group k 0 → (k ≤ slot) × HasGroupAt
            (numbered_map (map_of process)) entry.group (slot - k)
        stands process within number entry is (inr free) slot k id named inside same =
            absurd (omega (arith, free k inside, names_live process slot id named, ap (reference_count pool) same))
        stands process within number entry is (inl was) slot k id named inside same =
            let there = (held_at process within).grouped was.number was.entry was.is slot k id named
            (subst (λ (g : List ℕ). k < length g) was.group_is inside) (same ∙ ap (λ (g : List ℕ). get_or g k 0)
            was.group_is) in
            (there.0, subst (λ (g : List ℕ). HasGroupAt (numbered_map (map_of process)) g (slot - k)) (sym was.group_is) there.1)

        here : (process : ℕ) → process < 33 → IsSoundMap after later (map_of process)
        here process within =
            let was = held_at process within in
            record {
              map = was.map;
              full = was.full;
              alone = alone_still maps later after (counted_later changed) process within refl others;
              grouped = λ number entry is. stands process within number entry is (kept number entry is);
            }
