-- What it comes to for the whole memory that a group is mapped, or leaves a map.
use Rattle.std.proofs.Common.{◌≡◌, ◌≢◌, ℕ, ◌+◌, ◌<◌, ◌≤◌, ◌↔◌, Option, Some, None, IsSome, is_some, IfSome, option_map, option_and_then, Result, Ok, Err, IfOk, OnErr, List, length, get_or, set, position, All, AllPairs, sym, ap, ◌∙◌, subst, arith}
use Rattle.std.proofs.lemmas.List.{length-take-le, get_or-take, get_or-map, length-map}
use Rattle.std.proofs.lemmas.Option.{same_Some}
use Rattle.block_pool.specs.Blocks.{Blocks, IsPool, IsLive, reference_count}
use Rattle.block_map.specs.TakenBlocks.{NamesLiveBlocks, MayMap, GainsGroup, group_blocks, pool_after_giving}
use Rattle.block_map.specs.declared.map.MapFault.{MapFault}
use Rattle.block_map.specs.declared.map.MapFault.TheVariants.{NoSlot, NoBlock}
use Rattle.proc_model.specs.declared.group.BlockId.{BlockId}
use Rattle.proc_model.specs.declared.group.Group.{Group}
use Rattle.proc_model.specs.Group.{group_block_numbers}
use Rattle.proc_model.specs.Memory.{MemoryState, map_at, with_map, group_at}
use Rattle.proc_model.specs.MemoryChanges.{group_mapped, group_unmapped}
use Rattle.proc_model.specs.ModuleList.{ModuleEntry, module_entry_at}
use Rattle.proc_model.specs.Slots.{Slots, IsMap, IsFreeRun, IsHighestFreeRun, NamesBlock, no_slots, group_of, blocks_between, with_group, map_without_group, group_slot}
use Rattle.guest_memory.specs.Memory.{RepresentMemory}
use Rattle.guest_memory.specs.Renaming.{numbered_map}
use Rattle.guest_memory.specs.Sound.{IsSoundMemory}
use Rattle.guest_memory.proofs.Times.{numbers_of}
use Rattle.guest_memory.proofs.Keeping.{map_of}
use Rattle.guest_memory.proofs.Leaving.{group-live, group-different}
use Rattle.guest_memory.proofs.MappedGroups.{block_slot, block_slot-is, names_number, begins_at, group_slot-tied, group-unnamed, group-countable, IsSound-mapped, represent-mapped, group_mapped-some, group_mapped-none, IsSound-unmapped, represent-unmapped, represent-not_mapped}
use Rattle.guest_memory.proofs.LinkCalls.{found_entry}
use Rattle.guest_memory.proofs.MapCalls.{is_map_of, unchanged}

module _ (pool : Blocks) (maps : List (Slots BlockId)) (entries : List (Option ModuleEntry))
    (sound : IsSoundMemory pool maps entries) (process : ℕ) (within : process < 33) (number : ℕ)
    (some : IsSome (module_entry_at entries number)) where
  abbrev entry : ModuleEntry
  entry = (found_entry entries number some).entry

  abbrev is : module_entry_at entries number ≡ Some entry
  is = (found_entry entries number some).is

  abbrev slots : Slots BlockId
  slots = map_of pool maps entries sound process

  -- the slot of the group, by its entry
  abbrev slot_is : Option ℕ
  slot_is = option_and_then (λ entry. group_slot (numbered_map (get_or maps process no_slots)) entry.group) (module_entry_at entries number)

  pub slot_of_entry : option_and_then (λ entry. group_slot (numbered_map (get_or maps process no_slots)) entry.group) (module_entry_at entries number) ≡ block_slot slots entry.group
  slot_of_entry = ap (option_and_then (λ (entry : ModuleEntry). group_slot (numbered_map (get_or maps process no_slots)) entry.group)) is

  pub slot-tied : (m : MemoryState) → RepresentMemory pool maps entries m
      → option_and_then (λ entry. group_slot (numbered_map (get_or maps process no_slots)) entry.group)
      (module_entry_at entries number) ≡ group_slot (map_at m process) (group_at m number)
  slot-tied m tied = slot_of_entry ∙ sym (group_slot-tied pool maps entries sound process within number entry is m tied)

  module _ (group : Group) (seven : length group.blocks ≡ 7) (group_is : option_map (λ (entry : ModuleEntry). entry.group) (module_entry_at entries number) ≡ Some (group_block_numbers group)) where
    pub same : entry.group ≡ numbers_of (group_blocks group)
    same = same_Some entry.group (group_block_numbers group) (sym (ap (option_map (λ (entry : ModuleEntry). entry.group)) is) ∙ group_is)

    pub many : length (group_blocks group) ≡ group.len
    many = length-take-le group.len group.blocks (omega (arith, group.in_range))

    some_blocks : 1 ≤ length (group_blocks group)
    some_blocks = omega (arith, (sound.groups.each number entry is).some, ap (λ (g : List ℕ). length g) same, length-map (group_blocks group) (λ (id : BlockId). id.0))

    pub some-len : 1 ≤ group.len
    some-len = omega (arith, some_blocks, many)

    pub first-block : position (names_number (get_or group.blocks 0 (record { 0 = 0 })).0) slots.places ≡
        option_and_then (λ entry. group_slot (numbered_map (get_or maps process no_slots)) entry.group)
        (module_entry_at entries number)
    first-block =
        let none : BlockId = record { 0 = 0 } in
        let first : get_or entry.group 0 0 ≡ (get_or group.blocks 0 none).0 = ap (λ (g : List ℕ). get_or g 0 0) same ∙
        get_or-map (λ (id : BlockId). id.0) (group_blocks group) 0 none 0 (omega (arith, some_blocks)) ∙ ap
        (λ (id : BlockId). id.0) (get_or-take group.len group.blocks 0 none (omega (arith, some-len))) in
        ap (λ (n : ℕ). position (names_number n) slots.places) (sym first)
        ∙ sym (block_slot-is slots entry.group (sound.groups.each number entry is).some) ∙ sym slot_of_entry

    module _ (nowhere : option_and_then (λ entry. group_slot (numbered_map (get_or maps process no_slots))
        entry.group) (module_entry_at entries number) ≡ None) (old : Slots BlockId) (at : old ≡ get_or maps process
        old) where
      unmapped : block_slot slots entry.group ≡ None
      unmapped = sym slot_of_entry ∙ nowhere

      borrowed : old ≡ slots
      borrowed = is_map_of pool maps entries sound process within old at

      map-different : AllPairs (λ a b. a ≢ b) (group_blocks group)
      map-different = group-different pool maps entries sound number entry is (group_blocks group) same

      map-live : All (λ id. IsLive pool id.0) (group_blocks group)
      map-live = group-live pool maps entries sound number entry is (group_blocks group) same

      map-countable : All (λ id. reference_count pool id.0 < 65000) (group_blocks group)
      map-countable = group-countable pool maps entries sound process within number entry is (group_blocks group) same unmapped

      map-unnamed : All (λ id. NamesBlock old id → ⊥) (group_blocks group)
      map-unnamed = subst (λ (s : Slots BlockId). All (λ id. NamesBlock s id → ⊥) (group_blocks group)) (sym borrowed)
          (group-unnamed pool maps entries sound process within number entry is (group_blocks group) same unmapped)

      pub map-may : MayMap group old pool
      map-may = record { some = some-len; different = map-different; group_live = map-live; countable = map-countable; unnamed = map-unnamed }

      module _ (result : Result ℕ MapFault) (new : Slots BlockId) (after : Blocks) (no_slot : (result ≡ Err NoSlot) ↔
          ((first : ℕ) → IsFreeRun old first group.len → ⊥)) (no_other : result ≢ Err NoBlock)
          (refused : OnErr result ((new ≡ old) × (after ≡ pool)))
          (mapped : IfOk result (GainsGroup group old pool new after)) where
        run_of : (first : ℕ) → IsHighestFreeRun old group.len first → IsHighestFreeRun slots (length (group_blocks group)) first
        run_of first run = subst (λ (n : ℕ). IsHighestFreeRun slots n first) (sym many) (subst (λ (s : Slots BlockId). IsHighestFreeRun s group.len first) borrowed run)

        new_of : (first : ℕ) → new ≡ with_group old first (group_blocks group) → new ≡ with_group slots first (group_blocks group)
        new_of first is_new = is_new ∙ ap (λ (s : Slots BlockId). with_group s first (group_blocks group)) borrowed

        pub sound-map_group : NamesLiveBlocks new after → IsMap new → (IsPool pool → IsPool after) → IsSoundMemory after (set maps process new) entries
        sound-map_group live shape pool_is = by_result result refused mapped
          where
            by_result : (answer : Result ℕ MapFault) → OnErr answer ((new ≡ old) × (after ≡ pool))
                → IfOk answer (GainsGroup group old pool new after) → IsSoundMemory after (set maps process new)
                entries
            by_result (Ok first) refused mapped =
                let is_new = new_of first mapped.grouped in
                subst (λ (s : Slots BlockId). IsSoundMemory after (set maps process s) entries) (sym is_new)
                (IsSound-mapped pool maps entries sound process within number entry is (group_blocks group) same
                unmapped first (run_of first mapped.highest) after mapped.shared (pool_is sound.shape)
                (subst IsMap is_new shape) (subst (λ (s : Slots BlockId). NamesLiveBlocks s after) is_new live))
            by_result (Err fault) kept mapped =
                subst (λ (p : Blocks). IsSoundMemory p (set maps process new) entries) (sym kept.1)
                (subst (λ (all : List (Slots BlockId)). IsSoundMemory pool all entries) (sym (ap (set maps process) kept.0 ∙ unchanged pool maps entries sound process within old at)) sound)

        pub map-some : (first : ℕ) → result ≡ Ok first → (m : MemoryState) (tied : RepresentMemory pool maps entries m)
            → (group_mapped m process (group_at m number) ≡ Some
            (first, with_map m process (with_group (map_at m process) first (group_at m number)))) ×
            RepresentMemory after (set maps process new) entries
            (with_map m process (with_group (map_at m process) first (group_at m number)))
        map-some first is_ok m tied =
            let gains = subst (λ (r : Result ℕ MapFault). IfOk r (GainsGroup group old pool new after)) is_ok mapped in
            let run = run_of first gains.highest in
            let is_new = new_of first gains.grouped in (
              group_mapped-some pool maps entries sound process within number entry is (group_blocks group) same unmapped first run after gains.shared m tied,
              subst (λ (s : Slots BlockId). RepresentMemory after (set maps process s) entries (with_map m process (with_group (map_at m process) first (group_at m number)))) (sym is_new)
                  (represent-mapped pool maps entries sound process within number entry is (group_blocks group) same unmapped first run after gains.shared m tied),
            )

        pub map-none : (fault : MapFault) → result ≡ Err fault → (m : MemoryState) (tied : RepresentMemory pool maps
            entries m) → (group_mapped m process (group_at m number) ≡ None) × RepresentMemory after
            (set maps process new) entries m
        map-none NoBlock is_err m tied = absurd (no_other is_err)
        map-none NoSlot is_err m tied =
            let kept = subst (λ (r : Result ℕ MapFault). OnErr r ((new ≡ old) × (after ≡ pool))) is_err refused in (
              group_mapped-none pool maps entries sound process within number entry is (group_blocks group) same
                  unmapped (λ first run. no_slot.0 is_err first (subst (λ (n : ℕ). IsFreeRun old first n) many
                  (subst (λ (s : Slots BlockId). IsFreeRun s first (length (group_blocks group))) (sym borrowed)
                  run))) m tied,
              subst (λ (p : Blocks). RepresentMemory p (set maps process new) entries m) (sym kept.1)
                  (subst (λ (all : List (Slots BlockId)). RepresentMemory pool all entries m) (sym (ap (set maps process) kept.0 ∙ unchanged pool maps entries sound process within old at)) tied),
            )

  -- ---- the group leaves the map

  module _ (first : ℕ) (found : option_and_then (λ entry. group_slot (numbered_map (get_or maps process no_slots))
      entry.group) (module_entry_at entries number) ≡ Some first) (old : Slots BlockId)
      (at : old ≡ get_or maps process old) where
    found_slot : block_slot slots entry.group ≡ Some first
    found_slot = sym slot_of_entry ∙ found

    borrowed_is : old ≡ slots
    borrowed_is = is_map_of pool maps entries sound process within old at

    begins : group_of old first ≡ Some (length entry.group)
    begins = ap (λ (s : Slots BlockId). group_of s first) borrowed_is ∙ (begins_at pool maps entries sound process within number entry is first found_slot).length_is

    pub unmap-begins : IsSome (group_of old first)
    unmap-begins = ap is_some begins

    module _ (new : Slots BlockId) (after : Blocks) (cut : IfSome (group_of old first) (λ len. new ≡ map_without_group
        old first len)) (given : IfSome (group_of old first) (λ len. after ≡ pool_after_giving pool
        (blocks_between old first (first + len)))) where
      new_is : new ≡ map_without_group slots first (length entry.group)
      new_is = subst (λ (o : Option ℕ). IfSome o (λ len. new ≡ map_without_group old first len)) begins cut ∙ ap (λ (s : Slots BlockId). map_without_group s first (length entry.group)) borrowed_is

      given_is : after ≡ pool_after_giving pool (blocks_between slots first (first + length entry.group))
      given_is = subst (λ (o : Option ℕ). IfSome o (λ len. after ≡ pool_after_giving pool
          (blocks_between old first (first + len)))) begins given ∙ ap (λ (s : Slots BlockId). pool_after_giving pool
          (blocks_between s first (first + length entry.group))) borrowed_is

      pub sound-unmap : NamesLiveBlocks new after → IsMap new → (IsPool pool → IsPool after) → IsSoundMemory after (set maps process new) entries
      sound-unmap live shape pool_is =
          subst (λ (s : Slots BlockId). IsSoundMemory after (set maps process s) entries) (sym new_is)
          (IsSound-unmapped pool maps entries sound process within number entry is first found_slot after given_is
          (pool_is sound.shape) (subst IsMap new_is shape) (subst (λ (s : Slots BlockId). NamesLiveBlocks s after)
          new_is live))

      pub tied-unmap : (m : MemoryState) → RepresentMemory pool maps entries m → RepresentMemory after (set maps process new) entries (group_unmapped m process (group_at m number))
      tied-unmap m tied =
          subst (λ (s : Slots BlockId). RepresentMemory after (set maps process s) entries (group_unmapped m process (group_at m number))) (sym new_is)
          (represent-unmapped pool maps entries sound process within number entry is first found_slot after given_is m tied)

  pub tied-not_mapped : option_and_then (λ entry. group_slot (numbered_map (get_or maps process no_slots))
      entry.group) (module_entry_at entries number) ≡ None → (m : MemoryState) → RepresentMemory pool maps entries m
      → RepresentMemory pool maps entries (group_unmapped m process (group_at m number))
  tied-not_mapped nowhere m tied =
      subst (RepresentMemory pool maps entries) (sym (represent-not_mapped pool maps entries sound process within number entry is (sym slot_of_entry ∙ nowhere) m tied)) tied
