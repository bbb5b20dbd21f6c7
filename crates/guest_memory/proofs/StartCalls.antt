-- What it comes to for the whole memory that the map of a process is cleared and filled anew.
use Rattle.std.proofs.Common.{◌≡◌, ◌≢◌, ℕ, ◌+◌, ◌-◌, ◌<◌, ◌≤◌, ◌↔◌, ◌||◌, nat_lt, false, Option, Some, None, IsSome, option_map, option_and_then, Result, Ok, Err, IfOk, OnOk, OnErr, List, [], ◌++◌, length, get_or, set, replicate, ◌⊎◌, inl, inr, refl, sym, ap, ◌∙◌, subst, arith}
use Rattle.std.specs.List.{range_with_len}
use Rattle.std.specs.Option.{option_map_or}
use Rattle.std.proofs.lemmas.List.{length-map, length-set, set-set, get_or-set_same}
use Rattle.std.proofs.lemmas.Option.{same_Some}
use Rattle.std.proofs.lemmas.Bool.{cases_Bool, cond-true, cond-false, lt-ltb, le-ltb, le-leb, lt-leb, or_left, or_right, or_from}
use Rattle.block_pool.specs.Blocks.{Blocks, IsPool, reference_count, free_block_count}
use Rattle.block_map.specs.TakenBlocks.{MayMap, GainsGroup, NamesLiveBlocks, GainsLow, group_blocks, pool_after_giving}
use Rattle.block_map.proofs.Counts.{Takes-free}
use Rattle.block_map.proofs.Places.{at-put, at-cleared}
use Rattle.block_map.specs.declared.map.MapFault.{MapFault}
use Rattle.block_map.specs.declared.map.MapFault.TheVariants.{NoSlot, NoBlock}
use Rattle.proc_model.specs.declared.group.BlockId.{BlockId}
use Rattle.proc_model.specs.declared.group.Group.{Group}
use Rattle.proc_model.specs.declared.memory.MemoryFault.TheVariants.{MemFull, NoRam}
use Rattle.proc_model.specs.Group.{group_block_numbers}
use Rattle.proc_model.specs.Memory.{MemoryState, map_at, with_map, group_at, free_blocks}
use Rattle.proc_model.specs.MemoryChanges.{started, started_with, with_first_slots, has_most_links, cleared}
use Rattle.proc_model.specs.ModuleList.{ModuleEntry, module_entry_at}
use Rattle.proc_model.specs.Objects.{zero_object}
use Rattle.proc_model.specs.Slots.{Slots, IsMap, IsFreeRun, IsHighestFreeRun, no_slots, block_at, blocks_in, filled_places, with_low, with_group, group_slot}
use Rattle.guest_memory.specs.Memory.{RepresentMemory}
use Rattle.guest_memory.specs.Renaming.{numbered_map, renamed_map, renamed_entry}
use Rattle.guest_memory.specs.Sound.{IsSoundMemory}
use Rattle.guest_memory.proofs.Keeping.{map_of, group_live}
use Rattle.guest_memory.proofs.Naming.{map_at-memory_of, free_blocks-tied}
use Rattle.guest_memory.proofs.DataArea.{with_growth}
use Rattle.guest_memory.proofs.Directory.{entry_at-renamed}
use Rattle.guest_memory.proofs.MappedGroups.{block_slot-is, names_number, names_number-is, position-none}
use Rattle.guest_memory.proofs.Starting.{free-cleared, free_at_first, last_run}
use Rattle.guest_memory.proofs.LinkCalls.{found_entry}
use Rattle.guest_memory.proofs.MapCalls.{is_map_of, live, sound-clear, tied-clear, sound-grow, grow-ok}
use Rattle.guest_memory.proofs.GroupCalls.{many, same, some-len, map-may, sound-map_group, map-some}

module _ (pool : Blocks) (maps : List (Slots BlockId)) (entries : List (Option ModuleEntry))
    (sound : IsSoundMemory pool maps entries) (process : ℕ) (within : process < 33) (number : ℕ)
    (some : IsSome (module_entry_at entries number)) where
  abbrev entry : ModuleEntry
  entry = (found_entry entries number some).entry

  abbrev is : module_entry_at entries number ≡ Some entry
  is = (found_entry entries number some).is

  in_maps : process < length maps
  in_maps = omega (arith, sound.processes)

  -- ---- refusals

  module _ (m : MemoryState) (tied : RepresentMemory pool maps entries m) where
    entry_is : module_entry_at m.modules number ≡ Some (renamed_entry tied.number entry)
    entry_is = ap (λ (s : MemoryState). module_entry_at s.modules number) tied.is ∙ entry_at-renamed tied.number entries number ∙ ap (option_map (renamed_entry tied.number)) is

    started_is : (count : ℕ) → started m process number count ≡ started_with m process count (renamed_entry tied.number entry)
    started_is count = ap (λ (o : Option ModuleEntry). option_map_or (started_with m process count) o (Err MemFull)) entry_is

    group_length : length (renamed_entry tied.number entry).group ≡ length entry.group
    group_length = length-map entry.group tied.number

    low_is : (map_at m process).low ≡ (map_of pool maps entries sound process).low
    low_is = ap (λ (s : MemoryState). (map_at s process).low) tied.is ∙ ap (λ (s : Slots ℕ). s.low) (map_at-memory_of tied.number pool maps entries tied.objects process in_maps)

    free_is : free_blocks m ≡ free_block_count pool
    free_is = ap free_blocks tied.is ∙ free_blocks-tied pool maps entries sound tied.number tied.objects tied.represent

    pub started-full : (count : ℕ) → (65535 ≤ entry.links) ⊎ (8 < count + length entry.group) → started m process number count ≡ Err MemFull
    started-full count why =
        started_is count
        ∙ cond-true (has_most_links (renamed_entry tied.number entry) || nat_lt 8 (count + length (renamed_entry tied.number entry).group)) (Err MemFull) _
        (elim why [
          | inl links ↦ or_left (has_most_links entry) (nat_lt 8 (count + length (renamed_entry tied.number entry).group)) (le-leb 65535 entry.links links)
          | inr slots ↦ or_right (has_most_links entry)
              (nat_lt 8 (count + length (renamed_entry tied.number entry).group))
              (lt-ltb 8 (count + length (renamed_entry tied.number entry).group) (omega (arith, group_length)))
        ])

    pub fits_not : (count : ℕ) → entry.links < 65535 → count + length entry.group ≤ 8
        → (has_most_links (renamed_entry tied.number entry) || nat_lt 8
        (count + length (renamed_entry tied.number entry).group)) ≡ false
    fits_not count links slots =
        or_from (has_most_links entry) (nat_lt 8 (count + length (renamed_entry tied.number entry).group))
        (lt-leb 65535 entry.links links) (le-ltb 8 (count + length (renamed_entry tied.number entry).group)
        (omega (arith, group_length)))

    pub started-no_ram : (count : ℕ) → entry.links < 65535 → count + length entry.group ≤ 8 → free_block_count pool +
        (map_of pool maps entries sound process).low < count → started m process number count ≡ Err NoRam
    started-no_ram count links slots few =
        started_is count
        ∙ cond-false (has_most_links (renamed_entry tied.number entry) || nat_lt 8 (count + length (renamed_entry tied.number entry).group)) (Err MemFull) _ (fits_not count links slots)
        ∙ cond-true (nat_lt (free_blocks m + (map_at m process).low) count) (Err NoRam) _ (lt-ltb (free_blocks m + (map_at m process).low) count (omega (arith, free_is, low_is)))

    pub started-ok : (count : ℕ) → entry.links < 65535 → count + length entry.group ≤ 8 → count ≤ free_block_count
        pool + (map_of pool maps entries sound process).low → started m process number count ≡ Ok
        (with_first_slots m process (renamed_entry tied.number entry).group count)
    started-ok count links slots enough =
        started_is count
        ∙ cond-false (has_most_links (renamed_entry tied.number entry) || nat_lt 8 (count + length (renamed_entry tied.number entry).group)) (Err MemFull) _ (fits_not count links slots)
        ∙ cond-false (nat_lt (free_blocks m + (map_at m process).low) count) (Err NoRam) _ (le-ltb (free_blocks m + (map_at m process).low) count (omega (arith, free_is, low_is)))

  -- ---- the map is filled anew

  module _ (group : Group) (seven : length group.blocks ≡ 7)
      (group_is : option_map (λ (entry : ModuleEntry). entry.group) (module_entry_at entries number) ≡ Some
      (group_block_numbers group)) (count : ℕ) (fits : count + group.len ≤ 8) (enough : count ≤ free_block_count pool
      + (map_of pool maps entries sound process).low) (old : Slots BlockId) (at : old ≡ get_or maps process old)
      (one : Slots BlockId) (pool_one : Blocks) (empty : one ≡ no_slots) (given : pool_one ≡ pool_after_giving pool
      (blocks_in old.places)) (shape_one : IsMap one) (pool_is_one : IsPool pool → IsPool pool_one) where
    sound_one : IsSoundMemory pool_one (set maps process one) entries
    sound_one = sound-clear pool maps entries sound process within old at one pool_one empty given shape_one pool_is_one

    at_one : one ≡ get_or (set maps process one) process one
    at_one = sym (get_or-set_same maps process one one in_maps)

    enough_one : count ≤ free_block_count pool_one
    enough_one =
        omega (
          arith,
          free-cleared pool maps entries sound process within,
          ap free_block_count (given ∙ ap (λ (s : Slots BlockId). pool_after_giving pool (blocks_in s.places)) (is_map_of pool maps entries sound process within old at)),
        )

    pub live_one : NamesLiveBlocks one pool_one
    live_one = live pool_one (set maps process one) entries sound_one process within one at_one

    run_one : IsFreeRun one one.low count
    run_one = subst (λ (s : Slots BlockId). IsFreeRun s s.low count) (sym empty) (free_at_first count (omega arith))

    module _ (result_two : Result (Unit {0}) MapFault) (two : Slots BlockId) (pool_two : Blocks)
        (no_slot : (result_two ≡ Err NoSlot) ↔ (IsFreeRun one one.low count → ⊥))
        (no_block : (result_two ≡ Err NoBlock) ↔ (IsFreeRun one one.low count × (free_block_count pool_one < count)))
        (refused : OnErr result_two ((two ≡ one) × (pool_two ≡ pool_one)))
        (gains : OnOk result_two (GainsLow count one pool_one two pool_two)) (shape_two : IsMap two) where
      grown_ok : result_two ≡ Ok tt
      grown_ok = by_result result_two refl
        where
          by_result : (answer : Result (Unit {0}) MapFault) → result_two ≡ answer → answer ≡ Ok tt
          by_result (Ok tt) is_it = refl
          by_result (Err NoSlot) is_it = absurd (no_slot.0 is_it run_one)
          by_result (Err NoBlock) is_it = absurd (omega (arith, enough_one, (no_block.0 is_it).1))

      gained : GainsLow count one pool_one two pool_two
      gained = subst (λ (r : Result (Unit {0}) MapFault). OnOk r (GainsLow count one pool_one two pool_two)) grown_ok gains

      two_is : two ≡ with_low no_slots gained.blocks
      two_is = gained.low ∙ ap (λ (s : Slots BlockId). with_low s gained.blocks) empty

      sound_two : IsSoundMemory pool_two (set (set maps process one) process two) entries
      sound_two = sound-grow pool_one (set maps process one) entries sound_one process within one at_one count result_two two pool_two no_slot no_block refused gains shape_two

      at_two : two ≡ get_or (set (set maps process one) process two) process two
      at_two = sym (get_or-set_same (set maps process one) process two two (omega (arith, in_maps, length-set maps process one)))

      pub live_two : NamesLiveBlocks two pool_two
      live_two = live pool_two (set (set maps process one) process two) entries sound_two process within two at_two

      -- no slot names a block of the group
      not_in_area : (slot : ℕ) (id : BlockId) → block_at two slot ≡ Some id → id.0 ≡ get_or entry.group 0 0 → ⊥
      not_in_area slot id named it =
          let ids = gained.blocks in
          let live_first = group_live pool_one (set maps process one) entries sound_one number entry is 0 (omega (arith, (sound.groups.each number entry is).some)) in
          let named_low : block_at (with_low no_slots ids) slot ≡ Some id = ap (λ (s : Slots BlockId). block_at s slot) (sym two_is) ∙ named in
          elim (at-put (replicate 8 None) (filled_places ids) 0 slot (omega (arith, length-map ids (λ (id : BlockId). Some id), gained.all, fits))) [
            | inl a ↦ absurd (omega (arith, (Takes-free pool_one pool_two ids (slot - 0) id gained.taken (sym a.2 ∙ named_low)).1, ap (reference_count pool_one) it))
            | inr a ↦ at-cleared 8 slot id (sym a.1 ∙ named_low)
          ]

      pub nowhere : option_and_then (λ entry. group_slot (numbered_map (get_or (set (set maps process one) process two) process no_slots)) entry.group) (module_entry_at entries number) ≡ None
      nowhere =
          ap (option_and_then (λ (entry : ModuleEntry). group_slot (numbered_map (get_or (set (set maps process one) process two) process no_slots)) entry.group)) is
          ∙ ap (λ (s : Slots BlockId). group_slot (numbered_map s) entry.group) (get_or-set_same (set maps process one) process two no_slots (omega (arith, in_maps, length-set maps process one)))
          ∙ block_slot-is two entry.group (sound.groups.each number entry is).some
          ∙ position-none (names_number (get_or entry.group 0 0)) two.places None (λ slot inside.
          elim (cases_Bool (names_number (get_or entry.group 0 0) (get_or two.places slot None))) [
            | inl passed ↦ let found = names_number-is (get_or entry.group 0 0) (get_or two.places slot None) passed in absurd (not_in_area slot found.0 found.1 found.2)
            | inr failed ↦ failed
          ])

      pub start-may : MayMap group two pool_two
      start-may = map-may pool_two (set (set maps process one) process two) entries sound_two process within number some group seven group_is nowhere two at_two

      module _ (result : Result ℕ MapFault) (new : Slots BlockId) (after : Blocks) (no_run : (result ≡ Err NoSlot) ↔
          ((first : ℕ) → IsFreeRun two first group.len → ⊥)) (no_other : result ≢ Err NoBlock)
          (kept : OnErr result ((new ≡ two) × (after ≡ pool_two)))
          (mapped : IfOk result (GainsGroup group two pool_two new after)) where
        pub sound-start : NamesLiveBlocks new after → IsMap new → (IsPool pool_two → IsPool after) → IsSoundMemory after (set maps process new) entries
        sound-start live_new shape pool_is =
            subst (λ (all : List (Slots BlockId)). IsSoundMemory after all entries) (set-set (set maps process one) process two new ∙ set-set maps process one new)
            (sound-map_group pool_two (set (set maps process one) process two) entries sound_two process within number
            some group seven group_is nowhere two at_two result new after no_run no_other kept mapped live_new
            shape pool_is)

        len_some : 1 ≤ group.len
        len_some = some-len pool maps entries sound process within number some group seven group_is

        last : IsHighestFreeRun two group.len (8 - group.len)
        last = subst (λ (s : Slots BlockId). IsHighestFreeRun s group.len (8 - group.len)) (sym two_is)
            (last_run gained.blocks (omega (arith, gained.all)) group.len len_some (omega (arith, gained.all)))

        mapped_ok : result ≡ Ok (8 - group.len)
        mapped_ok = by_result result refl mapped
          where
            by_result : (answer : Result ℕ MapFault) → result ≡ answer → IfOk answer (GainsGroup group two pool_two new after) → answer ≡ Ok (8 - group.len)
            by_result (Ok first) is_it gains = ap Ok (omega (arith, gains.highest.1 (8 - group.len) last.0, last.1 first gains.highest.0))
            by_result (Err NoSlot) is_it gains = absurd (no_run.0 is_it (8 - group.len) last.0)
            by_result (Err NoBlock) is_it gains = absurd (no_other is_it)

        -- the data area has as many blocks as are wanted
        pub start-low : (get_or (set maps process new) process no_slots).low ≡ count
        start-low =
            let grouped_is : new ≡ with_group two (8 - group.len) (group_blocks group) =
            (subst (λ (answer : Result ℕ MapFault). IfOk answer (GainsGroup group two pool_two new after))
            mapped_ok mapped).grouped in
            let low_new : (get_or (set maps process new) process no_slots).low ≡ two.low = ap (λ (s : Slots BlockId). s.low) (get_or-set_same maps process new no_slots in_maps ∙ grouped_is) in
            let low_two : two.low ≡ 0 + length gained.blocks = ap (λ (s : Slots BlockId). s.low) two_is in
            omega (arith, low_new, low_two, gained.all)

        pub tied-start : (m : MemoryState) (tied : RepresentMemory pool maps entries m) → RepresentMemory after
            (set maps process new) entries (with_first_slots m process (renamed_entry tied.number entry).group count)
        tied-start m tied =
            let tied_one = tied-clear pool maps entries sound process within old at one pool_one empty given m tied in
            let m_one = cleared m process in
            let tied_two = (grow-ok pool_one (set maps process one) entries sound_one process within one at_one count
            result_two two pool_two no_slot no_block refused gains grown_ok m_one tied_one).1 in
            let m_two = with_growth pool_one (set maps process one) entries sound_one process within m_one count in
            let tied_three = (map-some pool_two (set (set maps process one) process two) entries sound_two process
            within number some group seven group_is nowhere two at_two result new after no_run no_other kept
            mapped (8 - group.len) mapped_ok m_two tied_two).1 in
            let m_maps : process < length m.maps = omega (arith, ap (λ (s : MemoryState). length s.maps) tied.is, length-map maps (renamed_map tied.number), in_maps) in
            let numbers : List ℕ = range_with_len (length m.objects) count in
            let low : Slots ℕ = with_low no_slots numbers in
            let group_m : List ℕ = (renamed_entry tied.number entry).group in
            let at_m_one : map_at m_one process ≡ no_slots = get_or-set_same m.maps process no_slots no_slots m_maps in
            let group_two : group_at m_two number ≡ group_m = ap (λ (o : Option ModuleEntry). option_map_or (λ e. e.group) o []) (entry_is m tied) in
            let maps_two : m_two.maps ≡ set m.maps process low = set-set m.maps process no_slots
            (with_low (map_at m_one process) numbers) ∙ ap (λ (s : Slots ℕ). set m.maps process
            (with_low s numbers)) at_m_one in
            let at_m_two : map_at m_two process ≡ low = ap (λ (all : List (Slots ℕ)). get_or all process no_slots) maps_two ∙ get_or-set_same m.maps process low no_slots m_maps in
            let len_is : group.len ≡ length group_m = sym (many pool maps entries sound process within number some
            group seven group_is) ∙ sym (length-map (group_blocks group) (λ (id : BlockId). id.0)) ∙ ap
            (λ (g : List ℕ). length g) (sym (same pool maps entries sound process within number some group seven
            group_is)) ∙ sym (length-map entry.group tied.number) in
            let maps_three : set m_two.maps process (with_group (map_at m_two process) (8 - group.len) (group_at m_two number)) ≡ set m.maps process (with_group low (8 - length group_m) group_m) =
            (λ i. set (maps_two i) process (with_group (at_m_two i) (8 - len_is i) (group_two i))) ∙ set-set m.maps process low (with_group low (8 - length group_m) group_m) in
            let state_is : with_map m_two process (with_group (map_at m_two process) (8 - group.len) (group_at m_two number)) ≡ with_first_slots m process group_m count =
            (λ i. record {
              blocks = m.blocks;
              objects = m.objects ++ replicate count zero_object;
              maps = maps_three i;
              modules = m.modules;
            }) in
            subst (RepresentMemory after (set maps process new) entries) state_is
            (subst (λ (all : List (Slots BlockId)). RepresentMemory after all entries
            (with_map m_two process (with_group (map_at m_two process) (8 - group.len) (group_at m_two number))))
            (set-set (set maps process one) process two new ∙ set-set maps process one new) tied_three)

-- the links of the entry that was found
pub links_of : (entries : List (Option ModuleEntry)) (number : ℕ) (some : IsSome (module_entry_at entries number))
    (links : ℕ) → option_map (λ (entry : ModuleEntry). entry.links) (module_entry_at entries number) ≡ Some links
    → (found_entry entries number some).entry.links ≡ links
links_of entries number some links is_links =
    let found = found_entry entries number some in
    same_Some found.entry.links links (sym (ap (option_map (λ (entry : ModuleEntry). entry.links)) found.is) ∙ is_links)
