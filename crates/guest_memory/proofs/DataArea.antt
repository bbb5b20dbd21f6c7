-- The data area of a process grows and is cut, and its map is cleared.
use Rattle.std.proofs.Common.{◌≡◌, ◌≢◌, ℕ, zero, suc, ◌+◌, ◌-◌, ◌<◌, ◌≤◌, nat_lt, Bool, true, false, Option, Some, None, IsSome, is_some, Result, Ok, Err, ◌⊎◌, inl, inr, List, [], ◌∷◌, ◌++◌, length, get_or, set, take, drop, replicate, map, refl, sym, ap, ◌∙◌, subst, arith}
use Rattle.std.specs.Prelude.{if◌then◌else◌}
use Rattle.std.specs.List.{range_with_len}
use Rattle.std.proofs.lemmas.List.{length-map, length-replicate, map-set, get_or-map}
use Rattle.std.proofs.lemmas.Option.{none-some, same_Some}
use Rattle.std.proofs.lemmas.Bool.{cases_lt, cases_Bool, cond-true, cond-false, lt-ltb, le-ltb, both_ways}
use Rattle.block_pool.specs.Blocks.{Blocks, IsPool, IsLive, reference_count, free_block_count}
use Rattle.block_map.specs.TakenBlocks.{NamesLiveBlocks, TakesBlocks, GainsLow, pool_after_giving}
use Rattle.block_map.proofs.Places.{at, at-put, at-naming, at-cleared}
use Rattle.block_map.proofs.Pools.{IsPool-takes}
use Rattle.proc_model.specs.declared.group.BlockId.{BlockId}
use Rattle.proc_model.specs.declared.memory.MemoryFault.{MemoryFault}
use Rattle.proc_model.specs.declared.memory.MemoryFault.TheVariants.{MemFull, NoRam}
use Rattle.proc_model.specs.Memory.{MemoryState, map_at, with_map, free_blocks, wants_blocks}
use Rattle.proc_model.specs.MemoryChanges.{grown, cut, cleared, map_cut, new_numbers, with_new_objects}
use Rattle.proc_model.specs.ModuleList.{ModuleEntry, module_entry_at}
use Rattle.proc_model.specs.Objects.{zero_object}
use Rattle.proc_model.specs.Slots.{Slots, IsMap, IsFreeRun, no_slots, block_at, group_of, blocks_in, blocks_between, filled_places, is_free_run, with_low, cut_low_to, HasGroupAt}
use Rattle.guest_memory.specs.Gains.{times_in, GainsBlocks}
use Rattle.guest_memory.specs.Memory.{memory_of, RepresentMemory}
use Rattle.guest_memory.specs.References.{times, mapped_blocks}
use Rattle.guest_memory.specs.Renaming.{RepresentObjects, renamed_map, renamed_modules, numbered_map}
use Rattle.guest_memory.specs.Sound.{IsSoundMap, IsSoundMemory}
use Rattle.guest_memory.proofs.Times.{times-at, times-one_map, named_by}
use Rattle.guest_memory.proofs.HeldGroups.{HasBlock}
use Rattle.guest_memory.proofs.Keeping.{map_of, held_at, counted_parts, names_live, group_live, counted_twice, low_ungrouped, IsSound-map}
use Rattle.guest_memory.proofs.Gains.{Gains-old, Takes-Gains, count_of-old, times_in-one}
use Rattle.guest_memory.proofs.Represented.{numbered, numbered-other, map-numbered, StandFor-gains}
use Rattle.guest_memory.proofs.Naming.{map_at-memory_of, with_map-memory_of, renamed_map-same, renamed_maps-same, renamed_modules-same, free_blocks-tied}
use Rattle.guest_memory.proofs.Runs.{is_free_run-iff, is_free_run-renamed, with_low-renamed, cut_low_to-renamed}
use Rattle.guest_memory.proofs.Changes.{count_of-given_all, length-given_all, represent-given_all, times_in-different, times-filled, times-cleared, BeginsAt-kept}

-- ---- new blocks among the objects

-- what other blocks represent stays
module _ (pool after : Blocks) (maps : List (Slots BlockId)) (entries : List (Option ModuleEntry))
    (sound : IsSoundMemory pool maps entries) (number : ℕ → ℕ) (objects contents : List (List ℕ)) (ids : List BlockId)
    (gains : GainsBlocks pool ids contents after) where
  -- the numbers after the new blocks have the next ones
  abbrev pub later : ℕ → ℕ
  later = numbered ids (length objects) number

  pub later-live : (block : ℕ) → IsLive pool block → later block ≡ number block
  later-live block live = numbered-other ids (length objects) number block (Gains-old gains block live)

  pub later-map : (process : ℕ) → renamed_map later (map_of pool maps entries sound process) ≡ renamed_map number (map_of pool maps entries sound process)
  later-map process = renamed_map-same later number (get_or maps process no_slots) (λ slot id is. later-live id.0 (names_live pool maps entries sound process slot id is))

  pub later-maps : map (renamed_map later) maps ≡ map (renamed_map number) maps
  later-maps = renamed_maps-same later number maps (λ process slot id is. later-live id.0 (names_live pool maps entries sound process slot id is))

  pub later-modules : renamed_modules later entries ≡ renamed_modules number entries
  later-modules = renamed_modules-same later number entries (λ n entry is k within. later-live (get_or entry.group k 0) (group_live pool maps entries sound n entry is k within))

  pub later-new : map (λ (id : BlockId). later id.0) ids ≡ range_with_len (length objects) (length ids)
  later-new = map-numbered ids (length objects) number gains.different

module _ (pool : Blocks) (maps : List (Slots BlockId)) (entries : List (Option ModuleEntry)) (sound : IsSoundMemory pool maps entries) (process : ℕ) (within : process < 33) where
  -- the map of the process
  abbrev slots : Slots BlockId
  slots = map_of pool maps entries sound process

  held : IsSoundMap pool entries slots
  held = held_at pool maps entries sound process within

  in_maps : process < length maps
  in_maps = omega (arith, sound.processes)

  -- ---- the map is cleared

  pub IsSound-cleared : (after : Blocks) → after ≡ pool_after_giving pool (blocks_in slots.places) → IsPool after
      → IsMap {Block = BlockId} no_slots → IsSoundMemory after (set maps process no_slots) entries
  IsSound-cleared after given shape empty =
      let counts = λ (block : ℕ). ap (λ (p : Blocks). reference_count p block) given ∙ count_of-given_all pool (blocks_in slots.places) block in
      let less = λ (block : ℕ). times_le block in
      IsSound-map pool maps entries sound after process within no_slots shape
      (λ block. omega (arith, counts block, less block))
      (λ block one none. omega (arith, counts block))
      (record {
        map = empty;
        full = λ slot low. absurd (omega arith);
        alone = λ slot id low is. absurd (omega arith);
        grouped = λ number entry is slot k id named inside same. absurd (at-cleared 8 slot id named);
      })
    where
      times_le : (block : ℕ) → times block (mapped_blocks slots) ≤ reference_count pool block
      times_le block = omega (arith, counted_parts pool maps entries sound block, times-one_map block maps process)

  pub represent-cleared : (after : Blocks) → after ≡ pool_after_giving pool (blocks_in slots.places)
      → (m : MemoryState) → RepresentMemory pool maps entries m → RepresentMemory after (set maps process no_slots)
      entries (cleared m process)
  represent-cleared after given m tied = record {
    number = tied.number;
    objects = tied.objects;
    represent = subst (λ (p : Blocks). RepresentObjects tied.number p tied.objects) (sym given) (represent-given_all tied.number pool (blocks_in slots.places) tied.objects tied.represent);
    is = ap (λ (s : MemoryState). cleared s process) tied.is
        ∙ with_map-memory_of tied.number pool after maps entries tied.objects process no_slots (ap (λ (p : Blocks). length p.counts) given ∙ length-given_all pool (blocks_in slots.places));
  }

  -- ---- the data area is cut

  module _ (count : ℕ) (after : Blocks) (shorter : count < slots.low) (given : after ≡ pool_after_giving pool (blocks_between slots count slots.low)) where
    counts_cut : (block : ℕ) → reference_count after block ≡ reference_count pool block - times block (named_by (take (slots.low - count) (drop count slots.places)))
    counts_cut block = ap (λ (p : Blocks). reference_count p block) given ∙ count_of-given_all pool (blocks_between slots count slots.low) block

    -- a slot of the map now is as it was, and was not one of those that are cut
    stays : (slot : ℕ) (id : BlockId) → block_at (cut_low_to slots count) slot ≡ Some id → (block_at slots slot ≡ Some id) × ((slot < count) ⊎ (slots.low ≤ slot))
    stays slot id is =
        let none : Option BlockId = None in
        let many = length-replicate (slots.low - count) none in
        elim (at-put slots.places (replicate (slots.low - count) None) count slot (omega (arith, many, held.map.eight_places, held.map.low_fits))) [
          | inl a ↦ absurd (at-cleared (slots.low - count) (slot - count) id (sym a.2 ∙ is))
          | inr a ↦ (sym a.1 ∙ is, elim (a.0) [ inl below ↦ inl below | inr past ↦ inr (omega (arith, many)) ])
        ]

    still : (slot : ℕ) → (slot < count) ⊎ (slots.low ≤ slot) → block_at (cut_low_to slots count) slot ≡ block_at slots slot
    still slot outside =
        let none : Option BlockId = None in
        let many = length-replicate (slots.low - count) none in
        elim (at-put slots.places (replicate (slots.low - count) None) count slot (omega (arith, many, held.map.eight_places, held.map.low_fits))) [
          | inl a ↦ absurd (elim outside [ inl below ↦ omega arith | inr past ↦ omega (arith, many, a.1) ])
          | inr a ↦ a.1
        ]

    pub IsSound-cut : IsPool after → IsMap (cut_low_to slots count) → NamesLiveBlocks (cut_low_to slots count) after → IsSoundMemory after (set maps process (cut_low_to slots count)) entries
    IsSound-cut shape map_is live =
        IsSound-map pool maps entries sound after process within (cut_low_to slots count) shape
        (λ block. omega (arith, counts_cut block, times-cleared slots.places count (slots.low - count) block, counted_parts pool maps entries sound block, times-one_map block maps process))
        (λ block one none. omega (arith, counts_cut block))
        (record {
          map = map_is;
          full = λ slot low. ap is_some (still slot (inl low)) ∙ held.full slot (omega arith);
          alone = λ slot id low is.
              let was = held.alone slot id (omega arith) ((stays slot id is).0) in
              omega (arith, counts_cut id.0, live slot id is);
          grouped = λ number entry is slot k id named inside same.
              let was = held.grouped number entry is slot k id ((stays slot id named).0) inside same in (
                was.0,
                BeginsAt-kept slots (cut_low_to slots count) entry.group (slot - k) was.1 refl
                    (λ j other here there is_it.
                    let has : HasBlock entries other.0 = record { number = number; entry = entry; is = is; has = times-at entry.group j other.0 here (sym is_it) } in
                    let high : slots.low ≤ slot - k + j = elim (cases_lt (slot - k + j) slots.low) [
                      | inl low ↦ absurd (low_ungrouped pool maps entries sound process within (slot - k + j) other low there has)
                      | inr high ↦ high
                    ] in
                    still (slot - k + j) (inr high) ∙ there),
              );
        })

  map_cut-renamed : (number : ℕ → ℕ) (count : ℕ) → renamed_map number (map_cut slots count) ≡ map_cut (renamed_map number slots) count
  map_cut-renamed number count = by_test (nat_lt count slots.low)
    where
      by_test : (test : Bool) → renamed_map number (if test then cut_low_to slots count else slots) ≡ (if test then cut_low_to (renamed_map number slots) count else renamed_map number slots)
      by_test true = cut_low_to-renamed number slots count
      by_test false = refl

  pub represent-cut : (count : ℕ) (after : Blocks) (ids : List BlockId) → after ≡ pool_after_giving pool ids
      → (m : MemoryState) → RepresentMemory pool maps entries m → RepresentMemory after
      (set maps process (map_cut slots count)) entries (cut m process count)
  represent-cut count after ids given m tied = record {
    number = tied.number;
    objects = tied.objects;
    represent = subst (λ (p : Blocks). RepresentObjects tied.number p tied.objects) (sym given) (represent-given_all tied.number pool ids tied.objects tied.represent);
    is = ap (λ (s : MemoryState). cut s process count) tied.is
        ∙ ap (λ (old : Slots ℕ). with_map (memory_of tied.number pool maps entries tied.objects) process
        (map_cut old count)) (map_at-memory_of tied.number pool maps entries tied.objects process in_maps)
        ∙ ap (with_map (memory_of tied.number pool maps entries tied.objects) process) (sym (map_cut-renamed tied.number count))
        ∙ with_map-memory_of tied.number pool after maps entries tied.objects process (map_cut slots count) (ap (λ (p : Blocks). length p.counts) given ∙ length-given_all pool ids);
  }

  -- ---- the data area grows

  -- the test of the machine is that of the map
  grown-test : (count : ℕ) (m : MemoryState) (tied : RepresentMemory pool maps entries m) → is_free_run (map_at m process) (map_at m process).low count ≡ is_free_run slots slots.low count
  grown-test count m tied =
      ap (λ (s : MemoryState). is_free_run (map_at s process) (map_at s process).low count) tied.is
      ∙ ap (λ (old : Slots ℕ). is_free_run old old.low count) (map_at-memory_of tied.number pool maps entries tied.objects process in_maps)
      ∙ is_free_run-renamed tied.number slots slots.low count

  free-tied : (m : MemoryState) → RepresentMemory pool maps entries m → free_blocks m ≡ free_block_count pool
  free-tied m tied = ap free_blocks tied.is ∙ free_blocks-tied pool maps entries sound tied.number tied.objects tied.represent

  pub grown-full : (count : ℕ) → (IsFreeRun slots slots.low count → ⊥) → (m : MemoryState) → RepresentMemory pool maps entries m → grown m process count ≡ Err MemFull
  grown-full count none m tied =
      let failed : is_free_run slots slots.low count ≡ false = elim (cases_Bool (is_free_run slots slots.low count)) [
        | inl passed ↦ absurd (none ((is_free_run-iff slots held.map.eight_places slots.low count).0 passed))
        | inr failed ↦ failed
      ] in
      cond-false (is_free_run (map_at m process) (map_at m process).low count) _ (Err MemFull) (grown-test count m tied ∙ failed)

  pub grown-no_ram : (count : ℕ) → IsFreeRun slots slots.low count → free_block_count pool < count → (m : MemoryState) → RepresentMemory pool maps entries m → grown m process count ≡ Err NoRam
  grown-no_ram count run few m tied =
      cond-true (is_free_run (map_at m process) (map_at m process).low count) _ (Err MemFull) (grown-test count m tied ∙ (is_free_run-iff slots held.map.eight_places slots.low count).1 run)
      ∙ cond-true (wants_blocks m count) (Err NoRam) _ (lt-ltb (free_blocks m) count (omega (arith, free-tied m tied)))

  -- the memory then
  abbrev pub with_growth : MemoryState → ℕ → MemoryState
  with_growth m count = with_map (with_new_objects m count) process (with_low (map_at m process) (new_numbers m count))

  pub grown-ok : (count : ℕ) → IsFreeRun slots slots.low count → count ≤ free_block_count pool → (m : MemoryState)
      → RepresentMemory pool maps entries m → grown m process count ≡ Ok (with_growth m count)
  grown-ok count run enough m tied =
      cond-true (is_free_run (map_at m process) (map_at m process).low count) _ (Err MemFull) (grown-test count m tied ∙ (is_free_run-iff slots held.map.eight_places slots.low count).1 run)
      ∙ cond-false (wants_blocks m count) (Err NoRam) _ (le-ltb (free_blocks m) count (omega (arith, free-tied m tied)))

  module _ (count : ℕ) (new : Slots BlockId) (after : Blocks) (run : IsFreeRun slots slots.low count) (gained : GainsLow count slots pool new after) where
    abbrev ids : List BlockId
    ids = gained.blocks

    gains : GainsBlocks pool ids (replicate (length ids) zero_object) after
    gains = Takes-Gains pool after ids sound.shape gained.taken

    fits : slots.low + length (filled_places ids) ≤ length slots.places
    fits = omega (arith, length-map ids (λ (id : BlockId). Some id), gained.all, run.0, held.map.eight_places)

    -- a slot is one of the new ones or as it was
    grown_slot : (slot : ℕ) (id : BlockId) → block_at (with_low slots ids) slot ≡ Some id → (block_at slots slot ≡ Some id) ⊎ (at (filled_places ids) (slot - slots.low) ≡ Some id)
    grown_slot slot id is =
        elim (at-put slots.places (filled_places ids) slots.low slot fits) [
          | inl a ↦ inr (sym a.2 ∙ is)
          | inr a ↦ inl (sym a.1 ∙ is)
        ]

    -- what stood in a slot stands there still
    grown_still : (slot : ℕ) (id : BlockId) → block_at slots slot ≡ Some id → block_at (with_low slots ids) slot ≡ Some id
    grown_still slot id is =
        elim (at-put slots.places (filled_places ids) slots.low slot fits) [
          | inl a ↦ absurd (none-some id (sym (run.1 slot a.0 (omega (arith, length-map ids (λ (id : BlockId). Some id), gained.all, a.1))) ∙ is))
          | inr a ↦ a.1 ∙ is
        ]

    -- the new ones are taken for the first time
    counted_new : (k : ℕ) (id : BlockId) → at (filled_places ids) k ≡ Some id → reference_count after id.0 ≡ 1
    counted_new k id is =
        let place = at-naming ids k id is in
        let free = gains.were_free k id place.0 in
        let some = times_in-one ids k id place.0 in
        omega (
          arith,
          gains.counts id.0,
          times_in-different ids gains.different id.0,
          ap (λ (b : BlockId). times_in ids b.0) place.1,
          ap (λ (b : BlockId). reference_count pool b.0) place.1,
        )

    full_grown : (slot : ℕ) → slot < slots.low + length ids → IsSome (block_at (with_low slots ids) slot)
    full_grown slot below =
        let none : BlockId = record { 0 = 0 } in
        elim (at-put slots.places (filled_places ids) slots.low slot fits) [
          | inl a ↦ ap is_some (a.2 ∙ get_or-map (λ (id : BlockId). Some id) ids (slot - slots.low) none None (omega (arith, a.0)))
          | inr a ↦ ap is_some a.1 ∙ held.full slot (elim (a.0) [ inl low ↦ low | inr past ↦ absurd (omega (arith, length-map ids (λ (id : BlockId). Some id))) ])
        ]

    grown_alone : (slot : ℕ) (id : BlockId) → slot < slots.low + length ids → block_at (with_low slots ids) slot ≡ Some id → reference_count after id.0 ≡ 1
    grown_alone slot id below is =
        elim (at-put slots.places (filled_places ids) slots.low slot fits) [
          | inl a ↦ counted_new (slot - slots.low) id (sym a.2 ∙ is)
          | inr a ↦
              let low : slot < slots.low = elim (a.0) [ inl low ↦ low | inr past ↦ absurd (omega (arith, length-map ids (λ (id : BlockId). Some id))) ] in
              let was = held.alone slot id low (sym a.1 ∙ is) in
              count_of-old gains id.0 (omega arith) ∙ was
        ]

    grown_grouped : (n : ℕ) (entry : ModuleEntry) → module_entry_at entries n ≡ Some entry
        → (slot k : ℕ) (id : BlockId) → block_at (with_low slots ids) slot ≡ Some id → k < length entry.group
        → id.0 ≡ get_or entry.group k 0 → (k ≤ slot) × HasGroupAt (numbered_map (with_low slots ids)) entry.group
        (slot - k)
    grown_grouped n entry is slot k id named inside same =
        elim (grown_slot slot id named) [
          | inl old ↦
              let was = held.grouped n entry is slot k id old inside same in
              (was.0, BeginsAt-kept slots (with_low slots ids) entry.group (slot - k) was.1 refl (λ j other here there is_it. grown_still (slot - k + j) other there))
          | inr fresh ↦
              let place = at-naming ids (slot - slots.low) id fresh in
              let free = gains.were_free (slot - slots.low) id place.0 in
              absurd (omega (arith, free.1, ap (λ (b : BlockId). reference_count pool b.0) place.1, ap (reference_count pool) same, group_live pool maps entries sound n entry is k inside))
        ]

    pub IsSound-grown : IsMap new → IsSoundMemory after (set maps process new) entries
    IsSound-grown map_is =
        subst (λ (s : Slots BlockId). IsSoundMemory after (set maps process s) entries) (sym gained.low)
        (IsSound-map pool maps entries sound after process within (with_low slots ids) (IsPool-takes pool after ids gained.taken sound.shape)
        (λ block. omega (
          arith,
          gains.counts block,
          times-filled slots.places slots.low ids
              (omega (arith, gained.all, run.0, held.map.eight_places)) (λ slot low high. run.1 slot low
              (omega (arith, gained.all))) block,
        ))
        (λ block one none. omega (arith, count_of-old gains block (omega arith)))
        (record {
          map = subst IsMap gained.low map_is;
          full = full_grown;
          alone = grown_alone;
          grouped = grown_grouped;
        }))

    pub represent-grown : (m : MemoryState) → RepresentMemory pool maps entries m → RepresentMemory after (set maps process new) entries (with_growth m count)
    represent-grown m tied =
        let number = tied.number in
        let objects = tied.objects in
        let next = later pool after maps entries sound number objects (replicate (length ids) zero_object) ids gains in
        let here = memory_of number pool maps entries objects in
        let map_is : with_low (map_at here process) (range_with_len (length objects) count) ≡ renamed_map next (with_low slots ids) =
        ap (λ (old : Slots ℕ). with_low old (range_with_len (length objects) count)) (map_at-memory_of number pool
        maps entries objects process in_maps ∙ sym (later-map pool after maps entries sound number objects
        (replicate (length ids) zero_object) ids gains process))
        ∙ ap (with_low (renamed_map next slots)) (ap (range_with_len (length objects)) (sym gained.all) ∙ sym
        (later-new pool after maps entries sound number objects (replicate (length ids) zero_object) ids gains))
        ∙ sym (with_low-renamed next slots ids) in
        let maps_are : set (map (renamed_map number) maps) process (with_low (map_at here process) (range_with_len (length objects) count)) ≡ map (renamed_map next) (set maps process new) =
        (λ i. set (sym (later-maps pool after maps entries sound number objects (replicate (length ids) zero_object) ids gains) i) process (map_is i))
        ∙ sym (map-set (renamed_map next) maps process (with_low slots ids))
        ∙ ap (λ (s : Slots BlockId). map (renamed_map next) (set maps process s)) (sym gained.low) in
        record {
          number = next;
          objects = objects ++ replicate (length ids) zero_object;
          represent = StandFor-gains number pool after objects (replicate (length ids) zero_object) ids tied.represent gains;
          is = ap (λ (s : MemoryState). with_growth s count) tied.is
              ∙ (λ i. record {
                blocks = sym gains.as_many i;
                objects = objects ++ replicate (sym gained.all i) zero_object;
                maps = maps_are i;
                modules = sym (later-modules pool after maps entries sound number objects (replicate (length ids) zero_object) ids gains) i;
              });
        }
