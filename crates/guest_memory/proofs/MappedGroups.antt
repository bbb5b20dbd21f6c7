-- The group of an entered module in the map of a process: where it begins, and what it comes to that it is mapped or leaves.
use Rattle.std.proofs.Common.{◌≡◌, ◌≢◌, ℕ, zero, suc, ◌+◌, ◌-◌, ◌<◌, ◌≤◌, ◌==◌, nat_lt, not, cond, Bool, true, false, Option, Some, None, IsSome, is_some, option_map, option_and_then, ◌⊎◌, inl, inr, List, [], ◌∷◌, length, get_or, set, take, drop, replicate, map, position, slice_get, All, AllPairs, refl, sym, ap, ◌∙◌, subst, arith}
use Rattle.std.specs.List.{prefix_len, position_or_len}
use Rattle.std.specs.Option.{option_map_or}
use Rattle.std.proofs.lemmas.List.{length-map, length-replicate, length-set, set-get_or, get_or-map, get_or-set_same, get_or-set_other, get_or_default}
use Rattle.std.proofs.lemmas.List.Quantifiers.{position-Some}
use Rattle.std.proofs.lemmas.Option.{none-some, same_Some, slice_get-get_or}
use Rattle.std.proofs.lemmas.Bool.{cases_eq, cases_lt, cases_Bool, cond-true, cond-false, eq-eqb, ne_eqb, eqb-true, lt-ltb, false≢true}
use Rattle.block_pool.specs.Blocks.{Blocks, IsPool, IsLive, reference_count}
use Rattle.block_map.specs.TakenBlocks.{NamesLiveBlocks, pool_after_sharing, pool_after_giving}
use Rattle.block_map.proofs.Counts.{live-within}
use Rattle.block_map.proofs.Places.{at, at-put, at-naming, at-cleared, at-within, same_id}
use Rattle.module_dir.proofs.Lists.{position-map}
use Rattle.proc_model.specs.declared.group.BlockId.{BlockId}
use Rattle.proc_model.specs.Memory.{MemoryState, map_at, with_map, group_at}
use Rattle.proc_model.specs.MemoryChanges.{group_mapped, map_ungrouped, group_unmapped}
use Rattle.proc_model.specs.ModuleList.{ModuleEntry, module_entry_at}
use Rattle.proc_model.specs.Slots.{Slots, IsMap, IsFreeRun, IsHighestFreeRun, NamesBlock, no_slots, block_at, group_of, blocks_in, blocks_between, filled_places, highest_free_run, with_group, map_without_group, HasGroupAt, place_names, group_slot}
use Rattle.guest_memory.specs.Gains.{times_in}
use Rattle.guest_memory.specs.Memory.{memory_of, RepresentMemory}
use Rattle.guest_memory.specs.References.{times, Has, mapped_blocks}
use Rattle.guest_memory.specs.Renaming.{RepresentObjects, renamed_map, renamed_entry, renamed_modules, numbered_map}
use Rattle.guest_memory.specs.Sound.{IsSoundMap, IsGrouped, IsSoundMemory}
use Rattle.guest_memory.proofs.Times.{numbers_of, named_by, times-at, times-one_map, times-numbers_of}
use Rattle.guest_memory.proofs.HeldGroups.{HasBlock}
use Rattle.guest_memory.proofs.Keeping.{map_of, held_at, counted_parts, counted_most, names_live, group_live, low_ungrouped, IsSound-map}
use Rattle.guest_memory.proofs.Naming.{map_at-memory_of, with_map-memory_of}
use Rattle.guest_memory.proofs.Runs.{highest_free_run-is, highest_free_run-none, highest_free_run-renamed, with_group-renamed, map_without_group-renamed}
use Rattle.guest_memory.proofs.Changes.{count_of-shared_all-times, length-shared_all, count_of-given_all, length-given_all, represent-given_all, times-filled, times-cleared, number_at, IsBlockAt, block_of_number, BeginsAt-kept}
use Rattle.guest_memory.proofs.Directory.{entry_at-renamed}
use Rattle.guest_memory.proofs.Leaving.{group-live, group-different}
use Rattle.guest_memory.proofs.Lists.{map-map}
use Rattle.guest_memory.proofs.Represented.{StandFor-shared_all}

-- ---- the first place that passes a test

module _ {X : Type 0} where
  prefix_len-same : (p q : X → Bool) (xs : List X) → ((k : ℕ) (d : X) → k < length xs → p (get_or xs k d) ≡ q (get_or xs k d)) → prefix_len p xs ≡ prefix_len q xs
  prefix_len-same p q [] same = refl
  prefix_len-same p q (x ∷ xs) same =
      λ i. cond (same 0 x (omega arith) i) (1 + prefix_len-same p q xs (λ k d within. same (suc k) d (omega arith)) i) 0

  position-same : (p q : X → Bool) (xs : List X) → ((k : ℕ) (d : X) → k < length xs → p (get_or xs k d) ≡ q (get_or xs k d)) → position p xs ≡ position q xs
  position-same p q xs same =
      let lengths : position_or_len p xs ≡ position_or_len q xs = prefix_len-same (λ x. not (p x)) (λ x. not (q x)) xs (λ k d within. ap not (same k d within)) in
      λ i. cond (nat_lt (lengths i) (length xs)) (Some (lengths i)) None

  position-le : (p : X → Bool) (xs : List X) (k : ℕ) (d : X) → k < length xs → p (get_or xs k d) ≡ true → position_or_len p xs ≤ k
  position-le p [] k d within is = absurd (omega arith)
  position-le p (x ∷ xs) zero d within is = omega (arith, cond-false (not (p x)) (1 + prefix_len (λ y. not (p y)) xs) 0 (ap not is))
  position-le p (x ∷ xs) (suc k) d within is =
      let rest = position-le p xs k d (omega arith) is in
      elim (cases_Bool (not (p x))) [
        | inl past ↦ omega (arith, cond-true (not (p x)) (1 + prefix_len (λ y. not (p y)) xs) 0 past)
        | inr here ↦ omega (arith, cond-false (not (p x)) (1 + prefix_len (λ y. not (p y)) xs) 0 here)
      ]

  -- where some place passes, there is a first one
  pub position-there : (p : X → Bool) (xs : List X) (k : ℕ) (d : X) → k < length xs → p (get_or xs k d) ≡ true → position p xs ≡ Some (position_or_len p xs)
  position-there p xs k d within is =
      cond-true (nat_lt (position_or_len p xs) (length xs)) (Some (position_or_len p xs)) None (lt-ltb (position_or_len p xs) (length xs) (omega (arith, position-le p xs k d within is)))

  -- the first place that passes
  pub position-first : (p : X → Bool) (xs : List X) (k : ℕ) (d : X) → k < length xs → p (get_or xs k d) ≡ true → ((j : ℕ) → j < k → p (get_or xs j d) ≡ false) → position p xs ≡ Some k
  position-first p xs k d within is before =
      let there = position-there p xs k d within is in
      let found = position-Some p xs (position_or_len p xs) d there in
      let below = position-le p xs k d within is in
      there ∙ ap Some (elim (cases_lt (position_or_len p xs) k) [
        | inl less ↦ absurd (false≢true (sym (before (position_or_len p xs) less) ∙ found.1))
        | inr not_less ↦ omega arith
      ])

  -- no place passes
  pub position-none : (p : X → Bool) (xs : List X) (d : X) → ((j : ℕ) → j < length xs → p (get_or xs j d) ≡ false) → position p xs ≡ None
  position-none p xs d none = by_found (position p xs) refl
    where
      by_found : (found : Option ℕ) → position p xs ≡ found → found ≡ None
      by_found None is = refl
      by_found (Some k) is = let place = position-Some p xs k d is in absurd (false≢true (sym (none k place.0) ∙ place.1))

-- the place names this block
abbrev pub names_number : ℕ → Option BlockId → Bool
names_number block place = place_names block (option_map (λ (id : BlockId). id.0) place)

pub names_number-is : (block : ℕ) (place : Option BlockId) → names_number block place ≡ true → (id : BlockId) × (place ≡ Some id) × (id.0 ≡ block)
names_number-is block None is = absurd (false≢true is)
names_number-is block (Some id) is = (id, refl, eqb-true id.0 block is)

-- the slot at which a group begins in a map of blocks
abbrev pub block_slot : Slots BlockId → List ℕ → Option ℕ
block_slot slots group = group_slot (numbered_map slots) group

pub block_slot-is : (slots : Slots BlockId) (group : List ℕ) → 1 ≤ length group → block_slot slots group ≡ position (names_number (get_or group 0 0)) slots.places
block_slot-is slots group some =
    ap (option_and_then (λ first. position (place_names first) (numbered_map slots).places)) (slice_get-get_or group 0 0 (omega arith))
    ∙ position-map (option_map (λ (id : BlockId). id.0)) (place_names (get_or group 0 0)) slots.places

module _ (pool : Blocks) (maps : List (Slots BlockId)) (entries : List (Option ModuleEntry))
    (sound : IsSoundMemory pool maps entries) (process : ℕ) (within : process < 33) (number : ℕ) (entry : ModuleEntry)
    (is : module_entry_at entries number ≡ Some entry) where
  abbrev slots : Slots BlockId
  slots = map_of pool maps entries sound process

  held : IsSoundMap pool entries slots
  held = held_at pool maps entries sound process within

  in_maps : process < length maps
  in_maps = omega (arith, sound.processes)

  grouped : IsGrouped entry
  grouped = sound.groups.each number entry is

  has_block : (block k : ℕ) → k < length entry.group → block ≡ get_or entry.group k 0 → HasBlock entries block
  has_block block k inside same = record { number = number; entry = entry; is = is; has = times-at entry.group k block inside (sym same) }

  -- where the group begins, it begins
  pub begins_at : (first : ℕ) → block_slot slots entry.group ≡ Some first → HasGroupAt (numbered_map slots) entry.group first
  begins_at first found =
      let place = position-Some (names_number (get_or entry.group 0 0)) slots.places first None (sym (block_slot-is slots entry.group grouped.some) ∙ found) in
      let named = names_number-is (get_or entry.group 0 0) (get_or slots.places first None) place.1 in
      let here : first - 0 ≡ first = omega arith in
      subst (HasGroupAt (numbered_map slots) entry.group) here ((held.grouped number entry is first 0 named.0 named.1 (omega (arith, grouped.some)) named.2).1)

  -- where a slot names a block of the group, the group begins somewhere
  pub begins_somewhere : (slot k : ℕ) (id : BlockId) → block_at slots slot ≡ Some id → k < length entry.group → id.0 ≡ get_or entry.group k 0 → IsSome (block_slot slots entry.group)
  begins_somewhere slot k id named inside same =
      let stands = held.grouped number entry is slot k id named inside same in
      let first = slot - k in
      let here = block_of_number slots (first + 0) (get_or entry.group 0 0) (stands.1.stands 0 (omega (arith, grouped.some))) in
      let it = at-within slots.places (first + 0) here.id here.is in
      let passes : names_number (get_or entry.group 0 0) (get_or slots.places (first + 0) None) ≡ true = ap
      (names_number (get_or entry.group 0 0)) here.is ∙ eq-eqb here.id.0 (get_or entry.group 0 0) here.number_is
      in
      ap is_some (block_slot-is slots entry.group grouped.some ∙ position-there (names_number (get_or entry.group 0 0)) slots.places (first + 0) None it passes)

  -- ---- the slot in the machine

  module _ (m : MemoryState) (tied : RepresentMemory pool maps entries m) where
    abbrev f : ℕ → ℕ
    f = tied.number

    map_at-tied : map_at m process ≡ renamed_map tied.number slots
    map_at-tied = ap (λ (s : MemoryState). map_at s process) tied.is ∙ map_at-memory_of tied.number pool maps entries tied.objects process in_maps

    pub group_at-tied : group_at m number ≡ map tied.number entry.group
    group_at-tied =
        ap (λ (s : MemoryState). group_at s number) tied.is
        ∙ ap (λ (o : Option ModuleEntry). option_map_or (λ e. e.group) o []) (entry_at-renamed tied.number entries number ∙ ap (option_map (renamed_entry tied.number)) is)

    same_test : (k : ℕ) (d : Option BlockId) → k < length slots.places
        → place_names (tied.number (get_or entry.group 0 0)) (option_map (λ (id : BlockId). tied.number id.0)
        (get_or slots.places k d)) ≡ names_number (get_or entry.group 0 0) (get_or slots.places k d)
    same_test k d inside = by_place (get_or slots.places k d) refl
      where
        by_place : (place : Option BlockId) → get_or slots.places k d ≡ place
            → place_names (tied.number (get_or entry.group 0 0)) (option_map (λ (id : BlockId). tied.number id.0)
            place) ≡ names_number (get_or entry.group 0 0) place
        by_place None is_place = refl
        by_place (Some id) is_place =
            let first = get_or entry.group 0 0 in
            let live = names_live pool maps entries sound process k id (get_or_default slots.places k None d inside ∙ is_place) in
            let live_first = group_live pool maps entries sound number entry is 0 (omega (arith, grouped.some)) in
            elim (cases_eq id.0 first) [
              | inl same ↦ eq-eqb (tied.number id.0) (tied.number first) (ap tied.number same) ∙ sym (eq-eqb id.0 first same)
              | inr apart ↦ ne_eqb (tied.number id.0) (tied.number first) (λ same. apart (tied.represent.apart id.0 first live live_first same)) ∙ sym (ne_eqb id.0 first apart)
            ]

    pub group_slot-tied : group_slot (map_at m process) (group_at m number) ≡ block_slot slots entry.group
    group_slot-tied =
        (λ i. group_slot (map_at-tied i) (group_at-tied i))
        ∙ ap (option_and_then (λ first. position (place_names first) (renamed_map tied.number slots).places))
        (slice_get-get_or (map tied.number entry.group) 0 0
        (omega (arith, length-map entry.group tied.number, grouped.some)) ∙ ap (λ (n : ℕ). Some n)
        (get_or-map tied.number entry.group 0 0 0 (omega (arith, grouped.some))))
        ∙ position-map (option_map (λ (id : BlockId). tied.number id.0)) (place_names (tied.number (get_or entry.group 0 0))) slots.places
        ∙ position-same (λ place. place_names (tied.number (get_or entry.group 0 0))
        (option_map (λ (id : BlockId). tied.number id.0) place)) (names_number (get_or entry.group 0 0))
        slots.places same_test
        ∙ sym (block_slot-is slots entry.group grouped.some)

  -- ---- the group is mapped

  module _ (ids : List BlockId) (same : entry.group ≡ numbers_of ids) (unmapped : block_slot slots entry.group ≡ None) where
    many : length entry.group ≡ length ids
    many = ap (λ (g : List ℕ). length g) same ∙ length-map ids (λ (id : BlockId). id.0)

    number_of : (k : ℕ) (d : BlockId) → k < length ids → (get_or ids k d).0 ≡ get_or entry.group k 0
    number_of k d inside = sym (ap (λ (g : List ℕ). get_or g k 0) same ∙ get_or-map (λ (id : BlockId). id.0) ids k d 0 inside)

    unmapped-group : (slot k : ℕ) (id : BlockId) → block_at slots slot ≡ Some id → k < length entry.group → id.0 ≡ get_or entry.group k 0 → ⊥
    unmapped-group slot k id named inside it = false≢true (ap is_some (sym unmapped) ∙ begins_somewhere slot k id named inside it)

    pub group-unnamed : All (λ id. NamesBlock slots id → ⊥) ids
    group-unnamed k d inside (slot, named) = unmapped-group slot k (get_or ids k d) named (omega (arith, many)) (number_of k d inside)

    pub group-countable : All (λ id. reference_count pool id.0 < 65000) ids
    group-countable k d inside = omega (arith, counted_most pool maps entries sound (get_or ids k d).0)

    pub group-in_pool : All (λ id. id.0 < length pool.counts) ids
    group-in_pool k d inside = live-within pool (get_or ids k d).0 (group-live pool maps entries sound number entry is ids same k d inside)

    module _ (first : ℕ) (highest : IsHighestFreeRun slots (length ids) first) (after : Blocks) (shared : after ≡ pool_after_sharing pool ids) where
      new : Slots BlockId
      new = with_group slots first ids

      size : length (filled_places ids) ≡ length ids
      size = length-map ids (λ (id : BlockId). Some id)

      fits : first + length (filled_places ids) ≤ length slots.places
      fits = omega (arith, size, highest.0.0, held.map.eight_places)

      counts : (block : ℕ) → reference_count after block ≡ reference_count pool block + times_in ids block
      counts block = ap (λ (p : Blocks). reference_count p block) shared ∙ count_of-shared_all-times pool ids block group-in_pool

      -- what stood in a slot stands there still
      still : (slot : ℕ) (id : BlockId) → block_at slots slot ≡ Some id → block_at (with_group slots first ids) slot ≡ Some id
      still slot id at_slot =
          elim (at-put slots.places (filled_places ids) first slot fits) [
            | inl a ↦ absurd (none-some id (sym (highest.0.1 slot a.0 (omega (arith, size, a.1))) ∙ at_slot))
            | inr a ↦ a.1 ∙ at_slot
          ]

      -- a slot is one of the group's or as it was
      new_or_old : (slot : ℕ) (id : BlockId) → block_at (with_group slots first ids) slot ≡ Some id
          → ((first ≤ slot) × (at (filled_places ids) (slot - first) ≡ Some id)) ⊎ (block_at slots slot ≡ Some id)
      new_or_old slot id at_slot =
          elim (at-put slots.places (filled_places ids) first slot fits) [
            | inl a ↦ inl (a.0, sym a.2 ∙ at_slot)
            | inr a ↦ inr (sym a.1 ∙ at_slot)
          ]

      first_within : first < length slots.groups
      first_within = omega (arith, held.map.eight_groups, highest.0.0, many, grouped.some)

      -- it begins where it was mapped
      begins_new : HasGroupAt (numbered_map (with_group slots first ids)) entry.group first
      begins_new = record {
        length_is = get_or-set_same slots.groups first (Some (length ids)) None first_within ∙ ap (λ (n : ℕ). Some n) (sym many);
        stands = λ k inside.
            let none : BlockId = record { 0 = 0 } in
            let placed : block_at (with_group slots first ids) (first + k) ≡ Some (get_or ids k none) = elim (at-put slots.places (filled_places ids) first (first + k) fits) [
              | inl a ↦ a.2 ∙ ap (at (filled_places ids)) (omega arith) ∙ get_or-map (λ (id : BlockId). Some id) ids k none None (omega (arith, many))
              | inr a ↦ absurd (elim (a.0) [ inl below ↦ omega arith | inr past ↦ omega (arith, size, many) ])
            ] in
            number_at (with_group slots first ids) (first + k) (get_or ids k none) placed ∙ ap (λ (n : ℕ). Some n) (number_of k none (omega (arith, many)));
      }

      -- groups that stood there stand there still
      grouped_new : (n : ℕ) (other : ModuleEntry) → module_entry_at entries n ≡ Some other
          → (slot k : ℕ) (id : BlockId) → block_at (with_group slots first ids) slot ≡ Some id
          → k < length other.group → id.0 ≡ get_or other.group k 0 → (k ≤ slot) × HasGroupAt
          (numbered_map (with_group slots first ids)) other.group (slot - k)
      grouped_new n other is_other slot k id named inside it =
          elim (new_or_old slot id named) [
            | inl fresh ↦
                let place = at-naming ids (slot - first) id fresh.1 in
                let id_is : id.0 ≡ get_or entry.group (slot - first) 0 = ap (λ (b : BlockId). b.0) (sym place.1) ∙ number_of (slot - first) id place.0 in
                let equal : other.group ≡ entry.group = sound.groups.same n number other entry is_other is id.0
                (times-at other.group k id.0 inside (sym it)) (times-at entry.group (slot - first) id.0
                (omega (arith, many, place.0)) (sym id_is)) in
                let same_place : k ≡ slot - first = grouped.once k (slot - first)
                (subst (λ (g : List ℕ). k < length g) equal inside) (omega (arith, many, place.0))
                (ap (λ (g : List ℕ). get_or g k 0) (sym equal) ∙ sym it ∙ id_is) in
                let here : slot - k ≡ first = omega (arith, fresh.0) in (
                  omega (arith, fresh.0),
                  subst (λ (g : List ℕ). HasGroupAt (numbered_map (with_group slots first ids)) g
                      (slot - k)) (sym equal) (subst (λ (s : ℕ). HasGroupAt (numbered_map (with_group slots first ids))
                      entry.group s) (sym here) begins_new),
                )
            | inr old ↦
                let was = held.grouped n other is_other slot k id old inside it in
                let zeroth = block_of_number slots (slot - k + 0) (get_or other.group 0 0) (was.1.stands 0 (omega arith)) in
                let apart : slot - k ≢ first = λ equal. none-some zeroth.id (sym (highest.0.1 (slot - k + 0) (omega arith) (omega (arith, many, grouped.some))) ∙ zeroth.is) in (
                  was.0,
                  BeginsAt-kept slots (with_group slots first ids) other.group (slot - k) was.1
                      (get_or-set_other slots.groups first (slot - k) (Some (length ids)) None apart)
                      (λ j b here there is_it. still (slot - k + j) b there),
                )
          ]

      apart_from_group : (block : ℕ) → (HasBlock entries block → ⊥) → times_in ids block ≡ 0
      apart_from_group block none =
          elim (cases_eq (times_in ids block) 0) [
            | inl zero_times ↦ zero_times
            | inr some ↦ absurd (none (record { number = number; entry = entry; is = is; has = omega (arith, ap (times block) same, times-numbers_of ids block) }))
          ]

      pub IsSound-mapped : IsPool after → IsMap (with_group slots first ids)
          → NamesLiveBlocks (with_group slots first ids) after
          → IsSoundMemory after (set maps process (with_group slots first ids)) entries
      IsSound-mapped shape map_is live =
          IsSound-map pool maps entries sound after process within (with_group slots first ids) shape
          (λ block. omega (arith, counts block, times-filled slots.places first ids (omega (arith, highest.0.0, held.map.eight_places)) highest.0.1 block))
          (λ block one none. omega (arith, counts block, apart_from_group block none))
          (record {
            map = map_is;
            full = λ slot low. some_still slot (held.full slot low);
            alone = λ slot id low named. low_alone slot id low named (new_or_old slot id named);
            grouped = grouped_new;
          })
        where
          some_still : (slot : ℕ) → IsSome (block_at slots slot) → IsSome (block_at (with_group slots first ids) slot)
          some_still slot some = by_place (block_at slots slot) refl some
            where
              by_place : (place : Option BlockId) → block_at slots slot ≡ place → IsSome place → IsSome (block_at (with_group slots first ids) slot)
              by_place None at_slot some = absurd (false≢true some)
              by_place (Some id) at_slot some = ap is_some (still slot id at_slot)

          low_alone : (slot : ℕ) (id : BlockId) → slot < slots.low → block_at (with_group slots first ids) slot ≡ Some
              id → ((first ≤ slot) × (at (filled_places ids) (slot - first) ≡ Some id)) ⊎ (block_at slots slot ≡ Some
              id) → reference_count after id.0 ≡ 1
          low_alone slot id low named (inr old) =
              let none = low_ungrouped pool maps entries sound process within slot id low old in
              omega (arith, held.alone slot id low old, counts id.0, apart_from_group id.0 none)
          low_alone slot id low named (inl fresh) =
              let place = at-naming ids (slot - first) id fresh.1 in
              let free : block_at slots slot ≡ None = highest.0.1 slot fresh.0 (omega (arith, fresh.0, place.0)) in
              absurd (false≢true (sym (ap is_some free) ∙ held.full slot low))

      pub represent-mapped : (m : MemoryState) (tied : RepresentMemory pool maps entries m) → RepresentMemory after
          (set maps process (with_group slots first ids)) entries
          (with_map m process (with_group (map_at m process) first (group_at m number)))
      represent-mapped m tied = record {
        number = tied.number;
        objects = tied.objects;
        represent = subst (λ (p : Blocks). RepresentObjects tied.number p tied.objects) (sym shared)
            (StandFor-shared_all tied.number pool tied.objects ids tied.represent (group-live pool maps entries sound
            number entry is ids same));
        is = (λ i. with_map (tied.is i) process (with_group (map_at-tied m tied i) first ((group_at-tied m tied ∙ ap (map tied.number) same ∙ map-map tied.number (λ (id : BlockId). id.0) ids) i)))
            ∙ ap (with_map (memory_of tied.number pool maps entries tied.objects) process) (sym (with_group-renamed tied.number slots first ids))
            ∙ with_map-memory_of tied.number pool after maps entries tied.objects process (with_group slots first ids) (ap (λ (p : Blocks). length p.counts) shared ∙ length-shared_all pool ids);
      }

      pub group_mapped-some : (m : MemoryState) (tied : RepresentMemory pool maps entries m) → group_mapped m process
          (group_at m number) ≡ Some (
            first,
            with_map m process (with_group (map_at m process) first
                (group_at m number)),
          )
      group_mapped-some m tied =
          ap (option_map (λ first. (first, with_map m process (with_group (map_at m process) first (group_at m number)))))
          ((λ i. highest_free_run (map_at-tied m tied i) (length (group_at-tied m tied i)))
          ∙ highest_free_run-renamed tied.number slots (length (map tied.number entry.group))
          ∙ ap (highest_free_run slots) (length-map entry.group tied.number ∙ many)
          ∙ highest_free_run-is slots held.map.eight_places (length ids) first highest)

    pub group_mapped-none : ((first : ℕ) → IsFreeRun slots first (length ids) → ⊥) → (m : MemoryState) (tied : RepresentMemory pool maps entries m) → group_mapped m process (group_at m number) ≡ None
    group_mapped-none none m tied =
        ap (option_map (λ first. (first, with_map m process (with_group (map_at m process) first (group_at m number)))))
        ((λ i. highest_free_run (map_at-tied m tied i) (length (group_at-tied m tied i)))
        ∙ highest_free_run-renamed tied.number slots (length (map tied.number entry.group))
        ∙ ap (highest_free_run slots) (length-map entry.group tied.number ∙ many)
        ∙ highest_free_run-none slots held.map.eight_places (length ids) none)

  -- ---- the group leaves the map

  abbrev nothing : Option BlockId
  nothing = None

  module _ (first : ℕ) (found : block_slot slots entry.group ≡ Some first) (after : Blocks) (given : after ≡ pool_after_giving pool (blocks_between slots first (first + length entry.group))) where
    begins : HasGroupAt (numbered_map slots) entry.group first
    begins = begins_at first found

    inside_slots : first + length entry.group ≤ 8
    inside_slots = held.map.group_fits first (length entry.group) begins.length_is

    counts_given : (block : ℕ) → reference_count after block ≡ reference_count pool block - times block (named_by (take (length entry.group) (drop first slots.places)))
    counts_given block =
        let whole : first + length entry.group - first ≡ length entry.group = omega arith in
        ap (λ (p : Blocks). reference_count p block) given ∙ count_of-given_all pool (blocks_between slots first (first + length entry.group)) block
        ∙ ap (λ (n : ℕ). reference_count pool block - times block (named_by (take n (drop first slots.places)))) whole

    room : first + length (replicate (length entry.group) nothing) ≤ length slots.places
    room = omega (arith, length-replicate (length entry.group) nothing, inside_slots, held.map.eight_places)

    -- a slot of the map now is as it was, and outside of the group
    was_slot : (slot : ℕ) (id : BlockId) → block_at (map_without_group slots first (length entry.group)) slot ≡ Some
        id → (block_at slots slot ≡ Some id) × ((slot < first) ⊎ (first + length entry.group ≤ slot))
    was_slot slot id named =
        elim (at-put slots.places (replicate (length entry.group) None) first slot room) [
          | inl a ↦ absurd (at-cleared (length entry.group) (slot - first) id (sym a.2 ∙ named))
          | inr a ↦
              (sym a.1 ∙ named, elim (a.0) [ inl below ↦ inl below | inr past ↦ inr (omega (arith, length-replicate (length entry.group) nothing)) ])
        ]

    -- a slot outside of it is as it was
    slot_still : (slot : ℕ) → (slot < first) ⊎ (first + length entry.group ≤ slot) → block_at (map_without_group slots first (length entry.group)) slot ≡ block_at slots slot
    slot_still slot outside =
        elim (at-put slots.places (replicate (length entry.group) None) first slot room) [
          | inl a ↦ absurd (elim outside [ inl below ↦ omega arith | inr past ↦ omega (arith, a.1, length-replicate (length entry.group) nothing) ])
          | inr a ↦ a.1
        ]

    -- a slot of the group names a block of it
    in_group : (slot : ℕ) (id : BlockId) → block_at slots slot ≡ Some id → first ≤ slot → slot < first + length
        entry.group → (slot - first < length entry.group) × (id.0 ≡ get_or entry.group (slot - first) 0)
    in_group slot id named low high =
        let k = slot - first in
        let here : first + k ≡ slot = omega arith in
        let it = same_Some id.0 (get_or entry.group k 0) (sym (number_at slots slot id named) ∙ ap (block_at (numbered_map slots)) (sym here) ∙ begins.stands k (omega arith)) in
        (omega arith, it)

    -- a slot that names a block of no entered group, or of another one, is outside
    outside_group : (slot : ℕ) (id : BlockId) → block_at slots slot ≡ Some id → (Has entry.group id.0 → ⊥) → (slot < first) ⊎ (first + length entry.group ≤ slot)
    outside_group slot id named not_in =
        elim (cases_lt slot first) [
          | inl below ↦ inl below
          | inr low ↦
              elim (cases_lt slot (first + length entry.group)) [
                | inl high ↦ let it = in_group slot id named low high in absurd (not_in (times-at entry.group (slot - first) id.0 it.0 (sym it.1)))
                | inr past ↦ inr past
              ]
        ]

    low_outside : (slot : ℕ) (id : BlockId) → slot < slots.low → block_at slots slot ≡ Some id → (slot < first) ⊎ (first + length entry.group ≤ slot)
    low_outside slot id low named =
        outside_group slot id named (λ has. low_ungrouped pool maps entries sound process within slot id low named (record { number = number; entry = entry; is = is; has = has }))

    grouped_left : (n : ℕ) (other : ModuleEntry) → module_entry_at entries n ≡ Some other
        → (slot k : ℕ) (id : BlockId) → block_at (map_without_group slots first (length entry.group)) slot ≡ Some id
        → k < length other.group → id.0 ≡ get_or other.group k 0 → (k ≤ slot) × HasGroupAt
        (numbered_map (map_without_group slots first (length entry.group))) other.group (slot - k)
    grouped_left n other is_other slot k id named inside it =
        let old = was_slot slot id named in
        let was = held.grouped n other is_other slot k id old.0 inside it in
        -- it is another group: a block of this one stands in its slots alone
        let differ : other.group ≡ entry.group → ⊥ = λ equal.
        let k_inside : k < length entry.group = subst (λ (g : List ℕ). k < length g) equal inside in
        let there = block_of_number slots (first + k) (get_or entry.group k 0) (begins.stands k k_inside) in
        let same_block : there.id ≡ id = same_id there.id id (there.number_is ∙ ap (λ (g : List ℕ). get_or g k 0) (sym equal) ∙ sym it) in
        let same_slot : first + k ≡ slot = held.map.once (first + k) slot id (there.is ∙ ap (λ (b : BlockId). Some b) same_block) old.0 in
        elim (old.1) [ inl below ↦ absurd (omega arith) | inr past ↦ absurd (omega arith) ] in
        let apart : (j : ℕ) (b : BlockId) → j < length other.group → b.0 ≡ get_or other.group j 0 → Has entry.group b.0 → ⊥ = λ j b within_other is_it has.
        differ (sound.groups.same n number other entry is_other is b.0 (times-at other.group j b.0 within_other (sym is_it)) has) in
        let zeroth = block_of_number slots (slot - k + 0) (get_or other.group 0 0) (was.1.stands 0 (omega arith)) in
        let not_first : slot - k ≢ first = λ equal. elim (outside_group (slot - k + 0) zeroth.id zeroth.is (apart 0 zeroth.id (omega arith) zeroth.number_is)) [
          | inl below ↦ omega arith
          | inr past ↦ omega (arith, grouped.some)
        ] in (
          was.0,
          BeginsAt-kept slots (map_without_group slots first (length entry.group)) other.group (slot - k) was.1 (get_or-set_other slots.groups first (slot - k) None None not_first)
              (λ j b here there is_it. slot_still (slot - k + j) (outside_group (slot - k + j) b there (apart j b here is_it)) ∙ there),
        )

    pub IsSound-unmapped : IsPool after → IsMap (map_without_group slots first (length entry.group))
        → NamesLiveBlocks (map_without_group slots first (length entry.group)) after
        → IsSoundMemory after (set maps process (map_without_group slots first (length entry.group))) entries
    IsSound-unmapped shape map_is live =
        IsSound-map pool maps entries sound after process within (map_without_group slots first (length entry.group)) shape
        (λ block. omega (arith, counts_given block, times-cleared slots.places first (length entry.group) block, counted_parts pool maps entries sound block, times-one_map block maps process))
        (λ block one none. omega (arith, counts_given block))
        (record {
          map = map_is;
          full = λ slot low. low_full slot low;
          alone = λ slot id low named. let was = was_slot slot id named in omega (arith, held.alone slot id low was.0, counts_given id.0, live slot id named);
          grouped = grouped_left;
        })
      where
        low_full : (slot : ℕ) → slot < slots.low → IsSome (block_at (map_without_group slots first (length entry.group)) slot)
        low_full slot low = by_place (block_at slots slot) refl (held.full slot low)
          where
            by_place : (place : Option BlockId) → block_at slots slot ≡ place → IsSome place → IsSome (block_at (map_without_group slots first (length entry.group)) slot)
            by_place None at_slot some = absurd (false≢true some)
            by_place (Some id) at_slot some = ap is_some (slot_still slot (low_outside slot id low at_slot) ∙ at_slot)

    pub represent-unmapped : (m : MemoryState) (tied : RepresentMemory pool maps entries m) → RepresentMemory after
        (set maps process (map_without_group slots first (length entry.group))) entries
        (group_unmapped m process (group_at m number))
    represent-unmapped m tied = record {
      number = tied.number;
      objects = tied.objects;
      represent = subst (λ (p : Blocks). RepresentObjects tied.number p tied.objects) (sym given)
          (represent-given_all tied.number pool (blocks_between slots first (first + length entry.group)) tied.objects
          tied.represent);
      is = ap (with_map m process)
          (ap (λ (slot : Option ℕ). option_map_or (λ first. map_without_group (map_at m process) first (length (group_at m number))) slot (map_at m process)) (group_slot-tied m tied ∙ found)
          ∙ (λ i. map_without_group (map_at-tied m tied i) first (length (group_at-tied m tied i)))
          ∙ ap (map_without_group (renamed_map tied.number slots) first) (length-map entry.group tied.number)
          ∙ sym (map_without_group-renamed tied.number slots first (length entry.group)))
          ∙ ap (λ (s : MemoryState). with_map s process (renamed_map tied.number (map_without_group slots first (length entry.group)))) tied.is
          ∙ with_map-memory_of tied.number pool after maps entries tied.objects process (map_without_group slots first
          (length entry.group)) (ap (λ (p : Blocks). length p.counts) given ∙ length-given_all pool
          (blocks_between slots first (first + length entry.group)));
    }

  -- where it is not mapped, nothing changes
  pub represent-not_mapped : block_slot slots entry.group ≡ None → (m : MemoryState) (tied : RepresentMemory pool maps entries m) → group_unmapped m process (group_at m number) ≡ m
  represent-not_mapped nowhere m tied =
      ap (with_map m process) (ap (λ (slot : Option ℕ). option_map_or (λ first. map_without_group (map_at m process)
      first (length (group_at m number))) slot (map_at m process)) (group_slot-tied m tied ∙ nowhere))
      ∙ (λ i. record m { maps = set-get_or m.maps process no_slots i })
