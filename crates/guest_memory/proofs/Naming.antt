-- Names of blocks as names of the objects that they represent.
use Rattle.std.proofs.Common.{◌≡◌, ◌≢◌, ℕ, zero, suc, ◌+◌, ◌-◌, ◌<◌, ◌≤◌, ◌==◌, ◌||◌, ◌&&◌, not, nat_eq, Bool, true, false, Option, Some, None, option_map, ◌⊎◌, inl, inr, List, [], ◌∷◌, ◌++◌, length, get_or, set, map, flat_map, count_by, All, refl, sym, ap, ◌∙◌, subst, arith}
use Rattle.std.specs.Prelude.{if◌then◌else◌}
use Rattle.std.specs.List.{list_any, range_with_len}
use Rattle.std.specs.Cmp.Lexicographic.{pointwise}
use Rattle.std.proofs.Math.Path.{fun_ext}
use Rattle.std.proofs.lemmas.List.{map-append, map-set, length-map, get_or-map, get_or_past, get_or_default}
use Rattle.std.proofs.lemmas.List.Elements.{All-head, All-tail, All-cons, All-nil, All-map}
use Rattle.std.proofs.lemmas.Option.{none-some, same_Some, slice_get_within}
use Rattle.std.proofs.lemmas.Bool.{cases_eq, cases_lt, eq-eqb, ne_eqb}
use Rattle.block_pool.specs.Blocks.{Blocks, IsLive, reference_count, free_block_count, block_bytes}
use Rattle.proc_model.specs.declared.group.BlockId.{BlockId}
use Rattle.proc_model.specs.Memory.{MemoryState, map_at, with_map, mapped_objects, named_objects, is_living_object, living_object_count, free_blocks}
use Rattle.proc_model.specs.ModuleList.{ModuleEntry, module_entry_at, entered_groups}
use Rattle.proc_model.specs.Slots.{Slots, no_slots, block_at, blocks_in}
use Rattle.guest_memory.specs.Memory.{memory_of}
use Rattle.guest_memory.specs.References.{times, mapped_blocks, references}
use Rattle.guest_memory.specs.Renaming.{RepresentObjects, renamed_map, renamed_entry, renamed_modules}
use Rattle.guest_memory.specs.Sound.{IsSoundMemory}
use Rattle.guest_memory.proofs.Times.{times-at, times-where}
use Rattle.guest_memory.proofs.HeldGroups.{grouped_blocks}
use Rattle.guest_memory.proofs.Keeping.{group_live}
use Rattle.guest_memory.proofs.Living.{has_number, distinct, has_number-times, count-distinct, count-zeros, length-distinct-map}

-- ---- maps

mapped-places : (number : ℕ → ℕ) (places : List (Option BlockId)) → blocks_in (map (option_map (λ (id : BlockId). number id.0)) places) ≡ map number (map (λ (id : BlockId). id.0) (blocks_in places))
mapped-places number [] = refl
mapped-places number (None ∷ places) = mapped-places number places
mapped-places number (Some id ∷ places) = ap (λ (rest : List ℕ). number id.0 ∷ rest) (mapped-places number places)

mapped-maps : (number : ℕ → ℕ) (maps : List (Slots BlockId)) → flat_map mapped_objects (map (renamed_map number) maps) ≡ map number (flat_map mapped_blocks maps)
mapped-maps number [] = refl
mapped-maps number (first ∷ maps) =
    (λ i. mapped-places number first.places i ++ mapped-maps number maps i) ∙ sym (map-append number (mapped_blocks first) (flat_map mapped_blocks maps))

-- the map of a process
pub map_at-memory_of : (number : ℕ → ℕ) (pool : Blocks) (maps : List (Slots BlockId)) (entries : List (Option ModuleEntry)) (objects : List (List ℕ)) (process : ℕ) → process < length maps
    → map_at (memory_of number pool maps entries objects) process ≡ renamed_map number (get_or maps process no_slots)
map_at-memory_of number pool maps entries objects process within = get_or-map (renamed_map number) maps process no_slots no_slots within

-- another map of a process, over blocks that are as many
pub with_map-memory_of : (number : ℕ → ℕ) (pool after : Blocks) (maps : List (Slots BlockId))
    (entries : List (Option ModuleEntry)) (objects : List (List ℕ)) (process : ℕ) (new : Slots BlockId)
    → length after.counts ≡ length pool.counts
    → with_map (memory_of number pool maps entries objects) process (renamed_map number new) ≡ memory_of number after (set maps process new) entries objects
with_map-memory_of number pool after maps entries objects process new many =
    λ i. record {
      blocks = sym many i;
      objects = objects;
      maps = sym (map-set (renamed_map number) maps process new) i;
      modules = renamed_modules number entries;
    }

-- blocks with the same numbers
module _ (one other : ℕ → ℕ) where
  renamed_places-same : (places : List (Option BlockId)) → ((slot : ℕ) (id : BlockId) → get_or places slot None ≡ Some
      id → one id.0 ≡ other id.0) → map (option_map (λ (id : BlockId). one id.0)) places ≡ map
      (option_map (λ (id : BlockId). other id.0)) places
  renamed_places-same [] same = refl
  renamed_places-same (None ∷ places) same = ap (λ (rest : List (Option ℕ)). None ∷ rest) (renamed_places-same places (λ slot. same (suc slot)))
  renamed_places-same (Some id ∷ places) same = λ i. Some (same 0 id refl i) ∷ renamed_places-same places (λ slot. same (suc slot)) i

  pub renamed_map-same : (slots : Slots BlockId) → ((slot : ℕ) (id : BlockId) → block_at slots slot ≡ Some id → one id.0 ≡ other id.0) → renamed_map one slots ≡ renamed_map other slots
  renamed_map-same slots same = λ i. record { places = renamed_places-same slots.places same i; low = slots.low; groups = slots.groups }

  pub renamed_maps-same : (maps : List (Slots BlockId)) → ((process slot : ℕ) (id : BlockId)
      → block_at (get_or maps process no_slots) slot ≡ Some id → one id.0 ≡ other id.0) → map (renamed_map one) maps ≡
      map (renamed_map other) maps
  renamed_maps-same [] same = refl
  renamed_maps-same (first ∷ maps) same = λ i. renamed_map-same first (same 0) i ∷ renamed_maps-same maps (λ process. same (suc process)) i

  pub numbers-same : (blocks : List ℕ) → ((k : ℕ) → k < length blocks → one (get_or blocks k 0) ≡ other (get_or blocks k 0)) → map one blocks ≡ map other blocks
  numbers-same [] same = refl
  numbers-same (block ∷ blocks) same = λ i. same 0 (omega arith) i ∷ numbers-same blocks (λ k within. same (suc k) (omega arith)) i

  pub renamed_modules-same : (entries : List (Option ModuleEntry)) → ((number : ℕ) (entry : ModuleEntry)
      → module_entry_at entries number ≡ Some entry → (k : ℕ) → k < length entry.group → one (get_or entry.group k 0)
      ≡ other (get_or entry.group k 0)) → renamed_modules one entries ≡ renamed_modules other entries
  renamed_modules-same [] same = refl
  renamed_modules-same (None ∷ entries) same = ap (λ (rest : List (Option ModuleEntry)). None ∷ rest) (renamed_modules-same entries (λ number. same (suc number)))
  renamed_modules-same (Some entry ∷ entries) same =
      λ i. Some (record entry { group = numbers-same entry.group (same 0 entry refl) i }) ∷ renamed_modules-same entries (λ number. same (suc number)) i

-- ---- groups

-- different live blocks have different numbers
module _ (number : ℕ → ℕ) (Live : ℕ → Type 0) (apart : (one other : ℕ) → Live one → Live other → number one ≡ number other → one ≡ other) where
  pub pointwise-renamed : (group other : List ℕ) → All Live group → All Live other → pointwise nat_eq (map number group) (map number other) ≡ pointwise nat_eq group other
  pointwise-renamed [] [] live live_too = refl
  pointwise-renamed [] (y ∷ other) live live_too = refl
  pointwise-renamed (x ∷ group) [] live live_too = refl
  pointwise-renamed (x ∷ group) (y ∷ other) live live_too =
      let first : nat_eq (number x) (number y) ≡ nat_eq x y =
      elim (cases_eq x y) [
        | inl same ↦ eq-eqb (number x) (number y) (ap number same) ∙ sym (eq-eqb x y same)
        | inr differ ↦ ne_eqb (number x) (number y) (λ same. differ (apart x y (All-head Live x group live) (All-head Live y other live_too) same)) ∙ sym (ne_eqb x y differ)
      ] in
      λ i. first i && pointwise-renamed group other (All-tail Live x group live) (All-tail Live y other live_too) i

  listed-renamed : (group : List ℕ) (groups : List (List ℕ)) → All Live group → All (All Live) groups
      → list_any (pointwise nat_eq (map number group)) (map (map number) groups) ≡ list_any (pointwise nat_eq group)
      groups
  listed-renamed group [] live each = refl
  listed-renamed group (first ∷ groups) live each =
      λ i. pointwise-renamed group first live (All-head (All Live) first groups each) i || listed-renamed group groups live (All-tail (All Live) first groups each) i

  abbrev pub AreLive : List (Option ModuleEntry) → Type 0
  AreLive entries = (number : ℕ) (entry : ModuleEntry) → module_entry_at entries number ≡ Some entry → All Live entry.group

  groups_live : (entries : List (Option ModuleEntry)) → AreLive entries → All (All Live) (entered_groups entries)
  groups_live [] each = All-nil (All Live)
  groups_live (None ∷ entries) each = groups_live entries (λ number. each (suc number))
  groups_live (Some first ∷ entries) each = by_test (list_any (pointwise nat_eq first.group) (entered_groups entries)) (groups_live entries (λ number. each (suc number)))
    where
      by_test : (test : Bool) → All (All Live) (entered_groups entries) → All (All Live) (if test then entered_groups entries else first.group ∷ entered_groups entries)
      by_test true rest = rest
      by_test false rest = All-cons (All Live) first.group (entered_groups entries) (each 0 first refl) rest

  entered_groups-renamed : (entries : List (Option ModuleEntry)) → AreLive entries → entered_groups (renamed_modules number entries) ≡ map (map number) (entered_groups entries)
  entered_groups-renamed [] each = refl
  entered_groups-renamed (None ∷ entries) each = entered_groups-renamed entries (λ n. each (suc n))
  entered_groups-renamed (Some first ∷ entries) each =
      let rest = entered_groups-renamed entries (λ n. each (suc n)) in
      ap (λ (groups : List (List ℕ)). if list_any (pointwise nat_eq (map number first.group)) groups then groups else map number first.group ∷ groups) rest
      ∙ ap (λ (test : Bool). if test then map (map number) (entered_groups entries) else map number first.group ∷ map
      (map number) (entered_groups entries)) (listed-renamed first.group (entered_groups entries)
      (each 0 first refl) (groups_live entries (λ n. each (suc n))))
      ∙ by_test (list_any (pointwise nat_eq first.group) (entered_groups entries))
    where
      by_test : (test : Bool) → (if test then map (map number) (entered_groups entries) else map number first.group ∷
          map (map number) (entered_groups entries)) ≡ map (map number) (if test then entered_groups entries else
          first.group ∷ entered_groups entries)
      by_test true = refl
      by_test false = refl

  pub grouped-renamed : (entries : List (Option ModuleEntry)) → AreLive entries → flat_map (λ group. group) (entered_groups (renamed_modules number entries)) ≡ map number (grouped_blocks entries)
  grouped-renamed entries each = ap (flat_map (λ (group : List ℕ). group)) (entered_groups-renamed entries each) ∙ flat (entered_groups entries)
    where
      flat : (groups : List (List ℕ)) → flat_map (λ (group : List ℕ). group) (map (map number) groups) ≡ map number (flat_map (λ group. group) groups)
      flat [] = refl
      flat (first ∷ groups) = ap (λ (rest : List ℕ). map number first ++ rest) (flat groups) ∙ sym (map-append number first (flat_map (λ group. group) groups))

-- ---- free blocks

module _ (pool : Blocks) (maps : List (Slots BlockId)) (entries : List (Option ModuleEntry))
    (sound : IsSoundMemory pool maps entries) (number : ℕ → ℕ) (objects : List (List ℕ)) (represent : RepresentObjects
    number pool objects) where
  pub groups_are_live : (n : ℕ) (entry : ModuleEntry) → module_entry_at entries n ≡ Some entry → All (IsLive pool) entry.group
  groups_are_live n entry is = λ k d within. subst (IsLive pool) (get_or_default entry.group k 0 d within) (group_live pool maps entries sound n entry is k within)

  abbrev named : List ℕ
  named = references maps entries

  abbrev here : MemoryState
  here = memory_of number pool maps entries objects

  -- the objects that are named are those of the blocks that are
  named-tied : named_objects here ≡ map number named
  named-tied =
      (λ i. mapped-maps number maps i ++ grouped-renamed number (IsLive pool) represent.apart entries groups_are_live i)
      ∙ sym (map-append number (flat_map mapped_blocks maps) (grouped_blocks entries))

  named_live : (block : ℕ) → 0 < times block named → IsLive pool block
  named_live block has = omega (arith, sound.counted block)

  -- they are objects that there are
  numbers_below : All (λ n. n < length objects) (map number named)
  numbers_below =
      All-map (λ n. n < length objects) number named (λ k d within.
      let block = get_or named k d in
      let live = named_live block (times-at named k block within (get_or_default named k 0 d within)) in
      slice_get_within objects (number block) (block_bytes pool block) (represent.same_bytes block live))

  living : living_object_count here ≡ length (distinct named)
  living =
      ap (λ (names : List ℕ). count_by (has_number names) (range_with_len 0 (length objects))) named-tied
      ∙ count-distinct (map number named) (length objects) numbers_below
      ∙ length-distinct-map number named (λ one other has has_too same. represent.apart one other (named_live one has) (named_live other has_too) same)

  -- a block that is named is one of the pool's
  blocks_below : All (λ n. n < length pool.counts) named
  blocks_below = λ k d within.
      let block = get_or named k d in
      let live = named_live block (times-at named k block within (get_or_default named k 0 d within)) in
      elim (cases_lt block (length pool.counts)) [
        | inl below ↦ below
        | inr past ↦ absurd (omega (arith, get_or_past pool.counts block 0 past))
      ]

  -- the free blocks of the machine are those that nothing names
  pub free_blocks-tied : free_blocks here ≡ free_block_count pool
  free_blocks-tied =
      let zeros = count-zeros pool.counts 0 (has_number named) (λ k within. ap (has_number named) (omega arith) ∙ has_number-times named k ∙ ap (λ (n : ℕ). not (n == 0)) (sym (sound.counted k))) in
      omega (arith, living, count-distinct named (length pool.counts) blocks_below, zeros)
