-- The memory of a process that begins: its map is cleared, a data area is taken, and the group of its program is mapped.
use Rattle.std.proofs.Common.{◌≡◌, ◌≢◌, ℕ, zero, suc, ◌+◌, ◌-◌, ◌<◌, ◌≤◌, ◌==◌, ◌||◌, nat_lt, nat_le, Bool, true, false, Option, Some, None, IsSome, is_some, option_map, Result, Ok, Err, ◌↔◌, ◌⊎◌, inl, inr, List, [], ◌∷◌, ◌++◌, length, get_or, set, take, drop, replicate, map, cond, count_by, All, AllPairs, refl, sym, ap, ◌∙◌, subst, arith}
use Rattle.std.specs.Prelude.{if◌then◌else◌}
use Rattle.std.specs.List.{range_with_len}
use Rattle.std.specs.Option.{option_map_or}
use Rattle.std.proofs.lemmas.List.{length-map, length-set, set-set, set_past, get_or_past, get_or-set_same, get_or-set_other, get_or-map, get_or-take, length-take, length-take-le, take-append-drop, get_or-replicate, length-replicate}
use Rattle.std.proofs.lemmas.List.Elements.{All-head, All-tail, filter_map-append}
use Rattle.std.proofs.lemmas.List.Sums.{sum_by-set, fold-append}
use Rattle.std.proofs.lemmas.Option.{none-some, same_Some}
use Rattle.std.proofs.lemmas.Bool.{cases_eq, cases_lt, cases_Bool, cond-true, cond-false, eq-eqb, ne_eqb, lt-ltb, le-ltb, le-leb, lt-leb, or_left, or_right, or_from, false≢true}
use Rattle.block_pool.specs.Blocks.{Blocks, IsPool, IsLive, reference_count, free_block_count, pool_after_give}
use Rattle.block_map.specs.TakenBlocks.{pool_after_giving}
use Rattle.block_map.proofs.Places.{at, at-put, same_id}
use Rattle.proc_model.specs.declared.group.BlockId.{BlockId}
use Rattle.proc_model.specs.ModuleList.{ModuleEntry}
use Rattle.proc_model.specs.Slots.{Slots, IsFreeRun, IsHighestFreeRun, no_slots, block_at, blocks_in, filled_places, with_low}
use Rattle.guest_memory.specs.Sound.{IsSoundMap, IsSoundMemory}
use Rattle.guest_memory.proofs.Keeping.{map_of, held_at}
use Rattle.guest_memory.proofs.Lists.{AllPairs-head, AllPairs-tail}

-- ---- free blocks while blocks are given back

zeros-give : (pool : Blocks) (block : ℕ) → block < length pool.counts
    → free_block_count (pool_after_give pool block) + cond (reference_count pool block == 0) 1 0 ≡ free_block_count pool + cond (reference_count pool block - 1 == 0) 1 0
zeros-give pool block within = sum_by-set (λ c. cond (c == 0) 1 0) pool.counts block (reference_count pool block - 1) 0 within

-- none is lost
free-give : (pool : Blocks) (block : ℕ) → free_block_count pool ≤ free_block_count (pool_after_give pool block)
free-give pool block =
    elim (cases_lt block (length pool.counts)) [
      | inr past ↦ omega (arith, ap (count_by (λ c. c == 0)) (set_past pool.counts block (reference_count pool block - 1) past))
      | inl within ↦
          elim (cases_eq (reference_count pool block) 0) [
            | inl none ↦
                let after : reference_count pool block - 1 ≡ 0 = omega arith in
                omega (
                  arith,
                  zeros-give pool block within,
                  cond-true {A = ℕ} (reference_count pool block == 0) 1 0 (eq-eqb (reference_count pool block) 0 none),
                  cond-true {A = ℕ} (reference_count pool block - 1 == 0) 1 0 (eq-eqb (reference_count pool block - 1) 0 after),
                )
            | inr some ↦
                omega (
                  arith,
                  zeros-give pool block within,
                  cond-false {A = ℕ} (reference_count pool block == 0) 1 0 (ne_eqb (reference_count pool block) 0 some),
                )
          ]
    ]

free-giving : (pool : Blocks) (ids : List BlockId) → free_block_count pool ≤ free_block_count (pool_after_giving pool ids)
free-giving pool [] = omega arith
free-giving pool (id ∷ ids) = omega (arith, free-give pool id.0, free-giving (pool_after_give pool id.0) ids)

-- each block that was counted once is free then
free-alone : (pool : Blocks) (ids : List BlockId) → All (λ id. reference_count pool id.0 ≡ 1) ids
    → AllPairs (λ a b. a.0 ≢ b.0) ids → free_block_count (pool_after_giving pool ids) ≡ free_block_count pool + length
    ids
free-alone pool [] once different = omega arith
free-alone pool (id ∷ ids) once different =
    let one : reference_count pool id.0 ≡ 1 = All-head (λ (id : BlockId). reference_count pool id.0 ≡ 1) id ids once in
    let within : id.0 < length pool.counts = elim (cases_lt id.0 (length pool.counts)) [ inl within ↦ within | inr past ↦ absurd (omega (arith, get_or_past pool.counts id.0 0 past)) ] in
    let after : reference_count pool id.0 - 1 ≡ 0 = omega arith in
    let first : free_block_count (pool_after_give pool id.0) ≡ free_block_count pool + 1 =
    omega (
      arith,
      zeros-give pool id.0 within,
      cond-false {A = ℕ} (reference_count pool id.0 == 0) 1 0 (ne_eqb (reference_count pool id.0) 0 (λ none. absurd (omega arith))),
      cond-true {A = ℕ} (reference_count pool id.0 - 1 == 0) 1 0 (eq-eqb (reference_count pool id.0 - 1) 0 after),
    ) in
    let apart = AllPairs-head (λ (a b : BlockId). a.0 ≢ b.0) id ids different in
    let others = All-tail (λ (id : BlockId). reference_count pool id.0 ≡ 1) id ids once in
    let rest : All (λ (other : BlockId). reference_count (pool_after_give pool id.0) other.0 ≡ 1) ids = λ k d inside.
    get_or-set_other pool.counts id.0 (get_or ids k d).0 (reference_count pool id.0 - 1) 0 (λ same. apart k d inside (sym same)) ∙ others k d inside in
    omega (arith, first, free-alone (pool_after_give pool id.0) ids rest (AllPairs-tail (λ (a b : BlockId). a.0 ≢ b.0) id ids different))

-- places that all name blocks
named_all : (places : List (Option BlockId)) → ((k : ℕ) → k < length places → IsSome (at places k)) → places ≡ filled_places (blocks_in places)
named_all [] each = refl
named_all (None ∷ places) each = absurd (false≢true (each 0 (omega arith)))
named_all (Some id ∷ places) each = ap (λ (rest : List (Option BlockId)). Some id ∷ rest) (named_all places (λ k within. each (suc k) (omega arith)))

module _ (pool : Blocks) (maps : List (Slots BlockId)) (entries : List (Option ModuleEntry)) (sound : IsSoundMemory pool maps entries) (process : ℕ) (within : process < 33) where
  abbrev slots : Slots BlockId
  slots = map_of pool maps entries sound process

  held : IsSoundMap pool entries slots
  held = held_at pool maps entries sound process within

  -- the blocks of the data area
  abbrev area : List (Option BlockId)
  area = take slots.low slots.places

  area_length : length (take slots.low slots.places) ≡ slots.low
  area_length = length-take-le slots.low slots.places (omega (arith, held.map.low_fits, held.map.eight_places))

  area_at : (k : ℕ) → k < slots.low → at (take slots.low slots.places) k ≡ block_at slots k
  area_at k below = get_or-take slots.low slots.places k None below

  area_full : take slots.low slots.places ≡ filled_places (blocks_in (take slots.low slots.places))
  area_full = named_all area (λ k inside. ap is_some (area_at k (omega (arith, area_length))) ∙ held.full k (omega (arith, area_length)))

  area_many : length (blocks_in (take slots.low slots.places)) ≡ slots.low
  area_many = sym (length-map (blocks_in area) (λ (id : BlockId). Some id)) ∙ sym (ap (λ (all : List (Option BlockId)). length all) area_full) ∙ area_length

  area_block : (k : ℕ) (d : BlockId) → k < length (blocks_in (take slots.low slots.places)) → block_at slots k ≡ Some (get_or (blocks_in (take slots.low slots.places)) k d)
  area_block k d inside =
      sym (area_at k (omega (arith, area_many))) ∙ ap (λ (all : List (Option BlockId)). at all k) area_full ∙ get_or-map (λ (id : BlockId). Some id) (blocks_in area) k d None inside

  -- they are free once the map is cleared
  pub free-cleared : free_block_count pool + slots.low ≤ free_block_count (pool_after_giving pool (blocks_in slots.places))
  free-cleared =
      let rest = drop slots.low slots.places in
      let whole : blocks_in slots.places ≡ blocks_in area ++ blocks_in rest = ap blocks_in
      (sym (take-append-drop slots.low slots.places)) ∙ filter_map-append (λ (place : Option BlockId). place) area
      rest in
      let parts : pool_after_giving pool (blocks_in slots.places) ≡ pool_after_giving (pool_after_giving pool (blocks_in area)) (blocks_in rest) =
      ap (pool_after_giving pool) whole ∙ fold-append (λ (p : Blocks) (id : BlockId). pool_after_give p id.0) pool (blocks_in area) (blocks_in rest) in
      let once : All (λ (id : BlockId). reference_count pool id.0 ≡ 1) (blocks_in area) = λ k d inside. held.alone k (get_or (blocks_in area) k d) (omega (arith, area_many)) (area_block k d inside) in
      let different : AllPairs (λ (a b : BlockId). a.0 ≢ b.0) (blocks_in area) = λ i j d below inside same.
      let again : i ≡ j = held.map.once i j (get_or (blocks_in area) j d) (area_block i d (omega arith) ∙ ap
      (λ (id : BlockId). Some id) (same_id (get_or (blocks_in area) i d) (get_or (blocks_in area) j d) same))
      (area_block j d inside) in
      absurd (omega arith) in
      omega (
        arith,
        ap free_block_count parts,
        free-giving (pool_after_giving pool (blocks_in area)) (blocks_in rest),
        free-alone pool (blocks_in area) once different,
        area_many,
      )

-- ---- the slots of a map that is filled anew

none_at : (n slot : ℕ) → at (replicate n None) slot ≡ None
none_at n slot =
    elim (cases_lt slot n) [
      | inl below ↦ get_or-replicate {A = Option BlockId} n slot None None below
      | inr past ↦ get_or_past {X = Option BlockId} (replicate n None) slot None (omega (arith, length-replicate {A = Option BlockId} n None))
    ]

-- the map that names nothing is free
pub free_at_first : (len : ℕ) → len ≤ 8 → IsFreeRun {Block = BlockId} no_slots 0 len
free_at_first len short = (omega arith, λ slot from below. none_at 8 slot)

module _ (area : List BlockId) (fits : length area ≤ 8) where
  size : length (filled_places area) ≡ length area
  size = length-map area (λ (id : BlockId). Some id)

  -- a slot of the area
  area_slot : (slot : ℕ) (d : BlockId) → slot < length area → block_at (with_low no_slots area) slot ≡ Some (get_or area slot d)
  area_slot slot d below =
      elim (at-put (replicate 8 None) (filled_places area) 0 slot (omega (arith, size))) [
        | inl here ↦ here.2 ∙ ap (at (filled_places area)) (omega arith) ∙ get_or-map (λ (id : BlockId). Some id) area slot d None below
        | inr other ↦ absurd (elim (other.0) [ inl before ↦ omega arith | inr past ↦ omega (arith, size) ])
      ]

  -- a slot behind it
  behind_area : (slot : ℕ) → length area ≤ slot → block_at (with_low no_slots area) slot ≡ None
  behind_area slot past =
      elim (at-put (replicate 8 None) (filled_places area) 0 slot (omega (arith, size))) [
        | inl here ↦ absurd (omega (arith, size, here.1))
        | inr other ↦ other.1 ∙ none_at 8 slot
      ]

  -- the last slots are the highest free run, where there are as many behind the area
  pub last_run : (len : ℕ) → 1 ≤ len → length area + len ≤ 8 → IsHighestFreeRun (with_low no_slots area) len (8 - len)
  last_run len some room = ((omega arith, λ slot from below. behind_area slot (omega arith)), λ higher run. omega (arith, run.0))
