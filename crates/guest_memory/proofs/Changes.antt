-- What a change of one map owes: how often it names blocks, and the groups that stand in it.
use Rattle.std.proofs.Common.{◌≡◌, ◌≢◌, ℕ, zero, suc, ◌+◌, ◌-◌, ◌<◌, ◌≤◌, ◌==◌, Option, Some, None, option_map, ◌⊎◌, inl, inr, List, [], ◌∷◌, ◌++◌, length, get_or, set, take, drop, replicate, map, cond, All, AllPairs, refl, sym, ap, ◌∙◌, subst, arith}
use Rattle.std.proofs.lemmas.List.{get_or-set_same, get_or-set_other, get_or_past, set_past, length-set, length-map, length-replicate, length-take, length-drop, get_or-map, get_or-take, get_or-drop}
use Rattle.std.proofs.lemmas.List.Elements.{All-head, All-tail, All-weaker}
use Rattle.std.proofs.lemmas.Option.{none-some, same_Some}
use Rattle.std.proofs.lemmas.Bool.{cases_eq, cases_lt, cases_order, cond-true, cond-false, eq-eqb, ne_eqb}
use Rattle.block_pool.specs.Blocks.{Blocks, IsLive, reference_count, pool_after_share, pool_after_give}
use Rattle.block_map.specs.TakenBlocks.{pool_after_sharing, pool_after_giving}
use Rattle.block_map.proofs.Places.{at, same_id}
use Rattle.proc_model.specs.declared.group.BlockId.{BlockId}
use Rattle.proc_model.specs.Slots.{Slots, block_at, group_of, blocks_in, filled_places, put_places, HasGroupAt}
use Rattle.guest_memory.specs.Gains.{times_in, GainsBlocks}
use Rattle.guest_memory.specs.References.{times, Has}
use Rattle.guest_memory.specs.Renaming.{RepresentObjects, numbered_map}
use Rattle.guest_memory.proofs.Times.{times-cons, times-once, times-put, times-numbers_of, numbers_of, named_by}
use Rattle.guest_memory.proofs.Gains.{times_in-cons}

-- ---- counts

-- a block of the pool that is shared is counted once more
count_of-shared-times : (pool : Blocks) (id : BlockId) (block : ℕ) → id.0 < length pool.counts
    → reference_count (pool_after_share pool id.0) block ≡ reference_count pool block + cond (id.0 == block) 1 0
count_of-shared-times pool id block within =
    elim (cases_eq block id.0) [
      | inl same ↦
          omega (
            arith,
            ap (reference_count (pool_after_share pool id.0)) same,
            ap (reference_count pool) same,
            get_or-set_same pool.counts id.0 (reference_count pool id.0 + 1) 0 within,
            cond-true {A = ℕ}
                (id.0 == block) 1 0 (eq-eqb id.0 block (sym same)),
          )
      | inr differ ↦
          omega (arith, get_or-set_other pool.counts id.0 block (reference_count pool id.0 + 1) 0 differ, cond-false {A = ℕ} (id.0 == block) 1 0 (ne_eqb id.0 block (λ same. differ (sym same))))
    ]

pub count_of-shared_all-times : (pool : Blocks) (ids : List BlockId) (block : ℕ)
    → All (λ id. id.0 < length pool.counts) ids → reference_count (pool_after_sharing pool ids) block ≡
    reference_count pool block + times_in ids block
count_of-shared_all-times pool [] block within = omega arith
count_of-shared_all-times pool (id ∷ ids) block within =
    let P : BlockId → Type 0 = λ id. id.0 < length pool.counts in
    let Q : BlockId → Type 0 = λ other. other.0 < length (pool_after_share pool id.0).counts in
    let others : All Q ids = All-weaker P Q (λ other here. omega (arith, length-set pool.counts id.0 (reference_count pool id.0 + 1))) ids (All-tail P id ids within) in
    omega (arith, count_of-shared_all-times (pool_after_share pool id.0) ids block others, count_of-shared-times pool id block (All-head P id ids within), times_in-cons id ids block)

pub length-shared_all : (pool : Blocks) (ids : List BlockId) → length (pool_after_sharing pool ids).counts ≡ length pool.counts
length-shared_all pool [] = refl
length-shared_all pool (id ∷ ids) = length-shared_all (pool_after_share pool id.0) ids ∙ length-set pool.counts id.0 (reference_count pool id.0 + 1)

-- blocks that are given back are counted once less
count_of-given : (pool : Blocks) (block other : ℕ) → reference_count (pool_after_give pool block) other ≡ reference_count pool other - cond (block == other) 1 0
count_of-given pool block other = by_name (cases_eq other block)
  where
    by_name : (other ≡ block) ⊎ (other ≢ block) → reference_count (pool_after_give pool block) other ≡ reference_count pool other - cond (block == other) 1 0
    by_name (inr apart) =
        let none : cond {A = ℕ} (block == other) 1 0 ≡ 0 = cond-false {A = ℕ} (block == other) 1 0 (ne_eqb block other (λ e. apart (sym e))) in
        omega (arith, get_or-set_other pool.counts block other (reference_count pool block - 1) 0 apart)
    by_name (inl same) =
        let one : cond {A = ℕ} (block == other) 1 0 ≡ 1 = cond-true {A = ℕ} (block == other) 1 0 (eq-eqb block other (sym same)) in
        let here : reference_count (pool_after_give pool block) other ≡ reference_count (pool_after_give pool block) block = ap (reference_count (pool_after_give pool block)) same in
        let was : reference_count pool other ≡ reference_count pool block = ap (reference_count pool) same in
        elim (cases_lt block (length pool.counts)) [
          | inl within ↦ omega (arith, get_or-set_same pool.counts block (reference_count pool block - 1) 0 within)
          | inr past ↦
              omega (arith, ap (λ counts. get_or counts block 0) (set_past pool.counts block (reference_count pool block - 1) past), get_or_past pool.counts block 0 past)
        ]

pub count_of-given_all : (pool : Blocks) (ids : List BlockId) (block : ℕ) → reference_count (pool_after_giving pool ids) block ≡ reference_count pool block - times block (numbers_of ids)
count_of-given_all pool [] block = omega arith
count_of-given_all pool (first ∷ ids) block =
    omega (arith, count_of-given_all (pool_after_give pool first.0) ids block, count_of-given pool first.0 block, times-cons block first.0 (numbers_of ids))

bytes-given_all : (pool : Blocks) (ids : List BlockId) → (pool_after_giving pool ids).bytes ≡ pool.bytes
bytes-given_all pool [] = refl
bytes-given_all pool (first ∷ ids) = bytes-given_all (pool_after_give pool first.0) ids

pub length-given_all : (pool : Blocks) (ids : List BlockId) → length (pool_after_giving pool ids).counts ≡ length pool.counts
length-given_all pool [] = refl
length-given_all pool (id ∷ ids) = length-given_all (pool_after_give pool id.0) ids ∙ length-set pool.counts id.0 (reference_count pool id.0 - 1)

-- the blocks that stay live represent the same objects
pub represent-given_all : (number : ℕ → ℕ) (pool : Blocks) (ids : List BlockId) (objects : List (List ℕ))
    → RepresentObjects number pool objects → RepresentObjects number (pool_after_giving pool ids) objects
represent-given_all number pool ids objects represent = record {
  same_bytes = λ block live.
      represent.same_bytes block (was_live block live) ∙ ap (λ all. Some (get_or all block [])) (sym (bytes-given_all pool ids));
  apart = λ one other live live_too. represent.apart one other (was_live one live) (was_live other live_too);
}
  where
    was_live : (block : ℕ) → IsLive (pool_after_giving pool ids) block → IsLive pool block
    was_live block live = omega (arith, count_of-given_all pool ids block)

-- blocks that are all different are named once at most
pub times_in-different : (ids : List BlockId) → AllPairs (λ a b. a ≢ b) ids → (block : ℕ) → times_in ids block ≤ 1
times_in-different ids different block =
    omega (arith, sym (times-numbers_of ids block), times-once (numbers_of ids) once block)
  where
    none : BlockId
    none = record { 0 = 0 }

    id_at : (k : ℕ) → k < length (numbers_of ids) → get_or (numbers_of ids) k 0 ≡ (get_or ids k none).0
    id_at k within = get_or-map (λ (id : BlockId). id.0) ids k none 0 (omega (arith, length-map ids (λ (id : BlockId). id.0)))

    once : (one other : ℕ) → one < length (numbers_of ids) → other < length (numbers_of ids) → get_or (numbers_of ids) one 0 ≡ get_or (numbers_of ids) other 0 → one ≡ other
    once one other in_one in_other same =
        let here : get_or ids one none ≡ get_or ids other none = same_id (get_or ids one none) (get_or ids other none) (sym (id_at one in_one) ∙ same ∙ id_at other in_other) in
        elim (cases_order one other) [
          | inl equal ↦ equal
          | inr apart ↦
              elim apart [
                | inl below ↦ absurd (different one other none below (omega (arith, length-map ids (λ (id : BlockId). id.0))) here)
                | inr above ↦ absurd (different other one none above (omega (arith, length-map ids (λ (id : BlockId). id.0))) (sym here))
              ]
        ]

-- ---- places

blocks_in-none : (places : List (Option BlockId)) → ((k : ℕ) → k < length places → at places k ≡ None) → blocks_in places ≡ []
blocks_in-none [] none = refl
blocks_in-none (None ∷ places) none = blocks_in-none places (λ k within. none (suc k) (omega arith))
blocks_in-none (Some id ∷ places) none = absurd (none-some id (sym (none 0 (omega arith))))

pub blocks_in-filled : (ids : List BlockId) → blocks_in (filled_places ids) ≡ ids
blocks_in-filled [] = refl
blocks_in-filled (id ∷ ids) = ap (λ (rest : List BlockId). id ∷ rest) (blocks_in-filled ids)

pub blocks_in-cleared : (n : ℕ) → blocks_in {Block = BlockId} (replicate n None) ≡ []
blocks_in-cleared zero = refl
blocks_in-cleared (suc n) = blocks_in-cleared n

-- blocks that are put where nothing stood
pub times-filled : (places : List (Option BlockId)) (first : ℕ) (ids : List BlockId) → first + length ids ≤ length
    places → ((slot : ℕ) → first ≤ slot → slot < first + length ids → at places slot ≡ None) → (block : ℕ)
    → times block (named_by (put_places places first (filled_places ids))) ≡ times block (named_by places) + times_in ids block
times-filled places first ids fits free block =
    let many = length-map ids (λ (id : BlockId). Some id) in
    let part = take (length (filled_places ids)) (drop first places) in
    let nothing : blocks_in part ≡ [] = blocks_in-none part (λ k within.
    let inside : k < length (filled_places ids) = omega (arith, length-take (length (filled_places ids)) (drop first places)) in
    get_or-take (length (filled_places ids)) (drop first places) k None inside ∙ get_or-drop first places k None ∙ free (first + k) (omega arith) (omega (arith, many))) in
    omega (
      arith,
      times-put block places (filled_places ids) first,
      ap (λ (found : List BlockId). times block (numbers_of found)) nothing,
      ap (λ (found : List BlockId). times block (numbers_of found)) (blocks_in-filled ids),
      times-numbers_of ids block,
    )

-- places that are cleared
pub times-cleared : (places : List (Option BlockId)) (first len : ℕ) (block : ℕ)
    → times block (named_by (put_places places first (replicate len None))) + times block (named_by (take len (drop first places))) ≡ times block (named_by places)
times-cleared places first len block =
    let none : Option BlockId = None in
    omega (
      arith,
      times-put block places (replicate len None) first,
      ap (λ (k : ℕ). times block (named_by (take k (drop first places)))) (length-replicate len none),
      ap (λ (found : List BlockId). times block (numbers_of found)) (blocks_in-cleared len),
    )

-- ---- groups that stand

-- the number of the block in a slot
pub number_at : (slots : Slots BlockId) (slot : ℕ) (id : BlockId) → block_at slots slot ≡ Some id → block_at (numbered_map slots) slot ≡ Some id.0
number_at slots slot id is = go slots.places slot is
  where
    go : (places : List (Option BlockId)) (slot : ℕ) → get_or places slot None ≡ Some id → get_or (map (option_map (λ (id : BlockId). id.0)) places) slot None ≡ Some id.0
    go [] slot is = absurd (none-some id is)
    go (place ∷ places) zero is = ap (option_map (λ (id : BlockId). id.0)) is
    go (place ∷ places) (suc slot) is = go places slot is

-- the block of a number in a slot
pub record IsBlockAt (slots : Slots BlockId) (slot block : ℕ) : Type 0 where
  pub id : BlockId
  pub is : block_at slots slot ≡ Some id
  pub number_is : id.0 ≡ block

pub block_of_number : (slots : Slots BlockId) (slot block : ℕ) → block_at (numbered_map slots) slot ≡ Some block → IsBlockAt slots slot block
block_of_number slots slot block is = let found = go slots.places slot is in record { id = found.0; is = found.1; number_is = found.2 }
  where
    go : (places : List (Option BlockId)) (slot : ℕ) → get_or (map (option_map (λ (id : BlockId). id.0)) places) slot
        None ≡ Some block → (id : BlockId) × (get_or places slot None ≡ Some id) × (id.0 ≡ block)
    go [] slot is = absurd (none-some block is)
    go (None ∷ places) zero is = absurd (none-some block is)
    go (Some id ∷ places) zero is = (id, refl, same_Some id.0 block is)
    go (place ∷ places) (suc slot) is = go places slot is

-- a group stands still where its slots stay
pub BeginsAt-kept : (old new : Slots BlockId) (group : List ℕ) (first : ℕ) → HasGroupAt (numbered_map old) group first → group_of new first ≡ group_of old first
    → ((k : ℕ) (id : BlockId) → k < length group → block_at old (first + k) ≡ Some id → id.0 ≡ get_or group k 0 → block_at new (first + k) ≡ Some id) → HasGroupAt (numbered_map new) group first
BeginsAt-kept old new group first begins begins_still stays = record {
  length_is = begins_still ∙ begins.length_is;
  stands = λ k within.
      let here = block_of_number old (first + k) (get_or group k 0) (begins.stands k within) in
      number_at new (first + k) here.id (stays k here.id within here.is here.number_is) ∙ ap (λ (n : ℕ). Some n) here.number_is;
}
