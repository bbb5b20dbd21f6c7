-- The objects that live blocks represent, while blocks are taken, written and shared.
use Rattle.std.proofs.Common.{◌≡◌, ◌≢◌, ◌+◌, ◌<◌, ◌==◌, ℕ, Some, List, [], ◌∷◌, ◌++◌, length, get_or, slice_get, slice_set, map, if◌then◌else◌, All, AllPairs, ◌⊎◌, inl, inr, refl, sym, ap, ◌∙◌, arith}
use Rattle.std.specs.List.{range_with_len}
use Rattle.std.proofs.lemmas.List.{length-map, get_or-map, get_or-set_same, get_or-set_other}
use Rattle.std.proofs.lemmas.List.Elements.{All-head, All-tail, All-weaker}
use Rattle.std.proofs.lemmas.List.FromFn.{get_or-range_with_len}
use Rattle.std.proofs.lemmas.Option.{slice_get_within, slice_get-get_or}
use Rattle.std.proofs.lemmas.Bool.{cases_eq, cases_lt, cond-true, cond-false, eq-eqb, ne_eqb}
use Rattle.block_pool.specs.Blocks.{Blocks, IsPool, IsFreeBlock, IsLive, reference_count, block_bytes, with_block_bytes, pool_after_take, pool_after_share}
use Rattle.block_map.specs.TakenBlocks.{pool_after_sharing}
use Rattle.block_map.proofs.Counts.{live-within, count_of-shared}
use Rattle.block_map.proofs.Places.{same_id}
use Rattle.proc_model.specs.Objects.{zero_object}
use Rattle.guest_memory.proofs.Objects.{slice_get-set_same, slice_get-set_other}
use Rattle.proc_model.specs.declared.group.BlockId.{BlockId}
use Rattle.guest_memory.specs.Gains.{GainsBlocks}
use Rattle.guest_memory.specs.Renaming.{RepresentObjects}
use Rattle.guest_memory.proofs.Lists.{AllPairs-head, AllPairs-tail, slice_get-left, slice_get-right}
use Rattle.guest_memory.proofs.Gains.{Gains-old, Takes-Gains, times_in-where}

-- ---- numbers for new blocks

-- one block has a new number
abbrev pub renumbered : (ℕ → ℕ) → ℕ → ℕ → ℕ → ℕ
renumbered number block next other = if other == block then next else number other

-- these blocks have the numbers from one on
abbrev pub numbered : List BlockId → ℕ → (ℕ → ℕ) → ℕ → ℕ
numbered [] next number block = number block
numbered (id ∷ ids) next number block = numbered ids (next + 1) (renumbered number id.0 next) block

-- the number of another block stays
pub numbered-other : (ids : List BlockId) (next : ℕ) (number : ℕ → ℕ) (block : ℕ) → All (λ id. id.0 ≢ block) ids → numbered ids next number block ≡ number block
numbered-other [] next number block others = refl
numbered-other (id ∷ ids) next number block others =
    numbered-other ids (next + 1) (renumbered number id.0 next) block (All-tail (λ (id : BlockId). id.0 ≢ block) id ids others)
    ∙ cond-false {A = ℕ} (block == id.0) next (number block) (ne_eqb block id.0 (λ same. All-head (λ (id : BlockId). id.0 ≢ block) id ids others (sym same)))

-- the numbers of these blocks, in order
pub map-numbered : (ids : List BlockId) (next : ℕ) (number : ℕ → ℕ) → AllPairs (λ a b. a ≢ b) ids → map (λ (id : BlockId). numbered ids next number id.0) ids ≡ range_with_len next (length ids)
map-numbered [] next number different = refl
map-numbered (id ∷ ids) next number different =
    let apart : All (λ (other : BlockId). other.0 ≢ id.0) ids = All-weaker (λ other. id ≢ other)
    (λ other. other.0 ≢ id.0) (λ other differ same. differ (same_id id other (sym same))) ids
    (AllPairs-head (λ a b. a ≢ b) id ids different) in
    let first : numbered ids (next + 1) (renumbered number id.0 next) id.0 ≡ next =
    numbered-other ids (next + 1) (renumbered number id.0 next) id.0 apart ∙ cond-true {A = ℕ} (id.0 == id.0) next (number id.0) (eq-eqb id.0 id.0 refl) in
    ap (λ (n : ℕ). n ∷ map (λ (other : BlockId). numbered ids (next + 1) (renumbered number id.0 next) other.0) ids) first
    ∙ ap (λ (numbers : List ℕ). next ∷ numbers) (map-numbered ids (next + 1) (renumbered number id.0 next) (AllPairs-tail (λ a b. a ≢ b) id ids different))

-- ---- what live blocks represent

-- a pool that nothing names represents no objects
pub StandFor-none : (number : ℕ → ℕ) (pool : Blocks) → ((block : ℕ) → IsLive pool block → ⊥) → RepresentObjects number pool []
StandFor-none number pool none = record {
  same_bytes = λ block live. absurd (none block live);
  apart = λ one other live live_too same. absurd (none one live);
}

-- what stands at a place past the end
abbrev no_block : BlockId
no_block = record { 0 = 0 }

-- new blocks represent new objects, in order
module _ (number : ℕ → ℕ) (before after : Blocks) (objects contents : List (List ℕ)) (group : List BlockId)
    (stand_for : RepresentObjects number before objects) (gains : GainsBlocks before group contents after) where
  abbrev later : ℕ → ℕ
  later = numbered group (length objects) number

  -- a live block is an old one or a new one
  abbrev Stood : ℕ → Type 0
  Stood block = IsLive before block × (later block ≡ number block)

  abbrev New : ℕ → ℕ → Type 0
  New block k = (k < length group) × ((get_or group k no_block).0 ≡ block) × (later block ≡ length objects + k) × (slice_get contents k ≡ Some (block_bytes after block))

  number_of_new : (k : ℕ) (d : BlockId) → k < length group → later (get_or group k d).0 ≡ length objects + k
  number_of_new k d within =
      sym (get_or-map (λ (id : BlockId). later id.0) group k d 0 within)
      ∙ ap (λ (numbers : List ℕ). get_or numbers k 0) (map-numbered group (length objects) number gains.different)
      ∙ get_or-range_with_len (length objects) (length group) k 0 within

  bytes_of_new : (k : ℕ) (d : BlockId) → k < length group → slice_get contents k ≡ Some (block_bytes after (get_or group k d).0)
  bytes_of_new k d within =
      ap (λ (blocks : List (List ℕ)). slice_get blocks k) (sym gains.holds)
      ∙ slice_get-get_or (map (λ (id : BlockId). block_bytes after id.0) group) k [] (omega (arith, length-map group (λ (id : BlockId). block_bytes after id.0)))
      ∙ ap Some (get_or-map (λ (id : BlockId). block_bytes after id.0) group k d [] within)

  stands : (block : ℕ) → IsLive after block → Stood block ⊎ ((k : ℕ) × New block k)
  stands block live =
      elim (cases_lt 0 (reference_count before block)) [
        | inl old ↦ inl (old, numbered-other group (length objects) number block (Gains-old gains block old))
        | inr free ↦
            let place = times_in-where group block no_block (omega (arith, gains.counts block)) in
            inr (
              place.0,
              (
                place.1,
                place.2,
                ap later (sym place.2) ∙ number_of_new place.0 no_block place.1,
                bytes_of_new place.0 no_block place.1 ∙ ap (λ (b : ℕ). Some (block_bytes after b)) place.2,
              ),
            )
      ]

  in_objects : (block : ℕ) → IsLive before block → number block < length objects
  in_objects block live = slice_get_within objects (number block) (block_bytes before block) (stand_for.same_bytes block live)

  pub StandFor-gains : RepresentObjects later after (objects ++ contents)
  StandFor-gains = record {
    same_bytes = λ block live.
        elim (stands block live) [
          | inl (old, same) ↦
              ap (slice_get (objects ++ contents)) same
              ∙ slice_get-left objects contents (number block) (block_bytes after block) (stand_for.same_bytes block old ∙ ap Some (sym (gains.kept block old)))
          | inr (k, (within, here, same, bytes)) ↦ ap (slice_get (objects ++ contents)) same ∙ slice_get-right objects contents k ∙ bytes
        ];
    apart = λ one other live live_too same.
        elim (stands one live) [
          | inl (old, is) ↦
              elim (stands other live_too) [
                | inl (old_too, is_too) ↦ stand_for.apart one other old old_too (sym is ∙ same ∙ is_too)
                | inr (k, (within, here, is_too, bytes)) ↦ absurd (omega (arith, in_objects one old))
              ]
          | inr (j, (inside, there, is, content)) ↦
              elim (stands other live_too) [
                | inl (old_too, is_too) ↦ absurd (omega (arith, in_objects other old_too))
                | inr (k, (within, here, is_too, bytes)) ↦
                    let place : j ≡ k = omega arith in
                    sym there ∙ ap (λ (n : ℕ). (get_or group n no_block).0) place ∙ here
              ]
        ];
  }

-- a block that is taken gives a new object
pub a_block_that_is_taken_gives_a_new_object : (number : ℕ → ℕ) (pool : Blocks) (objects : List (List ℕ)) (id : BlockId) → IsPool pool → RepresentObjects number pool objects → IsFreeBlock pool id.0
    → RepresentObjects (renumbered number id.0 (length objects)) (pool_after_take pool id.0) (objects ++ zero_object ∷ [])
a_block_that_is_taken_gives_a_new_object number pool objects id shape stand_for free =
    StandFor-gains number pool (pool_after_take pool id.0) objects (zero_object ∷ []) (id ∷ []) stand_for (Takes-Gains pool (pool_after_take pool id.0) (id ∷ []) shape (free, refl))

-- bytes that are written into a live block are the bytes of its object
pub StandFor-with_bytes : (number : ℕ → ℕ) (pool : Blocks) (objects : List (List ℕ)) (block : ℕ) (bytes : List ℕ) → IsPool pool → RepresentObjects number pool objects → IsLive pool block
    → RepresentObjects number (with_block_bytes pool block bytes) (slice_set objects (number block) bytes)
StandFor-with_bytes number pool objects block bytes shape stand_for here = record {
  same_bytes = λ other live.
      elim (cases_eq other block) [
        | inl same ↦
            let place : number block < length objects = slice_get_within objects (number block) (block_bytes pool block) (stand_for.same_bytes block here) in
            let within : block < length pool.bytes = omega (arith, live-within pool block here, shape.whole) in
            ap (λ (b : ℕ). slice_get (slice_set objects (number block) bytes) (number b)) same
            ∙ slice_get-set_same objects (number block) bytes place
            ∙ ap Some (sym (ap (block_bytes (with_block_bytes pool block bytes)) same ∙ get_or-set_same pool.bytes block bytes [] within))
        | inr differ ↦
            slice_get-set_other objects (number block) (number other) bytes (λ same. differ (stand_for.apart other block live here same))
            ∙ stand_for.same_bytes other live
            ∙ ap Some (sym (get_or-set_other pool.bytes block other bytes [] differ))
      ];
  apart = stand_for.apart;
}

-- a block that is shared represents the object that it stood for
shared_live : (pool : Blocks) (block other : ℕ) → IsLive pool block → IsLive (pool_after_share pool block) other → IsLive pool other
shared_live pool block other here live =
    elim (cases_eq other block) [
      | inl same ↦ omega (arith, ap (reference_count pool) same)
      | inr differ ↦ omega (arith, get_or-set_other pool.counts block other (reference_count pool block + 1) 0 differ)
    ]

pub StandFor-shared : (number : ℕ → ℕ) (pool : Blocks) (objects : List (List ℕ)) (block : ℕ) → RepresentObjects number
    pool objects → IsLive pool block → RepresentObjects number (pool_after_share pool block) objects
StandFor-shared number pool objects block stand_for here = record {
  same_bytes = λ other live. stand_for.same_bytes other (shared_live pool block other here live);
  apart = λ one other live live_too. stand_for.apart one other (shared_live pool block one here live) (shared_live pool block other here live_too);
}

pub StandFor-shared_all : (number : ℕ → ℕ) (pool : Blocks) (objects : List (List ℕ)) (ids : List BlockId)
    → RepresentObjects number pool objects → All (λ id. IsLive pool id.0) ids → RepresentObjects number
    (pool_after_sharing pool ids) objects
StandFor-shared_all number pool objects [] stand_for live = stand_for
StandFor-shared_all number pool objects (id ∷ ids) stand_for live =
    let here = All-head (λ (id : BlockId). IsLive pool id.0) id ids live in
    let rest = All-weaker (λ (other : BlockId). IsLive pool other.0) (λ (other : BlockId). IsLive
    (pool_after_share pool id.0) other.0) (λ other old. omega (arith, (count_of-shared pool id.0 other.0).0)) ids
    (All-tail (λ (id : BlockId). IsLive pool id.0) id ids live) in
    StandFor-shared_all number (pool_after_share pool id.0) objects ids (StandFor-shared number pool objects id.0 stand_for here) rest
