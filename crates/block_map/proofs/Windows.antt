-- What is read and written through a map.
use Rattle.std.proofs.Common.{◌≡◌, ◌≢◌, ℕ, ◌+◌, ◌*◌, ◌/◌, ◌%◌, ◌<◌, ◌==◌, Option, Some, None, IsSome, is_some, List, [], ◌∷◌, length, get_or, set, cond, slice_get, arith, sym, ap, ◌∙◌, subst, refl, zero, suc, inl, inr, option_and_then, add-one, IsSomeAnd, ◌-◌}
use Rattle.std.proofs.Math.Path.{fun_ext}
use Rattle.std.proofs.lemmas.List.{get_or_past, set_split, set_past, get_or-set_same, get_or-set_other, length-set}
use Rattle.std.proofs.lemmas.Option.{slice_get-get_or, slice_get_past}
use Rattle.std.proofs.lemmas.Bool.{cond-true, cond-false, cases_eq, cases_lt, cases_Bool, eq-eqb, ne_eqb, ltb-true, lt-ltb, false≢true}
use Rattle.os9_base.specs.Cells.{put_cell}
use Rattle.block_pool.specs.Blocks.{Blocks, IsPool, IsLive, is_live, reference_count, block_bytes, with_block_bytes, overwritten}
use Rattle.proc_model.specs.declared.group.BlockId.{BlockId}
use Rattle.proc_model.specs.Slots.{Slots, IsMap, block_at}
use Rattle.block_map.proofs.Places.{same_id}
use Rattle.block_map.specs.Window.{live_byte, map_cells, AllSlotsLive}

-- a live block has 8,192 bytes
pub length-block_bytes : (pool : Blocks) (block : ℕ) → IsPool pool → IsLive pool block → length (block_bytes pool block) ≡ 8192
length-block_bytes pool block shape live =
    let within : block < length pool.counts = grind (arith, get_or_past pool.counts block 0) in
    shape.full block [] (omega (arith, shape.whole))

-- each byte of a live block is there, and no other
pub is_some-live_byte : (pool : Blocks) (at : ℕ) (id : BlockId) → IsPool pool → at < 8192 → is_live pool id.0 ≡ is_some (live_byte pool at id)
is_some-live_byte pool at id shape within =
    let bytes = block_bytes pool id.0 in
    elim (cases_Bool (is_live pool id.0)) [
      | inl live ↦
          let len = length-block_bytes pool id.0 shape (ltb-true 0 (reference_count pool id.0) live) in
          live ∙ sym (ap is_some (cond-true (is_live pool id.0) (slice_get bytes at) None live ∙ slice_get-get_or bytes at 0 (omega arith)))
      | inr dead ↦ dead ∙ sym (ap is_some (cond-false (is_live pool id.0) (slice_get bytes at) None dead))
    ]

-- the byte that is there
pub live_byte-Some : (pool : Blocks) (at : ℕ) (id : BlockId) → IsSome (live_byte pool at id) → IsLive pool id.0 ×
    (at < length (block_bytes pool id.0)) × (live_byte pool at id ≡ Some (get_or (block_bytes pool id.0) at 0))
live_byte-Some pool at id there =
    let bytes = block_bytes pool id.0 in
    elim (cases_Bool (is_live pool id.0)) [
      | inl live ↦
          let shown : live_byte pool at id ≡ slice_get bytes at = cond-true (is_live pool id.0) (slice_get bytes at) None live in
          elim (cases_lt at (length bytes)) [
            | inl within ↦ (ltb-true 0 (reference_count pool id.0) live, within, shown ∙ slice_get-get_or bytes at 0 within)
            | inr past ↦ absurd (false≢true (subst IsSome (shown ∙ slice_get_past bytes at past) there))
          ]
      | inr dead ↦ absurd (false≢true (subst IsSome (cond-false (is_live pool id.0) (slice_get bytes at) None dead) there))
    ]

-- another place of a list after a write
slice_get-set_other : (xs : List ℕ) (at other byte : ℕ) → other ≢ at → slice_get (set xs at byte) other ≡ slice_get xs other
slice_get-set_other [] at other byte apart = refl
slice_get-set_other (x ∷ xs) zero zero byte apart = absurd (apart refl)
slice_get-set_other (x ∷ xs) zero (suc other) byte apart = refl
slice_get-set_other (x ∷ xs) (suc at) zero byte apart = refl
slice_get-set_other (x ∷ xs) (suc at) (suc other) byte apart = slice_get-set_other xs at other byte (λ e. apart (ap suc e))

-- one byte written
overwritten-one : (bytes : List ℕ) (at byte : ℕ) → at < length bytes → overwritten bytes at (byte ∷ []) ≡ set bytes at byte
overwritten-one bytes at byte within = rw add-one (sym (set_split bytes at byte within))

-- the pool with one byte of a block written
abbrev written : Blocks → BlockId → ℕ → ℕ → Blocks
written pool id at byte = with_block_bytes pool id.0 (set (block_bytes pool id.0) at byte)

-- a block that has bytes is one of the pool
pub block_inside : (pool : Blocks) (block at : ℕ) → at < length (block_bytes pool block) → block < length pool.bytes
block_inside pool block at within =
    elim (cases_lt block (length pool.bytes)) [
      | inl inside ↦ inside
      | inr past ↦
          let nothing : at < 0 = subst (λ (bytes : List ℕ). at < length bytes) (get_or_past pool.bytes block [] past) within in
          absurd (omega arith)
    ]

-- the byte that was written
live_byte-written : (pool : Blocks) (id : BlockId) (at byte : ℕ) → IsLive pool id.0 → at < length (block_bytes pool id.0) → live_byte (written pool id at byte) at id ≡ Some byte
live_byte-written pool id at byte live within =
    let inside : id.0 < length pool.bytes = block_inside pool id.0 at within in
    cond-true (is_live pool id.0) (slice_get (block_bytes (written pool id at byte) id.0) at) None
    (lt-ltb 0 (reference_count pool id.0) live) ∙ ap (λ (bytes : List ℕ). slice_get bytes at)
    (get_or-set_same pool.bytes id.0 (set (block_bytes pool id.0) at byte) [] inside)
    ∙ slice_get-get_or (set (block_bytes pool id.0) at byte) at 0 (omega (arith, length-set (block_bytes pool id.0) at byte))
    ∙ ap (λ b. Some b) (get_or-set_same (block_bytes pool id.0) at byte 0 within)

-- a byte of another place
live_byte-other : (pool : Blocks) (id other : BlockId) (at byte place : ℕ) → (other.0 ≡ id.0 → place ≢ at) → live_byte (written pool id at byte) place other ≡ live_byte pool place other
live_byte-other pool id other at byte place apart =
    let new = set (block_bytes pool id.0) at byte in
    ap (λ (read : Option ℕ). cond (is_live pool other.0) read None)
    (elim (cases_eq other.0 id.0) [
      | inl same ↦
          elim (cases_lt id.0 (length pool.bytes)) [
            | inl inside ↦
                ap (λ (n : ℕ). slice_get (get_or (set pool.bytes id.0 new) n []) place) same ∙ ap (λ (bytes : List ℕ). slice_get bytes place) (get_or-set_same pool.bytes id.0 new [] inside)
                ∙ slice_get-set_other (block_bytes pool id.0) at place byte (apart same) ∙ ap (λ (n : ℕ). slice_get (get_or pool.bytes n []) place) (sym same)
            | inr past ↦ ap (λ (all : List (List ℕ)). slice_get (get_or all other.0 []) place) (set_past pool.bytes id.0 new past)
          ]
      | inr different ↦ ap (λ (bytes : List ℕ). slice_get bytes place) (get_or-set_other pool.bytes id.0 other.0 new [] different)
    ])

-- the same read of whatever stands in a slot
pub read_same : (f g : BlockId → Option ℕ) (place : Option BlockId) → ((id : BlockId) → place ≡ Some id → f id ≡ g id) → option_and_then f place ≡ option_and_then g place
read_same f g None same = refl
read_same f g (Some id) same = same id refl

-- the bytes of a block after one was written
pub cells_of-put : (slots : Slots BlockId) (pool : Blocks) (at byte : ℕ) (id : BlockId) → IsMap slots
    → block_at slots (at / 8192) ≡ Some id → IsSome (map_cells slots pool at)
    → map_cells slots (with_block_bytes pool id.0 (overwritten (block_bytes pool id.0) (at % 8192) (byte ∷ []))) ≡
    put_cell (map_cells slots pool) at byte
cells_of-put slots pool at byte id shape here there =
    let offset = at % 8192 in
    let byte_there = live_byte-Some pool offset id (subst (λ (o : Option BlockId). IsSome (option_and_then (live_byte pool offset) o)) here there) in
    let after = written pool id offset byte in
    ap (λ (bytes : List ℕ). map_cells slots (with_block_bytes pool id.0 bytes)) (overwritten-one (block_bytes pool id.0) offset byte byte_there.1)
    ∙ fun_ext (λ address.
    elim (cases_eq address at) [
      | inl same ↦
          ap (map_cells slots after) same ∙ ap (option_and_then (live_byte after offset)) here ∙ live_byte-written pool id offset byte byte_there.0 byte_there.1
          ∙ sym (cond-true (address == at) (Some byte) (map_cells slots pool address) (eq-eqb address at same))
      | inr different ↦
          read_same (live_byte after (address % 8192)) (live_byte pool (address % 8192)) (block_at slots (address / 8192))
          (λ other named.
          live_byte-other pool id other offset byte (address % 8192)
          (λ same_block same_offset.
          let same : other ≡ id = same_id other id same_block in
          let same_slot = shape.once (address / 8192) (at / 8192) id (named ∙ ap (λ (b : BlockId). Some b) same) here in
          different (omega arith)))
          ∙ sym (cond-false (address == at) (Some byte) (map_cells slots pool address) (ne_eqb address at different))
    ])

-- a slot that names a live block has a byte at each place, and one that has a byte names a live block
pub byte_of_live : (pool : Blocks) (at : ℕ) (place : Option BlockId) → IsPool pool → at < 8192 → IsSomeAnd place (λ id. IsLive pool id.0) → IsSome (option_and_then (live_byte pool at) place)
byte_of_live pool at None shape within live = absurd live
byte_of_live pool at (Some id) shape within live = sym (is_some-live_byte pool at id shape within) ∙ lt-ltb 0 (reference_count pool id.0) live

pub live_of_byte : (pool : Blocks) (at : ℕ) (place : Option BlockId) → IsSome (option_and_then (live_byte pool at) place) → IsSomeAnd place (λ id. IsLive pool id.0)
live_of_byte pool at None there = absurd (false≢true there)
live_of_byte pool at (Some id) there = (live_byte-Some pool at id there).0

-- where each slot of a range of addresses names a live block, each address is named
pub named_of_slots : (slots : Slots BlockId) (pool : Blocks) (at len : ℕ) → IsPool pool → AllSlotsLive slots pool
    (at / 8192) ((at + (len - 1)) / 8192) → (k : ℕ) → k < len → IsSome (map_cells slots pool (at + k))
named_of_slots slots pool at len shape live k within =
    byte_of_live pool ((at + k) % 8192) (block_at slots ((at + k) / 8192)) shape (omega arith) (live ((at + k) / 8192) (omega arith) (omega arith))

-- and the other way round
pub slots_of_named : (slots : Slots BlockId) (pool : Blocks) (at len : ℕ) → 0 < len
    → ((k : ℕ) → k < len → IsSome (map_cells slots pool (at + k))) → AllSlotsLive slots pool (at / 8192)
    ((at + (len - 1)) / 8192)
slots_of_named slots pool at len some named slot low high =
    let k = slot * 8192 - at in
    let here : (at + k) / 8192 ≡ slot = omega arith in
    subst (λ (s : ℕ). IsSomeAnd (block_at slots s) (λ id. IsLive pool id.0)) here (live_of_byte pool ((at + k) % 8192) (block_at slots ((at + k) / 8192)) (named k (omega arith)))
